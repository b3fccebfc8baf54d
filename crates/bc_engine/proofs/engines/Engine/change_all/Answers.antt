use Rattle.std.proofs.Common.{◌≢◌, Some, get_or, refl, sym, subst, ◌∙◌}
use Rattle.std.proofs.lemmas.List.{get_or_default}
use Rattle.bc_model.specs.State.{State, changed}
use Rattle.bc_model.specs.WellFormed.{FitsChange}
use Rattle.bc_model.specs.declared.traces.Change.{Change}
use Rattle.bc_model.specs.declared.traces.Change.TheVariants.{Give}
use Rattle.bc_model.proofs.Runs.{after_changes-more, after_changes-end, at-index}
use Rattle.bc_engine.specs.Engines.{EngineView, EngineStands, HasEmptyChunks}
use Rattle.bc_engine.specs.EngineFacts.{IsUnrecorded}
use Rattle.bc_engine.specs.declared.engines.Ended.TheVariants.{NoMemory}
use Rattle.bc_engine.proofs.PhaseLemmas.{holders-then}
use Rattle.bc_engine.proofs.engines.Engine.change_all.Goals as goal

abbrev any : Change
any = Give (record { domain = 0; lane = 0 })

pub loop-change-init : goal.loop-change-init
loop-change-init c = record { changed = λ s st. (s, st, refl); same = refl }

pub loop-change-preserved : goal.loop-change-preserved
loop-change-preserved c =
    let changes = c.args.changes.now in
    let i = c.loop-change.change-index in
    let g = get_or changes i any in
    let before = c.loop-change.invariant in
    record {
      changed = λ s st.
          let was = before.changed s st in (
            changed was.0 g,
            c.change.ensures.changed was.0 was.1,
            sym (after_changes-more was.0 changes i g c.loop-change-test.true (get_or_default changes i any g c.loop-change-test.true)) ∙ was.2,
          );
      same = holders-then c.args.self.now c.loop-change.self c.change.new.self _ before.same c.change.ensures.same;
    }

pub change-requires-clause-alive : goal.change-requires-clause-alive
change-requires-clause-alive c = subst (λ (e : EngineView). e.ended ≢ Some NoMemory) (sym c.loop-change.invariant.same) c.requires.alive

pub change-requires-clause-unrecorded : goal.change-requires-clause-unrecorded
change-requires-clause-unrecorded c = subst (λ (e : EngineView). IsUnrecorded e.running.heap) (sym c.loop-change.invariant.same) c.requires.unrecorded

pub change-requires-clause-empty : goal.change-requires-clause-empty
change-requires-clause-empty c = subst (λ (e : EngineView). HasEmptyChunks e.running.heap) (sym c.loop-change.invariant.same) c.requires.empty

-- the change fits the engine's setup, which stays
pub change-requires-clause-fits : goal.change-requires-clause-fits
change-requires-clause-fits c =
    subst (λ (e : EngineView). FitsChange e.setup (get_or c.args.changes.now c.loop-change.change-index any)) (sym c.loop-change.invariant.same)
    (at-index (FitsChange c.args.self.now.setup) c.args.changes.now c.loop-change.change-index any c.requires.changes c.loop-change-test.true)

pub returns-clause-changed : goal.returns-clause-changed
returns-clause-changed c = λ s st.
    let end = c.loop-change.invariant.changed s st in
    subst (λ (t : State). EngineStands c.loop-change.self t) (sym (after_changes-end end.0 c.args.changes.now c.loop-change.change-index c.loop-change-test.false) ∙ end.2) end.1
