use Rattle.std.proofs.Common.{◌+◌, get_or, drop, sym, ap, ◌∙◌}
use Rattle.std.proofs.lemmas.List.{get_or_default}
use Rattle.bc_model.specs.State.{State}
use Rattle.bc_model.specs.Run.{after_changes}
use Rattle.bc_model.specs.declared.traces.Change.{Change}
use Rattle.bc_model.specs.declared.traces.Change.TheVariants.{Give}
use Rattle.bc_model.proofs.States.{only-changed}
use Rattle.bc_model.proofs.Runs.{after_changes-more, after_changes-end}
use Rattle.bc_model.proofs.plain_heap.Flat.change_all.Goals as goal

pub loop-change-preserved : goal.loop-change-preserved
loop-change-preserved c =
    let changes = c.args.changes.now in
    let i = c.loop-change.change-index in
    let any : Change = Give (record { domain = 0; lane = 0 }) in
    let x = get_or changes i any in
    record {
      state =
          ap (λ (s : State). after_changes s (drop (i + 1) changes)) c.change.ensures.changed
          ∙ sym (after_changes-more c.loop-change.self changes i x c.loop-change-test.true (get_or_default changes i any x c.loop-change-test.true))
          ∙ c.loop-change.invariant.state;
      sizes = c.change.ensures.sizes ∙ c.loop-change.invariant.sizes;
      made = ap (λ (s : State). s.made) (c.change.ensures.changed ∙ only-changed c.loop-change.self _) ∙ c.loop-change.invariant.made;
    }

pub returns-clause-state : goal.returns-clause-state
returns-clause-state c =
    sym (after_changes-end c.loop-change.self c.args.changes.now c.loop-change.change-index c.loop-change-test.false) ∙ c.loop-change.invariant.state
