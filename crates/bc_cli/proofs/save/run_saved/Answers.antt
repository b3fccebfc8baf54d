use Rattle.std.proofs.Common.{rules, Option, ◌∙◌, ap, arith, inl, inr, refl, sym, subst}
use Rattle.std.proofs.lemmas.Bool.{cases_lt}
use Rattle.bc_engine.specs.Engines.{EngineView}
use Rattle.bc_engine.specs.Parts.{CanAdopt, PartsStand}
use Rattle.bc_model.specs.Lists.{TraceLists}
use Rattle.bc_model.specs.State.{NoneFrozen}
use Rattle.bc_model.specs.declared.traces.Setup.{Setup}
use Rattle.bc_replay.specs.BetweenPhases.{HasRun}
use Rattle.bc_replay.specs.Courses.{before, whole_course}
use Rattle.bc_replay.proofs.Finishing.{HasRun-opened}
use Rattle.bc_cli.specs.Saves.{CutOffBelow}
use Rattle.bc_cli.proofs.Saving.{cut-alive, births-saved, need-of}
use Rattle.bc_cli.proofs.save.run_saved.Goals as goal

pub run_first-requires-clause-opened : goal.run_first-requires-clause-opened
run_first-requires-clause-opened g c κs within =
    HasRun-opened c.args.trace.now _ c.in-Ok.engine (ap (λ (x : TraceLists). x.setup) c.trace.view_is) (omega (arith, c.requires.few)) c.in-Ok.ensures.opening (c.in-Ok.ensures.setup.0, c.in-Ok.ensures.setup.1, c.in-Ok.ensures.setup.2)

pub returns-in-Ok-None-clause-saved : goal.returns-in-Ok-None-clause-saved
returns-in-Ok-None-clause-saved g c =
    let t = c.args.trace.now in
    let run : HasRun (whole_course t) c.args.count c.run_first.new.engine = c.in-Ok-None.ensures.run (search rules) in
    let parts = c.split.result in
    record {
      fits = run.fits;
      parts = subst (λ (z : Setup). CanAdopt z parts.holders.items parts.births.items parts.roots parts.space) run.setup c.split.ensures.parts;
      stands = subst (λ (z : Setup). PartsStand z parts.holders.items parts.births.items parts.roots parts.space (before (whole_course t) c.args.count)) run.setup (c.split.ensures.stands (before (whole_course t) c.args.count) run.stands);
      unfrozen = elim (cases_lt 1 t.version) [
        | inl later ↦ inr (omega (arith, later))
        | inr first ↦ inl (subst NoneFrozen (run.stands.held ∙ sym c.split.ensures.holders) (c.law_first_version.ensures.before t c.args.count c.requires.trace (omega (arith, first, c.requires.trace.version.0))))
      ];
      few = births-saved t c.trace.inside.setup c.in-Ok.engine c.run_first.new.engine c.args.count parts.births.items (omega (arith, c.requires.few)) c.in-Ok.ensures.opening (λ n room. c.in-Ok-None.ensures.births n room (search rules)) c.split.ensures.births;
    }

pub with_heap-requires : goal.with_heap-requires
with_heap-requires g c = record {
  alive = cut-alive (whole_course c.args.trace.now) c.args.count c.run_first.new.engine c.in-Ok-Some.need (c.in-Ok-Some.ensures.out_of_heap c.in-Ok-Some.need (search rules));
}

pub returns-in-Ok-Some-clause-out_of_heap : goal.returns-in-Ok-Some-clause-out_of_heap
returns-in-Ok-Some-clause-out_of_heap g c =
    let told = c.with_heap.ensures in
    let need = c.in-Ok-Some.need in
    need-of _ need _ told.status (subst (λ (h : Option EngineView). CutOffBelow (whole_course c.args.trace.now) c.args.count h need) (sym told.heap) (c.in-Ok-Some.ensures.out_of_heap need (search rules)))
