use Rattle.std.proofs.Common.{refl}
use Rattle.bc_model.specs.Run.{opening}
use Rattle.bc_replay.specs.Courses.{phase_at, whole_course}
use Rattle.bc_replay.proofs.PhaseEnds.{ran-on, cut}
use Rattle.bc_cli.proofs.Saving.{births-more, need-told}
use Rattle.bc_cli.proofs.save.run_one.Goals as goal

pub run_phase-requires-clause-opened : goal.run_phase-requires-clause-opened
run_phase-requires-clause-opened g c κs within = (opening c.args.trace.now.setup, c.requires.opened)

pub returns-clause-run : goal.returns-clause-run
returns-clause-run g c = λ e. ran-on _ _ _ _ _ _ (need-told _ _ _ refl e) (c.in_ok-end.ensures.ran (opening c.args.trace.now.setup) c.requires.opened)

pub returns-clause-out_of_heap : goal.returns-clause-out_of_heap
returns-clause-out_of_heap g c = λ need e.
    let off = cut _ _ _ _ _ _ _ (need-told _ _ _ refl e) (c.in_ok-end.ensures.ran (opening c.args.trace.now.setup) c.requires.opened) in
    record { cut = off.cut; needs = off.needs; handed = off.handed }

pub returns-clause-births : goal.returns-clause-births
returns-clause-births g c = λ n room e.
    let t = whole_course c.args.trace.now in
    let ran = c.in_ok-end.ensures.ran (opening c.args.trace.now.setup) c.requires.opened in
    ran.births _ (births-more t c.args.index n c.args.engine.now (phase_at t c.args.index) ran.within refl room)
