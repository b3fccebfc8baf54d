use Rattle.bc_model.specs.Run.{opening}
use Rattle.bc_replay.specs.NeedLine.{replies_before}
use Rattle.bc_replay.proofs.PhaseEnds.{ran-on}
use Rattle.bc_cli.proofs.Counted.{no-cut, counts-room, counts-next}
use Rattle.bc_cli.proofs.churn.count_phase.Goals as goal

pub run_phase-requires-clause-opened : goal.run_phase-requires-clause-opened
run_phase-requires-clause-opened g c κs within = (opening c.args.trace.now.setup, c.requires.opened)

pub unreachable-requires : goal.unreachable-requires
unreachable-requires g c =
    no-cut c.args.trace.now _ _ _ _ _ _ c.in-Some.is (c.in_ok-end.ensures.ran (opening c.args.trace.now.setup) c.requires.opened) c.requires.fits

pub add-requires : goal.add-requires
add-requires g c =
    counts-room c.args.trace.now _ _ _ _ _ _ c.in-None.is (c.in_ok-end.ensures.ran (opening c.args.trace.now.setup) c.requires.opened) c.requires.few c.requires.counted

pub returns-clause-run : goal.returns-clause-run
returns-clause-run g c = ran-on _ _ _ _ _ _ c.in-None.is (c.in_ok-end.ensures.ran (opening c.args.trace.now.setup) c.requires.opened)

pub returns-clause-counted : goal.returns-clause-counted
returns-clause-counted g c =
    counts-next c.args.trace.now _ _ _ _ _ _ c.in-None.is (c.in_ok-end.ensures.ran (opening c.args.trace.now.setup) c.requires.opened)
    (c.add.ensures.phase (replies_before c.args.trace.now c.args.index) c.requires.counted)
