use Rattle.std.proofs.Common.{◌≡◌}
use Rattle.bc_churn.specs.Counts.{run_counts}
use Rattle.bc_replay.specs.BetweenPhases.{HasRun}
use Rattle.bc_replay.specs.Courses.{whole_course}
use Rattle.bc_replay.specs.NeedLine.{replies_before}
use Rattle.bc_cli.proofs.churn.count_phases.Given as goal

abbrev pub invariant-loop-index : goal.invariant-loop-index
invariant-loop-index g l = record {
  run : HasRun (whole_course l.trace) l.index l.engine;
  counted : l.counts ≡ run_counts (replies_before l.trace l.index);
  workers : l.engine.workers ≡ l.fn.engine.workers;
}
