use Rattle.std.proofs.Common.{ℕ, ◌<◌}
use Rattle.bc_model.specs.Rows.{lists_of}
use Rattle.bc_engine.specs.Attempts.{RanByAttempts, StoppedAlone}
use Rattle.bc_engine.specs.Lanes.{LanesRan, LeavesCells}
use Rattle.bc_engine.proofs.lanes.run_lanes.Given as goal

abbrev pub invariant-loop-lane : goal.invariant-loop-lane
invariant-loop-lane l = record {
  runs : LanesRan (lists_of l.lanes) l.initial.running l.initial.replies l.running l.replies;
  leaves : LeavesCells l.initial.running l.running;
  attempts : RanByAttempts (lists_of l.lanes) l.initial.running (lists_of l.initial.replies) l.running (lists_of l.replies);
  stopped : (j : ℕ) → j < l.lane → StoppedAlone (lists_of l.lanes) l.initial.running l.initial.replies l.running l.replies j;
}
