use Rattle.std.proofs.Common.{◌-◌, length}
use Rattle.bc_model.specs.Rows.{lists_of}
use Rattle.bc_engine.specs.Attempts.{RanByAttempts}
use Rattle.bc_engine.specs.Lanes.{of_lane, LeavesCells, LeavesOthers, LanesRan}
use Rattle.bc_engine.proofs.lanes.run_lane.Given as goal

abbrev pub invariant-operations : goal.invariant-operations
invariant-operations l = record {
  runs : LanesRan (lists_of l.lanes) l.initial.running l.initial.replies l.running l.replies;
  leaves : LeavesCells l.initial.running l.running;
  attempts : RanByAttempts (lists_of l.lanes) l.initial.running (lists_of l.initial.replies) l.running (lists_of l.replies);
  others : LeavesOthers l.lane l.initial.running (lists_of l.initial.replies) l.running (lists_of l.replies);
}

abbrev pub decreases-operations : goal.decreases-operations
decreases-operations l = length (of_lane (lists_of l.lanes) l.lane) - length (of_lane (lists_of l.replies) l.lane)
