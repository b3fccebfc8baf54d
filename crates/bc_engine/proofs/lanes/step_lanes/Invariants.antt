use Rattle.std.proofs.Common.{◌≡◌, ℕ, ◌≤◌, []}
use Rattle.bc_whole_heap.specs.LaneChunks.{chunk_of}
use Rattle.bc_model.specs.Rows.{lists_of}
use Rattle.bc_engine.specs.Attempts.{RanByAttempts}
use Rattle.bc_engine.specs.EngineFacts.{IsUnrecorded}
use Rattle.bc_engine.specs.Lanes.{EachFurther, LanesRan, LeavesCells}
use Rattle.bc_engine.proofs.RunLemmas.{AreAsBefore}
use Rattle.bc_engine.proofs.lanes.step_lanes.Given as goal

abbrev pub invariant-loop-lane : goal.invariant-loop-lane
invariant-loop-lane l = record {
  runs : LanesRan (lists_of l.lanes) l.initial.running l.initial.replies l.running l.replies;
  leaves : LeavesCells l.initial.running l.running;
  attempts : RanByAttempts (lists_of l.lanes) l.initial.running (lists_of l.initial.replies) l.running (lists_of l.replies);
  unrecorded : IsUnrecorded l.running.heap;
  empty : (n : ℕ) → l.lane ≤ n → (chunk_of l.running.heap.chunks n).objects ≡ [];
  each : EachFurther l.lane (lists_of l.lanes) (lists_of l.initial.replies) (lists_of l.replies);
  before : AreAsBefore l.lane (lists_of l.initial.replies) (lists_of l.replies);
}
