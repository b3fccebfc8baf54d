use Rattle.std.proofs.Common.{ℕ, ◌<◌, ◌≤◌, length}
use Rattle.bc_model.specs.Rows.{lists_of}
use Rattle.bc_engine.specs.Lanes.{of_lane}
use Rattle.bc_engine.proofs.lanes.are_done.Given as goal

abbrev pub invariant-loop-lane : goal.invariant-loop-lane
invariant-loop-lane l = (j : ℕ) → j < l.lane → length (of_lane (lists_of l.lanes) j) ≤ length (of_lane (lists_of l.replies) j)
