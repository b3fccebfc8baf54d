use Rattle.std.proofs.Common.{ℕ, ◌<◌, ◌≤◌, length}
use Rattle.bc_engine.specs.Lanes.{of_lane}
use Rattle.bc_model.specs.Rows.{lists_of}
use Rattle.paging_bench.proofs.phases.longest.Given as goal

abbrev pub invariant-loop-ops : goal.invariant-loop-ops
invariant-loop-ops l = (j : ℕ) → j < l.ops-index → length (of_lane (lists_of l.lanes) j) ≤ l.most
