use Rattle.std.proofs.Common.{◌≡◌, ℕ, ◌+◌, ◌≤◌, ◌++◌, length, take, drop}
use Rattle.std.specs.List.{sum_by}
use Rattle.bc_model.specs.StateSizes.{sizes_of}
use Rattle.bc_model.specs.Rows.{lists_of}
use Rattle.bc_model.specs.Run.{after_lanes, replies_to_lanes}
use Rattle.bc_model.specs.State.{made_by}
use Rattle.bc_model.proofs.plain_heap.Flat.replay_lanes.Given as goal

abbrev pub invariant-loop-lane : goal.invariant-loop-lane
invariant-loop-lane l = record {
  state : after_lanes l.self l.lane (drop l.lane (lists_of l.lanes)) ≡ after_lanes l.fn.self 0 (lists_of l.lanes);
  replies : lists_of l.replies.items ++ replies_to_lanes l.self l.lane (drop l.lane (lists_of l.lanes)) ≡ replies_to_lanes l.fn.self 0 (lists_of l.lanes);
  sizes : sizes_of l.self ≡ sizes_of l.fn.self;
  more : (j : ℕ) → length (made_by l.self.made j) ≤ length (made_by l.fn.self.made j) + sum_by length (take l.lane (lists_of l.lanes));
}
