use Rattle.std.proofs.Common.{◌≡◌, ℕ, ◌+◌, ◌≤◌, ◌++◌, length, drop}
use Rattle.bc_model.specs.StateSizes.{sizes_of}
use Rattle.bc_model.specs.Run.{after_ops, replies_to}
use Rattle.bc_model.specs.State.{made_by}
use Rattle.bc_model.proofs.plain_heap.Flat.replay.Given as goal

abbrev pub invariant-loop-op : goal.invariant-loop-op
invariant-loop-op l = record {
  state : after_ops l.self l.lane (drop l.op-index l.ops) ≡ after_ops l.fn.self l.lane l.ops;
  replies : l.replies.items ++ replies_to l.self l.lane (drop l.op-index l.ops) ≡ replies_to l.fn.self l.lane l.ops;
  sizes : sizes_of l.self ≡ sizes_of l.fn.self;
  more : (j : ℕ) → length (made_by l.self.made j) ≤ length (made_by l.fn.self.made j) + l.op-index;
}
