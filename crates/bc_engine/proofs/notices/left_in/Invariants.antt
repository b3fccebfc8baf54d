use Rattle.std.proofs.Common.{◌≡◌, ◌+◌, ◌≤◌}
use Rattle.bc_engine.specs.Counting.{left_since}
use Rattle.bc_engine.proofs.notices.left_in.Given as goal

abbrev pub invariant-loop-index : goal.invariant-loop-index
invariant-loop-index l = record {
  sum : l.left + left_since l.index l.answers ≡ left_since l.from l.answers;
  few : l.left ≤ l.index;
}
