use Rattle.std.proofs.Common.{◌≡◌, ◌+◌, ◌*◌, ◌≤◌, ◌++◌, length, take, vec_capacity}
use Rattle.std.specs.List.{flat_map}
use Rattle.bc_heapview.specs.Texts.{count_text}
use Rattle.bc_heapview.proofs.texts.put_counts.Given as goal

abbrev pub invariant-loop-count : goal.invariant-loop-count
invariant-loop-count l = record {
  text : l.out.items ≡ l.initial.out.items ++ flat_map count_text (take l.count-index l.counts);
  long : length l.out.items ≤ length l.initial.out.items + 96 * l.count-index;
  room : vec_capacity l.out ≡ vec_capacity l.initial.out;
}
