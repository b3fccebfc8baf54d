use Rattle.std.proofs.Common.{◌≡◌, ℕ, ◌*◌, ◌<◌, length, slice_index}
use Rattle.bc_bits.specs.Bits.{has}
use Rattle.bc_bits.specs.Counting.{count_below}
use Rattle.bc_heapview.proofs.indexes.ranks.Given as goal

abbrev pub invariant-loop-word : goal.invariant-loop-word
invariant-loop-word l = record {
  total : l.total ≡ count_below (has l.there) (64 * l.word);
  sized : length l.before.items ≡ l.word;
  at : (w : ℕ) → w < l.word → slice_index l.before.items w ≡ count_below (has l.there) (64 * w);
}
