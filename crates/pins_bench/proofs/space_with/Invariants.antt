use Rattle.std.proofs.Common.{◌≡◌, ℕ, false}
use Rattle.bc_bits.specs.Bits.{has}
use Rattle.bc_superpages.specs.Layout.{set_of, is_cell}
use Rattle.bc_bookmarks.specs.Summarised.{HasNoBookmarks}
use Rattle.pins_bench.proofs.space_with.Given as goal

abbrev pub invariant-loop-page : goal.invariant-loop-page
invariant-loop-page g l = record {
  cells : (q b : ℕ) → has (set_of l.space.cells q) b ≡ false;
  promised : (a : ℕ) → is_cell l.space.classes l.space.promised a ≡ false;
  none : HasNoBookmarks l.space;
}
