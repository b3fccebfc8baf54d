-- Allocated cells of a pair, counted superpage after superpage.
use Rattle.std.proofs.Common.{◌≡◌, ℕ, ◌+◌, ◌*◌, ◌≤◌, Bool, true, false, if◌then◌else◌, ap, arith}
use Prim.Native.Nat.{suc}
use Rattle.std.specs.List.{sum_by}
use Rattle.std.proofs.lemmas.List.Sums.{sum_by_push}
use Rattle.bc_bits.specs.Bits.{has}
use Rattle.bc_bits.specs.Counting.{count_below}
use Rattle.bc_bits.proofs.CountLemmas.{count_below-le}
use Rattle.bc_model.specs.State.{numbers_below}
use Rattle.bc_superpages.specs.Layout.{Layout, set_of}
use Rattle.bc_superpages.specs.LayoutAt.{header_of}
use Rattle.bc_whole_heap.specs.Counting.{is_of_pair}
use Rattle.sorvekla.specs.Counts.{cells_in}

abbrev pub cells_before : Layout → ℕ → ℕ → ℕ → ℕ
cells_before s d k n = sum_by (cells_in s d k) (numbers_below n)

cells-few : (s : Layout) (d k q : ℕ) → cells_in s d k q ≤ 1024
cells-few s d k q = few (is_of_pair d k (header_of s q))
  where
    few : (b : Bool) → (if b then count_below (has (set_of s.cells q)) 1024 else 0) ≤ 1024
    few true = count_below-le (has (set_of s.cells q)) 1024
    few false = omega arith

pub counted-pair : (s : Layout) (d k n objects more : ℕ) → objects ≡ cells_before s d k n → objects ≤ 1024 * n → more ≡ cells_in s d k n
    → (objects + more ≡ cells_before s d k (n + 1)) × (objects + more ≤ 1024 * (n + 1))
counted-pair s d k n objects more so_far few is =
    let push : cells_before s d k (suc n) ≡ cells_before s d k n + cells_in s d k n = sum_by_push (cells_in s d k) (numbers_below n) n in
    let one : n + 1 ≡ suc n = omega arith in
    let next : cells_before s d k (n + 1) ≡ cells_before s d k (suc n) = ap (cells_before s d k) one in
    let most : cells_in s d k n ≤ 1024 = cells-few s d k n in
    (omega (arith, push, next), omega arith)
