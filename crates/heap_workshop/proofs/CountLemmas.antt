-- Allocated cells, counted superpage after superpage.
use Rattle.std.proofs.Common.{◌≡◌, ℕ, ◌+◌, ◌*◌, ◌≤◌, List, ap, arith}
use Prim.Native.Nat.{suc}
use Rattle.std.specs.List.{sum_by}
use Rattle.std.proofs.lemmas.List.Sums.{sum_by_push}
use Rattle.bc_bits.specs.Bits.{has}
use Rattle.bc_bits.specs.Counting.{count_below}
use Rattle.bc_bits.proofs.CountLemmas.{count_below-le}
use Rattle.bc_model.specs.State.{numbers_below}
use Rattle.bc_superpages.specs.Layout.{set_of}

-- how many cells of a superpage are allocated, and of all before it
abbrev pub cells_of : List (List ℕ) → ℕ → ℕ
cells_of sets q = count_below (has (set_of sets q)) 1024

abbrev pub cells_before : List (List ℕ) → ℕ → ℕ
cells_before sets n = sum_by (cells_of sets) (numbers_below n)

pub counted-so_far : (sets : List (List ℕ)) (n objects more : ℕ) → objects ≡ cells_before sets n → objects ≤ 1024 * n → more ≡ cells_of sets n
    → (objects + more ≡ cells_before sets (n + 1)) × (objects + more ≤ 1024 * (n + 1))
counted-so_far sets n objects more so_far few is =
    let push : cells_before sets (suc n) ≡ cells_before sets n + cells_of sets n = sum_by_push (cells_of sets) (numbers_below n) n in
    let one : n + 1 ≡ suc n = omega arith in
    let next : cells_before sets (n + 1) ≡ cells_before sets (suc n) = ap (cells_before sets) one in
    let most : cells_of sets n ≤ 1024 = count_below-le (has (set_of sets n)) 1024 in
    (omega (arith, push, next), omega arith)
