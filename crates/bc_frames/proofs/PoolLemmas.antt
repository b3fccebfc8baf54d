-- The flags of a pool, and how many of them are free.
use Rattle.std.proofs.Common.{◌≡◌, ℕ, ◌+◌, ◌<◌, ◌≤◌, nat_lt, inl, inr, Bool, true, false, List, [], ◌∷◌, length, set, replicate, refl, ap, sym, ◌∙◌, arith, tests}
use Rattle.std.proofs.lemmas.Bool.{cases_lt}
use Rattle.std.proofs.lemmas.List.{get_or_past, get_or-replicate, length-replicate, set-get_or}
use Rattle.std.proofs.lemmas.List.Sums.{sum_by-set, sum_by-cons, count_by-le-length}
use Prim.Native.Nat.{zero, suc}
use Rattle.bc_bits.specs.Counting.{one_if}
use Rattle.bc_frames.specs.Pool.{is_free, free_count}

-- a frame that isn't one of the pool's is not free
pub free-below : (fs : List Bool) (n : ℕ) → is_free fs n ≡ true → n < length fs
free-below fs n free =
    elim (cases_lt n (length fs)) [
      | inl lt ↦ lt
      | inr out ↦ absurd (let e : false ≡ true = sym (get_or_past fs n false out) ∙ free in cc)
    ]

pub free_count-set : (fs : List Bool) (n : ℕ) (v : Bool) → n < length fs → free_count (set fs n v) + one_if (is_free fs n) ≡ free_count fs + one_if v
free_count-set fs n v lt = sum_by-set _ fs n v false lt

pub free_count-le : (fs : List Bool) → free_count fs ≤ length fs
free_count-le fs = count_by-le-length (λ (b : Bool). b) fs

-- a flag that is written as it was changes nothing
pub set-same : (fs : List Bool) (n : ℕ) (v : Bool) → is_free fs n ≡ v → fs ≡ set fs n v
set-same fs n v is = sym (ap (set fs n) (sym is) ∙ set-get_or fs n false)

-- where no frame is free their number is 0
pub free_count-none : (fs : List Bool) → ((n : ℕ) → is_free fs n ≡ false) → free_count fs ≡ 0
free_count-none [] none = refl
free_count-none (b ∷ fs) none =
    let here : one_if b ≡ 0 = ap one_if (none 0) in
    let rest = free_count-none fs (λ n. none (suc n)) in
    let more = sum_by-cons (λ (c : Bool). one_if c) b fs in
    omega arith

-- a pool in which all frames are free
pub free_count-all : (n : ℕ) → free_count (replicate n true) ≡ n
free_count-all zero = refl
free_count-all (suc n) =
    let more = sum_by-cons (λ (b : Bool). one_if b) true (replicate n true) in
    let rest = free_count-all n in
    omega arith

pub is_free-all : (n m : ℕ) → is_free (replicate n true) m ≡ nat_lt m n
is_free-all n m =
    elim (cases_lt m n) [
      | inl lt ↦ rw (get_or-replicate n m true false lt) (grind (arith, tests))
      | inr out ↦
          rw (get_or_past (replicate n true) m false (rw length-replicate out)) (grind (arith, tests))
    ]
