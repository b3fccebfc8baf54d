-- A word of a set: its 64 bits show members, and the ones among them count these.
use Rattle.std.proofs.Common.{◌≡◌, ℕ, ◌+◌, ◌*◌, ◌/◌, ◌%◌, ◌^◌, ◌<◌, ◌==◌, List, get_or, refl, ap, sym, ◌∙◌, arith, rules}
use Prim.Native.Nat.{zero, suc}
use Rattle.std.specs.Int.{bit_at}
use Rattle.std.specs.Int.Count.{ones}
use Rattle.std.proofs.lemmas.Nat.{mod-pow-add, ones_cat}
use Rattle.std.proofs.lemmas.Nat.Bits.{bit_at-lt}
use Rattle.bc_bits.specs.Bits.{has}
use Rattle.bc_bits.specs.Counting.{one_if, count_below}

-- one bit
one-bit : (b : ℕ) → b < 2 → ones b ≡ one_if (b == 1)
unfolding ones
one-bit zero lt = refl
one-bit (suc zero) lt = refl
one-bit (suc (suc b)) lt = absurd (omega arith)

-- the lowest bits of a word
ones-below : (w k : ℕ) → ones (w % 2 ^ k) ≡ count_below (λ j. bit_at w j == 1) k
unfolding count_below
ones-below w zero = let none : w % 2 ^ 0 ≡ 0 = omega arith in ap ones none ∙ one-bit 0 (omega arith)
ones-below w (suc k) =
    let next : suc k ≡ 1 + k = omega arith in
    let word = ap (λ (n : ℕ). ones (w % 2 ^ n)) next ∙ ap ones (mod-pow-add w 1 k) ∙ ones_cat k (bit_at w k) (w % 2 ^ k) (small w k) in
    let rest = ones-below w k in
    let bit = one-bit (bit_at w k) (bit_at-lt w k) in
    omega arith
  where
    small : (n k : ℕ) → n % 2 ^ k < 2 ^ k
    small n k = search rules

-- how many bits of a word are set
pub ones-count : (w : ℕ) → w < 2 ^ 64 → ones w ≡ count_below (λ j. bit_at w j == 1) 64
ones-count w lt =
    let same : w % 2 ^ 64 ≡ w = omega arith in
    ap ones (sym same) ∙ ones-below w 64

-- a member, by its bit in its word
pub has-word : (ws : List ℕ) (w b : ℕ) → b < 64 → has ws (64 * w + b) ≡ (bit_at (get_or ws w 0) b == 1)
unfolding has
has-word ws w b lt =
    let word : (64 * w + b) / 64 ≡ w = omega arith in
    let place : (64 * w + b) % 64 ≡ b = omega arith in
    rw (word, place) refl
