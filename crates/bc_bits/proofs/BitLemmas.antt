-- A bit that was set is set, one that was cleared is clear, and the others are as they were.
use Rattle.std.proofs.Common.{◌≡◌, ◌≢◌, ℕ, ◌+◌, ◌*◌, ◌/◌, ◌%◌, ◌^◌, ◌<◌, ◌≤◌, inl, inr, Bool, true, false, sym, ◌∙◌, ◌==◌, ◌&&◌, [], ◌∷◌, not, nat_eq, List, length, get_or, set, bit_and, bit_or, refl, arith, tests, w64, get_or-set_same, get_or-set_other, length-set, replicate}
use Rattle.std.proofs.lemmas.List.{set_past, get_or_past}
use Prim.Native.Nat.{zero, suc}
use Rattle.std.specs.Int.{bit_at, bit_not, trailing_zeros}
use Rattle.std.proofs.lemmas.Nat.{and_le_l, or_lt, one_shl, pow_pos}
use Rattle.std.proofs.lemmas.Nat.Bits.{and_pow, bit_at_set_same, bit_at_set_other, bit_at_clear_same, bit_at_clear_other, bit_at-zero, bit_at-trailing_zeros}
use Rattle.std.proofs.lemmas.Bool.{cases_eq, cases_lt, cases_Bool}
use Rattle.bc_bits.specs.Bits.{has}
use Rattle.bc_bits.specs.BitChanges.{with_bit, without_bit, AreWords, none_set}

-- the test of one bit of a word
pub word_test : (n k : ℕ) → k < 64 → not (nat_eq (bit_and n (1 * 2 ^ k % 2 ^ 64)) 0) ≡ nat_eq (bit_at n k) 1
word_test n k lt = grind (arith, tests, one_shl k 64 lt, and_pow n k, pow_pos k)

-- past the last word no bit is set
pub has-beyond : (ws : List ℕ) (b : ℕ) → 64 * length ws ≤ b → has ws b ≡ false
unfolding has
has-beyond ws b le =
    let out : length ws ≤ b / 64 = omega arith in
    rw (get_or_past ws (b / 64) 0 out, bit_at-zero (b % 64)) refl

pub length-with_bit : (ws : List ℕ) (b : ℕ) → length (with_bit ws b) ≡ length ws
unfolding with_bit
length-with_bit ws b = length-set ws (b / 64) _

pub length-without_bit : (ws : List ℕ) (b : ℕ) → length (without_bit ws b) ≡ length ws
unfolding without_bit
length-without_bit ws b = length-set ws (b / 64) _

pub has-with_bit_same : (ws : List ℕ) (b : ℕ) → b < 64 * length ws → has (with_bit ws b) b ≡ true
unfolding has with_bit
has-with_bit_same ws b lt =
    let within : b / 64 < length ws = omega arith in
    rw get_or-set_same (rw (bit_at_set_same w64 (get_or ws (b / 64) 0) (b % 64) (omega arith)) refl)

pub has-with_bit_other : (ws : List ℕ) (b i : ℕ) → i ≢ b → has (with_bit ws b) i ≡ has ws i
unfolding has with_bit
has-with_bit_other ws b i ne =
    elim (cases_eq (i / 64) (b / 64)) [
      | inl same ↦
          rw same (elim (cases_lt (b / 64) (length ws)) [
            | inl within ↦ rw get_or-set_same (rw (bit_at_set_other w64 (get_or ws (b / 64) 0) (b % 64) (omega arith) (i % 64) (omega arith)) refl)
            | inr out ↦ rw (set_past ws (b / 64) _ out) refl
          ])
      | inr other ↦ rw get_or-set_other refl
    ]

pub has-without_bit_same : (ws : List ℕ) (b : ℕ) → has (without_bit ws b) b ≡ false
unfolding has without_bit
has-without_bit_same ws b =
    elim (cases_lt (b / 64) (length ws)) [
      | inl within ↦ rw get_or-set_same (rw (bit_at_clear_same w64 (get_or ws (b / 64) 0) (b % 64) (omega arith)) refl)
      | inr out ↦ rw (set_past ws (b / 64) _ out) (has-beyond ws b (omega arith))
    ]

pub has-without_bit_other : (ws : List ℕ) (b i : ℕ) → i ≢ b → has (without_bit ws b) i ≡ has ws i
unfolding has without_bit
has-without_bit_other ws b i ne =
    elim (cases_eq (i / 64) (b / 64)) [
      | inl same ↦
          rw same (elim (cases_lt (b / 64) (length ws)) [
            | inl within ↦ rw get_or-set_same (rw (bit_at_clear_other w64 (get_or ws (b / 64) 0) (b % 64) (omega arith) (i % 64) (omega arith) (omega arith)) refl)
            | inr out ↦ rw (set_past ws (b / 64) _ out) refl
          ])
      | inr other ↦ rw get_or-set_other refl
    ]

get_or-zeros : (n i : ℕ) → get_or {A = ℕ} (replicate {A = ℕ} n 0) i 0 ≡ 0
get_or-zeros zero i = refl
get_or-zeros (suc n) zero = refl
get_or-zeros (suc n) (suc i) = get_or-zeros n i

-- in a set of zeros no bit is set
pub has-zeros : (n b : ℕ) → has (replicate {A = ℕ} n 0) b ≡ false
unfolding has
has-zeros n b = rw (get_or-zeros n (b / 64), bit_at-zero (b % 64)) refl

-- where every word is 0 no bit is set
pub has-none : (ws : List ℕ) (b : ℕ) → ((k : ℕ) → k < length ws → get_or ws k 0 ≡ 0) → has ws b ≡ false
unfolding has
has-none ws b none =
    elim (cases_lt (b / 64) (length ws)) [
      | inl within ↦ rw (none (b / 64) within, bit_at-zero (b % 64)) refl
      | inr out ↦ has-beyond ws b (omega arith)
    ]

-- a word that is not 0 has a bit
pub some_set : (ws : List ℕ) (i : ℕ) → get_or ws i 0 ≢ 0 → get_or ws i 0 < 2 ^ 64 → (b : ℕ) × (b / 64 ≡ i) × (has ws b ≡ true)
unfolding has
some_set ws i ne fits =
    let lowest = bit_at-trailing_zeros w64 (get_or ws i 0) (omega arith) fits in
    let k = trailing_zeros w64 (get_or ws i 0) in
    let word : (64 * i + k) / 64 ≡ i = omega arith in
    let place : (64 * i + k) % 64 ≡ k = omega arith in
    (64 * i + k, word, rw (word, place) (rw (lowest.1) refl))

none_head : (w : ℕ) (rest : Bool) → ((w == 0) && rest) ≡ true → w ≡ 0
none_head w rest none = grind (arith, tests)

none_tail : (w : ℕ) (rest : Bool) → ((w == 0) && rest) ≡ true → rest ≡ true
none_tail w rest none = grind (arith, tests)

some_tail : (w : ℕ) (rest : Bool) → w ≡ 0 → ((w == 0) && rest) ≡ false → rest ≡ false
some_tail w rest zero_here none = grind (arith, tests)

zero_word : (ws : List ℕ) (k : ℕ) → none_set ws ≡ true → k < length ws → get_or ws k 0 ≡ 0
zero_word [] k none lt = absurd (omega arith)
zero_word (w ∷ ws) zero none lt = none_head w (none_set ws) none
zero_word (w ∷ ws) (suc k) none lt = zero_word ws k (none_tail w (none_set ws) none) (omega arith)

other_word : (ws : List ℕ) → none_set ws ≡ false → (i : ℕ) × (get_or ws i 0 ≢ 0)
other_word [] none = absurd (let e : true ≡ false = none in cc)
other_word (w ∷ ws) none =
    elim (cases_eq w 0) [
      | inl here ↦ let found = other_word ws (some_tail w (none_set ws) here none) in (suc found.0, found.1)
      | inr other ↦ (0, other)
    ]

-- a set whose words are all 0 has no bit
pub has-none_set : (ws : List ℕ) (b : ℕ) → none_set ws ≡ true → has ws b ≡ false
has-none_set ws b none = has-none ws b (λ k lt. zero_word ws k none lt)

-- any other set has one
pub some_set-none_set : (ws : List ℕ) → AreWords ws → none_set ws ≡ false → (b : ℕ) × (has ws b ≡ true)
some_set-none_set ws fits none =
    let place = other_word ws none in
    let found = some_set ws place.0 place.1 (fits place.0) in
    (found.0, found.2)

-- so one in which no bit is set has only zeros
pub none_set-none : (ws : List ℕ) → AreWords ws → ((b : ℕ) → has ws b ≡ false) → none_set ws ≡ true
none_set-none ws fits none =
    elim (cases_Bool (none_set ws)) [
      | inl empty ↦ empty
      | inr some ↦ let found = some_set-none_set ws fits some in absurd (let e : false ≡ true = sym (none found.0) ∙ found.1 in cc)
    ]

-- a set of zeros has none
pub none_set-zeros : (n : ℕ) → none_set (replicate {A = ℕ} n 0) ≡ true
none_set-zeros zero = refl
none_set-zeros (suc n) = none_set-zeros n

-- a set with a bit is not all zeros
pub none_set-has : (ws : List ℕ) (b : ℕ) → has ws b ≡ true → none_set ws ≡ false
none_set-has ws b on =
    elim (cases_Bool (none_set ws)) [
      | inl none ↦ absurd (let e : false ≡ true = sym (has-none_set ws b none) ∙ on in cc)
      | inr some ↦ some
    ]

-- a set of words stays one
AreWords-set : (ws : List ℕ) (k w : ℕ) → AreWords ws → w < 2 ^ 64 → AreWords (set ws k w)
AreWords-set ws k w fits lt i =
    elim (cases_eq i k) [
      | inl here ↦
          rw here (elim (cases_lt k (length ws)) [
            | inl within ↦ rw get_or-set_same lt
            | inr out ↦ rw (set_past ws k w out) (fits k)
          ])
      | inr other ↦ rw get_or-set_other (fits i)
    ]

pub AreWords-with_bit : (ws : List ℕ) (b : ℕ) → AreWords ws → AreWords (with_bit ws b)
unfolding with_bit
AreWords-with_bit ws b fits =
    AreWords-set ws (b / 64) (bit_or (get_or ws (b / 64) 0) (1 * 2 ^ (b % 64) % 2 ^ 64)) fits (or_lt 64 (get_or ws (b / 64) 0) (1 * 2 ^ (b % 64) % 2 ^ 64) (fits (b / 64)) (omega arith))

pub AreWords-without_bit : (ws : List ℕ) (b : ℕ) → AreWords ws → AreWords (without_bit ws b)
unfolding without_bit
AreWords-without_bit ws b fits =
    let mask = bit_not w64 (1 * 2 ^ (b % 64) % 2 ^ 64) in
    let le = and_le_l (get_or ws (b / 64) 0) mask in
    let lt = fits (b / 64) in
    AreWords-set ws (b / 64) (bit_and (get_or ws (b / 64) 0) mask) fits (omega arith)

pub AreWords-zeros : (n : ℕ) → AreWords (replicate {A = ℕ} n 0)
AreWords-zeros n i = rw (get_or-zeros n i) (omega arith)
