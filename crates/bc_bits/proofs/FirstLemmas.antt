-- What is left of a word, from a bit on, shows the first bit there that one set has and another hasn't.
use Rattle.std.proofs.Common.{◌≡◌, ◌≢◌, ℕ, ◌+◌, ◌-◌, ◌*◌, ◌/◌, ◌%◌, ◌^◌, ◌<◌, ◌≤◌, ◌==◌, min, inl, inr, true, false, List, get_or, bit_and, refl, ap, sym, ◌∙◌, arith, tests, w64}
use Rattle.std.specs.Int.{bit_at, bit_not, trailing_zeros}
use Rattle.std.proofs.lemmas.Bool.{cases_lt}
use Rattle.std.proofs.lemmas.Nat.{shr-shr, shr_le, and_le_l}
use Rattle.std.proofs.lemmas.Nat.Bits.{bit_at_and, bit_at_not, bit_at-lt, bit_at-zero, bit_at_above, bit_at-trailing_zeros}
use Rattle.bc_bits.specs.Bits.{has}

-- the bits of word b / 64 from b on that the one set has and the other hasn't, shifted down to bit 0
abbrev pub rest_of : List ℕ → List ℕ → ℕ → ℕ
rest_of ws vs b = bit_and (get_or ws (b / 64) 0) (bit_not w64 (get_or vs (b / 64) 0)) / 2 ^ (b % 64)

rest-bit : (ws vs : List ℕ) (b k : ℕ) → get_or vs (b / 64) 0 < 2 ^ 64 → b % 64 + k < 64 → bit_at (rest_of ws vs b) k ≡ min (bit_at (get_or ws (b / 64) 0) (b % 64 + k)) (1 - bit_at (get_or vs (b / 64) 0) (b % 64 + k))
rest-bit ws vs b k fits lt =
    ap (λ (n : ℕ). n % 2) (shr-shr (bit_and (get_or ws (b / 64) 0) (bit_not w64 (get_or vs (b / 64) 0))) (b % 64) k)
    ∙ bit_at_and (get_or ws (b / 64) 0) (bit_not w64 (get_or vs (b / 64) 0)) (b % 64 + k)
    ∙ ap (min (bit_at (get_or ws (b / 64) 0) (b % 64 + k))) (bit_at_not w64 (get_or vs (b / 64) 0) (b % 64 + k) fits lt)

both_have : (x y : ℕ) → y < 2 → min x (1 - y) ≡ 0 → (x == 1) ≡ true → (y == 1) ≡ true
both_have x y lt none on = grind (arith, tests)

one_has : (x y : ℕ) → x < 2 → min x (1 - y) ≡ 1 → ((x == 1) ≡ true) × ((y == 1) ≡ false)
one_has x y lt some = (grind (arith, tests), grind (arith, tests))

-- a clear bit of the rest
pub rest-clear : (ws vs : List ℕ) (b k i : ℕ) → get_or vs (b / 64) 0 < 2 ^ 64 → i ≡ b + k → b % 64 + k < 64 → bit_at (rest_of ws vs b) k ≡ 0 → has ws i ≡ true → has vs i ≡ true
unfolding has
rest-clear ws vs b k i fits is lt clear on =
    let word : i / 64 ≡ b / 64 = omega arith in
    let place : i % 64 ≡ b % 64 + k = omega arith in
    let on_word = rw (word, place) at on in
    rw (word, place) (both_have _ _ (bit_at-lt (get_or vs (b / 64) 0) (b % 64 + k)) (sym (rest-bit ws vs b k fits lt) ∙ clear) on_word)

-- a set bit of the rest
pub rest-set : (ws vs : List ℕ) (b k i : ℕ) → get_or vs (b / 64) 0 < 2 ^ 64 → i ≡ b + k → b % 64 + k < 64 → bit_at (rest_of ws vs b) k ≡ 1 → (has ws i ≡ true) × (has vs i ≡ false)
unfolding has
rest-set ws vs b k i fits is lt clear =
    let word : i / 64 ≡ b / 64 = omega arith in
    let place : i % 64 ≡ b % 64 + k = omega arith in
    rw (word, place) (one_has _ _ (bit_at-lt (get_or ws (b / 64) 0) (b % 64 + k)) (sym (rest-bit ws vs b k fits lt) ∙ clear))

-- past the word there is no bit
rest-beyond : (ws vs : List ℕ) (b k : ℕ) → get_or ws (b / 64) 0 < 2 ^ 64 → 64 ≤ b % 64 + k → bit_at (rest_of ws vs b) k ≡ 0
rest-beyond ws vs b k fits le =
    ap (λ (n : ℕ). n % 2) (shr-shr (bit_and (get_or ws (b / 64) 0) (bit_not w64 (get_or vs (b / 64) 0))) (b % 64) k)
    ∙ bit_at_above (bit_and (get_or ws (b / 64) 0) (bit_not w64 (get_or vs (b / 64) 0))) 64 (b % 64 + k) (omega (arith, and_le_l (get_or ws (b / 64) 0) (bit_not w64 (get_or vs (b / 64) 0)))) le

-- where nothing is left of a word the rest of it has no such bit
pub rest-none : (ws vs : List ℕ) (b i : ℕ) → get_or vs (b / 64) 0 < 2 ^ 64 → rest_of ws vs b ≡ 0 → b ≤ i → i < 64 * (b / 64 + 1) → has ws i ≡ true → has vs i ≡ true
rest-none ws vs b i fits none le lt on =
    rest-clear ws vs b (i - b) i fits (omega arith) (omega arith) (ap (λ (n : ℕ). bit_at n (i - b)) none ∙ bit_at-zero (i - b)) on

-- else its lowest bit shows the first
pub record IsFirst (ws vs : List ℕ) (b found : ℕ) : Type 0 where
  pub from : b ≤ found
  pub on : has ws found ≡ true
  pub off : has vs found ≡ false
  pub passed : (i : ℕ) → b ≤ i → i < found → has ws i ≡ true → has vs i ≡ true

pub rest-first : (ws vs : List ℕ) (b : ℕ) → get_or ws (b / 64) 0 < 2 ^ 64 → get_or vs (b / 64) 0 < 2 ^ 64 → rest_of ws vs b ≢ 0 → IsFirst ws vs b (b + trailing_zeros w64 (rest_of ws vs b))
rest-first ws vs b fits_w fits_v some =
    let small = shr_le (bit_and (get_or ws (b / 64) 0) (bit_not w64 (get_or vs (b / 64) 0))) (b % 64) in
    let less = and_le_l (get_or ws (b / 64) 0) (bit_not w64 (get_or vs (b / 64) 0)) in
    let lowest = bit_at-trailing_zeros w64 (rest_of ws vs b) (omega arith) (omega arith) in
    let k = trailing_zeros w64 (rest_of ws vs b) in
    go k lowest.0 lowest.1 lowest.2
  where
    inside : (k : ℕ) → bit_at (rest_of ws vs b) k ≡ 1 → b % 64 + k < 64
    inside k on = elim (cases_lt (b % 64 + k) 64) [
      | inl lt ↦ lt
      | inr le ↦ absurd (let none = rest-beyond ws vs b k fits_w le in omega arith)
    ]

    go : (k : ℕ) → k < 64 → bit_at (rest_of ws vs b) k ≡ 1 → ((i : ℕ) → i < k → bit_at (rest_of ws vs b) i ≡ 0) → IsFirst ws vs b (b + k)
    go k lt on none =
        let within = inside k on in
        let both = rest-set ws vs b k (b + k) fits_v refl within on in
        record {
          from = omega arith;
          on = both.0;
          off = both.1;
          passed = λ i le less. rest-clear ws vs b (i - b) i fits_v (omega arith) (omega arith) (none (i - b) (omega arith));
        }
