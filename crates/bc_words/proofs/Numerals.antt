-- Texts of digits, and the numbers that they spell.
use Rattle.std.proofs.Common.{◌≡◌, ◌≢◌, ◌⊎◌, ℕ, zero, suc, ◌<◌, ◌≤◌, ◌^◌, List, length, get_or, Result, Ok, Err, sym, ◌∙◌, ap, refl, inl, inr, arith, slice_index}
use Rattle.std.specs.Fmt.{decimal}
use Rattle.std.specs.Str.Parse.{AllDigits, ParsesUnsigned, digits_value}
use Rattle.std.proofs.lemmas.Fmt.{decimal_digit, decimal-digits_value, first_decimal}
use Rattle.std.proofs.lemmas.Str.Parse.{IsNumeralModel, numerals_by_value, tells_digits, parse_plain}

own : IsNumeralModel (AllDigits 10) (digits_value 10)
own = numerals_by_value _ tells_digits

-- the text of a number begins with a 0 only where it is all of it
pub decimal-begins : (n : ℕ) → n < 2 ^ 64 → (48 ≤ get_or (decimal n) 0 0) × (get_or (decimal n) 0 0 ≡ 48 → length (decimal n) ≡ 1)
decimal-begins zero lt = rw (decimal_digit 0 (omega arith)) (omega arith, λ e. refl)
decimal-begins (suc n) lt =
    let first = first_decimal (suc n) (omega arith) lt in
    (omega (arith, first), λ e. absurd (omega (arith, first, e)))

-- a text that begins otherwise is no number's
pub not_plain : (t : List ℕ) (n : ℕ) → n < 2 ^ 64 → t ≡ decimal n → (slice_index t 0 ≡ 43) ⊎ ((slice_index t 0 ≡ 48) × (1 < length t)) → ⊥
not_plain t n lt e signed =
    let first = decimal-begins n lt in
    let here : (48 ≤ get_or t 0 0) × (get_or t 0 0 ≡ 48 → length t ≡ 1) = rw e first in
    elim signed [
      | inl plus ↦ omega (arith, here.0, plus)
      | inr lead ↦ omega (arith, here.1 lead.0, lead.1)
    ]

-- what is parsed of a text that begins plainly is the number that it spells
pub parsed_plain : {E : Type 0} (t : List ℕ) (r : Result ℕ E) (n : ℕ) → ParsesUnsigned 64 10 t r → slice_index t 0 ≢ 43 → (slice_index t 0 ≡ 48 → length t ≤ 1)
    → r ≡ Ok n → t ≡ decimal n
parsed_plain {E} t (Ok x) n h ne lead e =
    let digits = parse_plain own {E = E} 64 t (Ok x) h ne in
    let is_n : x ≡ n = cc in
    let back : decimal (digits_value 10 t) ≡ t = decimal-digits_value own t digits.0.0 digits.0.1 (λ z. omega (arith, lead z, digits.0.1)) digits.0.2 in
    sym back ∙ ap decimal (sym digits.1 ∙ is_n)
parsed_plain {E} t (Err x) n h ne lead e = absurd cc
