-- Digits that are read on from the left, with room to spare in a word of the machine.
use Rattle.std.proofs.Common.{◌≡◌, ◌≢◌, ℕ, zero, suc, ◌+◌, ◌-◌, ◌*◌, ◌^◌, ◌<◌, ◌≤◌, true, leb, List, [], ◌∷◌, ◌++◌, length, get_or, take, drop, refl, sym, ap, ◌∙◌, arith}
use Rattle.std.specs.Char.{is_ascii_digit}
use Rattle.std.specs.Str.{all_ascii_digits}
use Rattle.std.specs.Fmt.{decimal}
use Rattle.std.proofs.Math.Nat.{pow-suc}
use Rattle.std.proofs.lemmas.Bool.{leb-true, and_parts}
use Rattle.std.proofs.lemmas.List.{take_more, take_rest, take-append-drop, length-take}
use Rattle.std.proofs.lemmas.Fmt.{decimal_digit, decimal-digits_value}
use Rattle.bc_trace.specs.Reading.{read_on}
use Rattle.bc_trace.proofs.Meaning.{own}

pub digit_small : (b : ℕ) → is_ascii_digit b ≡ true → b ≤ 57
digit_small b e = leb-true b 57 (and_parts (leb 48 b) (leb b 57) e).1

digits-more : (xs : List ℕ) (c : ℕ) → all_ascii_digits xs ≡ true → is_ascii_digit c ≡ true → all_ascii_digits (xs ++ c ∷ []) ≡ true
digits-more [] c h e = rw e refl
digits-more (x ∷ xs) c h e =
    let both = and_parts (is_ascii_digit x) (all_ascii_digits xs) h in
    rw both.0 (digits-more xs c both.1 e)

value-more : (xs : List ℕ) (v c : ℕ) → read_on v (xs ++ c ∷ []) ≡ read_on v xs * 10 + (c - 48)
value-more [] v c = refl
value-more (x ∷ xs) v c = value-more xs (v * 10 + (x - 48)) c

-- one more digit
pub digits-next : (word : List ℕ) (count : ℕ) → count < length word → all_ascii_digits (take count word) ≡ true → is_ascii_digit (get_or word count 0) ≡ true → all_ascii_digits (take (count + 1) word) ≡ true
digits-next word count lt h e = rw (take_more word count 0 lt) (digits-more (take count word) (get_or word count 0) h e)

pub value-next : (word : List ℕ) (count value : ℕ) → count < length word → read_on 0 (take count word) ≡ value → read_on 0 (take (count + 1) word) ≡ value * 10 + (get_or word count 0 - 48)
value-next word count value lt h = rw (take_more word count 0 lt) (value-more (take count word) 0 (get_or word count 0) ∙ ap (λ v. v * 10 + (get_or word count 0 - 48)) h)

-- so many digits say a number below this power of ten
pub below-next : (value count d : ℕ) → value < 10 ^ count → d ≤ 9 → value * 10 + d < 10 ^ (count + 1)
below-next value count d h le =
    let step : 10 ^ (count + 1) ≡ 10 ^ count * 10 = ap (λ k. 10 ^ k) (omega arith) ∙ pow-suc 10 count in
    omega arith

below-most : (more count most : ℕ) → count + more ≡ most → 10 ^ count ≤ 10 ^ most
below-most zero count most e = let same : count ≡ most = omega arith in rw same (omega arith)
below-most (suc more) count most e =
    let step = pow-suc 10 count in
    let next = below-most more (suc count) most (omega arith) in
    omega arith

-- digits that don't begin with a 0 are the number that they say
number-begins : (text : List ℕ) (count value : ℕ) → all_ascii_digits (take count text) ≡ true → read_on 0 (take count text) ≡ value → 0 < length (take count text) → get_or (take count text) 0 0 ≢ 48 → value < 2 ^ 63 → take count text ≡ decimal value
number-begins text count value digits is some lead small = sym (decimal-digits_value own (take count text) digits some (λ e. absurd (lead e)) (omega (arith, is))) ∙ ap decimal is

pub below_room : (value count : ℕ) → value < 10 ^ count → count < 19 → value < 10 ^ 18
below_room value count h lt = omega (arith, below-most (18 - count) count 18 (omega arith))

-- ---- text that begins with a number

pub first_and_rest : (text : List ℕ) (b : ℕ) → 0 < length text → get_or text 0 0 ≡ b → text ≡ b ∷ drop 1 text
first_and_rest [] b some e = absurd (omega arith)
first_and_rest (x ∷ xs) b some e = ap (λ y. y ∷ xs) e

first-take : (count : ℕ) (text : List ℕ) → 0 < count → get_or (take count text) 0 0 ≡ get_or text 0 0
first-take zero text some = absurd (omega arith)
first-take (suc count) [] some = refl
first-take (suc count) (x ∷ xs) some = refl

pub zero_ahead : (text : List ℕ) → 0 < length text → get_or text 0 0 ≡ 48 → text ≡ decimal 0 ++ take (length text - 1) (drop 1 text)
zero_ahead text some e = rw (take_rest text 1, decimal_digit 0 (omega arith)) (first_and_rest text 48 some e)

pub digits_ahead : (text : List ℕ) (count value : ℕ) → all_ascii_digits (take count text) ≡ true → read_on 0 (take count text) ≡ value → 1 ≤ count → count ≤ length text → get_or text 0 0 ≢ 48 → value < 2 ^ 63 → text ≡ decimal value ++ take (length text - count) (drop count text)
digits_ahead text count value digits is some within lead small =
    let more : 0 < length (take count text) = omega (arith, length-take count text) in
    let first : get_or (take count text) 0 0 ≢ 48 = λ e. lead (sym (first-take count text some) ∙ e) in
    rw (take_rest text count, sym (number-begins text count value digits is more first small)) (sym (take-append-drop count text))
