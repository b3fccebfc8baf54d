-- Digits, read from the left.
use Rattle.std.proofs.Common.{◌≡◌, ℕ, suc, ◌+◌, ◌-◌, ◌*◌, ◌^◌, ◌<◌, ◌≤◌, true, false, ◌&&◌, cond, ltb, List, [], ◌∷◌, length, get_or, drop, Option, Some, None, refl, arith, add-one, drop-cons}
use Rattle.std.specs.Str.{all_ascii_digits}
use Rattle.std.specs.Char.{is_ascii_digit}
use Rattle.std.proofs.lemmas.Bool.{lt-ltb, le-ltb, and_right}
use Rattle.std.proofs.lemmas.List.{drop_all}
use Rattle.bc_trace.specs.Reading.{read_on, digits_of}

-- what these digits say after digits of value v
unfoldable pub digits_on : ℕ → List ℕ → Option ℕ
digits_on v bytes = cond (all_ascii_digits bytes && ltb (read_on v bytes) (2 ^ 63)) (Some (read_on v bytes)) None

pub digits_of-on : (word : List ℕ) → digits_of word ≡ digits_on 0 word
unfolding digits_of digits_on
digits_of-on word = refl

read_on-le : (bytes : List ℕ) (v : ℕ) → v ≤ read_on v bytes
read_on-le [] v = omega arith
read_on-le (c ∷ cs) v = omega (arith, read_on-le cs (v * 10 + (c - 48)))

pub digits_on-next : (word : List ℕ) (i v : ℕ) → i < length word → is_ascii_digit (get_or word i 0) ≡ true → digits_on v (drop i word) ≡ digits_on (v * 10 + (get_or word i 0 - 48)) (drop (i + 1) word)
unfolding digits_on
digits_on-next word i v lt digit =
    rw (drop-cons word i 0 lt, add-one) (rw digit refl)

pub digits_on-other : (word : List ℕ) (i v : ℕ) → i < length word → is_ascii_digit (get_or word i 0) ≡ false → digits_on v (drop i word) ≡ None
unfolding digits_on
digits_on-other word i v lt other = rw (drop-cons word i 0 lt) (rw other refl)

pub digits_on-great : (word : List ℕ) (i v : ℕ) → i < length word → 2 ^ 63 ≤ v * 10 + (get_or word i 0 - 48) → digits_on v (drop i word) ≡ None
unfolding digits_on
digits_on-great word i v lt great =
    let rest = drop (suc i) word in
    let more = read_on-le rest (v * 10 + (get_or word i 0 - 48)) in
    let no : ltb (read_on (v * 10 + (get_or word i 0 - 48)) rest) (2 ^ 63) ≡ false = le-ltb _ _ (omega arith) in
    rw (drop-cons word i 0 lt) (rw (and_right (is_ascii_digit (get_or word i 0) && all_ascii_digits rest) (ltb (read_on (v * 10 + (get_or word i 0 - 48)) rest) (2 ^ 63)) no) refl)

pub digits_on-end : (word : List ℕ) (i v : ℕ) → length word ≤ i → v < 2 ^ 63 → digits_on v (drop i word) ≡ Some v
unfolding digits_on
digits_on-end word i v le small = rw (drop_all i word le) (rw (lt-ltb v (2 ^ 63) small) refl)
