-- Operands, read one after the other.
use Rattle.std.proofs.lemmas.List.Splits.{length-slice_split}
use Rattle.std.proofs.Common.{◌≡◌, ◌≢◌, eqb, ℕ, ◌+◌, ◌<◌, Bool, true, false, List, [], ◌∷◌, ◌++◌, length, set, take, drop, Option, Some, None, refl, sym, ap, ◌∙◌, append_assoc, arith, cond}
use Rattle.std.proofs.lemmas.List.{take_more_set, append-nil}
use Rattle.bc_trace.specs.Faults.{line_words}
use Rattle.bc_trace.specs.Reading.{both, number_of, read_numbers, words_after}

-- these numbers and then those, if each operand is a number
abbrev pub with_front : Bool → List ℕ → Option (List ℕ) → Option (List ℕ)
with_front false front ns = None
with_front true front None = None
with_front true front (Some ns) = Some (front ++ ns)

pub with_front-number : (all : Bool) (front : List ℕ) (n : ℕ) (word : List ℕ) (others : List (List ℕ)) → number_of word ≡ Some n → with_front all front (read_numbers (word ∷ others)) ≡ with_front all (front ++ n ∷ []) (read_numbers others)
unfolding read_numbers
with_front-number false front n word others e = refl
with_front-number true front n word others e = rw e (moved (read_numbers others)) where
  moved : (ns : Option (List ℕ)) → with_front true front (both (Some n) ns) ≡ with_front true (front ++ n ∷ []) ns
  moved None = refl
  moved (Some ns) = ap Some (sym (append_assoc front (n ∷ []) ns))

pub with_front-other : (all : Bool) (front : List ℕ) (word : List ℕ) (others : List (List ℕ)) → number_of word ≡ None → with_front all front (read_numbers (word ∷ others)) ≡ None
unfolding read_numbers
with_front-other false front word others e = refl
with_front-other true front word others e = rw e refl

pub with_front-start : (ns : Option (List ℕ)) → with_front true [] ns ≡ ns
with_front-start None = refl
with_front-start (Some ns) = refl

pub with_front-end : (all : Bool) (front : List ℕ) → with_front all front (read_numbers []) ≡ cond all (Some front) None
unfolding read_numbers
with_front-end false front = refl
with_front-end true front = ap Some (append-nil front)

pub words_after-rest : (rest : List ℕ) → length rest ≢ 0 → words_after rest ≡ line_words (drop 1 rest)
words_after-rest [] some = absurd (some refl)
words_after-rest (b ∷ bs) some = refl

pub line_words-some : (bytes : List ℕ) → 0 < length (line_words bytes)
line_words-some bytes = omega (arith, length-slice_split (λ b. eqb b 32) bytes)

-- a word that is a number goes into the buffer
pub step-number : (all all' : Bool) (ops ops' : List ℕ) (count n : ℕ) (word : List ℕ) (others : List (List ℕ)) (total : Option (List ℕ)) → count < length ops → number_of word ≡ Some n → ops' ≡ set ops count n → all' ≡ all → with_front all (take count ops) (read_numbers (word ∷ others)) ≡ total → with_front all' (take (count + 1) ops') (read_numbers others) ≡ total
step-number all all' ops ops' count n word others total lt e is same so_far =
    rw (same, is, take_more_set ops count n lt) (sym (with_front-number all (take count ops) n word others e) ∙ so_far)

-- one that is none makes the whole none
pub step-other : (all all' : Bool) (front front' : List ℕ) (word : List ℕ) (others : List (List ℕ)) (total : Option (List ℕ)) → number_of word ≡ None → all' ≡ false → with_front all front (read_numbers (word ∷ others)) ≡ total → with_front all' front' (read_numbers others) ≡ total
step-other all all' front front' word others total e bad so_far = rw bad (sym (with_front-other all front word others e) ∙ so_far)

-- where nothing is left
pub front-all : (rest : List ℕ) (all : Bool) (front : List ℕ) (total : Option (List ℕ)) → length rest ≡ 0 → with_front all front (read_numbers (words_after rest)) ≡ total → total ≡ cond all (Some front) None
front-all [] all front total e so_far = sym so_far ∙ with_front-end all front
front-all (b ∷ bs) all front total e so_far = absurd cc
