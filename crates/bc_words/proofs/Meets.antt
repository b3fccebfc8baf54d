-- What one word is to the command, before any `--`: it is skipped, it is the option with a value or without, it is refused, or it is
-- a plain word, which is a value of whatever waits.
use Rattle.std.proofs.Common.{◌≡◌, ◌≢◌, ◌∙◌, ap, sym, refl, ℕ, zero, suc, ◌==◌, false, List, [], ◌∷◌, ◌++◌, subst, Option, Some, None, codes, inl, inr, arith}
use Rattle.std.specs.Prelude.{option_and_then, slice_get}
use Rattle.std.specs.Option.{option_map_or}
use Rattle.std.specs.Str.{bytes_eq, chars}
use Rattle.std.proofs.lemmas.Bool.{cases_Bool, cases_eq, ne_eqb}
use Rattle.std.proofs.lemmas.Slice.Eq.{bytes_eq-Decides}
use Rattle.clap.specs.Lexer.{long_of, long_of_rest, name_and_value, short_of, short_of_rest, strip_byte}
use Rattle.clap.specs.Walk.{Held, Row, Text, Waiting, after_flag, bundle, bundle_met, idle, long_or_other, plain, plain_word, short_or_plain, short_word}
use Rattle.clap.specs.Faults.{bundle_fault, flag_word_fault, flags_fault}
use Rattle.clap.proofs.CutLemmas.{Lacks}
use Rattle.clap.proofs.LexerLemmas.{name_and_value-at, name_and_value-without}
use Rattle.bc_words.proofs.App.{rules, other-by_long, none-by_short, workers_id}

abbrev pub double_hyphen : Text
double_hyphen = codes "--"

-- what is held between two words
abbrev pub hold : List Row → Option (Text × List Text) → Held
hold rows pending = record { rows = rows; pending = pending; skip = 0 }

-- the word is no flag
pub record IsPlainMet (word : Text) : Type 0 where
  pub no_dashes : bytes_eq word double_hyphen ≡ false
  pub no_fault : (h : Held) → h.skip ≡ 0 → flag_word_fault rules false (long_of word) word h ≡ []
  pub met : (waiting : Waiting) (h : Held) → h.skip ≡ 0 → long_or_other rules waiting word (long_of word) h ≡ plain_word rules waiting word h

pub data Meets (word : Text) : Type 0 where
  dashes : word ≡ double_hyphen → Meets word
  apart : word ≡ codes "--workers" → Meets word
  joined : (value : Text) → word ≡ codes "--workers=" ++ value → Meets word
  refused : bytes_eq word double_hyphen ≡ false → ((h : Held) → h.skip ≡ 0 → flag_word_fault rules false (long_of word) word h ≢ []) → Meets word
  bare : IsPlainMet word → Meets word

-- ---- a text is cut at its first `=`

data Cut (text : Text) : Type 0 where
  whole : Lacks 61 text → Cut text
  parts : (xs ys : Text) → text ≡ xs ++ 61 ∷ ys → Lacks 61 xs → Cut text

lacks_more : (x : ℕ) (xs : Text) → x ≢ 61 → Lacks 61 xs → Lacks 61 (x ∷ xs)
lacks_more x xs ne h zero lt = ne
lacks_more x xs ne h (suc i) lt = h i (omega (arith, lt))

cut : (text : Text) → Cut text
cut [] = whole (λ i lt. absurd (omega (arith, lt)))
cut (x ∷ rest) = elim (cases_eq x 61) [
  | inl e ↦ parts [] rest (ap (λ b. b ∷ rest) e) (λ i lt. absurd (omega (arith, lt)))
  | inr ne ↦ elim (cut rest) [
    | whole h ↦ whole (lacks_more x rest ne h)
    | parts xs ys e h ↦ parts (x ∷ xs) ys (ap (λ t. x ∷ t) e) (lacks_more x xs ne h)
  ]
]

-- ---- words that begin with no hyphen

not_dashes : (word : Text) → strip_byte 45 word ≡ None → bytes_eq word double_hyphen ≡ false
not_dashes [] e = refl
not_dashes (x ∷ xs) e = elim (cases_eq x 45) [
  | inl its ↦ let bad : ◌≡◌ {A = Option Text} (Some xs) None = rw its at e in absurd cc
  | inr ne ↦ rw (ne_eqb x 45 ne) refl
]

-- a word that is neither `--name` nor `-abc`
no_flag : (word : Text) (waiting : Waiting) (h : Held) → long_of word ≡ None → short_of word ≡ None
    → (flag_word_fault rules false (long_of word) word h ≡ []) × (long_or_other rules waiting word (long_of word) h ≡ plain_word rules waiting word h)
no_flag word waiting h no_long no_short = (
  ap (λ o. flag_word_fault rules false o word h) no_long ∙ ap (λ o. option_map_or (λ flags. bundle_fault rules false flags h) o []) no_short,
  ap (λ o. long_or_other rules waiting word o h) no_long ∙ ap (λ o. short_or_plain rules waiting word o h) no_short,
)

pub plain_met : (word : Text) → strip_byte 45 word ≡ None → IsPlainMet word
plain_met word e =
    let no_long : long_of word ≡ None = ap (λ o. option_and_then long_of_rest (option_and_then (strip_byte 45) o)) e in
    let no_short : short_of word ≡ None = ap (λ o. option_and_then short_of_rest o) e in
    record {
      no_dashes = not_dashes word e;
      no_fault = λ h skip. (no_flag word idle h no_long no_short).0;
      met = λ waiting h skip. (no_flag word waiting h no_long no_short).1;
    }

-- ---- words that begin with one hyphen

held_back : (h : Held) → h.skip ≡ 0 → ◌≡◌ {A = Held} (record h { skip = 0 }) h
held_back h e = ap (λ k. record h { skip = k }) (sym e)

-- a bundle of which no character can be read
no_bundle : (y : ℕ) (ys : Text) (h : Held) → h.skip ≡ 0 → slice_get (chars (y ∷ ys)) 0 ≡ None
    → (bundle_fault rules false (y ∷ ys) h ≡ []) × (bundle rules (y ∷ ys) h ≡ (record h { skip = 0 }, plain))
unfolding flags_fault bundle_met
no_bundle y ys h skip e = (rw (skip, e) refl, rw (skip, e) refl)

some_bundle : (y : ℕ) (ys : Text) (x : ℕ) (h : Held) → h.skip ≡ 0 → slice_get (chars (y ∷ ys)) 0 ≡ Some x → bundle_fault rules false (y ∷ ys) h ≢ []
unfolding flags_fault
some_bundle y ys x h skip e none =
    let bad = rw (skip, e, none-by_short x) at none in
    absurd cc

short_meets : (y : ℕ) (ys : Text) → (y == 45) ≡ false → (o : Option ℕ) → slice_get (chars (y ∷ ys)) 0 ≡ o → Meets (45 ∷ y ∷ ys)
short_meets y ys other o e =
    let no_long : long_of (45 ∷ y ∷ ys) ≡ None = rw other refl in
    let short : short_of (45 ∷ y ∷ ys) ≡ Some (y ∷ ys) = rw other refl in
    let fault : (h : Held) → flag_word_fault rules false (long_of (45 ∷ y ∷ ys)) (45 ∷ y ∷ ys) h ≡ bundle_fault rules false (y ∷ ys) h =
    λ h. ap (λ l. flag_word_fault rules false l (45 ∷ y ∷ ys) h) no_long ∙ ap (λ s. option_map_or (λ flags. bundle_fault rules false flags h) s []) short in
    let met : (waiting : Waiting) (h : Held) → long_or_other rules waiting (45 ∷ y ∷ ys) (long_of (45 ∷ y ∷ ys)) h ≡ short_word rules waiting (45 ∷ y ∷ ys) (y ∷ ys) h =
    λ waiting h. ap (λ l. long_or_other rules waiting (45 ∷ y ∷ ys) l h) no_long ∙ ap (λ s. short_or_plain rules waiting (45 ∷ y ∷ ys) s h) short in
    go o e fault met
  where
    go : (o : Option ℕ) → slice_get (chars (y ∷ ys)) 0 ≡ o
        → ((h : Held) → flag_word_fault rules false (long_of (45 ∷ y ∷ ys)) (45 ∷ y ∷ ys) h ≡ bundle_fault rules false (y ∷ ys) h)
        → ((waiting : Waiting) (h : Held) → long_or_other rules waiting (45 ∷ y ∷ ys) (long_of (45 ∷ y ∷ ys)) h ≡ short_word rules waiting (45 ∷ y ∷ ys) (y ∷ ys) h)
        → Meets (45 ∷ y ∷ ys)
    go None e fault met = bare (record {
      no_dashes = rw other refl;
      no_fault = λ h skip. fault h ∙ (no_bundle y ys h skip e).0;
      met = λ waiting h skip. met waiting h
          ∙ ap (λ b. after_flag rules waiting (45 ∷ y ∷ ys) b.0 b.1) ((no_bundle y ys h skip e).1 ∙ ap (λ k. (k, plain)) (held_back h skip));
    })
    go (Some x) e fault met = refused (rw other refl) (λ h skip none. some_bundle y ys x h skip e (sym (fault h) ∙ none))

-- ---- words that begin with two hyphens

unknown : (word name : Text) (value : Option Text) → long_of word ≡ Some (name, value) → bytes_eq workers_id name ≡ false
    → (h : Held) → h.skip ≡ 0 → flag_word_fault rules false (long_of word) word h ≢ []
unknown word name value e other h skip none =
    let bad = rw (e, other-by_long name other) at none in
    absurd cc

whole_meets : (text : Text) → long_of (45 ∷ 45 ∷ text) ≡ Some (text, None) → Meets (45 ∷ 45 ∷ text)
whole_meets text e = elim (cases_Bool (bytes_eq workers_id text)) [
  | inl its ↦
      let is : text ≡ workers_id = sym ((bytes_eq-Decides workers_id text).0 its) in
      apart (ap (λ t. 45 ∷ 45 ∷ t) is)
  | inr other ↦ refused (no_double text e) (unknown (45 ∷ 45 ∷ text) text None e other)
] where
  no_double : (t : Text) → long_of (45 ∷ 45 ∷ t) ≡ Some (t, None) → bytes_eq (45 ∷ 45 ∷ t) double_hyphen ≡ false
  no_double [] e = absurd cc
  no_double (z ∷ zs) e = refl

parts_meet : (text xs ys : Text) → text ≡ xs ++ 61 ∷ ys → long_of (45 ∷ 45 ∷ text) ≡ Some (xs, Some ys) → Meets (45 ∷ 45 ∷ text)
parts_meet text xs ys is e = elim (cases_Bool (bytes_eq workers_id xs)) [
  | inl its ↦
      let named : xs ≡ workers_id = sym ((bytes_eq-Decides workers_id xs).0 its) in
      joined ys (ap (λ t. 45 ∷ 45 ∷ t) (is ∙ ap (λ t. t ++ 61 ∷ ys) named))
  | inr other ↦ refused (no_double text e) (unknown (45 ∷ 45 ∷ text) xs (Some ys) e other)
] where
  no_double : (t : Text) → long_of (45 ∷ 45 ∷ t) ≡ Some (xs, Some ys) → bytes_eq (45 ∷ 45 ∷ t) double_hyphen ≡ false
  no_double [] e = absurd cc
  no_double (z ∷ zs) e = refl

long_meets : (z : ℕ) (zs : Text) → Meets (45 ∷ 45 ∷ z ∷ zs)
long_meets z zs = elim (cut (z ∷ zs)) [
  | whole h ↦ whole_meets (z ∷ zs) (ap (λ p. Some p) (name_and_value-without (z ∷ zs) h))
  | parts xs ys e h ↦ parts_meet (z ∷ zs) xs ys e (ap (λ p. Some p) (ap name_and_value e ∙ name_and_value-at xs ys h))
]

hyphened : (xs : Text) → Meets (45 ∷ xs)
hyphened [] = bare (record {
  no_dashes = refl;
  no_fault = λ h skip. refl;
  met = λ waiting h skip. refl;
})
hyphened (y ∷ ys) = elim (cases_eq y 45) [
  | inl its ↦ subst (λ b. Meets (45 ∷ b ∷ ys)) (sym its) (twice ys)
  | inr ne ↦ short_meets y ys (ne_eqb y 45 ne) (slice_get (chars (y ∷ ys)) 0) refl
] where
  twice : (zs : Text) → Meets (45 ∷ 45 ∷ zs)
  twice [] = dashes refl
  twice (z ∷ zs) = long_meets z zs

pub meets : (word : Text) → Meets word
meets [] = bare (plain_met [] refl)
meets (x ∷ xs) = elim (cases_eq x 45) [
  | inl its ↦ subst (λ b. Meets (b ∷ xs)) (sym its) (hyphened xs)
  | inr ne ↦ bare (plain_met (x ∷ xs) (rw (ne_eqb x 45 ne) refl))
]
