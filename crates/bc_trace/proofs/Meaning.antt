-- What each test of a line means.
use Rattle.std.proofs.Common.{rules, ◌≡◌, ℕ, zero, suc, ◌^◌, ◌<◌, Bool, true, false, not, ◌&&◌, cond, eqb, leb, ltb, List, [], ◌∷◌, length, get_or, map, Option, Some, None, refl, sym, ap, subst, ◌∙◌, inl, inr, arith}
use Rattle.std.specs.Bool.{Decides}
use Rattle.std.specs.List.{AllByRecursion, onto_first}
use Rattle.std.specs.Str.{bytes_eq, all_ascii_digits}
use Rattle.std.specs.Fmt.{decimal}
use Rattle.std.proofs.lemmas.Bool.{cases_Bool, eqb-true, eqb-false, leb-true, le-leb, ltb-true, lt-ltb}
use Rattle.std.proofs.lemmas.Bool.Decides.{Decides-and, Decides-like}
use Rattle.std.proofs.lemmas.List.Splits.{slice_split-cons_yes, slice_split-cons_no}
use Rattle.std.proofs.lemmas.Slice.Eq.{bytes_eq-Decides}
use Rattle.std.proofs.lemmas.Str.Parse.{IsNumeralModel, numerals_by_fold}
use Rattle.std.proofs.lemmas.Fmt.{decimal_digit, decimal-digits_value, digits_decimal, digits_value-decimal, decimal_nonempty, first_decimal}
use Rattle.bc_model.specs.WellFormed.{IsWithin, IsNumber}
use Rattle.bc_trace.specs.declared.words.Setting.{Setting}
use Rattle.bc_trace.specs.declared.words.Setting.TheVariants as settings
use Rattle.bc_trace.specs.declared.words.Verb.{Verb}
use Rattle.bc_trace.specs.declared.words.Verb.TheVariants as verbs
use Rattle.bc_trace.specs.declared.words.Keyword.{Keyword}
use Rattle.bc_trace.specs.declared.words.Keyword.TheVariants as words
use Rattle.bc_trace.specs.Words.{name, verb_name, setting_name}
use Rattle.bc_trace.specs.Grammar.{KnowsWord}
use Rattle.bc_trace.specs.Faults.{line_words, IsWord, IsFormed, IsNumeral}
use Rattle.bc_trace.specs.Reading.{next_fresh, where_some, is_within, formed_from, named, word_of, op_word, setting_word, or_word, all_verbs, all_settings, all_others, later_words, read_on, digits_of, number_of, both, read_numbers}

-- ---- words of visible bytes

pub Decides-within : (least most n : ℕ) → Decides (is_within least most n) (IsWithin least most n)
Decides-within least most n = Decides-and (leb least n) (leb n most) (leb-true least n, le-leb least n) (leb-true n most, le-leb n most)

-- what is left of a word, which may be nothing where the word has begun
abbrev IsRest : Bool → List ℕ → Type 0
IsRest true bs = IsWord bs
IsRest false bs = AllByRecursion (IsWithin 33 126) bs

-- the same of the words that are left
abbrev AreRest : Bool → List (List ℕ) → Type 0
AreRest fresh [] = Unit {0}
AreRest fresh (w ∷ ws) = IsRest fresh w × AllByRecursion IsWord ws

fresh_rest : (ws : List (List ℕ)) (r : Bool) → Decides r (AreRest true ws) → Decides r (AllByRecursion IsWord ws)
fresh_rest [] r h = h
fresh_rest (w ∷ ws) r h = h

begun_rest : (b : ℕ) (fresh : Bool) (ws : List (List ℕ)) (r : Bool) → Decides r (AreRest false ws) → Decides (is_within 33 126 b && r) (AreRest fresh (onto_first b ws))
begun_rest b true [] r h = Decides-like (is_within 33 126 b && r) (λ x. ((x.0, tt), tt)) (λ x. (x.0.0, tt)) (Decides-and (is_within 33 126 b) r (Decides-within 33 126 b) h)
begun_rest b false [] r h = Decides-like (is_within 33 126 b && r) (λ x. ((x.0, tt), tt)) (λ x. (x.0.0, tt)) (Decides-and (is_within 33 126 b) r (Decides-within 33 126 b) h)
begun_rest b true (w ∷ ws) r h = Decides-like (is_within 33 126 b && r) (λ x. ((x.0, x.1.0), x.1.1)) (λ x. (x.0.0, (x.0.1, x.1))) (Decides-and (is_within 33 126 b) r (Decides-within 33 126 b) h)
begun_rest b false (w ∷ ws) r h = Decides-like (is_within 33 126 b && r) (λ x. ((x.0, x.1.0), x.1.1)) (λ x. (x.0.0, (x.0.1, x.1))) (Decides-and (is_within 33 126 b) r (Decides-within 33 126 b) h)

formed-space : (bs : List ℕ) (b : ℕ) (fresh : Bool) → eqb b 32 ≡ true → formed_from fresh (b ∷ bs) ≡ (not fresh && formed_from true bs)
unfolding formed_from next_fresh
formed-space bs b true e = rw e refl
formed-space bs b false e = rw e refl

formed-other : (bs : List ℕ) (b : ℕ) (fresh : Bool) → eqb b 32 ≡ false → formed_from fresh (b ∷ bs) ≡ (is_within 33 126 b && formed_from false bs)
unfolding formed_from next_fresh
formed-other bs b fresh e = rw e (go (is_within 33 126 b)) where
  go : (w : Bool) → where_some (cond w (Some false) None) (λ f. formed_from f bs) ≡ (w && formed_from false bs)
  go true = refl
  go false = refl

space_rest : (fresh : Bool) (ws : List (List ℕ)) (r : Bool) → Decides r (AllByRecursion IsWord ws) → Decides (not fresh && r) (AreRest fresh ([] ∷ ws))
space_rest true ws r h = (λ e. absurd cc, λ x. absurd x.0)
space_rest false ws r h = (λ e. (tt, h.0 e), λ x. h.1 x.1)

formed_means : (bytes : List ℕ) (fresh : Bool) → Decides (formed_from fresh bytes) (AreRest fresh (line_words bytes))
unfolding formed_from
formed_means [] true = (λ e. absurd cc, λ h. absurd h.0)
formed_means [] false = (λ e. (tt, tt), λ h. refl)
formed_means (b ∷ bs) fresh =
    elim (cases_Bool (eqb b 32)) [
      | inl is ↦ rw (formed-space bs b fresh is, slice_split-cons_yes (λ b. eqb b 32) b bs is) (space_rest fresh (line_words bs) (formed_from true bs) (fresh_rest (line_words bs) (formed_from true bs) (formed_means bs true)))
      | inr isnt ↦ rw (formed-other bs b fresh isnt, slice_split-cons_no (λ b. eqb b 32) b bs isnt) (begun_rest b fresh (line_words bs) (formed_from false bs) (formed_means bs false))
    ]

-- the first test
pub Decides-formed : (line : List ℕ) → Decides (formed_from true line) (IsFormed line)
Decides-formed line = fresh_rest (line_words line) (formed_from true line) (formed_means line true)

-- ---- the words of the language

named-is : {W : Type 0} (f : W → List ℕ) (ws : List W) (bytes : List ℕ) (w : W) → named f ws bytes ≡ Some w → bytes ≡ f w
named-is f [] bytes w e = absurd cc
named-is f (v ∷ ws) bytes w e = go (named-is f ws bytes w) (bytes_eq bytes (f v)) refl e where
  go : (named f ws bytes ≡ Some w → bytes ≡ f w) → (b : Bool) → bytes_eq bytes (f v) ≡ b → cond b (Some v) (named f ws bytes) ≡ Some w → bytes ≡ f w
  go next true is e = let same : v ≡ w = cc in (bytes_eq-Decides bytes (f v)).0 is ∙ ap f same
  go next false is e = next e

-- what is found is one of those that were looked through
named-one : {W : Type 0} (P : W → Type 0) (f : W → List ℕ) (ws : List W) (bytes : List ℕ) (w : W) → AllByRecursion P ws → named f ws bytes ≡ Some w → P w
named-one P f [] bytes w all e = absurd cc
named-one P f (v ∷ ws) bytes w all e = go (named-one P f ws bytes w all.1) (bytes_eq bytes (f v)) e where
  go : (named f ws bytes ≡ Some w → P w) → (b : Bool) → cond b (Some v) (named f ws bytes) ≡ Some w → P w
  go next true e = let same : v ≡ w = cc in subst P same all.0
  go next false e = next e

knows_all : (version : ℕ) → AllByRecursion (KnowsWord version) all_others
knows_all version = (tt, (tt, (tt, (tt, (tt, (tt, (tt, tt)))))))

knows_later : (version : ℕ) → AllByRecursion (KnowsWord version) (later_words version)
knows_later version = go (leb 2 version) refl where
  go : (b : Bool) → leb 2 version ≡ b → AllByRecursion (KnowsWord version) (cond b (words.Freeze ∷ []) [])
  go true is = (leb-true 2 version is, tt)
  go false is = tt

pub word_of-is : (version : ℕ) (bytes : List ℕ) (w : Keyword) → word_of version bytes ≡ Some w → KnowsWord version w × (bytes ≡ name w)
unfolding word_of name
word_of-is version bytes w e = go (named verb_name all_verbs bytes) (named name all_others bytes) (named setting_name all_settings bytes) (named name (later_words version) bytes) refl refl refl refl e where
  found : (v : Keyword) → v ≡ w → KnowsWord version v → bytes ≡ name v → KnowsWord version w × (bytes ≡ name w)
  found v same known is = (subst (λ (u : Keyword). KnowsWord version u) same known, is ∙ ap name same)

  go : (a : Option Verb) (b : Option Keyword) (c : Option Setting) (l : Option Keyword) → named verb_name all_verbs bytes ≡ a → named name all_others bytes ≡ b → named setting_name all_settings bytes ≡ c → named name (later_words version) bytes ≡ l → or_word (op_word a) (or_word b (or_word (setting_word c) l)) ≡ Some w → KnowsWord version w × (bytes ≡ name w)
  go (Some v) b c l x y z u e = let same : words.Op v ≡ w = cc in found (words.Op v) same tt (named-is verb_name all_verbs bytes v x)
  go None (Some v) c l x y z u e = let same : v ≡ w = cc in found v same (named-one (λ v. KnowsWord version v) name all_others bytes v (knows_all version) y) (named-is name all_others bytes v y)
  go None None None (Some v) x y z u e = let same : v ≡ w = cc in found v same (named-one (λ v. KnowsWord version v) name (later_words version) bytes v (knows_later version) u) (named-is name (later_words version) bytes v u)
  go None None (Some k) l x y z u e = let same : words.Setting k ≡ w = cc in found (words.Setting k) same tt (named-is setting_name all_settings bytes k z)
  go None None None None x y z u e = absurd cc

pub word_of-name : (version : ℕ) (w : Keyword) → KnowsWord version w → word_of version (name w) ≡ Some w
unfolding word_of name verb_name setting_name
word_of-name version words.Version known = refl
word_of-name version (words.Setting settings.Lanes) known = refl
word_of-name version (words.Setting settings.Domains) known = refl
word_of-name version (words.Setting settings.Slots) known = refl
word_of-name version (words.Setting settings.Superpages) known = refl
word_of-name version (words.Setting settings.Nursery) known = refl
word_of-name version (words.Setting settings.Buffer) known = refl
word_of-name version (words.Setting settings.Frames) known = refl
word_of-name version words.Phase known = refl
word_of-name version words.Turn known = refl
word_of-name version words.Lane known = refl
word_of-name version words.Give known = refl
word_of-name version words.Freeze known = rw (le-leb 2 version known) refl
word_of-name version words.End known = refl
word_of-name version words.Done known = refl
word_of-name version (words.Op verbs.New) known = refl
word_of-name version (words.Op verbs.Who) known = refl
word_of-name version (words.Op verbs.Len) known = refl
word_of-name version (words.Op verbs.Set) known = refl
word_of-name version (words.Op verbs.Cut) known = refl
word_of-name version (words.Op verbs.Link) known = refl
word_of-name version (words.Op verbs.Load) known = refl
word_of-name version (words.Op verbs.Copy) known = refl
word_of-name version (words.Op verbs.Clear) known = refl
word_of-name version (words.Op verbs.Same) known = refl

-- ---- numbers

pub own : IsNumeralModel (λ ds. all_ascii_digits ds ≡ true) (read_on 0)
own = numerals_by_fold _ (search rules) read_on (search rules)

digits_of-is : (word : List ℕ) (n : ℕ) → 0 < length word → (get_or word 0 0 ≡ 48 → length word ≡ 1) → digits_of word ≡ Some n → (word ≡ decimal n) × IsNumber n
unfolding digits_of
digits_of-is word n some lead e = go (all_ascii_digits word) (ltb (read_on 0 word) (2 ^ 63)) refl refl e where
  go : (a b : Bool) → all_ascii_digits word ≡ a → ltb (read_on 0 word) (2 ^ 63) ≡ b → cond (a && b) (Some (read_on 0 word)) None ≡ Some n → (word ≡ decimal n) × IsNumber n
  go true true digits small e =
      let same : read_on 0 word ≡ n = cc in
      let below : read_on 0 word < 2 ^ 63 = ltb-true _ _ small in
      let text : decimal (read_on 0 word) ≡ word = decimal-digits_value own word digits some lead (omega arith) in
      (sym text ∙ ap decimal same, rw (← same) below)
  go true false digits small e = absurd cc
  go false b digits small e = absurd cc

pub number_of-is : (word : List ℕ) (n : ℕ) → number_of word ≡ Some n → (word ≡ decimal n) × IsNumber n
unfolding number_of
number_of-is [] n e = absurd cc
number_of-is (b ∷ []) n e = digits_of-is (b ∷ []) n (omega arith) (λ _. refl) e
number_of-is (b ∷ c ∷ bs) n e = go (eqb b 48) refl e where
  go : (z : Bool) → eqb b 48 ≡ z → cond z None (digits_of (b ∷ c ∷ bs)) ≡ Some n → (b ∷ c ∷ bs ≡ decimal n) × IsNumber n
  go true lead e = absurd cc
  go false lead e = digits_of-is (b ∷ c ∷ bs) n (omega arith) (λ h. absurd (eqb-false b 48 lead h)) e

number_of-digits : (word : List ℕ) → 0 < length word → (get_or word 0 0 ≡ 48 → length word ≡ 1) → number_of word ≡ digits_of word
unfolding number_of
number_of-digits [] some lead = absurd (omega arith)
number_of-digits (b ∷ []) some lead = refl
number_of-digits (b ∷ c ∷ bs) some lead =
    elim (cases_Bool (eqb b 48)) [
      | inl is ↦ absurd (let h : suc (suc (length bs)) ≡ 1 = lead (eqb-true b 48 is) in omega arith)
      | inr other ↦ rw other refl
    ]

lead_of : (n : ℕ) → n < 2 ^ 63 → get_or (decimal n) 0 0 ≡ 48 → length (decimal n) ≡ 1
lead_of zero lt e = ap length (decimal_digit 0 (omega arith))
lead_of (suc n) lt e = absurd (let h = first_decimal (suc n) (omega arith) (omega arith) in omega arith)

pub number_of-decimal : (n : ℕ) → IsNumber n → number_of (decimal n) ≡ Some n
unfolding digits_of
number_of-decimal n lt =
    let digits : all_ascii_digits (decimal n) ≡ true = digits_decimal own n (omega arith) in
    let value : read_on 0 (decimal n) ≡ n = digits_value-decimal own n (omega arith) in
    let one : digits_of (decimal n) ≡ Some n = rw (digits, value, lt-ltb n (2 ^ 63) lt) refl in
    number_of-digits (decimal n) (decimal_nonempty n (omega arith)) (lead_of n lt) ∙ one

pub read_numbers-is : (ws : List (List ℕ)) (ns : List ℕ) → read_numbers ws ≡ Some ns → (ws ≡ map decimal ns) × AllByRecursion IsNumber ns
unfolding read_numbers
read_numbers-is [] ns e = let same : [] ≡ ns = cc in subst (λ (ns : List ℕ). ([] ≡ map decimal ns) × AllByRecursion IsNumber ns) same (refl, tt)
read_numbers-is (w ∷ ws) ns e = go (read_numbers-is ws) (number_of w) (read_numbers ws) refl refl e where
  go : ((ms : List ℕ) → read_numbers ws ≡ Some ms → (ws ≡ map decimal ms) × AllByRecursion IsNumber ms) → (a : Option ℕ) (b : Option (List ℕ)) → number_of w ≡ a → read_numbers ws ≡ b → both a b ≡ Some ns → (w ∷ ws ≡ map decimal ns) × AllByRecursion IsNumber ns
  go more None b x y e = absurd cc
  go more (Some n) None x y e = absurd cc
  go more (Some n) (Some ms) x y e =
      let first = number_of-is w n x in
      let rest = more ms y in
      let same : n ∷ ms ≡ ns = cc in
      subst (λ (ns : List ℕ). (w ∷ ws ≡ map decimal ns) × AllByRecursion IsNumber ns) same (rw (first.0, rest.0) refl, (first.1, rest.1))

pub read_numbers-decimal : (ns : List ℕ) → AllByRecursion IsNumber ns → read_numbers (map decimal ns) ≡ Some ns
unfolding read_numbers
read_numbers-decimal [] h = refl
read_numbers-decimal (n ∷ ns) h = rw (number_of-decimal n h.0, read_numbers-decimal ns h.1) refl

-- words that are numerals are those of some numbers
pub numerals : (ws : List (List ℕ)) → AllByRecursion IsNumeral ws → (ns : List ℕ) × (ws ≡ map decimal ns) × AllByRecursion IsNumber ns
numerals [] h = ([], refl, tt)
numerals (w ∷ ws) h =
    let rest = numerals ws h.1 in
    (h.0.0 ∷ rest.0, rw (h.0.2, rest.1) refl, (h.0.1, rest.2))

pub are_numerals : (ns : List ℕ) → AllByRecursion IsNumber ns → AllByRecursion IsNumeral (map decimal ns)
are_numerals [] h = tt
are_numerals (n ∷ ns) h = ((n, h.0, refl), are_numerals ns h.1)
