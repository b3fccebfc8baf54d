-- A line passes all tests, or one of them is the first that it fails; the reader says which.
use Rattle.std.proofs.Common.{◌≡◌, ℕ, ◌<◌, Bool, true, false, eqb, leb, ◌≤◌, List, [], ◌∷◌, ◌++◌, length, map, Option, Some, None, Ok, Err, refl, sym, ap, subst, ◌∙◌, inl, inr, arith}
use Rattle.std.specs.Prelude.{◌⊎◌}
use Rattle.std.specs.Bool.{Decides}
use Rattle.std.specs.List.{AllByRecursion, flat_map, join_with_byte, list_all}
use Rattle.std.specs.Fmt.{decimal}
use Rattle.std.proofs.lemmas.Bool.{cases_Bool, both_ways, false_from_ne_true, and_parts, ne_eqb, leb-true, lt-leb}
use Rattle.std.specs.Char.{is_ascii_digit}
use Rattle.std.specs.Str.{all_ascii_digits}
use Rattle.std.proofs.lemmas.Fmt.{decimal_nonempty, digits_decimal}
use Rattle.std.proofs.lemmas.List.Elements.{All-from_recursion}
use Rattle.std.proofs.lemmas.Bool.Decides.{not_from_Decides}
use Rattle.std.proofs.lemmas.List.{length-map, append-nil}
use Rattle.std.proofs.lemmas.List.Splits.{join_with_byte-slice_split, slice_split_at, slice_split_none}
use Rattle.bc_model.specs.WellFormed.{IsWithin, IsNumber}
use Rattle.bc_trace.specs.declared.fault.Cause.{Cause}
use Rattle.bc_trace.specs.declared.fault.Cause.TheVariants as causes
use Rattle.bc_trace.specs.declared.grammar.Progress.{Progress}
use Rattle.bc_trace.specs.declared.line.Shift.{Shift}
use Rattle.bc_trace.specs.declared.line.Shift.TheVariants as shifts
use Rattle.bc_trace.specs.declared.words.Setting.TheVariants as settings
use Rattle.bc_trace.specs.declared.words.Verb.TheVariants as verbs
use Rattle.bc_trace.specs.declared.words.Keyword.{Keyword}
use Rattle.bc_trace.specs.declared.words.Keyword.TheVariants as words
use Rattle.bc_trace.specs.Words.{name, verb_name, setting_name}
use Rattle.bc_trace.specs.Lines.{Line, word_of_line, shift_of, shift_words, shift_numbers, operands, numbers_of, spelling}
use Rattle.bc_trace.specs.Grammar.{IsLineOf, may_stand, MayStand, IsCount, Passes}
use Rattle.bc_trace.specs.Faults.{line_words, IsWord, IsFormed, BeginsWith, counted, unsigned, IsNumeral, WordFails, OrderFails, CountFails, NumberFails, IsReadable, RangeFails, FramesFails, Fails}
use Rattle.bc_trace.specs.Reading.{is_within, formed_from, word_of, has_count, read_shift, read_numbers, line_of, in_range, frames_fit, judge_line, line_at}
use Rattle.bc_trace.proofs.Operands.{line_words-some}
use Rattle.bc_trace.proofs.InOrder.{line_at-unformed, line_at-unknown, line_at-misplaced, line_at-miscounted, line_at-no_shift, line_at-no_numbers, line_at-says}
use Rattle.bc_trace.proofs.Meaning.{own, Decides-within, Decides-formed, word_of-is, word_of-name, read_numbers-is, read_numbers-decimal}
use Rattle.bc_trace.proofs.Signs.{operand_words, words_back, words_forth, no_shift, no_number, all_numerals}
use Rattle.bc_trace.proofs.LineMeaning.{Decides-count, word_of_line-line_of, operands-line_of, line_of-line, Decides-range, Decides-frames}

cases_Option : {A : Type 0} (o : Option A) → (o ≡ None) ⊎ ((x : A) × (o ≡ Some x))
cases_Option None = inl refl
cases_Option (Some x) = inr (x, refl)

pub cases_parts : (ws : List (List ℕ)) → 0 < length ws → (first : List ℕ) × (others : List (List ℕ)) × (ws ≡ first ∷ others)
cases_parts [] some = absurd (omega arith)
cases_parts (w ∷ ws) some = (w, ws, refl)

-- ---- words with single spaces between them

joined : (first : List ℕ) (ns : List ℕ) → join_with_byte 32 (first ∷ map decimal ns) ≡ first ++ flat_map (λ n. 32 ∷ decimal n) ns
joined first [] = sym (append-nil first)
joined first (n ∷ ns) = ap (λ (t : List ℕ). first ++ 32 ∷ t) (joined (decimal n) ns)

-- a word more
joined_more : (word : List ℕ) (ns : List ℕ) → join_with_byte 32 (word ∷ map decimal ns) ≡ (word ++ []) ++ flat_map (λ n. 32 ∷ decimal n) ns
joined_more word ns = joined word ns ∙ ap (λ (t : List ℕ). t ++ flat_map (λ n. 32 ∷ decimal n) ns) (sym (append-nil word))

joined_shift : (first : List ℕ) (shift : Shift) (ns : List ℕ) → join_with_byte 32 (first ∷ (shift_words shift ++ map decimal ns)) ≡ first ++ (flat_map (λ word. 32 ∷ word) (shift_words shift) ++ flat_map (λ n. 32 ∷ decimal n) ns)
joined_shift first shifts.Stays ns = joined first ns
joined_shift first (shifts.Withhold k) ns = ap (λ (t : List ℕ). first ++ 32 ∷ t) (joined_more (45 ∷ decimal k) ns)
joined_shift first (shifts.Return k) ns = ap (λ (t : List ℕ). first ++ 32 ∷ t) (joined_more (43 ∷ decimal k) ns)

pub spelled : (line : List ℕ) (w : Keyword) (shift : Shift) (ns : List ℕ) → line_words line ≡ name w ∷ (shift_words shift ++ map decimal ns) → line ≡ spelling w shift ns
unfolding spelling
spelled line w shift ns e = sym (join_with_byte-slice_split 32 line) ∙ ap (λ (ws : List (List ℕ)). join_with_byte 32 ws) e ∙ joined_shift (name w) shift ns

no_space : (bs : List ℕ) → AllByRecursion (IsWithin 33 126) bs → AllByRecursion (λ b. eqb b 32 ≡ false) bs
no_space [] h = tt
no_space (b ∷ bs) h = (ne_eqb b 32 (omega (arith, h.0)), no_space bs h.1)

pub visible : (w : List ℕ) → IsWord w → AllByRecursion (IsWithin 33 126) w
visible [] h = tt
visible (b ∷ bs) h = h

cut_word : (w rest : List ℕ) → IsWord w → line_words (w ++ 32 ∷ rest) ≡ w ∷ line_words rest
cut_word w rest h = slice_split_at (λ b. eqb b 32) w 32 rest (All-from_recursion (λ b. eqb b 32 ≡ false) w (no_space w (visible w h))) refl

last_word : (w : List ℕ) → IsWord w → line_words w ≡ w ∷ []
last_word w h = slice_split_none (λ b. eqb b 32) w (All-from_recursion (λ b. eqb b 32 ≡ false) w (no_space w (visible w h)))

-- what is joined is cut again
cut_again : (first : List ℕ) (others : List (List ℕ)) → IsWord first → AllByRecursion IsWord others → line_words (join_with_byte 32 (first ∷ others)) ≡ first ∷ others
cut_again first [] h hs = last_word first h
cut_again first (w ∷ ws) h hs = cut_word first (join_with_byte 32 (w ∷ ws)) h ∙ ap (λ (ws : List (List ℕ)). first ∷ ws) (cut_again w ws hs.0 hs.1)

-- ---- names and numerals are words

abbrev is_word : List ℕ → Bool
is_word [] = false
is_word (b ∷ bs) = list_all (λ b. is_within 33 126 b) (b ∷ bs)

all_visible : (bs : List ℕ) → list_all (λ b. is_within 33 126 b) bs ≡ true → AllByRecursion (IsWithin 33 126) bs
all_visible [] e = tt
all_visible (b ∷ bs) e =
    let both = and_parts (is_within 33 126 b) (list_all (λ b. is_within 33 126 b) bs) e in
    ((Decides-within 33 126 b).0 both.0, all_visible bs both.1)

word_from : (bs : List ℕ) → is_word bs ≡ true → IsWord bs
word_from [] e = absurd cc
word_from (b ∷ bs) e = all_visible (b ∷ bs) e

is_word-name : (w : Keyword) → is_word (name w) ≡ true
unfolding name verb_name setting_name
is_word-name words.Version = refl
is_word-name (words.Setting settings.Lanes) = refl
is_word-name (words.Setting settings.Domains) = refl
is_word-name (words.Setting settings.Slots) = refl
is_word-name (words.Setting settings.Superpages) = refl
is_word-name (words.Setting settings.Nursery) = refl
is_word-name (words.Setting settings.Buffer) = refl
is_word-name (words.Setting settings.Frames) = refl
is_word-name words.Phase = refl
is_word-name words.Turn = refl
is_word-name words.Lane = refl
is_word-name words.Give = refl
is_word-name words.Freeze = refl
is_word-name words.End = refl
is_word-name words.Done = refl
is_word-name (words.Op verbs.New) = refl
is_word-name (words.Op verbs.Who) = refl
is_word-name (words.Op verbs.Len) = refl
is_word-name (words.Op verbs.Set) = refl
is_word-name (words.Op verbs.Cut) = refl
is_word-name (words.Op verbs.Link) = refl
is_word-name (words.Op verbs.Load) = refl
is_word-name (words.Op verbs.Copy) = refl
is_word-name (words.Op verbs.Clear) = refl
is_word-name (words.Op verbs.Same) = refl

pub IsWord-name : (w : Keyword) → IsWord (name w)
IsWord-name w = word_from (name w) (is_word-name w)

digit_visible : (b : ℕ) → is_ascii_digit b ≡ true → IsWithin 33 126 b
digit_visible b e =
    let both = and_parts (leb 48 b) (leb b 57) e in
    let low : 48 ≤ b = leb-true 48 b both.0 in
    let high : b ≤ 57 = leb-true b 57 both.1 in
    (omega arith, omega arith)

digits_visible : (bs : List ℕ) → all_ascii_digits bs ≡ true → AllByRecursion (IsWithin 33 126) bs
digits_visible [] e = tt
digits_visible (b ∷ bs) e =
    let both = and_parts (is_ascii_digit b) (all_ascii_digits bs) e in
    (digit_visible b both.0, digits_visible bs both.1)

word_made : (bs : List ℕ) → 0 < length bs → AllByRecursion (IsWithin 33 126) bs → IsWord bs
word_made [] some h = absurd (omega arith)
word_made (b ∷ bs) some h = h

pub IsWord-decimal : (n : ℕ) → IsNumber n → IsWord (decimal n)
IsWord-decimal n lt = word_made (decimal n) (decimal_nonempty n (omega arith)) (digits_visible (decimal n) (digits_decimal own n (omega arith)))

pub are_words : (ns : List ℕ) → AllByRecursion IsNumber ns → AllByRecursion IsWord (map decimal ns)
are_words [] h = tt
are_words (n ∷ ns) h = (IsWord-decimal n h.0, are_words ns h.1)

signed_word : (b k : ℕ) → IsWithin 33 126 b → IsNumber k → IsWord (b ∷ decimal k)
signed_word b k sign number = (sign, visible (decimal k) (IsWord-decimal k number))

-- so are all operands
pub are_operands : (shift : Shift) (ns : List ℕ) → AllByRecursion IsNumber (shift_numbers shift ++ ns) → AllByRecursion IsWord (shift_words shift ++ map decimal ns)
are_operands shifts.Stays ns h = are_words ns h
are_operands (shifts.Withhold k) ns h = (signed_word 45 k (omega arith, omega arith) h.0, are_words ns h.1)
are_operands (shifts.Return k) ns h = (signed_word 43 k (omega arith, omega arith) h.0, are_words ns h.1)

module _ (w : Keyword) (shift : Shift) (ns : List ℕ) (fits : AllByRecursion IsNumber (shift_numbers shift ++ ns)) where
  pub line_words-spelling : line_words (spelling w shift ns) ≡ name w ∷ (shift_words shift ++ map decimal ns)
  unfolding spelling
  line_words-spelling = ap line_words (sym (joined_shift (name w) shift ns)) ∙ cut_again (name w) (shift_words shift ++ map decimal ns) (IsWord-name w) (are_operands shift ns fits)

  pub IsFormed-spelling : IsFormed (spelling w shift ns)
  IsFormed-spelling = rw line_words-spelling (IsWord-name w, are_operands shift ns fits)

-- ---- a line that passes is read again

all_behind : (xs ys : List ℕ) → AllByRecursion IsNumber (xs ++ ys) → AllByRecursion IsNumber ys
all_behind [] ys h = h
all_behind (x ∷ xs) ys h = all_behind xs ys h.1

says_again : (s : Progress) (l : Line) → IsLineOf s.version l → MayStand s (word_of_line l) → IsCount (word_of_line l) (length (operands l)) → AllByRecursion IsNumber (numbers_of l) → line_at s (spelling (word_of_line l) (shift_of l) (operands l)) ≡ judge_line s l
says_again s l known stands right fits =
    let w = word_of_line l in
    let shift = shift_of l in
    let ns = operands l in
    let line = spelling w shift ns in
    let forth = words_forth s.version l known.1 fits in
    let count : has_count w (length (counted s.version w (operand_words l))) ≡ true = rw (forth.plain, length-map ns decimal) ((Decides-count w (length ns)).1 right) in
    let numbers : read_numbers (counted s.version w (operand_words l)) ≡ Some ns = ap read_numbers forth.plain ∙ read_numbers-decimal ns (all_behind (shift_numbers shift) ns fits) in
    line_at-says s line (name w) (operand_words l) ((Decides-formed line).1 (IsFormed-spelling w shift ns fits)) (line_words-spelling w shift ns fits) w (word_of-name s.version w known.0) stands count shift ns forth.shift numbers
    ∙ ap (λ l. judge_line s l) (line_of-line l)

pub read_again : (s : Progress) (l : Line) → Passes s l → line_at s (spelling (word_of_line l) (shift_of l) (operands l)) ≡ Ok l
unfolding judge_line
read_again s l h = says_again s l h.known h.stands h.count h.numbers ∙ rw ((Decides-range s l).1 h.range, (Decides-frames s l).1 h.frames) refl

-- ---- the verdict on a line

abbrev pub Judgement : Progress → List ℕ → Type 0
Judgement s line = ((l : Line) × (line_at s line ≡ Ok l) × (line ≡ spelling (word_of_line l) (shift_of l) (operands l)) × Passes s l) ⊎ ((cause : Cause) × (line_at s line ≡ Err cause) × Fails s line cause)

no_word : (s : Progress) (line first : List ℕ) (others more : List (List ℕ)) (w : Keyword) → line_words line ≡ first ∷ others → word_of s.version first ≡ None → ¬ BeginsWith s line w more
no_word s line first others more w parts none h =
    let both : first ∷ others ≡ name w ∷ more = sym parts ∙ h.1 in
    let same : first ≡ name w = cc in
    let some : word_of s.version first ≡ Some w = rw same (word_of-name s.version w h.0) in
    absurd cc

no_freeze : (version : ℕ) → version < 2 → word_of version (name words.Freeze) ≡ None
unfolding word_of name verb_name setting_name
no_freeze version old = rw (lt-leb 2 version old) refl

-- the word of a later version
pub freeze_unknown : (s : Progress) (line : List ℕ) (others : List (List ℕ)) → s.version < 2 → IsFormed line → line_words line ≡ name words.Freeze ∷ others → WordFails s line
freeze_unknown s line others old formed parts = record { formed = formed; unknown = λ w more h. no_word s line (name words.Freeze) others more w parts (no_freeze s.version old) h }

-- a line whose words and count are right, and which is readable
module _ (s : Progress) (line : List ℕ) where
  judged_line : (l : Line) → line_at s line ≡ judge_line s l → IsReadable s line l → Judgement s line
  unfolding judge_line
  judged_line l e readable =
      elim (cases_Bool (in_range s l)) [
        | inl range ↦ elim (cases_Bool (frames_fit s l)) [
          | inl frames ↦ inl (l, e ∙ rw (range, frames) refl, readable.text, record { known = readable.known; stands = readable.stands; count = readable.count; numbers = readable.numbers; range = (Decides-range s l).0 range; frames = (Decides-frames s l).0 frames })
          | inr misfit ↦ inr (causes.Frames, e ∙ rw (range, misfit) refl, record { says = l; readable = readable; range = (Decides-range s l).0 range; frames = not_from_Decides (frames_fit s l) (Decides-frames s l) misfit })
        ]
        | inr out ↦ inr (causes.Range, e ∙ rw out refl, record { says = l; readable = readable; range = not_from_Decides (in_range s l) (Decides-range s l) out })
      ]

  module _ (first : List ℕ) (others : List (List ℕ)) (formed : formed_from true line ≡ true) (parts : line_words line ≡ first ∷ others) where
    module _ (w : Keyword) (is : word_of s.version first ≡ Some w) where
      begins : BeginsWith s line w others
      begins = let found = word_of-is s.version first w is in (found.0, parts ∙ ap (λ (v : List ℕ). v ∷ others) found.1)

      abbrev its : List (List ℕ)
      its = counted s.version w others

      judged_numbers : (stands : may_stand w s.stage (eqb s.stood s.setup.lanes) ≡ true) (count : has_count w (length (counted s.version w others)) ≡ true) (shift : Shift) (ns : List ℕ) → read_shift s.version w others ≡ Some shift → read_numbers (counted s.version w others) ≡ Some ns → Judgement s line
      judged_numbers stands count shift ns signs numbers =
          let facts = read_numbers-is (counted s.version w others) ns numbers in
          let same : length (counted s.version w others) ≡ length ns = ap (λ (ws : List (List ℕ)). length ws) facts.0 ∙ length-map ns decimal in
          let right : IsCount w (length ns) = subst (λ n. IsCount w n) same ((Decides-count w (length (counted s.version w others))).0 count) in
          let l = line_of w shift ns in
          let back = words_back s.version w others shift ns signs numbers right in
          let text : line ≡ spelling w (shift_of l) (operands l) = spelled line w (shift_of l) (operands l) (begins.1 ∙ ap (λ (ws : List (List ℕ)). name w ∷ ws) back.words) in
          let w-is = word_of_line-line_of w shift ns in
          let ns-is = operands-line_of w shift ns right in
          judged_line l (line_at-says s line first others formed parts w is stands count shift ns signs numbers) (record {
            text = rw w-is text;
            known = (rw w-is begins.0, back.known);
            stands = rw w-is stands;
            count = rw (w-is, ns-is) right;
            numbers = back.numbers;
          })

      no_numeral : may_stand w s.stage (eqb s.stood s.setup.lanes) ≡ true → has_count w (length (counted s.version w others)) ≡ true → ¬ AllByRecursion IsNumeral (unsigned s.version w others) → NumberFails s line
      no_numeral stands count bad = record { formed = (Decides-formed line).0 formed; word = w; others = others; begins = begins; stands = stands; count = (Decides-count w (length (counted s.version w others))).0 count; number = bad }

      judged_shift : may_stand w s.stage (eqb s.stood s.setup.lanes) ≡ true → has_count w (length (counted s.version w others)) ≡ true → Judgement s line
      judged_shift stands count =
          elim (cases_Option (read_shift s.version w others)) [
            | inl none ↦ inr (causes.Number, line_at-no_shift s line first others formed parts w is stands count none, no_numeral stands count (no_shift s.version w others none))
            | inr (shift, signs) ↦ elim (cases_Option (read_numbers (counted s.version w others))) [
              | inl none ↦ inr (causes.Number, line_at-no_numbers s line first others formed parts w is stands count none, no_numeral stands count (no_number s.version w others none))
              | inr (ns, numbers) ↦ judged_numbers stands count shift ns signs numbers
            ]
          ]

      judged_word : Judgement s line
      judged_word =
          elim (cases_Bool (may_stand w s.stage (eqb s.stood s.setup.lanes))) [
            | inr misplaced ↦ inr (causes.Order, line_at-misplaced s line first others formed parts w is misplaced, record { formed = (Decides-formed line).0 formed; word = w; others = others; begins = begins; order = λ h. both_ways _ misplaced h })
            | inl stands ↦ elim (cases_Bool (has_count w (length its))) [
              | inr miscounted ↦ inr (causes.Form, line_at-miscounted s line first others formed parts w is stands miscounted, inr (record { formed = (Decides-formed line).0 formed; word = w; others = others; begins = begins; stands = stands; count = not_from_Decides (has_count w (length its)) (Decides-count w (length its)) miscounted }))
              | inl count ↦ judged_shift stands count
            ]
          ]

    judged_words : Judgement s line
    judged_words =
        elim (cases_Option (word_of s.version first)) [
          | inl none ↦ inr (causes.Word, line_at-unknown s line first others formed parts none, record { formed = (Decides-formed line).0 formed; unknown = λ w more h. no_word s line first others more w parts none h })
          | inr (w, is) ↦ judged_word w is
        ]

  pub judged : Judgement s line
  judged =
      elim (cases_Bool (formed_from true line)) [
        | inr unformed ↦ inr (causes.Form, line_at-unformed s line unformed, inl (not_from_Decides (formed_from true line) (Decides-formed line) unformed))
        | inl formed ↦ let cut = cases_parts (line_words line) (line_words-some line) in judged_words cut.0 cut.1 formed cut.2
      ]

-- ---- the first test that fails gives the reader's cause

false_from : {P : Type 0} (r : Bool) → Decides r P → ¬ P → r ≡ false
false_from r h fails = false_from_ne_true r (λ e. fails (h.0 e))

module _ (s : Progress) (line : List ℕ) where
  fails_count : CountFails s line → line_at s line ≡ Err causes.Form
  fails_count h =
      let its = counted s.version h.word h.others in
      line_at-miscounted s line (name h.word) h.others ((Decides-formed line).1 h.formed) h.begins.1 h.word (word_of-name s.version h.word h.begins.0) h.stands (false_from (has_count h.word (length its)) (Decides-count h.word (length its)) h.count)

  fails_word : WordFails s line → line_at s line ≡ Err causes.Word
  fails_word h =
      let cut = cases_parts (line_words line) (line_words-some line) in
      elim (cases_Option (word_of s.version cut.0)) [
        | inl none ↦ line_at-unknown s line cut.0 cut.1 ((Decides-formed line).1 h.formed) cut.2 none
        | inr (w, is) ↦ let found = word_of-is s.version cut.0 w is in absurd (h.unknown w cut.1 (found.0, cut.2 ∙ ap (λ (v : List ℕ). v ∷ cut.1) found.1))
      ]

  fails_order : OrderFails s line → line_at s line ≡ Err causes.Order
  fails_order h = line_at-misplaced s line (name h.word) h.others ((Decides-formed line).1 h.formed) h.begins.1 h.word (word_of-name s.version h.word h.begins.0) (false_from_ne_true (may_stand h.word s.stage (eqb s.stood s.setup.lanes)) h.order)

  fails_number : NumberFails s line → line_at s line ≡ Err causes.Number
  fails_number h =
      let formed = (Decides-formed line).1 h.formed in
      let is = word_of-name s.version h.word h.begins.0 in
      let count = (Decides-count h.word (length (counted s.version h.word h.others))).1 h.count in
      elim (cases_Option (read_shift s.version h.word h.others)) [
        | inl none ↦ line_at-no_shift s line (name h.word) h.others formed h.begins.1 h.word is h.stands count none
        | inr (shift, signs) ↦ elim (cases_Option (read_numbers (counted s.version h.word h.others))) [
          | inl none ↦ line_at-no_numbers s line (name h.word) h.others formed h.begins.1 h.word is h.stands count none
          | inr (ns, numbers) ↦ absurd (h.number (all_numerals s.version h.word h.others shift ns signs numbers))
        ]
      ]

  fails_range : RangeFails s line → line_at s line ≡ Err causes.Range
  unfolding judge_line
  fails_range h =
      let l = h.says in
      ap (λ (line : List ℕ). line_at s line) h.readable.text ∙ says_again s l h.readable.known h.readable.stands h.readable.count h.readable.numbers
      ∙ rw (false_from (in_range s l) (Decides-range s l) h.range) refl

  fails_frames : FramesFails s line → line_at s line ≡ Err causes.Frames
  unfolding judge_line
  fails_frames h =
      let l = h.says in
      ap (λ (line : List ℕ). line_at s line) h.readable.text ∙ says_again s l h.readable.known h.readable.stands h.readable.count h.readable.numbers
      ∙ rw ((Decides-range s l).1 h.range, false_from (frames_fit s l) (Decides-frames s l) h.frames) refl

  fails_form : (¬ IsFormed line ⊎ CountFails s line) → line_at s line ≡ Err causes.Form
  fails_form (inl h) = line_at-unformed s line (false_from (formed_from true line) (Decides-formed line) h)
  fails_form (inr h) = fails_count h

  pub fails_read : (cause : Cause) → Fails s line cause → line_at s line ≡ Err cause
  fails_read causes.Form h = fails_form h
  fails_read causes.Word h = fails_word h
  fails_read causes.Order h = fails_order h
  fails_read causes.Number h = fails_number h
  fails_read causes.Range h = fails_range h
  fails_read causes.Frames h = fails_frames h
  fails_read causes.End h = absurd h
