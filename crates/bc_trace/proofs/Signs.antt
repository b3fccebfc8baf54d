-- What the operand with a sign says that a turn may have.
use Rattle.std.proofs.Common.{◌≡◌, ℕ, ◌≤◌, ◌&&◌, ◌||◌, Bool, true, false, cond, eqb, leb, List, [], ◌∷◌, ◌++◌, length, map, Option, Some, None, refl, sym, ap, subst, ◌∙◌, inl, inr, arith}
use Rattle.std.specs.Prelude.{◌⊎◌}
use Rattle.std.specs.Char.{is_ascii_digit}
use Rattle.std.specs.List.{AllByRecursion}
use Rattle.std.specs.Str.{all_ascii_digits}
use Rattle.std.specs.Fmt.{decimal}
use Rattle.std.proofs.lemmas.Bool.{cases_Bool, and_parts, and_right, eqb-true, leb-true, le-leb, ne_eqb}
use Rattle.std.proofs.lemmas.Fmt.{digits_decimal}
use Rattle.bc_model.specs.WellFormed.{IsNumber}
use Rattle.bc_trace.specs.declared.line.Shift.{Shift}
use Rattle.bc_trace.specs.declared.line.Shift.TheVariants as shifts
use Rattle.bc_trace.specs.declared.words.Keyword.{Keyword}
use Rattle.bc_trace.specs.declared.words.Keyword.TheVariants as words
use Rattle.bc_trace.specs.Lines.{Line, version, setting, phase, turn, lane, op, give, freeze, end, done, word_of_line, shift_of, shift_words, operands, numbers_of}
use Rattle.bc_trace.specs.Grammar.{KnowsShift, IsCount}
use Rattle.bc_trace.specs.Faults.{IsNumeral, sign_of, counted, unsigned}
use Rattle.bc_trace.specs.Reading.{number_of, read_numbers, shift_by, read_shift, line_of}
use Rattle.bc_trace.proofs.Meaning.{own, number_of-is, number_of-decimal, read_numbers-is, read_numbers-decimal, numerals, are_numerals}
use Rattle.bc_trace.proofs.LineMeaning.{operands-line_of, shift_of-line_of}

-- the byte is a plus or a minus
abbrev pub is_sign : ℕ → Bool
is_sign b = eqb b 43 || eqb b 45

-- the operands are a turn's, the first has a sign, and the version has signs
pub record Signed (v : ℕ) (w : Keyword) (others : List (List ℕ)) : Type 0 where
  pub byte : ℕ
  pub digits : List ℕ
  pub rest : List (List ℕ)
  pub turns : w ≡ words.Turn
  pub parts : others ≡ (byte ∷ digits) ∷ rest
  pub later : 3 ≤ v
  pub sign : is_sign byte ≡ true

-- such operands, or none with a sign
pub cases_sign : (v : ℕ) (w : Keyword) (others : List (List ℕ)) → (sign_of v w others ≡ None) ⊎ Signed v w others
unfolding sign_of
cases_sign v words.Version others = inl refl
cases_sign v (words.Setting k) others = inl refl
cases_sign v words.Phase others = inl refl
cases_sign v words.Lane others = inl refl
cases_sign v words.Give others = inl refl
cases_sign v words.Freeze others = inl refl
cases_sign v words.End others = inl refl
cases_sign v words.Done others = inl refl
cases_sign v (words.Op o) others = inl refl
cases_sign v words.Turn [] = inl refl
cases_sign v words.Turn ([] ∷ ws) = inl refl
cases_sign v words.Turn ((b ∷ bs) ∷ ws) =
    elim (cases_Bool (leb 3 v && (eqb b 43 || eqb b 45))) [
      | inl on ↦
          let both = and_parts (leb 3 v) (eqb b 43 || eqb b 45) on in
          inr (record { byte = b; digits = bs; rest = ws; turns = refl; parts = refl; later = leb-true 3 v both.0; sign = both.1 })
      | inr off ↦ inl (rw off refl)
    ]

module _ (v : ℕ) (w : Keyword) (others : List (List ℕ)) (off : sign_of v w others ≡ None) where
  pub counted-plain : counted v w others ≡ others
  counted-plain = rw off refl

  pub unsigned-plain : unsigned v w others ≡ others
  unsigned-plain = rw off refl

  pub read_shift-plain : read_shift v w others ≡ Some shifts.Stays
  unfolding read_shift
  read_shift-plain = rw off refl

-- a turn's first operand with a sign
module _ (v b : ℕ) (bs : List ℕ) (ws : List (List ℕ)) (new : 3 ≤ v) (sign : is_sign b ≡ true) where
  sign_of-signed : sign_of v words.Turn ((b ∷ bs) ∷ ws) ≡ Some b
  unfolding sign_of
  sign_of-signed = rw (le-leb 3 v new, sign) refl

  pub counted-sign : counted v words.Turn ((b ∷ bs) ∷ ws) ≡ ws
  counted-sign = rw sign_of-signed refl

  pub unsigned-sign : unsigned v words.Turn ((b ∷ bs) ∷ ws) ≡ bs ∷ ws
  unsigned-sign = rw sign_of-signed refl

  pub read_shift-sign : read_shift v words.Turn ((b ∷ bs) ∷ ws) ≡ shift_by b (number_of bs)
  unfolding read_shift
  read_shift-sign = rw sign_of-signed refl

module _ {v : ℕ} {w : Keyword} {others : List (List ℕ)} (h : Signed v w others) where
  pub counted-signed : counted v w others ≡ h.rest
  counted-signed = rw (h.turns, h.parts) (counted-sign v h.byte h.digits h.rest h.later h.sign)

  pub unsigned-signed : unsigned v w others ≡ h.digits ∷ h.rest
  unsigned-signed = rw (h.turns, h.parts) (unsigned-sign v h.byte h.digits h.rest h.later h.sign)

  pub read_shift-signed : read_shift v w others ≡ shift_by h.byte (number_of h.digits)
  read_shift-signed = rw (h.turns, h.parts) (read_shift-sign v h.byte h.digits h.rest h.later h.sign)

-- ---- what is read is written with these words

-- all operands of a line, as they are written
abbrev pub operand_words : Line → List (List ℕ)
operand_words l = shift_words (shift_of l) ++ map decimal (operands l)

pub record Back (v : ℕ) (w : Keyword) (others : List (List ℕ)) (l : Line) : Type 0 where
  pub words : others ≡ operand_words l
  pub numbers : AllByRecursion IsNumber (numbers_of l)
  pub known : KnowsShift v (shift_of l)

back_plain : (v : ℕ) (w : Keyword) (others : List (List ℕ)) (ns : List ℕ) → read_numbers others ≡ Some ns → IsCount w (length ns) → Back v w others (line_of w shifts.Stays ns)
back_plain v w others ns numbers count =
    let facts = read_numbers-is others ns numbers in
    let stays = shift_of-line_of w ns in
    let same = operands-line_of w shifts.Stays ns count in
    record { words = rw (stays, same) facts.0; numbers = rw (stays, same) facts.1; known = rw stays tt }

-- the number after a sign, and the hints
module _ (v : ℕ) (bs : List ℕ) (ws : List (List ℕ)) (k : ℕ) (ns : List ℕ) (new : 3 ≤ v) (digits : (bs ≡ decimal k) × IsNumber k) (hints : (ws ≡ map decimal ns) × AllByRecursion IsNumber ns) where
  back_by : (b : ℕ) (minus : Bool) → eqb b 45 ≡ minus → is_sign b ≡ true → Back v words.Turn ((b ∷ bs) ∷ ws) (turn (cond minus (shifts.Withhold k) (shifts.Return k)) ns)
  back_by b true e sign = record { words = rw (eqb-true b 45 e, digits.0, hints.0) refl; numbers = (digits.1, hints.1); known = new }
  back_by b false e sign = record { words = rw (eqb-true b 43 (first (eqb b 43) (eqb b 45) e sign), digits.0, hints.0) refl; numbers = (digits.1, hints.1); known = new } where
    first : (x y : Bool) → y ≡ false → (x || y) ≡ true → x ≡ true
    first true y off on = refl
    first false y off on = absurd cc

back_signed : (v b : ℕ) (bs : List ℕ) (ws : List (List ℕ)) (shift : Shift) (ns : List ℕ) → 3 ≤ v → is_sign b ≡ true → shift_by b (number_of bs) ≡ Some shift → read_numbers ws ≡ Some ns → Back v words.Turn ((b ∷ bs) ∷ ws) (turn shift ns)
back_signed v b bs ws shift ns new sign is numbers = go (number_of bs) refl is where
  go : (o : Option ℕ) → number_of bs ≡ o → shift_by b o ≡ Some shift → Back v words.Turn ((b ∷ bs) ∷ ws) (turn shift ns)
  go None e is = absurd cc
  go (Some k) e is =
      let same : cond (eqb b 45) (shifts.Withhold k) (shifts.Return k) ≡ shift = cc in
      subst (λ (s : Shift). Back v words.Turn ((b ∷ bs) ∷ ws) (turn s ns)) same (back_by v bs ws k ns new (number_of-is bs k e) (read_numbers-is ws ns numbers) b (eqb b 45) refl sign)

pub words_back : (v : ℕ) (w : Keyword) (others : List (List ℕ)) (shift : Shift) (ns : List ℕ) → read_shift v w others ≡ Some shift → read_numbers (counted v w others) ≡ Some ns → IsCount w (length ns) → Back v w others (line_of w shift ns)
words_back v w others shift ns is numbers count =
    elim (cases_sign v w others) [
      | inl off ↦ plain off
      | inr h ↦ signed h
    ]
  where
    plain : sign_of v w others ≡ None → Back v w others (line_of w shift ns)
    plain off =
        let stays : Some shifts.Stays ≡ Some shift = sym (read_shift-plain v w others off) ∙ is in
        let same : shifts.Stays ≡ shift = cc in
        subst (λ (s : Shift). Back v w others (line_of w s ns)) same (back_plain v w others ns (ap read_numbers (sym (counted-plain v w others off)) ∙ numbers) count)

    signed : Signed v w others → Back v w others (line_of w shift ns)
    signed h = rw (h.turns, h.parts) (back_signed v h.byte h.digits h.rest shift ns h.later h.sign (sym (read_shift-signed h) ∙ is) (ap read_numbers (sym (counted-signed h)) ∙ numbers))

-- ---- what is written is read

pub low_digit : (b : ℕ) → is_ascii_digit b ≡ true → 48 ≤ b
low_digit b e = leb-true 48 b (and_parts (leb 48 b) (leb b 57) e).0

plain_digits : (v : ℕ) (bs : List ℕ) (ws : List (List ℕ)) → all_ascii_digits bs ≡ true → sign_of v words.Turn (bs ∷ ws) ≡ None
unfolding sign_of
plain_digits v [] ws e = refl
plain_digits v (b ∷ bs) ws e =
    let low = low_digit b (and_parts (is_ascii_digit b) (all_ascii_digits bs) e).0 in
    let isnt : is_sign b ≡ false = rw (ne_eqb b 43 (λ is. absurd (omega arith)), ne_eqb b 45 (λ is. absurd (omega arith))) refl in
    rw (and_right (leb 3 v) (is_sign b) isnt) refl

-- numbers have no sign
pub plain_numbers : (v : ℕ) (ns : List ℕ) → AllByRecursion IsNumber ns → sign_of v words.Turn (map decimal ns) ≡ None
unfolding sign_of
plain_numbers v [] h = refl
plain_numbers v (n ∷ ns) h = plain_digits v (decimal n) (map decimal ns) (digits_decimal own n (omega (arith, h.0)))

pub record Forth (v : ℕ) (l : Line) : Type 0 where
  pub plain : counted v (word_of_line l) (operand_words l) ≡ map decimal (operands l)
  pub shift : read_shift v (word_of_line l) (operand_words l) ≡ Some (shift_of l)

forth_turn : (v : ℕ) (shift : Shift) (hints : List ℕ) → KnowsShift v shift → AllByRecursion IsNumber (numbers_of (turn shift hints)) → Forth v (turn shift hints)
forth_turn v shifts.Stays hints known numbers =
    let off = plain_numbers v hints numbers in
    record { plain = counted-plain v words.Turn (map decimal hints) off; shift = read_shift-plain v words.Turn (map decimal hints) off }
forth_turn v (shifts.Withhold k) hints known numbers = record {
  plain = counted-sign v 45 (decimal k) (map decimal hints) known refl;
  shift = read_shift-sign v 45 (decimal k) (map decimal hints) known refl ∙ rw (number_of-decimal k numbers.0) refl;
}
forth_turn v (shifts.Return k) hints known numbers = record {
  plain = counted-sign v 43 (decimal k) (map decimal hints) known refl;
  shift = read_shift-sign v 43 (decimal k) (map decimal hints) known refl ∙ rw (number_of-decimal k numbers.0) refl;
}

pub words_forth : (v : ℕ) (l : Line) → KnowsShift v (shift_of l) → AllByRecursion IsNumber (numbers_of l) → Forth v l
unfolding sign_of read_shift
words_forth v (version n) known numbers = record { plain = refl; shift = refl }
words_forth v (setting k n) known numbers = record { plain = refl; shift = refl }
words_forth v phase known numbers = record { plain = refl; shift = refl }
words_forth v (turn shift hints) known numbers = forth_turn v shift hints known numbers
words_forth v (lane j) known numbers = record { plain = refl; shift = refl }
words_forth v (op o) known numbers = record { plain = refl; shift = refl }
words_forth v (give g) known numbers = record { plain = refl; shift = refl }
words_forth v (freeze d) known numbers = record { plain = refl; shift = refl }
words_forth v end known numbers = record { plain = refl; shift = refl }
words_forth v done known numbers = record { plain = refl; shift = refl }

-- ---- where something is no number

not_none : (others : List (List ℕ)) → read_numbers others ≡ None → ¬ AllByRecursion IsNumeral others
not_none others none h =
    let found = numerals others h in
    let some : read_numbers others ≡ Some found.0 = ap read_numbers found.1 ∙ read_numbers-decimal found.0 found.2 in
    absurd cc

-- the number after the sign is none
pub no_shift : (v : ℕ) (w : Keyword) (others : List (List ℕ)) → read_shift v w others ≡ None → ¬ AllByRecursion IsNumeral (unsigned v w others)
no_shift v w others none numerals =
    elim (cases_sign v w others) [
      | inl off ↦ let stays = read_shift-plain v w others off in absurd cc
      | inr h ↦
          let words : AllByRecursion IsNumeral (h.digits ∷ h.rest) = subst (λ (ws : List (List ℕ)). AllByRecursion IsNumeral ws) (unsigned-signed h) numerals in
          let n = words.0.0 in
          let some : number_of h.digits ≡ Some n = ap number_of words.0.2 ∙ number_of-decimal n words.0.1 in
          let found : read_shift v w others ≡ shift_by h.byte (Some n) = read_shift-signed h ∙ ap (λ o. shift_by h.byte o) some in
          absurd cc
    ]

-- a hint, or another operand, is none
pub no_number : (v : ℕ) (w : Keyword) (others : List (List ℕ)) → read_numbers (counted v w others) ≡ None → ¬ AllByRecursion IsNumeral (unsigned v w others)
no_number v w others none numerals =
    elim (cases_sign v w others) [
      | inl off ↦ not_none others (ap read_numbers (sym (counted-plain v w others off)) ∙ none) (subst (λ (ws : List (List ℕ)). AllByRecursion IsNumeral ws) (unsigned-plain v w others off) numerals)
      | inr h ↦
          let words : AllByRecursion IsNumeral (h.digits ∷ h.rest) = subst (λ (ws : List (List ℕ)). AllByRecursion IsNumeral ws) (unsigned-signed h) numerals in
          not_none h.rest (ap read_numbers (sym (counted-signed h)) ∙ none) words.1
    ]

-- where all are read, all are numbers
pub all_numerals : (v : ℕ) (w : Keyword) (others : List (List ℕ)) (shift : Shift) (ns : List ℕ) → read_shift v w others ≡ Some shift → read_numbers (counted v w others) ≡ Some ns → AllByRecursion IsNumeral (unsigned v w others)
all_numerals v w others shift ns is numbers =
    elim (cases_sign v w others) [
      | inl off ↦ subst (λ (ws : List (List ℕ)). AllByRecursion IsNumeral ws) (sym (unsigned-plain v w others off)) (read others (ap read_numbers (sym (counted-plain v w others off)) ∙ numbers))
      | inr h ↦ subst (λ (ws : List (List ℕ)). AllByRecursion IsNumeral ws) (sym (unsigned-signed h)) (first h (number_of h.digits) refl (sym (read_shift-signed h) ∙ is), read h.rest (ap read_numbers (sym (counted-signed h)) ∙ numbers))
    ]
  where
    read : (ws : List (List ℕ)) → read_numbers ws ≡ Some ns → AllByRecursion IsNumeral ws
    read ws e = let facts = read_numbers-is ws ns e in subst (λ (ws : List (List ℕ)). AllByRecursion IsNumeral ws) (sym facts.0) (are_numerals ns facts.1)

    first : (h : Signed v w others) (o : Option ℕ) → number_of h.digits ≡ o → shift_by h.byte o ≡ Some shift → IsNumeral h.digits
    first h None e is = absurd cc
    first h (Some k) e is = let facts = number_of-is h.digits k e in (k, facts.1, facts.0)
