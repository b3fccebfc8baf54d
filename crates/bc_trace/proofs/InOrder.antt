-- The tests of a line, one after the other.
use Rattle.std.proofs.Common.{◌≡◌, ℕ, ◌<◌, true, false, eqb, List, ◌∷◌, length, Option, Some, None, Err, refl, ◌∙◌}
use Rattle.bc_trace.specs.declared.fault.Cause.TheVariants as causes
use Rattle.bc_trace.specs.declared.grammar.Progress.{Progress}
use Rattle.bc_trace.specs.declared.words.Keyword.{Keyword}
use Rattle.bc_trace.specs.Grammar.{may_stand}
use Rattle.bc_trace.specs.declared.line.Shift.{Shift}
use Rattle.bc_trace.specs.Faults.{line_words, counted}
use Rattle.bc_trace.specs.Reading.{formed_from, word_of, has_count, read_shift, read_numbers, line_of, judge_line, judge_numbers, line_at}
use Rattle.bc_trace.proofs.Hints.{has_count-many}

pub line_at-unformed : (s : Progress) (line : List ℕ) → formed_from true line ≡ false → line_at s line ≡ Err causes.Form
unfolding line_at
line_at-unformed s line e = rw e refl

module _ (s : Progress) (line first : List ℕ) (others : List (List ℕ)) (formed : formed_from true line ≡ true) (parts : line_words line ≡ first ∷ others) where
  pub line_at-unknown : word_of s.version first ≡ None → line_at s line ≡ Err causes.Word
  unfolding line_at
  line_at-unknown e = rw (formed, parts, e) refl

  pub line_at-misplaced : (w : Keyword) → word_of s.version first ≡ Some w → may_stand w s.stage (eqb s.stood s.setup.lanes) ≡ false → line_at s line ≡ Err causes.Order
  unfolding line_at
  line_at-misplaced w e order = rw (formed, parts, e, order) refl

  pub line_at-miscounted : (w : Keyword) → word_of s.version first ≡ Some w → may_stand w s.stage (eqb s.stood s.setup.lanes) ≡ true → has_count w (length (counted s.version w others)) ≡ false → line_at s line ≡ Err causes.Form
  unfolding line_at
  line_at-miscounted w e stands count = rw (formed, parts, e, stands, count) refl

  pub line_at-many : (w : Keyword) → word_of s.version first ≡ Some w → may_stand w s.stage (eqb s.stood s.setup.lanes) ≡ true → 64 < length (counted s.version w others) → line_at s line ≡ Err causes.Form
  line_at-many w e stands many = line_at-miscounted w e stands (has_count-many w (length (counted s.version w others)) many)

  module _ (w : Keyword) (e : word_of s.version first ≡ Some w) (stands : may_stand w s.stage (eqb s.stood s.setup.lanes) ≡ true) (count : has_count w (length (counted s.version w others)) ≡ true) where
    line_at-judged : line_at s line ≡ judge_numbers s w (read_shift s.version w others) (read_numbers (counted s.version w others))
    unfolding line_at
    line_at-judged = rw (formed, parts, e, stands, count) refl

    pub line_at-no_shift : read_shift s.version w others ≡ None → line_at s line ≡ Err causes.Number
    line_at-no_shift none = line_at-judged ∙ rw none refl

    pub line_at-no_numbers : read_numbers (counted s.version w others) ≡ None → line_at s line ≡ Err causes.Number
    line_at-no_numbers none = line_at-judged ∙ rw none (go (read_shift s.version w others)) where
      go : (shift : Option Shift) → judge_numbers s w shift None ≡ Err causes.Number
      go None = refl
      go (Some shift) = refl

    pub line_at-says : (shift : Shift) (ns : List ℕ) → read_shift s.version w others ≡ Some shift → read_numbers (counted s.version w others) ≡ Some ns → line_at s line ≡ judge_line s (line_of w shift ns)
    line_at-says shift ns is numbers = line_at-judged ∙ rw (is, numbers) refl
