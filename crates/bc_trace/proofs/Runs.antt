-- Reading, one line after the other.
use Rattle.std.proofs.Common.{◌≡◌, ℕ, ◌+◌, ◌<◌, Bool, true, false, cond, eqb, List, [], ◌∷◌, length, Option, Some, None, Result, Ok, Err, refl, sym, ap, ◌∙◌, arith}
use Rattle.std.proofs.lemmas.List.Splits.{length-slice_split}
use Rattle.bc_model.specs.Lists.{TraceLists}
use Rattle.bc_trace.specs.declared.fault.Cause.{Cause}
use Rattle.bc_trace.specs.declared.fault.Cause.TheVariants as causes
use Rattle.bc_trace.specs.declared.fault.TraceFault.{TraceFault}
use Rattle.bc_trace.specs.declared.grammar.Progress.{Progress}
use Rattle.bc_trace.specs.declared.words.Keyword.{Keyword}
use Rattle.bc_trace.specs.Lines.{Line}
use Rattle.bc_trace.specs.Grammar.{may_stand}
use Rattle.bc_trace.specs.declared.line.Shift.{Shift}
use Rattle.bc_trace.specs.Faults.{line_words, counted}
use Rattle.bc_trace.specs.Said.{IsSmall}
use Rattle.bc_trace.proofs.Ranges.{IsSmall-after}
use Rattle.bc_trace.specs.Drafts.{DraftLists, empty_draft, put}
use Rattle.bc_trace.specs.Reading.{formed_from, word_of, has_count, in_range, frames_fit, read_shift, read_numbers, line_of, judge_line, judge_numbers, judge_word, judge_words, line_at, lines_of, fault, ended, reading, read_of}

pub lines_of-some : (bytes : List ℕ) → 0 < length (lines_of bytes)
lines_of-some bytes = omega (arith, length-slice_split (λ b. eqb b 10) bytes)

module _ (d : DraftLists) (n : ℕ) (line : List ℕ) where
  pub reading-go : (parts : List (List ℕ)) (l : Line) → 0 < length parts → line_at d.progress line ≡ Ok l → reading d n (line ∷ parts) ≡ reading (put l d) (n + 1) parts
  unfolding reading
  reading-go [] l some e = absurd (omega arith)
  reading-go (next ∷ parts) l some e = rw e refl

  pub reading-stop : (parts : List (List ℕ)) (cause : Cause) → 0 < length parts → line_at d.progress line ≡ Err cause → reading d n (line ∷ parts) ≡ Err (fault (n + 1) cause)
  unfolding reading
  reading-stop [] cause some e = absurd (omega arith)
  reading-stop (next ∷ parts) cause some e = rw e refl

  pub reading-end : reading d n (line ∷ []) ≡ ended d n line
  unfolding reading
  reading-end = refl

pub read_of-is : (bytes : List ℕ) → read_of bytes ≡ reading empty_draft 0 (lines_of bytes)
unfolding read_of
read_of-is bytes = refl

-- a line that says something is in range

judge_line-range : (s : Progress) (l says : Line) → judge_line s l ≡ Ok says → in_range s says ≡ true
unfolding judge_line
judge_line-range s l says e = go (in_range s l) (frames_fit s l) refl e where
  go : (a b : Bool) → in_range s l ≡ a → cond a (cond b (Ok l) (Err causes.Frames)) (Err causes.Range) ≡ Ok says → in_range s says ≡ true
  go false b is e = absurd cc
  go true false is e = absurd cc
  go true true is e = let same : l ≡ says = cc in rw (← same) is

judge_numbers-range : (s : Progress) (w : Keyword) (shift : Option Shift) (ns : Option (List ℕ)) (says : Line) → judge_numbers s w shift ns ≡ Ok says → in_range s says ≡ true
judge_numbers-range s w None ns says e = absurd cc
judge_numbers-range s w (Some shift) None says e = absurd cc
judge_numbers-range s w (Some shift) (Some ns) says e = judge_line-range s (line_of w shift ns) says e

judge_word-range : (s : Progress) (o : Option Keyword) (others : List (List ℕ)) (says : Line) → judge_word s o others ≡ Ok says → in_range s says ≡ true
judge_word-range s None others says e = absurd cc
judge_word-range s (Some w) others says e = go (may_stand w s.stage (eqb s.stood s.setup.lanes)) (has_count w (length (counted s.version w others))) e where
  go : (a b : Bool) → cond a (cond b (judge_numbers s w (read_shift s.version w others) (read_numbers (counted s.version w others))) (Err causes.Form)) (Err causes.Order) ≡ Ok says → in_range s says ≡ true
  go false b e = absurd cc
  go true false e = absurd cc
  go true true e = judge_numbers-range s w (read_shift s.version w others) (read_numbers (counted s.version w others)) says e

judge_words-range : (s : Progress) (ws : List (List ℕ)) (says : Line) → judge_words s ws ≡ Ok says → in_range s says ≡ true
judge_words-range s [] says e = absurd cc
judge_words-range s (first ∷ others) says e = judge_word-range s (word_of s.version first) others says e

pub line_at-range : (s : Progress) (line : List ℕ) (says : Line) → line_at s line ≡ Ok says → in_range s says ≡ true
unfolding line_at
line_at-range s line says e = go (formed_from true line) e where
  go : (b : Bool) → cond b (judge_words s (line_words line)) (Err causes.Form) ≡ Ok says → in_range s says ≡ true
  go false e = absurd cc
  go true e = judge_words-range s (line_words line) says e

-- ---- the loop of the reader

pub went_on : (d d' : DraftLists) (n : ℕ) (line rest more : List ℕ) (says : Line) (total : Result TraceLists TraceFault) → lines_of rest ≡ line ∷ lines_of more → line_at d.progress line ≡ Ok says → d' ≡ put says d → reading d n (lines_of rest) ≡ total → reading d' (n + 1) (lines_of more) ≡ total
went_on d d' n line rest more says total parts e is so_far =
    rw is (sym (reading-go d n line (lines_of more) says (lines_of-some more) e) ∙ ap (λ ps. reading d n ps) (sym parts) ∙ so_far)

pub small_on : (d d' : DraftLists) (n : ℕ) (line : List ℕ) (says : Line) → line_at d.progress line ≡ Ok says → d' ≡ put says d → IsSmall d.progress n → IsSmall d'.progress (n + 1)
small_on d d' n line says e is small = rw (ap (λ d. d.progress) is) (IsSmall-after says d.progress n (line_at-range d.progress line says e) small)

pub stopped : (d : DraftLists) (n : ℕ) (line rest more : List ℕ) (cause : Cause) (total : Result TraceLists TraceFault) → lines_of rest ≡ line ∷ lines_of more → line_at d.progress line ≡ Err cause → reading d n (lines_of rest) ≡ total → total ≡ Err (fault (n + 1) cause)
stopped d n line rest more cause total parts e so_far =
    sym so_far ∙ ap (λ ps. reading d n ps) parts ∙ reading-stop d n line (lines_of more) cause (lines_of-some more) e

pub at_end : (d : DraftLists) (n : ℕ) (rest : List ℕ) (total : Result TraceLists TraceFault) → lines_of rest ≡ rest ∷ [] → reading d n (lines_of rest) ≡ total → ended d n rest ≡ total
at_end d n rest total parts so_far = sym (reading-end d n rest) ∙ ap (λ ps. reading d n ps) (sym parts) ∙ so_far

pub small_start : (d : DraftLists) → d ≡ empty_draft → IsSmall d.progress 0
small_start d e = rw e (record { lanes = omega arith; nursery = omega arith; superpages = omega arith; stood = omega arith })
