-- In the theorem.
-- The first fault of a text.
use Rattle.std.specs.Prelude.{◌≡◌, ◌≢◌, ℕ, ◌+◌, ◌==◌, ◌&&◌, ◌||◌, ◌⊎◌, nat_le, if◌then◌else◌, Option, Some, None, List, [], ◌∷◌, ◌++◌, length}
use Rattle.std.specs.List.{AllByRecursion, flat_map, slice_split}
use Rattle.std.specs.Fmt.{decimal}
use Rattle.bc_model.specs.WellFormed.{IsWithin, IsNumber}
use Rattle.bc_trace.specs.declared.fault.Cause.{Cause}
use Rattle.bc_trace.specs.declared.fault.Cause.TheVariants as causes
use Rattle.bc_trace.specs.declared.grammar.Stage.{Stage}
use Rattle.bc_trace.specs.declared.grammar.Stage.TheVariants as stages
use Rattle.bc_trace.specs.declared.grammar.Progress.{Progress}
use Rattle.bc_trace.specs.declared.words.Keyword.{Keyword}
use Rattle.bc_trace.specs.declared.words.Keyword.TheVariants as words
use Rattle.bc_trace.specs.Words.{name}
use Rattle.bc_trace.specs.Lines.{Line, word_of_line, shift_of, operands, numbers_of, spelling, line_text}
use Rattle.bc_trace.specs.Grammar.{start, KnowsWord, IsLineOf, MayStand, IsCount, InRange, FramesFit, after_all, Follow}

-- what single spaces separate
abbrev pub line_words : List ℕ → List (List ℕ)
line_words line = slice_split (λ b. b == 32) line

-- one byte or more, each from 0x21 to 0x7e
abbrev pub IsWord : List ℕ → Type 0
IsWord [] = ⊥
IsWord (b ∷ bs) = AllByRecursion (IsWithin 33 126) (b ∷ bs)

-- nothing but words, with single spaces between them
abbrev pub IsFormed : List ℕ → Type 0
IsFormed line = AllByRecursion IsWord (line_words line)

-- the line begins with the word, which the version has, and these are its operands
abbrev pub BeginsWith : Progress → List ℕ → Keyword → List (List ℕ) → Type 0
BeginsWith s line w others = KnowsWord s.version w × (line_words line ≡ name w ∷ others)

-- the sign that a turn's first operand begins with, a plus or a minus: before version 3 such an operand is none with a sign
unfoldable pub sign_of : ℕ → Keyword → List (List ℕ) → Option ℕ
sign_of version words.Turn ((b ∷ bs) ∷ others) = if nat_le 3 version && (b == 43 || b == 45) then Some b else None
sign_of version w others = None

-- all but the first
abbrev pub later : List (List ℕ) → List (List ℕ)
later [] = []
later (w ∷ ws) = ws

-- the first one without its first byte
abbrev pub bared : List (List ℕ) → List (List ℕ)
bared ((b ∷ bs) ∷ ws) = bs ∷ ws
bared ws = ws

-- the operands but that with a sign
abbrev pub without_sign : Option ℕ → List (List ℕ) → List (List ℕ)
without_sign None others = others
without_sign (Some b) others = later others

-- the operands that are counted: one with a sign isn't
abbrev pub counted : ℕ → Keyword → List (List ℕ) → List (List ℕ)
counted version w others = without_sign (sign_of version w others) others

-- the operands, that with a sign by what follows the sign
abbrev pub after_sign : Option ℕ → List (List ℕ) → List (List ℕ)
after_sign None others = others
after_sign (Some b) others = bared others

-- what has to be numbers: the operands, that with a sign by what follows the sign
abbrev pub unsigned : ℕ → Keyword → List (List ℕ) → List (List ℕ)
unsigned version w others = after_sign (sign_of version w others) others

-- a number below 2^63, as numbers are written
abbrev pub IsNumeral : List ℕ → Type 0
IsNumeral word = (n : ℕ) × IsNumber n × (word ≡ decimal n)

-- Each of these says that one test fails, and that the tests before it pass.

-- the line is formed, and its first word is no word of this version of the language
pub record WordFails (s : Progress) (line : List ℕ) : Type 0 where
  pub formed : IsFormed line
  pub unknown : (w : Keyword) (others : List (List ℕ)) → ¬ BeginsWith s line w others

-- the line begins with a word, and it may not stand here
pub record OrderFails (s : Progress) (line : List ℕ) : Type 0 where
  pub formed : IsFormed line
  pub word : Keyword
  pub others : List (List ℕ)
  pub begins : BeginsWith s line word others
  pub order : ¬ MayStand s word

-- the word may stand here, and has the wrong number of operands
pub record CountFails (s : Progress) (line : List ℕ) : Type 0 where
  pub formed : IsFormed line
  pub word : Keyword
  pub others : List (List ℕ)
  pub begins : BeginsWith s line word others
  pub stands : MayStand s word
  pub count : ¬ IsCount word (length (counted s.version word others))

-- the number of operands is right, and one is no number
pub record NumberFails (s : Progress) (line : List ℕ) : Type 0 where
  pub formed : IsFormed line
  pub word : Keyword
  pub others : List (List ℕ)
  pub begins : BeginsWith s line word others
  pub stands : MayStand s word
  pub count : IsCount word (length (counted s.version word others))
  pub number : ¬ AllByRecursion IsNumeral (unsigned s.version word others)

-- the line is a word that may stand here, and so many numbers as it may have
pub record IsReadable (s : Progress) (line : List ℕ) (l : Line) : Type 0 where
  pub text : line ≡ spelling (word_of_line l) (shift_of l) (operands l)
  pub known : IsLineOf s.version l
  pub stands : MayStand s (word_of_line l)
  pub count : IsCount (word_of_line l) (length (operands l))
  pub numbers : AllByRecursion IsNumber (numbers_of l)

-- all operands are numbers, and one is out of its range
pub record RangeFails (s : Progress) (line : List ℕ) : Type 0 where
  pub says : Line
  pub readable : IsReadable s line says
  pub range : ¬ InRange s says

-- all operands pass but the number of frames, or that of withheld frames, which doesn't fit
pub record FramesFails (s : Progress) (line : List ℕ) : Type 0 where
  pub says : Line
  pub readable : IsReadable s line says
  pub range : InRange s says
  pub frames : ¬ FramesFit s says

-- in this progress the first test that the line fails has this cause
abbrev pub Fails : Progress → List ℕ → Cause → Type 0
Fails s line causes.Form = ¬ IsFormed line ⊎ CountFails s line
Fails s line causes.Word = WordFails s line
Fails s line causes.Order = OrderFails s line
Fails s line causes.Number = NumberFails s line
Fails s line causes.Range = RangeFails s line
Fails s line causes.Frames = FramesFails s line
Fails s line causes.End = ⊥

-- all whole lines before a whole line pass, and that line fails
pub record FaultOfLine (bytes : List ℕ) (line : ℕ) (cause : Cause) : Type 0 where
  pub before : List Line
  pub bad : List ℕ
  pub rest : List ℕ
  pub text : bytes ≡ flat_map line_text before ++ (bad ++ 10 ∷ rest)
  pub whole : AllByRecursion (λ b. b ≢ 10) bad
  pub pass : Follow start before
  pub number : line ≡ length before + 1
  pub fails : Fails (after_all start before) bad cause

-- something follows the last line, or that line should not be the last
abbrev pub EndFails : Stage → List ℕ → Cause → Type 0
EndFails stage rest causes.Order = (stage ≡ stages.Finished) × (rest ≢ [])
EndFails stage rest causes.End = stage ≢ stages.Finished
EndFails stage rest _ = ⊥

-- what is begun counts as a line
abbrev pub lines_begun : List ℕ → ℕ
lines_begun [] = 0
lines_begun (b ∷ bs) = 1

-- all whole lines pass, and the text does not end as a trace does
pub record FaultAtEnd (bytes : List ℕ) (line : ℕ) (cause : Cause) : Type 0 where
  pub before : List Line
  pub rest : List ℕ
  pub text : bytes ≡ flat_map line_text before ++ rest
  pub begun : AllByRecursion (λ b. b ≢ 10) rest
  pub pass : Follow start before
  pub number : line ≡ length before + lines_begun rest
  pub ends : EndFails (after_all start before).stage rest cause

-- the one fault of a text that is no trace: its line, counted from 1, and the cause
abbrev pub Fault : List ℕ → ℕ → Cause → Type 0
Fault bytes line cause = FaultOfLine bytes line cause ⊎ FaultAtEnd bytes line cause
