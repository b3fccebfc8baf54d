-- In the theorem.
-- Which words are a command, and which one. The words come without the program's name.
use Rattle.std.specs.Prelude.{◌≡◌, ℕ, ◌<◌, ◌≤◌, ◌^◌, ◌⊎◌, List, [], ◌∷◌, ◌++◌, codes}
use Rattle.std.specs.Fmt.{decimal}
use Rattle.bc_words.specs.declared.command.Command.{Command}
use Rattle.bc_words.specs.declared.command.Command.TheVariants.{Run, Churn, Save, Resume}

-- a word of the command line, as its bytes
abbrev pub Word : Type 0
Word = List ℕ

-- the word begins with a hyphen
abbrev pub IsHyphened : Word → Type 0
IsHyphened word = (rest : Word) × (word ≡ 45 ∷ rest)

-- What the words after the first are: first of all the words, then the values of `--workers`, then the plain values. One case for
-- each way in which the words may go on; where none fits, they are no command.
pub data Parts : List Word → List Word → List Word → Type 0 where
  -- no word is left
  ended : Parts [] [] []
  -- `--` is skipped, and every word after it is a plain value
  dashes : (plain : List Word) → Parts (codes "--" ∷ plain) [] plain
  -- `--workers`, followed by a word, whatever word it is
  apart : {rest workers plain : List Word} → (value : Word) → Parts rest workers plain
      → Parts (codes "--workers" ∷ value ∷ rest) (value ∷ workers) plain
  -- one word, `--workers=` and the value
  joined : {rest workers plain : List Word} → (value : Word) → Parts rest workers plain
      → Parts ((codes "--workers=" ++ value) ∷ rest) (value ∷ workers) plain
  -- every other word is a plain value, and begins with no hyphen
  bare : {rest workers plain : List Word} → (word : Word) → ¬ IsHyphened word → Parts rest workers plain
      → Parts (word ∷ rest) workers (word ∷ plain)

-- the values of `--workers` give so many workers: one value at most, a number from 1 to 16, and 1 where there is none
abbrev pub GivesWorkers : List Word → ℕ → Type 0
GivesWorkers values n = ((values ≡ []) × (n ≡ 1)) ⊎ ((values ≡ decimal n ∷ []) × (1 ≤ n) × (n ≤ 16))

-- The first word, the values of `--workers` and the plain values ask for the command. `run` and `resume` take no plain value. `churn` takes
-- exactly two, its starting number, below 2^63, and then its operations, 100,000 at most. `save` takes exactly one, a number of phases
-- below 2^63. A number has no sign and no leading zero.
abbrev pub AsksFor : Word → List Word → List Word → Command → Type 0
AsksFor first values plain (Run workers) = (first ≡ codes "run") × (plain ≡ []) × GivesWorkers values workers
AsksFor first values plain (Churn start ops workers) =
    (first ≡ codes "churn") × (plain ≡ decimal start ∷ decimal ops ∷ []) × (start < 2 ^ 63) × (ops ≤ 100000)
    × GivesWorkers values workers
AsksFor first values plain (Save phases workers) =
    (first ≡ codes "save") × (plain ≡ decimal phases ∷ []) × (phases < 2 ^ 63) × GivesWorkers values workers
AsksFor first values plain (Resume workers) = (first ≡ codes "resume") × (plain ≡ []) × GivesWorkers values workers

-- the words are this command: the first of them and the parts of the others ask for it
pub record IsCommandOf (words : List Word) (command : Command) : Type 0 where
  pub first : Word
  pub rest : List Word
  pub values : List Word
  pub plain : List Word
  pub spelled : words ≡ first ∷ rest
  pub parts : Parts rest values plain
  pub asked : AsksFor first values plain command
