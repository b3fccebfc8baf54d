-- Which words are a question, and which one. The words come without the program's name.
use Rattle.std.specs.Prelude.{◌≡◌, ℕ, ◌<◌, ◌≤◌, ◌^◌, List, [], ◌∷◌, codes}
use Rattle.std.specs.Fmt.{decimal}
use Rattle.bc_words.specs.Commands.{Word}
use Rattle.bc_heapview.specs.declared.question.Question.{Question}
use Rattle.bc_heapview.specs.declared.question.Question.TheVariants.{Counts, Path}

-- The first word and the others ask the question: `counts` takes no other word, and `path` exactly two, a lane up to 15 and a serial
-- from 1 to 4,294,967,295. A number has no sign and no leading zero.
abbrev pub Asks : Word → List Word → Question → Type 0
Asks first values Counts = (first ≡ codes "counts") × (values ≡ [])
Asks first values (Path b) =
    (first ≡ codes "path") × (values ≡ decimal b.lane ∷ decimal b.serial ∷ []) × (b.lane ≤ 15) × (1 ≤ b.serial) × (b.serial < 2 ^ 32)

-- the words are this question
pub record IsQuestionOf (words : List Word) (question : Question) : Type 0 where
  pub first : Word
  pub values : List Word
  pub spelled : words ≡ first ∷ values
  pub asked : Asks first values question
