-- Which of the twenty kinds are which operation, and which operations can be drawn.
use Rattle.std.specs.Prelude.{◌≡◌, ℕ, ◌+◌, length}
use Rattle.bc_model.specs.WellFormed.{IsWithin}
use Rattle.bc_model.specs.declared.operations.Op.{Op}
use Rattle.bc_trace.specs.declared.words.Verb.{Verb}
use Rattle.bc_trace.specs.declared.words.Verb.TheVariants as verbs
use Rattle.bc_trace.specs.Lines.{verb_of_op, operands_of_op}
use Rattle.bc_churn.specs.Draws.{next_number, draw, number_after, draws, limits_of}

-- the first of an operation's kinds
abbrev pub first_kind : Verb → ℕ
first_kind verbs.New = 0
first_kind verbs.Who = 6
first_kind verbs.Len = 7
first_kind verbs.Set = 8
first_kind verbs.Cut = 10
first_kind verbs.Link = 11
first_kind verbs.Load = 14
first_kind verbs.Copy = 17
first_kind verbs.Clear = 18
first_kind verbs.Same = 19

-- the last of an operation's kinds
abbrev pub last_kind : Verb → ℕ
last_kind verbs.New = 5
last_kind verbs.Who = 6
last_kind verbs.Len = 7
last_kind verbs.Set = 9
last_kind verbs.Cut = 10
last_kind verbs.Link = 13
last_kind verbs.Load = 16
last_kind verbs.Copy = 17
last_kind verbs.Clear = 18
last_kind verbs.Same = 19

-- ---- the same in one sentence

-- from the number x the operation is drawn, and y is the next number: the first draw is of its kind, and then come its operands,
-- from left to right, each below its limit
pub record IsDrawn (x : ℕ) (o : Op) (y : ℕ) : Type 0 where
  pub kind : IsWithin (first_kind (verb_of_op o)) (last_kind (verb_of_op o)) (draw x 20)
  pub operands : operands_of_op o ≡ draws (next_number x) (limits_of (verb_of_op o))
  pub after : y ≡ number_after (1 + length (operands_of_op o)) x
