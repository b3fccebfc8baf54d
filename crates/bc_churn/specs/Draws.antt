-- In the theorem.
-- What the generator of `churn` draws: numbers, and operations by the table of kinds.
use Rattle.std.specs.Prelude.{ℕ, ◌+◌, ◌*◌, ◌/◌, ◌%◌, ◌^◌, nat_lt, if◌then◌else◌, List, [], ◌∷◌, length, zero, suc}
use Rattle.bc_model.specs.declared.operations.Op.{Op}
use Rattle.bc_model.specs.declared.operations.Op.TheVariants as ops
use Rattle.bc_model.specs.declared.values.Slot.{Slot}
use Rattle.bc_trace.specs.declared.words.Verb.{Verb}
use Rattle.bc_trace.specs.declared.words.Verb.TheVariants as verbs

-- the generator's number after a draw
unfoldable pub next_number : ℕ → ℕ
next_number x = (x * 6364136223846793005 + 1442695040888963407) % 2 ^ 64

-- a draw below m, from the number x: first the next number, and of that the high bits
unfoldable pub draw : ℕ → ℕ → ℕ
draw x m = (next_number x / 2 ^ 33) % m

-- the number after so many draws
abbrev pub number_after : ℕ → ℕ → ℕ
number_after zero x = x
number_after (suc n) x = number_after n (next_number x)

-- draws below each of these, one after another
abbrev pub draws : ℕ → List ℕ → List ℕ
draws x [] = []
draws x (m ∷ ms) = draw x m ∷ draws (next_number x) ms

-- ---- the table of kinds

-- which operation each of the twenty kinds is
unfoldable pub verb_of_kind : ℕ → Verb
verb_of_kind k =
    if nat_lt k 6 then verbs.New else
    if nat_lt k 7 then verbs.Who else
    if nat_lt k 8 then verbs.Len else
    if nat_lt k 10 then verbs.Set else
    if nat_lt k 11 then verbs.Cut else
    if nat_lt k 14 then verbs.Link else
    if nat_lt k 17 then verbs.Load else
    if nat_lt k 18 then verbs.Copy else
    if nat_lt k 19 then verbs.Clear else verbs.Same

-- what each operand of an operation is drawn below, from left to right
unfoldable pub limits_of : Verb → List ℕ
limits_of verbs.New = 4 ∷ 8 ∷ 8 ∷ []
limits_of verbs.Who = 4 ∷ 8 ∷ []
limits_of verbs.Len = 4 ∷ 8 ∷ []
limits_of verbs.Set = 4 ∷ 8 ∷ 4 ∷ 1000 ∷ []
limits_of verbs.Cut = 4 ∷ 8 ∷ 4 ∷ []
limits_of verbs.Link = 4 ∷ 8 ∷ 4 ∷ 4 ∷ 8 ∷ []
limits_of verbs.Load = 4 ∷ 8 ∷ 4 ∷ 4 ∷ 8 ∷ []
limits_of verbs.Copy = 4 ∷ 8 ∷ 4 ∷ 8 ∷ []
limits_of verbs.Clear = 4 ∷ 8 ∷ []
limits_of verbs.Same = 4 ∷ 8 ∷ 4 ∷ 8 ∷ []

-- ---- a drawn operation

-- a slot, from its two draws
abbrev pub drawn_slot : ℕ → Slot
drawn_slot x = record { domain = draw x 4; slot = draw (number_after 1 x) 8 }

-- the operation with its operands, from the number after the draw of its kind
unfoldable pub drawn_with : Verb → ℕ → Op
drawn_with verbs.New x = ops.New (drawn_slot x) (draw (number_after 2 x) 8)
drawn_with verbs.Who x = ops.Who (drawn_slot x)
drawn_with verbs.Len x = ops.Len (drawn_slot x)
drawn_with verbs.Set x = ops.Set (drawn_slot x) (draw (number_after 2 x) 4) (draw (number_after 3 x) 1000)
drawn_with verbs.Cut x = ops.Cut (drawn_slot x) (draw (number_after 2 x) 4)
drawn_with verbs.Link x = ops.Link (drawn_slot x) (draw (number_after 2 x) 4) (drawn_slot (number_after 3 x))
drawn_with verbs.Load x = ops.Load (drawn_slot x) (draw (number_after 2 x) 4) (drawn_slot (number_after 3 x))
drawn_with verbs.Copy x = ops.Copy (drawn_slot x) (drawn_slot (number_after 2 x))
drawn_with verbs.Clear x = ops.Clear (drawn_slot x)
drawn_with verbs.Same x = ops.Same (drawn_slot x) (drawn_slot (number_after 2 x))

-- which operation it is the first draw says, that of the kind
abbrev pub drawn_verb : ℕ → Verb
drawn_verb x = verb_of_kind (draw x 20)

-- the operation that is drawn from a number on
abbrev pub drawn_op : ℕ → Op
drawn_op x = drawn_with (drawn_verb x) (next_number x)

-- the number after the draws of an operation
unfoldable pub number_after_op : ℕ → ℕ
number_after_op x = number_after (length (limits_of (drawn_verb x))) (next_number x)

-- the number after the draws of so many operations
abbrev pub number_after_ops : ℕ → ℕ → ℕ
number_after_ops zero x = x
number_after_ops (suc n) x = number_after_op (number_after_ops n x)
