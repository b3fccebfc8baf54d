-- In the theorem.
-- Which objects a state reaches: some slot and some list of field numbers lead to them.
use Rattle.std.specs.Prelude.{◌≡◌, ℕ, List, slice_index_or}
use Rattle.bc_reach.specs.Reach.{Reach}
use Rattle.bc_model.specs.State.{Object, object_of}
use Rattle.bc_model.specs.declared.values.Birth.{Birth}
use Rattle.bc_model.specs.declared.values.Value.{Value}
use Rattle.bc_model.specs.declared.values.Value.TheVariants.{Nil, Obj}

-- one of the values refers to the object
abbrev pub Holds : List Value → Birth → Type 0
Holds values b = (i : ℕ) × (slice_index_or values i Nil ≡ Obj b)

-- a field of the first object refers to the second
abbrev pub FieldHolds : List (List Object) → Birth → Birth → Type 0
FieldHolds made a b = Holds (object_of made a).fields b

-- the objects that slots and fields lead to
abbrev pub Reached : List Value → List (List Object) → Birth → Type 0
Reached slots made b = Reach (Holds slots) (FieldHolds made) b
