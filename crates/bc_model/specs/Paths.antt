-- What a list of field numbers leads to.
use Rattle.std.specs.Prelude.{◌≡◌, ℕ, List, [], ◌∷◌, slice_index_or}
use Rattle.bc_model.specs.State.{Object, object_of}
use Rattle.bc_model.specs.declared.values.Birth.{Birth}
use Rattle.bc_model.specs.declared.values.Value.{Value}
use Rattle.bc_model.specs.declared.values.Value.TheVariants.{Nil, Num, Obj}

-- what a list of field numbers leads to from a value: nil where a number is no field, or a value no object
abbrev pub value_along : List (List Object) → Value → List ℕ → Value
value_along made v [] = v
value_along made (Obj b) (i ∷ path) = value_along made (slice_index_or (object_of made b).fields i Nil) path
value_along made Nil (i ∷ path) = Nil
value_along made (Num n) (i ∷ path) = Nil

-- some slot and some list of field numbers lead to the object
abbrev pub HasPath : List Value → List (List Object) → Birth → Type 0
HasPath slots made b = (place : ℕ) × (path : List ℕ) × (value_along made (slice_index_or slots place Nil) path ≡ Obj b)
