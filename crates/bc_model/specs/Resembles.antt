-- States that are alike as far as slots lead.
use Rattle.std.specs.Prelude.{◌≡◌, ℕ, List, length}
use Rattle.bc_model.specs.Reached.{Reached}
use Rattle.bc_model.specs.State.{State, Object, made_by, object_of}
use Rattle.bc_model.specs.declared.values.Birth.{Birth}

-- as many objects of each lane as the state has, of which those that it reaches are the same
pub record AreLike (s : State) (made : List (List Object)) : Type 0 where
  pub lanes : length made ≡ length s.made
  pub next : (j : ℕ) → length (made_by made j) ≡ length (made_by s.made j)
  pub object : (b : Birth) → Reached s.slots s.made b → object_of made b ≡ object_of s.made b

-- the second state has the first one's slots and holders, as many objects of each lane, and the same objects that are reached
pub record Resembles (s t : State) : Type 0 where
  pub width : t.width ≡ s.width
  pub slots : t.slots ≡ s.slots
  pub holders : t.holders ≡ s.holders
  pub objects : AreLike s t.made
