-- In the theorem.
-- What is true of every state that a run comes to, and how large a state is.
use Rattle.std.specs.Prelude.{◌≡◌, ℕ, ◌*◌, ◌<◌, ◌≤◌, List, length, slice_index_or}
use Rattle.bc_model.specs.State.{State, Object, IsBorn, object_of, holder_of}
use Rattle.bc_model.specs.WellFormed.{IsNumber}
use Rattle.bc_model.specs.declared.values.Holder.{Holder}
use Rattle.bc_model.specs.declared.values.Holder.TheVariants.{Lane, Frozen}
use Rattle.bc_model.specs.declared.values.Birth.{Birth}
use Rattle.bc_model.specs.declared.values.Value.{Value}
use Rattle.bc_model.specs.declared.values.Value.TheVariants.{Nil, Num, Obj}

-- what a slot or a field may hold: nil, a number below 2 ^ 63, or an object that was born
abbrev pub IsValue : List (List Object) → Value → Type 0
IsValue made Nil = Unit {0}
IsValue made (Num v) = IsNumber v
IsValue made (Obj b) = IsBorn made b

-- each value of the list may be held; past its end there is nil
abbrev pub AreValues : List (List Object) → List Value → Type 0
AreValues made values = (i : ℕ) → IsValue made (slice_index_or values i Nil)

-- the holder is one of so many lanes, or nobody
abbrev pub IsHolder : ℕ → Holder → Type 0
IsHolder lanes (Lane l) = l < lanes
IsHolder lanes Frozen = Unit {0}

-- an object of one of the domains, of at most 127 fields
pub record IsMadeObject (made : List (List Object)) (domains : ℕ) (o : Object) : Type 0 where
  pub domain : o.domain < domains
  pub fields : length o.fields ≤ 127
  pub values : AreValues made o.fields

-- the sizes are in their ranges, every slot and every field holds what it may hold, and every domain is a lane's or frozen
pub record IsState (s : State) : Type 0 where
  pub lanes : length s.made ≤ 16
  pub domains : length s.holders ≤ 64
  pub width : s.width ≤ 256
  pub slots : length s.slots ≡ s.width * length s.holders
  pub values : AreValues s.made s.slots
  pub objects : (b : Birth) → IsBorn s.made b → IsMadeObject s.made (length s.holders) (object_of s.made b)
  pub holders : (d : ℕ) → d < length s.holders → IsHolder (length s.made) (holder_of s.holders d)
