-- In the theorem.
-- The abstract state of a run: objects that are never forgotten, root slots, and holders.
use Rattle.std.specs.Prelude.{ℕ, ◌+◌, ◌-◌, ◌*◌, ◌<◌, ◌==◌, ◌≢◌, Bool, true, false, List, [], ◌∷◌, ◌++◌, length, slice_index_or, slice_set, zero, suc}
use Rattle.bc_model.specs.declared.traces.Change.{Change}
use Rattle.bc_model.specs.declared.traces.Change.TheVariants as change
use Rattle.bc_model.specs.declared.traces.Give.{Give}
use Rattle.bc_model.specs.declared.values.Holder.{Holder}
use Rattle.bc_model.specs.declared.values.Holder.TheVariants.{Lane, Frozen}
use Rattle.bc_model.specs.declared.values.Birth.{Birth}
use Rattle.bc_model.specs.declared.values.Slot.{Slot}
use Rattle.bc_model.specs.declared.values.Value.{Value}
use Rattle.bc_model.specs.declared.values.Value.TheVariants.{Nil}

-- an object: its domain and what its fields hold
pub record Object : Type 0 where
  pub domain : ℕ
  pub fields : List Value

-- `made` has all objects that each lane ever made, in the order of their making, so that the object of
-- birth l.s stands at s - 1 in the list at l. `slots` has what the root slots hold, domain after domain, `width`
-- slots each. `holders` says of each domain who holds it: a lane, or nobody, where it is frozen.
pub record State : Type 0 where
  pub width : ℕ
  pub made : List (List Object)
  pub slots : List Value
  pub holders : List Holder

-- what stands for an object that was never born
abbrev pub no_object : Object
no_object = record { domain = 0; fields = [] }

-- all that a lane has made
abbrev pub made_by : List (List Object) → ℕ → List Object
made_by made j = slice_index_or made j []

-- the objects that were born
pub record IsBorn (made : List (List Object)) (b : Birth) : Type 0 where
  pub lane : b.lane < length made
  pub positive : 0 < b.serial
  pub serial : b.serial < length (made_by made b.lane) + 1

-- the object of a birth
abbrev pub object_of : List (List Object) → Birth → Object
object_of made b = slice_index_or (made_by made b.lane) (b.serial - 1) no_object

-- the objects with another one in the place of a birth
abbrev pub with_born : List (List Object) → Birth → Object → List (List Object)
with_born made b o = slice_set made b.lane (slice_set (made_by made b.lane) (b.serial - 1) o)

-- what the lane makes next has the next serial
abbrev pub with_made : List (List Object) → ℕ → Object → List (List Object)
with_made made j o = slice_set made j (made_by made j ++ o ∷ [])

-- the birth of the lane's next object
abbrev pub next_birth : List (List Object) → ℕ → Birth
next_birth made j = record { lane = j; serial = length (made_by made j) + 1 }

-- where a root slot stands
abbrev pub place_of : ℕ → Slot → ℕ
place_of width p = width * p.domain + p.slot

-- what a root slot holds
abbrev pub slot_of : State → Slot → Value
slot_of s p = slice_index_or s.slots (place_of s.width p) Nil

-- the state with this value in a root slot
abbrev pub with_slot : State → Slot → Value → State
with_slot s p v = record s { slots = slice_set s.slots (place_of s.width p) v }

-- what a field of an object holds
abbrev pub field_of : State → Birth → ℕ → Value
field_of s b i = slice_index_or (object_of s.made b).fields i Nil

-- an object with another value in a field
abbrev pub with_value : Object → ℕ → Value → Object
with_value o i v = record o { fields = slice_set o.fields i v }

-- the state with another value in a field of an object that was born
abbrev pub with_born_field : State → Birth → ℕ → Value → State
with_born_field s b i v = record s { made = with_born s.made b (with_value (object_of s.made b) i v) }

-- who holds the domain: past the last domain nobody
abbrev pub holder_of : List Holder → ℕ → Holder
holder_of holders d = slice_index_or holders d Frozen

-- the lane may read what is in a domain of this holder: its own, and all that is frozen
abbrev pub lets_read : Holder → ℕ → Bool
lets_read (Lane l) j = l == j
lets_read Frozen j = true

-- the lane may write what is in a domain of this holder: its own alone
abbrev pub lets_write : Holder → ℕ → Bool
lets_write (Lane l) j = l == j
lets_write Frozen j = false

-- no domain is frozen
abbrev pub NoneFrozen : List Holder → Type 0
NoneFrozen holders = (d : ℕ) → d < length holders → holder_of holders d ≢ Frozen

-- the lane may read the domain
abbrev pub reads : State → ℕ → ℕ → Bool
reads s j d = lets_read (holder_of s.holders d) j

-- the lane may write the domain
abbrev pub writes : State → ℕ → ℕ → Bool
writes s j d = lets_write (holder_of s.holders d) j

-- the domain has another holder
abbrev pub handed : State → ℕ → Holder → State
handed s d h = record s { holders = slice_set s.holders d h }

-- the domain changes hands
abbrev pub given : State → Give → State
given s g = handed s g.domain (Lane g.lane)

-- the domain is frozen
abbrev pub frozen : State → ℕ → State
frozen s d = handed s d Frozen

-- the state after a change of holders at the end of a phase
abbrev pub changed : State → Change → State
changed s (change.Give g) = given s g
changed s (change.Freeze d) = frozen s d

-- the first n numbers
abbrev pub numbers_below : ℕ → List ℕ
numbers_below zero = []
numbers_below (suc n) = numbers_below n ++ n ∷ []
