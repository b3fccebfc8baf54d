-- When a lane can't do an operation, by the state before it: it may not read a domain, or not write one, or there is no object
-- where the operation needs one, or the object has no such field. Then: what the others are answered.
use Rattle.std.specs.Prelude.{◌≡◌, ◌≢◌, ◌⊎◌, ℕ, ◌≤◌, true, false, length}
use Rattle.bc_model.specs.State.{State, object_of, slot_of, reads, writes}
use Rattle.bc_model.specs.Changes.{WritesSlot}
use Rattle.bc_model.specs.declared.operations.Op.{Op}
use Rattle.bc_model.specs.declared.operations.Op.TheVariants.{New, Who, Len, Set, Cut, Link, Load, Copy, Clear, Same}
use Rattle.bc_model.specs.declared.operations.Reply.{Reply}
use Rattle.bc_model.specs.declared.operations.Reply.TheVariants as reply
use Rattle.bc_model.specs.declared.values.Birth.{Birth}
use Rattle.bc_model.specs.declared.values.Slot.{Slot}
use Rattle.bc_model.specs.declared.values.Value.{Value}
use Rattle.bc_model.specs.declared.values.Value.TheVariants.{Nil, Num, Obj}

-- the operation names the slot
abbrev pub NamesSlot : Op → Slot → Type 0
NamesSlot (New p n) r = r ≡ p
NamesSlot (Who p) r = r ≡ p
NamesSlot (Len p) r = r ≡ p
NamesSlot (Set p i v) r = r ≡ p
NamesSlot (Cut p i) r = r ≡ p
NamesSlot (Link p i q) r = (r ≡ p) ⊎ (r ≡ q)
NamesSlot (Load p i q) r = (r ≡ p) ⊎ (r ≡ q)
NamesSlot (Copy p q) r = (r ≡ p) ⊎ (r ≡ q)
NamesSlot (Clear p) r = r ≡ p
NamesSlot (Same p q) r = (r ≡ p) ⊎ (r ≡ q)

-- the operation reads or writes a field of the slot's object
abbrev pub NeedsField : Op → Slot → ℕ → Type 0
NeedsField (Set p i v) r k = (r ≡ p) × (k ≡ i)
NeedsField (Cut p i) r k = (r ≡ p) × (k ≡ i)
NeedsField (Link p i q) r k = (r ≡ p) × (k ≡ i)
NeedsField (Load p i q) r k = (r ≡ p) × (k ≡ i)
NeedsField _ r k = ⊥

-- the operation can't be done unless the slot refers to an object
abbrev pub NeedsObject : Op → Slot → Type 0
NeedsObject (Len p) r = r ≡ p
NeedsObject (Set p i v) r = r ≡ p
NeedsObject (Cut p i) r = r ≡ p
NeedsObject (Link p i q) r = r ≡ p
NeedsObject (Load p i q) r = r ≡ p
NeedsObject _ r = ⊥

-- the operation looks at the object that the slot refers to, if there is one
abbrev pub LooksAt : Op → Slot → Type 0
LooksAt (Who p) r = r ≡ p
LooksAt o r = NeedsObject o r

-- the operation writes the object that the slot refers to
abbrev pub WritesObject : Op → Slot → Type 0
WritesObject (Set p i v) r = r ≡ p
WritesObject (Cut p i) r = r ≡ p
WritesObject (Link p i q) r = r ≡ p
WritesObject _ r = ⊥

-- the lane may read the slots that the operation names
abbrev pub ReadsNamed : State → ℕ → Op → Type 0
ReadsNamed s j o = (p : Slot) → NamesSlot o p → reads s j p.domain ≡ true

-- the lane may write the slot that the operation writes, if it writes one
abbrev pub WritesTarget : State → ℕ → Op → Type 0
WritesTarget s j o = (p : Slot) → WritesSlot o p → writes s j p.domain ≡ true

-- the lane may read the slots that the operation names, and write the one that it writes
pub record FreeSlots (s : State) (j : ℕ) (o : Op) : Type 0 where
  pub named : ReadsNamed s j o
  pub target : WritesTarget s j o

-- the lane may read the object that the operation looks at, if there is one
abbrev pub ReadsObject : State → ℕ → Op → Type 0
ReadsObject s j o = (p : Slot) → (b : Birth) → LooksAt o p → slot_of s p ≡ Obj b → reads s j (object_of s.made b).domain ≡ true

-- the lane may write the object that the operation writes, if there is one
abbrev pub WritesNeeded : State → ℕ → Op → Type 0
WritesNeeded s j o = (p : Slot) → (b : Birth) → WritesObject o p → slot_of s p ≡ Obj b → writes s j (object_of s.made b).domain ≡ true

-- the lane may not read the domain of a slot that the operation names; or it has a right to all slots, and may not read the
-- domain of an object that the operation looks at
abbrev pub LacksDomain : State → ℕ → Op → Type 0
LacksDomain s j o =
    ((p : Slot) × NamesSlot o p × (reads s j p.domain ≡ false))
    ⊎ (FreeSlots s j o × ((p : Slot) × (b : Birth) × LooksAt o p × (slot_of s p ≡ Obj b) × (reads s j (object_of s.made b).domain ≡ false)))

-- the lane may read what the operation needs, but not write the slot that it writes, or the object
abbrev pub LacksRight : State → ℕ → Op → Type 0
LacksRight s j o =
    (ReadsNamed s j o × ((p : Slot) × WritesSlot o p × (writes s j p.domain ≡ false)))
    ⊎ (FreeSlots s j o × ReadsObject s j o × ((p : Slot) × (b : Birth) × WritesObject o p × (slot_of s p ≡ Obj b) × (writes s j (object_of s.made b).domain ≡ false)))

-- the lane has a right to all slots, but one that has to refer to an object refers to none: it is nil or a number
pub record LacksObject (s : State) (j : ℕ) (o : Op) : Type 0 where
  pub free : FreeSlots s j o
  pub place : Slot
  pub needed : NeedsObject o place
  pub none : (b : Birth) → slot_of s place ≢ Obj b

-- the lane has a right to all slots and to the object, but the object has no field of that number
pub record LacksField (s : State) (j : ℕ) (o : Op) : Type 0 where
  pub free : FreeSlots s j o
  pub read : ReadsObject s j o
  pub written : WritesNeeded s j o
  pub place : Slot
  pub index : ℕ
  pub birth : Birth
  pub needed : NeedsField o place index
  pub object : slot_of s place ≡ Obj birth
  pub none : length (object_of s.made birth).fields ≤ index

-- the operation is refused for one of these reasons
abbrev pub IsRefused : State → ℕ → Op → Type 0
IsRefused s j o = LacksDomain s j o ⊎ LacksRight s j o ⊎ LacksObject s j o ⊎ LacksField s j o

-- the operation changes a field or a slot, and its reply has no value
abbrev pub IsChange : Op → Type 0
IsChange (Set p i v) = Unit {0}
IsChange (Cut p i) = Unit {0}
IsChange (Link p i q) = Unit {0}
IsChange (Copy p q) = Unit {0}
IsChange (Clear p) = Unit {0}
IsChange _ = ⊥

-- the reply has the value, an object by its birth
abbrev pub Tells : Value → Reply → Type 0
Tells Nil r = r ≡ reply.Nil
Tells (Num v) r = r ≡ reply.Num v
Tells (Obj b) r = r ≡ reply.Obj b

-- the reply has the value, but of an object only that it is one
abbrev pub TellsKind : Value → Reply → Type 0
TellsKind Nil r = r ≡ reply.Nil
TellsKind (Num v) r = r ≡ reply.Num v
TellsKind (Obj b) r = r ≡ reply.Ref
