-- What an operation writes when it is done: which slot, or which field of which object.
use Rattle.std.specs.Prelude.{◌≡◌, ℕ}
use Rattle.bc_model.specs.State.{State, slot_of}
use Rattle.bc_model.specs.declared.operations.Op.{Op}
use Rattle.bc_model.specs.declared.operations.Op.TheVariants.{New, Set, Cut, Link, Load, Copy, Clear}
use Rattle.bc_model.specs.declared.values.Birth.{Birth}
use Rattle.bc_model.specs.declared.values.Slot.{Slot}
use Rattle.bc_model.specs.declared.values.Value.TheVariants.{Obj}

-- the operation writes the slot
abbrev pub WritesSlot : Op → Slot → Type 0
WritesSlot (New p n) r = r ≡ p
WritesSlot (Load p i q) r = r ≡ q
WritesSlot (Copy p q) r = r ≡ q
WritesSlot (Clear p) r = r ≡ p
WritesSlot _ r = ⊥

-- the operation writes the field of the object
abbrev pub WritesField : State → Op → Birth → ℕ → Type 0
WritesField s (Set p i v) b k = (slot_of s p ≡ Obj b) × (k ≡ i)
WritesField s (Cut p i) b k = (slot_of s p ≡ Obj b) × (k ≡ i)
WritesField s (Link p i q) b k = (slot_of s p ≡ Obj b) × (k ≡ i)
WritesField s _ b k = ⊥
