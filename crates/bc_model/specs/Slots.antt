-- The root slots that an operation names, and the one that it writes.
use Rattle.std.specs.Prelude.{ℕ, List, [], ◌∷◌, Option, Some, None}
use Rattle.bc_model.specs.WellFormed.{IsSlot}
use Rattle.bc_model.specs.declared.operations.Op.{Op}
use Rattle.bc_model.specs.declared.operations.Op.TheVariants as op
use Rattle.bc_model.specs.declared.traces.Setup.{Setup}
use Rattle.bc_model.specs.declared.values.Slot.{Slot}

-- the first slot, and the second where the operation names two
abbrev pub slots_of : Op → Slot × Option Slot
slots_of (op.New p n) = (p, None)
slots_of (op.Who p) = (p, None)
slots_of (op.Len p) = (p, None)
slots_of (op.Set p i v) = (p, None)
slots_of (op.Cut p i) = (p, None)
slots_of (op.Link p i q) = (p, Some q)
slots_of (op.Load p i q) = (p, Some q)
slots_of (op.Copy p q) = (p, Some q)
slots_of (op.Clear p) = (p, None)
slots_of (op.Same p q) = (p, Some q)

-- the domains of these slots
abbrev pub domains_in : Slot → Option Slot → List ℕ
domains_in p None = p.domain ∷ []
domains_in p (Some q) = p.domain ∷ q.domain ∷ []

-- the setup has these slots
abbrev pub AreSlots : Setup → Slot → Option Slot → Type 0
AreSlots s p None = IsSlot s p
AreSlots s p (Some q) = IsSlot s p × IsSlot s q

-- the setup has this slot, if there is one
abbrev pub IsTarget : Setup → Option Slot → Type 0
IsTarget s None = Unit {0}
IsTarget s (Some p) = IsSlot s p
