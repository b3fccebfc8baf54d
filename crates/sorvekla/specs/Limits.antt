-- The limits with which a heap opens, and what is wrong with them.
use Rattle.std.specs.Prelude.{◌≡◌, ℕ, ◌+◌, ◌*◌, ◌≤◌, List, [], ◌∷◌, min}
use Rattle.std.specs.List.{AllByRecursion}
use Rattle.bc_model.specs.WellFormed.{IsWithin, IsSetup}
use Rattle.bc_model.specs.declared.traces.Setup.{Setup}
use Rattle.sorvekla.specs.declared.errors.OpenError.{OpenError}
use Rattle.sorvekla.specs.declared.errors.OpenError.TheVariants as fault
use Rattle.sorvekla.specs.declared.limits.Limits.{Limits}

-- a heap of 4 MiB in cells, of one lane and one domain, with as many frames as there are pages
abbrev pub default_limits : Limits
default_limits = record { lanes = 1; domains = 1; slots = 64; superpages = 256; nursery = 4; buffer = 1024; frames = 4294967295; workers = 1 }

-- all pages that there are: those of the nurseries and those of the superpages
abbrev pub pages_of : Limits → ℕ
pages_of l = l.lanes * l.nursery + 4 * l.superpages

-- the setup that a heap of these limits has: no more frames than pages
abbrev pub setup_of : Limits → Setup
setup_of l = record {
  lanes = l.lanes;
  domains = l.domains;
  slots = l.slots;
  superpages = l.superpages;
  nursery = l.nursery;
  buffer = l.buffer;
  frames = min l.frames (pages_of l);
}

-- the limit that this error is of is in its range
abbrev pub IsLimitInRange : Limits → OpenError → Type 0
IsLimitInRange l fault.Lanes = IsWithin 1 16 l.lanes
IsLimitInRange l fault.Domains = IsWithin 1 64 l.domains
IsLimitInRange l fault.Slots = IsWithin 1 256 l.slots
IsLimitInRange l fault.Superpages = IsWithin 1 4096 l.superpages
IsLimitInRange l fault.Nursery = IsWithin 1 16 l.nursery
IsLimitInRange l fault.Buffer = IsWithin 1 4096 l.buffer
IsLimitInRange l fault.Frames = l.lanes * l.nursery + 2 ≤ l.frames
IsLimitInRange l fault.Workers = IsWithin 1 16 l.workers
IsLimitInRange l fault.NoMemory = Unit {0}

-- the limits before this one, in the order of the fields. Out of memory comes after all of them
abbrev pub limits_before : OpenError → List OpenError
limits_before fault.Lanes = []
limits_before fault.Domains = fault.Lanes ∷ []
limits_before fault.Slots = fault.Lanes ∷ fault.Domains ∷ []
limits_before fault.Superpages = fault.Lanes ∷ fault.Domains ∷ fault.Slots ∷ []
limits_before fault.Nursery = fault.Lanes ∷ fault.Domains ∷ fault.Slots ∷ fault.Superpages ∷ []
limits_before fault.Buffer = fault.Lanes ∷ fault.Domains ∷ fault.Slots ∷ fault.Superpages ∷ fault.Nursery ∷ []
limits_before fault.Frames = fault.Lanes ∷ fault.Domains ∷ fault.Slots ∷ fault.Superpages ∷ fault.Nursery ∷ fault.Buffer ∷ []
limits_before fault.Workers = fault.Lanes ∷ fault.Domains ∷ fault.Slots ∷ fault.Superpages ∷ fault.Nursery ∷ fault.Buffer ∷ fault.Frames ∷ []
limits_before fault.NoMemory = fault.Lanes ∷ fault.Domains ∷ fault.Slots ∷ fault.Superpages ∷ fault.Nursery ∷ fault.Buffer ∷ fault.Frames ∷ fault.Workers ∷ []

-- this limit is out of its range, and it is the first: those before it are in theirs
abbrev pub IsLimitFault : Limits → OpenError → Type 0
IsLimitFault l error = AllByRecursion (IsLimitInRange l) (limits_before error) × (IsLimitInRange l error → ⊥)

-- why a heap isn't opened: the first limit that is out of its range, or none is and memory ran out
abbrev pub IsOpenFault : Limits → OpenError → Type 0
IsOpenFault l fault.NoMemory = IsSetup (setup_of l) × IsWithin 1 16 l.workers
IsOpenFault l error = IsLimitFault l error
