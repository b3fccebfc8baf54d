-- In the theorem.
-- What a trace may say: its setup is within the ranges, and its phases and operations fit the setup.
use Rattle.std.specs.Prelude.{◌≡◌, ℕ, ◌+◌, ◌*◌, ◌^◌, ◌<◌, ◌≤◌, ◌⊎◌, length}
use Rattle.std.specs.List.{AllByRecursion}
use Rattle.bc_model.specs.Lists.{PhaseLists, TraceLists, TurnLists}
use Rattle.bc_model.specs.declared.operations.Op.{Op}
use Rattle.bc_model.specs.declared.operations.Op.TheVariants.{New, Who, Len, Set, Cut, Link, Load, Copy, Clear, Same}
use Rattle.bc_model.specs.declared.traces.Change.{Change}
use Rattle.bc_model.specs.declared.traces.Change.TheVariants as change
use Rattle.bc_model.specs.declared.traces.Give.{Give}
use Rattle.bc_model.specs.declared.traces.Setup.{Setup}
use Rattle.bc_model.specs.declared.values.Slot.{Slot}

-- from least to most, both included
abbrev pub IsWithin : ℕ → ℕ → ℕ → Type 0
IsWithin least most n = (least ≤ n) × (n ≤ most)

-- each number of a setup is in its range
pub record IsSetup (s : Setup) : Type 0 where
  pub lanes : IsWithin 1 16 s.lanes
  pub domains : IsWithin 1 64 s.domains
  pub slots : IsWithin 1 256 s.slots
  pub superpages : IsWithin 1 4096 s.superpages
  pub nursery : IsWithin 1 16 s.nursery
  pub buffer : IsWithin 1 4096 s.buffer
  pub frames : IsWithin (s.lanes * s.nursery + 2) (s.lanes * s.nursery + 4 * s.superpages) s.frames

-- the setup has such a root slot
abbrev pub IsSlot : Setup → Slot → Type 0
IsSlot s p = (p.domain < s.domains) × (p.slot < s.slots)

-- an object has at most 127 fields
abbrev pub IsField : ℕ → Type 0
IsField i = i < 127

-- a number that a field or a slot may hold
abbrev pub IsNumber : ℕ → Type 0
IsNumber v = v < 2 ^ 63

-- the operation's slots, fields and numbers are in range
abbrev pub IsOp : Setup → Op → Type 0
IsOp s (New p n) = IsSlot s p × (n ≤ 127)
IsOp s (Who p) = IsSlot s p
IsOp s (Len p) = IsSlot s p
IsOp s (Set p i v) = IsSlot s p × IsField i × IsNumber v
IsOp s (Cut p i) = IsSlot s p × IsField i
IsOp s (Link p i q) = IsSlot s p × IsField i × IsSlot s q
IsOp s (Load p i q) = IsSlot s p × IsField i × IsSlot s q
IsOp s (Copy p q) = IsSlot s p × IsSlot s q
IsOp s (Clear p) = IsSlot s p
IsOp s (Same p q) = IsSlot s p × IsSlot s q

-- a give names a domain and a lane of the setup
abbrev pub IsGive : Setup → Give → Type 0
IsGive s g = (g.domain < s.domains) × (g.lane < s.lanes)

-- a change names a domain of the setup, and a give a lane of it besides
abbrev pub FitsChange : Setup → Change → Type 0
FitsChange s (change.Give g) = IsGive s g
FitsChange s (change.Freeze d) = d < s.domains

-- a turn's line has at most 64 hints
abbrev pub IsTurn : TurnLists → Type 0
IsTurn line = (length line.hints ≤ 64) × AllByRecursion (λ h. h < 2 ^ 32) line.hints

-- beside the frames of the nurseries and those that are withheld, two are left
abbrev pub FitsFrames : Setup → TurnLists → Type 0
FitsFrames s line = s.lanes * s.nursery + 2 + line.withheld ≤ s.frames

-- a phase has the operations of every lane
pub record IsPhase (s : Setup) (p : PhaseLists) : Type 0 where
  pub turns : AllByRecursion IsTurn p.turns
  pub lanes : length p.lanes ≡ s.lanes
  pub ops : AllByRecursion (AllByRecursion (IsOp s)) p.lanes
  pub gives : AllByRecursion (FitsChange s) p.gives

-- the version of the language has such a change: there is no freeze in version 1
abbrev pub KnowsChange : ℕ → Change → Type 0
KnowsChange version (change.Give g) = Unit {0}
KnowsChange version (change.Freeze d) = 2 ≤ version

-- the version of the language has such a line: before version 3 none withholds frames
abbrev pub KnowsLine : ℕ → TurnLists → Type 0
KnowsLine version line = (3 ≤ version) ⊎ (line.withheld ≡ 0)

-- the phase has no change and no line that its version doesn't have
pub record IsKnown (version : ℕ) (p : PhaseLists) : Type 0 where
  pub turns : AllByRecursion (KnowsLine version) p.turns
  pub gives : AllByRecursion (KnowsChange version) p.gives

-- a trace is well formed: its version is 1, 2 or 3 and has all changes and turn lines of the phases, its setup is in its ranges, each
-- phase fits the setup, and no turn withholds more frames than can be
pub record IsTrace (t : TraceLists) : Type 0 where
  pub version : IsWithin 1 3 t.version
  pub known : AllByRecursion (IsKnown t.version) t.phases
  pub budgets : AllByRecursion (λ p. AllByRecursion (FitsFrames t.setup) p.turns) t.phases
  pub setup : IsSetup t.setup
  pub phases : AllByRecursion (IsPhase t.setup) t.phases
