-- How a phase ends, and how its rounds do.
use Rattle.std.specs.Prelude.{◌≡◌, ℕ, List, Result, Ok, Err}
use Rattle.bc_engine.specs.declared.phases.PhaseError.{PhaseError}
use Rattle.bc_engine.specs.declared.phases.PhaseError.TheVariants.{OutOfHeap, NoMemory}
use Rattle.bc_engine.specs.declared.rounds.RoundsError.{RoundsError}
use Rattle.bc_engine.specs.declared.rounds.RoundsError.TheVariants.{TooSmall, NoRoom}
use Rattle.bc_model.specs.declared.operations.Reply.{Reply}

-- of an answer that the heap is too small: its replies and the need
abbrev pub IfPhaseOutOfHeap : {T : Type 0} → Result T PhaseError → (List (List Reply) → ℕ → Type 0) → Type 0
IfPhaseOutOfHeap (Ok x) P = Unit {0}
IfPhaseOutOfHeap (Err (OutOfHeap replies need)) P = P replies need
IfPhaseOutOfHeap (Err NoMemory) P = Unit {0}

-- the phase ended since the heap is too small, with these replies and this need
abbrev pub IsOutOfHeap : {T : Type 0} → Result T PhaseError → List (List Reply) → ℕ → Type 0
IsOutOfHeap (Ok x) replies need = ⊥
IsOutOfHeap (Err (OutOfHeap told n)) replies need = (told ≡ replies) × (n ≡ need)
IsOutOfHeap (Err NoMemory) replies need = ⊥

-- the phase ended since memory ran out
abbrev pub IsNoMemory : {T : Type 0} → Result T PhaseError → Type 0
IsNoMemory (Ok x) = ⊥
IsNoMemory (Err (OutOfHeap replies need)) = ⊥
IsNoMemory (Err NoMemory) = Unit {0}

-- of rounds that end since the heap is too small: the need
abbrev pub IfTooSmall : {T : Type 0} → Result T RoundsError → (ℕ → Type 0) → Type 0
IfTooSmall (Ok x) P = Unit {0}
IfTooSmall (Err (TooSmall need)) P = P need
IfTooSmall (Err (NoRoom error)) P = Unit {0}

-- of rounds that end since there is no room for answers
abbrev pub IfNoRoom : {T : Type 0} → Result T RoundsError → Type 0 → Type 0
IfNoRoom (Ok x) P = Unit {0}
IfNoRoom (Err (TooSmall need)) P = Unit {0}
IfNoRoom (Err (NoRoom error)) P = P
