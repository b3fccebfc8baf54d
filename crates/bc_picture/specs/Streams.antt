-- Bytes on their way to a sink: some are taken, and some wait.
use Rattle.std.specs.Prelude.{◌≡◌, ℕ, List, ◌++◌, length, Option}
use Rattle.bc_io.specs.Faults.{Rose}
use Rattle.bc_io.specs.Told.{HasRoom, HeldGrows}
use Rattle.bc_io.specs.Pieces.{RoomFalls, TakesFront}

-- a sink, as contracts see one, and the bytes that wait for it
pub record Stream : Type 0 where
  pub held : Option (List ℕ)
  pub room : Option ℕ
  pub faults : ℕ
  pub waiting : List ℕ

-- a sink and what waits for it, from its parts
abbrev pub stream_of : Option (List ℕ) → Option ℕ → ℕ → List ℕ → Stream
stream_of held room faults waiting = record { held = held; room = room; faults = faults; waiting = waiting }

-- the sink has room for what waits and for these bytes
abbrev pub HasStreamRoom : Stream → List ℕ → Type 0
HasStreamRoom s bytes = HasRoom s.room (length (s.waiting ++ bytes))

-- these bytes were put after those that waited: the sink took the first of them all, and the others wait
pub record Puts (s t : Stream) (bytes : List ℕ) : Type 0 where
  pub taken : List ℕ
  pub whole : s.waiting ++ bytes ≡ taken ++ t.waiting
  pub grows : HeldGrows s.held t.held taken
  pub falls : RoomFalls s.room t.room (length taken)
  pub firm : t.faults ≡ s.faults

-- a fault came when these bytes were put: the sink took a prefix of what waited and of them, and not all
pub record Breaks (s t : Stream) (bytes : List ℕ) : Type 0 where
  pub front : TakesFront s.held t.held s.room t.room (s.waiting ++ bytes)
  pub rose : Rose s.faults t.faults
