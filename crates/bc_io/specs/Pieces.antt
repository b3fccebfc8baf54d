-- What one write takes.
use Rattle.std.specs.Prelude.{◌≡◌, ℕ, ◌-◌, ◌<◌, List, ◌++◌, length, Option, option_map}
use Rattle.bc_io.specs.Told.{HeldGrows}

-- The room fell by this number of bytes.
abbrev pub RoomFalls : Option ℕ → Option ℕ → ℕ → Type 0
RoomFalls old new count = new ≡ option_map (λ room. room - count) old

-- a sink took a prefix of the bytes and not all of them: what it holds grew by the prefix, and its room fell by as many
pub record TakesFront (held_old held_new : Option (List ℕ)) (room_old room_new : Option ℕ) (bytes : List ℕ) : Type 0 where
  pub taken : List ℕ
  pub rest : List ℕ
  pub whole : bytes ≡ taken ++ rest
  pub not_all : 0 < length rest
  pub grows : HeldGrows held_old held_new taken
  pub falls : RoomFalls room_old room_new (length taken)
