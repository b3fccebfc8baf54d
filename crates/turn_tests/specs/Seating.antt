-- What the seats of a test's table keep.
use Rattle.std.specs.Prelude.{◌≡◌, ℕ, true, List, [], ◌∷◌, map}
use Rattle.bc_model.specs.declared.values.Holder.{Holder}
use Rattle.bc_model.specs.declared.values.Holder.TheVariants as holder
use Rattle.bc_pins.specs.declared.key.Turn.{Turn}
use Rattle.bc_pins.specs.declared.key.Turn.TheVariants.{Lanes, Mark}
use Rattle.bc_pins.specs.declared.pins.Pins.{Pins}
use Rattle.bc_pins.specs.declared.pins.Seat.{Seat}
use Rattle.bc_pins.specs.Key.{Key, owner_role, role_number}
use Rattle.bc_pins.specs.Totals.{times}
use Rattle.bc_pins.specs.Views.{has_role}
use Rattle.bc_pins.specs.Calls.{key_of, view_of, IsAt, IsFree, CountsFetches}

-- who holds the domains in a turn
abbrev pub holders_in : Turn → List Holder
holders_in Lanes = holder.Lane 0 ∷ holder.Lane 1 ∷ holder.Frozen ∷ []
holders_in Mark = []

-- in a turn of lanes, lane 0 holds domain 0 and lane 1 domain 1, and domain 2 is frozen
abbrev pub LanesHold : Key → Type 0
LanesHold k = k.lanes ≡ true → k.owners ≡ map owner_role (holders_in Lanes)

-- the seat's one role is its own
abbrev pub HasOneRole : Seat → Type 0
HasOneRole seat = (r : ℕ) → has_role (view_of seat) r ≡ times r (role_number seat.role ∷ [])

-- a seat of this table with nothing in hand, which may come back to it
pub record IsSeated (pins : Pins) (seat : Seat) : Type 0 where
  pub at : IsAt pins seat
  pub free : IsFree seat
  pub rights : (view_of seat).rights ≡ []
  pub counts : CountsFetches seat
  pub roles : HasOneRole seat

-- the two seats of a table
pub record AreSeated (pins : Pins) (one other : Seat) : Type 0 where
  pub first : IsSeated pins one
  pub second : IsSeated pins other
  pub roles : (key_of pins).roles ≡ map role_number (one.role ∷ other.role ∷ [])
  pub lanes : LanesHold (key_of pins)
