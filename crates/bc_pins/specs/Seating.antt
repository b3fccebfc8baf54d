-- Seats that are dealt, one for each role.
use Rattle.std.specs.Prelude.{◌≡◌, ℕ, ◌<◌, List, [], ◌∷◌, length, map, slice_index_or}
use Rattle.atomic_table.specs.declared.shared.Seat.{Seat as Worker}
use Rattle.atomic_table.specs.Seated.{TableId}
use Rattle.bc_pins.specs.declared.key.Role.{Role}
use Rattle.bc_pins.specs.declared.key.Role.TheVariants.{Lane}
use Rattle.bc_pins.specs.declared.views.Lodged.{Lodged}
use Rattle.bc_pins.specs.declared.views.View.{View}
use Rattle.bc_pins.specs.declared.pins.Seat.{Seat}
use Rattle.bc_pins.specs.Key.{Key, role_number}
use Rattle.bc_pins.specs.Steps.{fresh}

-- the seat from which others are split has done nothing, and has all roles
abbrev pub IsRoot : Key → List Role → Worker Lodged View → Type 0
IsRoot k roles root = root.me ≡ (fresh k (map role_number roles), [])

-- a seat of its own for a role, with which nothing was done
pub record IsDealt (id : TableId) (k : Key) (role : Role) (seat : Seat) : Type 0 where
  pub table : seat.inner.table_id ≡ id
  pub me : seat.inner.me ≡ (fresh k (role_number role ∷ []), [])
  pub its_role : seat.role ≡ role
  pub opens : seat.opens ≡ 0

-- the first of these roles have each a seat of its own, with which nothing was done
pub record AreDealt (id : TableId) (k : Key) (roles : List Role) (count : ℕ) (seats : List Seat) : Type 0 where
  pub long : length seats ≡ count
  pub each : (j : ℕ) → j < count → (d : Seat) → IsDealt id k (slice_index_or roles j (Lane 0)) (slice_index_or seats j d)
