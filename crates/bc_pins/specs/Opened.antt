-- What an opened table is.
use Rattle.std.specs.Prelude.{◌≡◌, ℕ, ◌+◌, ◌*◌, ◌<◌, ◌≤◌, false, List, [], length, map}
use Rattle.bc_superpages.specs.declared.headers.PageState.TheVariants.{Absent}
use Rattle.bc_superpages.specs.declared.parts.SpaceParts.{SpaceParts}
use Rattle.bc_superpages.specs.Layout.{Layout, superpages}
use Rattle.bc_superpages.specs.LayoutAt.{state_at}
use Rattle.bc_superpages.specs.Parts.{AreParts, parts_layout, state_in}
use Rattle.bc_model.specs.declared.values.Holder.{Holder}
use Rattle.bc_pins.specs.declared.key.Turn.{Turn}
use Rattle.bc_pins.specs.declared.key.Role.{Role}
use Rattle.bc_pins.specs.declared.pins.Pins.{Pins}
use Rattle.bc_pins.specs.declared.pins.Seat.{Seat}
use Rattle.bc_pins.specs.Key.{Key, pages_of, is_lanes, role_number, owner_role}
use Rattle.bc_pins.specs.Totals.{times}
use Rattle.bc_pins.specs.Opening.{IsOpenable, IsMarkable, key_for}
use Rattle.bc_pins.specs.Seating.{AreDealt}
use Rattle.bc_pins.specs.Calls.{key_of}

-- a table over this space, for this turn and these roles, with their seats: it has as many frames that no page may use as the space,
-- and each page past the table's is Absent
pub record Opened (space : Layout) (turn : Turn) (holders : List Holder) (roles : List Role) (pins : Pins) (seats : List Seat) : Type 0 where
  pub opening : (key_of pins).opening ≡ space
  pub frames : (key_of pins).frames ≡ space.frames
  pub unused : length (key_of pins).nursery ≡ space.nursery
  pub lanes : (key_of pins).lanes ≡ is_lanes turn
  pub owners : (key_of pins).owners ≡ map owner_role holders
  pub roles_are : (key_of pins).roles ≡ map role_number roles
  pub within : (key_of pins).supers ≤ superpages space
  pub behind : (p : ℕ) → pages_of (key_of pins) ≤ p → state_at space.states p ≡ Absent
  pub seats_are : AreDealt pins.table.shared.table_id (key_of pins) roles (length roles) seats

-- a space's parts and the key of a table for them
pub record IsKeyOf (parts : SpaceParts) (supers : ℕ) (turn : Turn) (holders : List Holder) (roles : List Role) (k : Key) : Type 0 where
  pub kept : AreParts parts
  pub within : supers ≤ length parts.headers.items
  pub near : 4 * supers < parts.end + 4
  pub behind : (p : ℕ) → 4 * supers ≤ p → state_in parts.headers.items p ≡ Absent
  pub absent : (p : ℕ) → 4 * supers ≤ p → state_at k.opening.states p ≡ Absent
  pub layout : parts_layout parts ≡ k.opening
  pub openable : IsOpenable k.opening
  pub markable : is_lanes turn ≡ false → IsMarkable k.opening
  pub some : 0 < length roles
  pub apart : (r : ℕ) → times r (map role_number roles) ≤ 1
  pub unheld : is_lanes turn ≡ false → holders ≡ []
  pub key : k ≡ key_for supers turn k.opening parts.pool parts.nursery.items holders roles
