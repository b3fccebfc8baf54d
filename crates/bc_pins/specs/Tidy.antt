-- A view that has contents of its own pages alone.
use Rattle.std.specs.Prelude.{◌≡◌, ℕ}
use Rattle.bc_pins.specs.declared.views.View.{View}
use Rattle.bc_pins.specs.Key.{owner}
use Rattle.bc_pins.specs.Views.{has_role, entries}

-- the view has contents of its own pages alone
abbrev pub IsTidy : View → Type 0
IsTidy v = (p : ℕ) → has_role v (owner v.about p) ≡ 0 → entries p v.changed ≡ 0
