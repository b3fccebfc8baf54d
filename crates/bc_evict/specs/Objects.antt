-- An object on a page in hand.
use Rattle.std.specs.Prelude.{◌≡◌, ℕ}
use Rattle.bc_word.specs.Addresses.{page_of}
use Rattle.bc_superpages.specs.Layout.{Layout}
use Rattle.bc_superpages.specs.LayoutAt.{IsAllocated}
use Rattle.bc_superpages.specs.Kept.{IsLayout}
use Rattle.bc_pins.specs.declared.holding.Held.{Held}
use Rattle.bc_pins.specs.Contents.{IsContent}

-- an object of the space lies on the page, whose content keeps what is fixed
pub record HeldHasObject (s : Layout) (held : Held) (cell : ℕ) : Type 0 where
  pub kept : IsLayout s
  pub allocated : IsAllocated s cell
  pub on : page_of cell ≡ held.page
  pub fixed : IsContent s held.page held.homed.page
