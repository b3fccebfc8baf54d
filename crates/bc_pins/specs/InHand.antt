-- Who has a page in hand at a moment of a turn.
use Rattle.std.specs.Prelude.{◌≡◌, ℕ, Some}
use mathlib.Core.Option.{some}
use lib.ListN.{get_elem?}
use Rattle.bc_pins.specs.declared.views.Hand.{Hand}
use Rattle.bc_pins.specs.declared.views.View.{View}
use Rattle.bc_pins.specs.Facts.{Table, page_word}

-- the seat of this number has the page in hand
pub record SeatHasPage (s : Table) (seat page : ℕ) : Type 0 where
  pub view : View
  pub at : get_elem? s.views seat ≡ some view
  pub hand : Hand
  pub has : view.hand ≡ Some hand
  pub page_is : hand.page ≡ page

-- the page's word says Held exactly where some seat has the page in hand, and no two seats have it
pub record IsHeldByOne (s : Table) (page : ℕ) : Type 0 where
  pub somebody : page_word s page ≡ 3 → (seat : ℕ) × SeatHasPage s seat page
  pub held : (seat : ℕ) → SeatHasPage s seat page → page_word s page ≡ 3
  pub alone : (seat other : ℕ) → SeatHasPage s seat page → SeatHasPage s other page → seat ≡ other
