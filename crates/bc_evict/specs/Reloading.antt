-- A page that a lane takes from Gone, and what its view says then.
use Rattle.std.specs.Prelude.{◌≡◌, ℕ, ◌<◌, ◌≤◌, false, List, [], ◌∷◌, ◌++◌, Some}
use Rattle.bc_pins.specs.declared.views.View.{View}
use Rattle.bc_pins.specs.declared.views.Hand.{Hand}
use Rattle.bc_pins.specs.declared.pins.Seat.{Seat}
use Rattle.bc_pins.specs.declared.holding.Held.{Held}
use Rattle.bc_pins.specs.declared.views.Lodged.TheVariants.{Nothing, Away}
use Rattle.bc_pins.specs.Key.{pages_of, page_at}
use Rattle.bc_pins.specs.Totals.{times}
use Rattle.bc_pins.specs.Views.{reads_of}
use Rattle.bc_pins.specs.Steps.{both_slots, fetching, without, having_read, Fetches, ReadsWord}
use Rattle.bc_pins.specs.Calls.{view_of, slots_of, IsFree, IsSameSeat}
use Rattle.bc_evict.specs.declared.reloading.ReloadError.{ReloadError}
use Rattle.bc_evict.specs.declared.reloading.ReloadError.TheVariants.{Busy, Home, Remembered, Absent}

-- the word of a page by which each refusal comes
abbrev pub reload_word : ReloadError → ℕ
reload_word Absent = 0
reload_word Home = 1
reload_word Remembered = 2
reload_word Busy = 3

-- the page was taken from Gone by a seat that had this right and no other, and its box lies in its store slot
pub record IsFetched (v : View) (page : ℕ) (content : List ℕ) (frame : ℕ) (seat : Seat) : Type 0 where
  pub fetches : Fetches v page content
  pub right : v.rights ≡ frame ∷ []
  pub view : view_of seat ≡ fetching v page content frame
  pub slots : slots_of seat ≡ both_slots v.about page Nothing (Away content)

-- the first superpages are counted no more for the page in hand, and nothing else changed but what was read of their counters
pub record UncountsUpTo (old : Seat) (end : ℕ) (new : Seat) : Type 0 where
  pub seat : IsSameSeat old new
  pub slots : slots_of new ≡ slots_of old
  pub looks : List (ℕ × ℕ)
  pub same : (h : Hand) → (view_of old).hand ≡ Some h
      → (counted : List ℕ) × (view_of new ≡ record (view_of old) { hand = Some (record h { counted = counted }); read = looks ++ (view_of old).read })
      × ((q : ℕ) → q < end → times q counted ≡ 0) × ((q : ℕ) → end ≤ q → times q counted ≡ times q h.counted)
  pub pages : (page : ℕ) → page < pages_of (view_of old).about → reads_of (page_at page) looks ≡ []

-- the page is in hand with its content, in the frame to which the seat had the right. Nothing is counted for it, and the seat has no right
pub record HasReloaded (v : View) (page frame : ℕ) (seat : Seat) (held : Held) : Type 0 where
  pub looks : List (ℕ × ℕ)
  pub is : held.page ≡ page
  pub quiet : held.remembered ≡ false
  pub frame_is : held.homed.frame ≡ frame
  pub fetches : Fetches v page held.homed.page
  pub view : view_of seat
      ≡ record v {
        read = looks ++ v.read;
        hand = Some (record { page = page; remembered = false; frame = frame; content = held.homed.page; counted = []; marked = [] });
        rights = [];
        gone = without page v.gone;
        busy = without page v.busy;
        fetched = page ∷ v.fetched;
      }
  pub here : reads_of (page_at page) looks ≡ 4 ∷ []
  pub others : (other : ℕ) → other < pages_of v.about → (other ≡ page → ⊥) → reads_of (page_at other) looks ≡ []
  pub slots : slots_of seat ≡ both_slots v.about page Nothing Nothing

-- the page's word was read, and nothing else changed
pub record IsReloadRefused (v : View) (page : ℕ) (no : ReloadError) (seat : Seat) : Type 0 where
  pub view : view_of seat ≡ having_read v page (reload_word no)
  pub reads : ReadsWord v page (reload_word no)
  pub free : IsFree seat
