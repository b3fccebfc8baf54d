-- A page that was given up for its frame, the right to which is kept; and what was read where none could be taken.
use Rattle.std.specs.Prelude.{◌≡◌, ℕ, ◌<◌, ◌≤◌, ◌⊎◌, ◌==◌, true, false, List, [], ◌∷◌, ◌++◌}
use Rattle.bc_bits.specs.Counting.{one_if}
use Rattle.bc_superpages.specs.declared.headers.PageState.{PageState}
use Rattle.bc_pins.specs.declared.holding.Held.{Held}
use Rattle.bc_pins.specs.declared.pins.Seat.{Seat}
use Rattle.bc_pins.specs.declared.views.View.{View}
use Rattle.bc_pins.specs.Key.{Key, pages_of}
use Rattle.bc_pins.specs.Totals.{times}
use Rattle.bc_pins.specs.Views.{reads_at, state_word}
use Rattle.bc_pins.specs.Owing.{OwesNoMore}
use Rattle.bc_pins.specs.Steps.{Takes}
use Rattle.bc_pins.specs.Calls.{Grasps}
use Rattle.bc_evict.specs.Looking.{MayStay, steps_behind}
use Rattle.bc_evict.specs.Taking.{HasLooked}

-- the page's word was read once, and it was a state in which no page can be taken
abbrev pub IsPassed : List (ℕ × ℕ) → ℕ → Type 0
IsPassed looks page = (place : PageState) × MayStay place × (reads_at page looks ≡ state_word place ∷ [])

-- the words of the first pages of the table, gone round from a start, were read once each, no such page can be taken, and of the
-- others none was read
pub record HasPassedUpTo (k : Key) (start steps : ℕ) (v w : View) : Type 0 where
  pub looks : List (ℕ × ℕ)
  pub looked : HasLooked k v w looks
  pub each : (page : ℕ) → page < pages_of k → steps_behind (pages_of k) start page < steps → IsPassed looks page
  pub unread : (page : ℕ) → page < pages_of k → steps ≤ steps_behind (pages_of k) start page → reads_at page looks ≡ []

-- the words of all pages of the table were read once each, and no page could be taken
pub record FindsNoVictim (v w : View) : Type 0 where
  pub looks : List (ℕ × ℕ)
  pub looked : HasLooked v.about v w looks
  pub each : (page : ℕ) → page < pages_of v.about → IsPassed looks page

-- a page was taken from Home, after others were looked at
pub record HasTakenAny (k : Key) (v : View) (seat : Seat) (held : Held) : Type 0 where
  pub ready : View
  pub looks : List (ℕ × ℕ)
  pub looked : HasLooked k v ready looks
  pub inside : held.page < pages_of k
  pub quiet : held.remembered ≡ false
  pub grasps : Grasps ready seat held.page held
  pub takes : Takes ready held.page false held.homed

-- the seat has the right to this frame and to no other: it made one page Absent, or Gone, the one that it read as Home. What it knew to
-- be Gone it knows still, no page is owed that wasn't, and in a turn of lanes marks are as they were. Nothing else changed that the view
-- says
pub record HasFreed (v : View) (frame : ℕ) (w : View) : Type 0 where
  pub looks : List (ℕ × ℕ)
  pub view : w
      ≡ record v {
        rights = frame ∷ [];
        read = looks ++ v.read;
        seen = w.seen;
        gone = w.gone;
        busy = w.busy;
        left = w.left;
        emptied = w.emptied;
        bookmarked = w.bookmarked;
        known = w.known;
        won = w.won;
        owed = w.owed;
      }
  pub within : frame < v.about.frames
  pub page : ℕ
  pub inside : page < pages_of v.about
  pub one : ((w.emptied ≡ page ∷ v.emptied) × (w.left ≡ v.left)) ⊎ ((w.left ≡ page ∷ v.left) × (w.emptied ≡ v.emptied))
  pub homes : (p : ℕ) → p < pages_of v.about → times 1 (reads_at p looks) ≡ one_if (page == p)
  pub gone : (p : ℕ) → times p v.gone ≤ times p w.gone
  pub less : OwesNoMore v w
  pub unmarked : v.about.lanes ≡ true → (w.known ≡ v.known) × (w.won ≡ v.won) × (w.owed ≡ v.owed)
