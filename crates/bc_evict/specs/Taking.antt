-- A page that is taken to be given up, those that were tried before it, and what a pager has read and done once it left.
use Rattle.std.specs.Prelude.{◌≡◌, ℕ, ◌%◌, ◌<◌, ◌≤◌, if◌then◌else◌, nat_lt, true, false, List, [], ◌∷◌, ◌++◌, None}
use Rattle.bc_superpages.specs.declared.headers.PageState.{PageState}
use Rattle.bc_bookmarks.specs.Targets.{HasCell}
use Rattle.bc_pins.specs.declared.holding.Held.{Held}
use Rattle.bc_pins.specs.declared.pins.Seat.{Seat}
use Rattle.bc_pins.specs.declared.views.View.{View}
use Rattle.bc_pins.specs.Key.{Key, pages_of, pages_end}
use Rattle.bc_pins.specs.Totals.{times}
use Rattle.bc_pins.specs.Contents.{IsBarePage}
use Rattle.bc_pins.specs.Owing.{OwesNoMore}
use Rattle.bc_pins.specs.Views.{reads_at, reads_of}
use Rattle.bc_pins.specs.Steps.{Takes}
use Rattle.bc_pins.specs.Calls.{Grasps}
use Rattle.bc_evict.specs.declared.walking.Kind.{Kind}
use Rattle.bc_evict.specs.declared.walking.Kind.TheVariants.{Bare, Filled}
use Rattle.bc_evict.specs.Looking.{MayStayBare, MayStayFilled, TookNone, WasFound, all_pages, steps_behind, ComesBefore}

-- what lies on a page of this kind: no allocated cell on a bare one, and at least one on a filled one
abbrev pub IsOfKind : Key → Kind → ℕ → Type 0
IsOfKind k Bare page = IsBarePage k.opening page
IsOfKind k Filled page = HasCell k.opening page

-- where a page of this kind may be that can't be taken
abbrev pub MayStayAs : Kind → PageState → Type 0
MayStayAs Bare place = MayStayBare place
MayStayAs Filled place = MayStayFilled place

-- where the table's pages are gone round from, for a hint: at its page, or at the first where that lies past the table
abbrev pub first_page : Key → ℕ → ℕ
first_page k hint = if nat_lt (hint % all_pages k) (pages_of k) then hint % all_pages k else 0

-- words of pages were read with nothing in hand, and no others. What was known to be Gone is known still, and nothing else changed
pub record HasLooked (k : Key) (v w : View) (looks : List (ℕ × ℕ)) : Type 0 where
  pub none : TookNone k looks
  pub words : (i : ℕ) → pages_end k ≤ i → reads_of i looks ≡ []
  pub gone : (page : ℕ) → times page v.gone ≤ times page w.gone
  pub view : w ≡ record v { read = looks ++ v.read; seen = w.seen; gone = w.gone; busy = w.busy }

-- one page was tried, where it is of the kind: it couldn't be taken
pub record HasTried (k : Key) (kind : Kind) (page : ℕ) (v w : View) : Type 0 where
  pub looks : List (ℕ × ℕ)
  pub looked : HasLooked k v w looks
  pub found : IsOfKind k kind page → WasFound looks page (MayStayAs kind)

-- the first pages of the table, gone round from a start, were tried, where they are of the kind: none could be taken
pub record HasTriedUpTo (k : Key) (kind : Kind) (start steps : ℕ) (v w : View) : Type 0 where
  pub looks : List (ℕ × ℕ)
  pub looked : HasLooked k v w looks
  pub found : (q : ℕ) → q < pages_of k → IsOfKind k kind q → steps_behind (pages_of k) start q < steps → WasFound looks q (MayStayAs kind)

-- all pages of the table were tried, where they are of the kind: none could be taken
pub record HasTriedAll (k : Key) (kind : Kind) (v w : View) : Type 0 where
  pub looks : List (ℕ × ℕ)
  pub looked : HasLooked k v w looks
  pub found : (q : ℕ) → q < pages_of k → IsOfKind k kind q → WasFound looks q (MayStayAs kind)

-- a page of the kind was taken from Home by a seat with the view u
pub record IsTakenFor (k : Key) (kind : Kind) (u : View) (seat : Seat) (held : Held) : Type 0 where
  pub inside : held.page < pages_of k
  pub is_kind : IsOfKind k kind held.page
  pub quiet : held.remembered ≡ false
  pub grasps : Grasps u seat held.page held
  pub takes : Takes u held.page false held.homed

-- the first page of the kind was taken that could be taken, going round the heap's pages from a hint
pub record HasTakenFirst (k : Key) (kind : Kind) (hint : ℕ) (v : View) (seat : Seat) (held : Held) : Type 0 where
  pub ready : View
  pub looks : List (ℕ × ℕ)
  pub looked : HasLooked k v ready looks
  pub before : (q : ℕ) → q < pages_of k → IsOfKind k kind q → ComesBefore k hint q held.page → WasFound looks q (MayStayAs kind)
  pub taken : IsTakenFor k kind ready seat held

-- no word of a page was read since
pub record ReadNoPage (k : Key) (v w : View) : Type 0 where
  pub later : List (ℕ × ℕ)
  pub read : w.read ≡ later ++ v.read
  pub none : (page : ℕ) → page < pages_of k → reads_at page later ≡ []

-- the page that was in hand is Absent, and its frame was given back
pub record HasVacated (k : Key) (v : View) (page : ℕ) (w : View) : Type 0 where
  pub reads : ReadNoPage k v w
  pub view : w ≡ record v { hand = None; emptied = page ∷ v.emptied; read = w.read }

-- the page that was in hand is Gone, and its frame was given back. No page is owed that wasn't
pub record HasEvacuated (k : Key) (v : View) (page : ℕ) (w : View) : Type 0 where
  pub reads : ReadNoPage k v w
  pub view : w ≡ record v { hand = None; left = page ∷ v.left; bookmarked = w.bookmarked; known = w.known; won = w.won; owed = w.owed; read = w.read }
  pub less : OwesNoMore v w
  -- in a turn of lanes marks are as they were
  pub unmarked : k.lanes ≡ true → (w.known ≡ v.known) × (w.won ≡ v.won) × (w.owed ≡ v.owed)
