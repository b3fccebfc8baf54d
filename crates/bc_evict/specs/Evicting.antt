-- What a seat may give up of the page in its hands, and what it has then.
use Rattle.std.specs.Prelude.{◌≡◌, ◌≢◌, ℕ, ◌/◌, ◌%◌, ◌^◌, ◌<◌, false, true, List, [], ◌∷◌, ◌++◌, Some, None}
use Rattle.bc_bookmarks.specs.Targets.{HasCell}
use Rattle.bc_pins.specs.declared.views.Hand.{Hand}
use Rattle.bc_pins.specs.declared.views.View.{View}
use Rattle.bc_pins.specs.declared.pins.Seat.{Seat}
use Rattle.bc_pins.specs.declared.holding.Held.{Held}
use Rattle.bc_pins.specs.Key.{frame_at}
use Rattle.bc_pins.specs.Totals.{times}
use Rattle.bc_pins.specs.Contents.{IsContent, RefersYoung, IsBarePage}
use Rattle.bc_pins.specs.Steps.{MayLeave, given_back}
use Rattle.bc_pins.specs.Views.{reads_of}
use Rattle.bc_pins.specs.Calls.{view_of}
use Rattle.bc_evict.specs.declared.rights.FrameRight.{FrameRight}

-- the page in hand has the content that was taken, and isn't remembered: neither when it was taken nor since
pub record IsAsTaken (seat : Seat) (held : Held) : Type 0 where
  pub content : (hand : Hand) → (view_of seat).hand ≡ Some hand → hand.content ≡ held.homed.page
  pub taken : (hand : Hand) → (view_of seat).hand ≡ Some hand → hand.remembered ≡ false
  pub quiet : held.remembered ≡ false

-- nothing is counted for the page in hand, and no bookmark bit was set for it since it was taken
pub record HasNoMarks (seat : Seat) : Type 0 where
  pub counted : (hand : Hand) → (view_of seat).hand ≡ Some hand → hand.counted ≡ []
  pub marked : (hand : Hand) → (view_of seat).hand ≡ Some hand → hand.marked ≡ []

-- what may be bookmarked: a page that is as it was taken, for which this wasn't done yet, with an allocated cell. Its content keeps
-- what is fixed in a turn, and refers to a nursery only where the page is remembered, as that of each page in hand does
pub record MayBookmark (seat : Seat) (held : Held) : Type 0 where
  pub as_taken : IsAsTaken seat held
  pub unmarked : HasNoMarks seat
  pub there : HasCell (view_of seat).about.opening held.page
  pub fixed : IsContent (view_of seat).about.opening held.page held.homed.page
  pub young : RefersYoung (view_of seat).about.opening held.page held.homed.page → held.remembered ≡ true

-- what may be made Gone: a page that is as it was taken, with an allocated cell, each of whose targets was bookmarked and which was
-- counted once in each superpage that has one
pub record MayRelinquish (seat : Seat) (held : Held) : Type 0 where
  pub as_taken : IsAsTaken seat held
  pub bookmarked : (hand : Hand) → (view_of seat).hand ≡ Some hand → MayLeave (view_of seat).about (view_of seat) hand

-- what may be made Absent: a page that is as it was taken, without an allocated cell, which wasn't bookmarked
pub record MayDiscard (seat : Seat) (held : Held) : Type 0 where
  pub as_taken : IsAsTaken seat held
  pub unmarked : HasNoMarks seat
  pub bare : IsBarePage (view_of seat).about.opening held.page

-- the seat has this right: to a frame of the heap, which is in no page's use and not free
pub record HasRight (seat : Seat) (right : FrameRight) : Type 0 where
  pub has : 0 < times right.frame (view_of seat).rights
  pub within : right.frame < (view_of seat).about.frames

-- the view after its page was made Gone: the page isn't in hand, and the right to its frame is
abbrev pub given_up : View → Held → View
given_up v held = record v { hand = None; left = held.page ∷ v.left; rights = held.homed.frame ∷ v.rights }

-- the view after its page was made Absent: the page isn't in hand, and the right to its frame is
abbrev pub discarded : View → Held → View
discarded v held = record v { hand = None; emptied = held.page ∷ v.emptied; rights = held.homed.frame ∷ v.rights }

-- the right was given up: it is no right any more, all others are, and nothing else changed that the view says but what was read
-- of the frame's word
pub record HasGiven (v : View) (frame : ℕ) (w : View) : Type 0 where
  pub same : w ≡ record v { rights = w.rights; read = w.read }
  pub rights : w.rights ≡ given_back (frame / 64) (2 ^ (frame % 64)) v.rights
  pub none : times frame w.rights ≡ 0
  pub others : (f : ℕ) → f ≢ frame → times f w.rights ≡ times f v.rights
  pub reads : (i : ℕ) → i ≢ frame_at v.about (frame / 64) → reads_of i w.read ≡ reads_of i v.read
  pub grows : (later : List (ℕ × ℕ)) × (w.read ≡ later ++ v.read)
