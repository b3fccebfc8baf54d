-- What a seat has done once the targets of its page were bookmarked, and the superpages counted in which they lie.
use Rattle.std.specs.Prelude.{◌≡◌, ℕ, ◌+◌, ◌*◌, ◌/◌, ◌%◌, ◌^◌, ◌<◌, ◌≤◌, Bool, true, false, ◌||◌, nat_lt, if◌then◌else◌, ◌==◌, List, ◌∷◌, ◌++◌, Some}
use Rattle.bc_bits.specs.Bits.{has}
use Rattle.bc_bits.specs.Counting.{one_if}
use Rattle.bc_word.specs.declared.words.Word.{Word}
use Rattle.bc_word.specs.declared.words.Word.TheVariants.{Ref}
use Rattle.bc_word.specs.Addresses.{superpage_of, page_of, cell_number}
use Rattle.bc_superpages.specs.LayoutAt.{IsAllocated}
use Rattle.bc_superpages.specs.Calls.{class_at}
use Rattle.bc_bookmarks.specs.Targets.{names_in, names_cell, some_on, is_target, HasCell}
use Rattle.bc_pins.specs.declared.views.Hand.{Hand}
use Rattle.bc_pins.specs.declared.views.View.{View}
use Rattle.bc_pins.specs.declared.pins.Pins.{Pins}
use Rattle.bc_pins.specs.declared.pins.Seat.{Seat}
use Rattle.bc_pins.specs.declared.holding.Held.{Held}
use Rattle.bc_pins.specs.Key.{Key, pages_of, page_at, frame_at, notice_at}
use Rattle.bc_pins.specs.Totals.{times}
use Rattle.bc_pins.specs.Contents.{IsContent, RefersYoung, objects_in}
use Rattle.bc_pins.specs.Facts.{points}
use Rattle.bc_pins.specs.Owing.{OwesNoMore}
use Rattle.bc_pins.specs.Tracing.{tells}
use Rattle.bc_pins.specs.Steps.{IsBookmarkedBy}
use Rattle.bc_pins.specs.Views.{sets_bit, reads_of}
use Rattle.bc_pins.specs.Calls.{view_of, slots_of, IsAt, IsSameSeat, HoldsPage}
use Rattle.bc_evict.specs.Evicting.{IsAsTaken}

-- did the view set the bookmark bit of cell b of superpage q?
abbrev pub sets_cell : View → ℕ → ℕ → Bool
sets_cell v q b = nat_lt 0 (sets_bit (16 * q + b / 64) (b % 64) v.bookmarked)

-- does the view know cell b of superpage q to be marked?
abbrev pub knows_cell : View → ℕ → ℕ → Bool
knows_cell v q b = nat_lt 0 (tells (16 * q + b / 64) (b % 64) v.known)

-- of pages and frames nothing more was read, and of what was read nothing is forgotten
pub record ReadsNoPage (v w : View) : Type 0 where
  pub grows : (later : List (ℕ × ℕ)) × (w.read ≡ later ++ v.read)
  pub pages : (page : ℕ) → page < pages_of v.about → reads_of (page_at page) w.read ≡ reads_of (page_at page) v.read
  pub frames : (i : ℕ) → frame_at v.about 0 ≤ i → i < notice_at v.about → reads_of i w.read ≡ reads_of i v.read

-- the page in hand was bookmarked. The bits that the view set are those that it had set and those of the page's targets; each
-- superpage in which the page has a target is counted for it once, and no other. In a mark turn the targets are known to be marked,
-- and no page is owed that wasn't; in a turn of lanes marks are as they were. Nothing else changed that the view says
pub record HasBookmarked (v : View) (hand : Hand) (w : View) : Type 0 where
  pub now : Hand
  pub same_hand : now ≡ record hand { counted = now.counted; marked = now.marked }
  pub same : w ≡ record v { hand = Some now; bookmarked = w.bookmarked; known = w.known; won = w.won; owed = w.owed; read = w.read }
  pub bits : (q b : ℕ) → b < 1024
      → sets_cell w q b ≡ (some_on (names_cell v.about.opening.classes q b) (objects_in v.about.opening hand.content) hand.page || sets_cell v q b)
  pub knows : v.about.lanes ≡ false → (q b : ℕ) → b < 1024
      → knows_cell w q b ≡ (some_on (names_cell v.about.opening.classes q b) (objects_in v.about.opening hand.content) hand.page || knows_cell v q b)
  pub unmarked : v.about.lanes ≡ true → (w.known ≡ v.known) × (w.won ≡ v.won) × (w.owed ≡ v.owed)
  pub less : OwesNoMore v w
  pub counted : (q : ℕ) → q < v.about.supers → times q now.counted ≡ points v.about hand.page hand.content q
  pub reads : ReadsNoPage v w

-- a page in hand whose words a walk reads: they are as they were taken, keep what is fixed, and refer to no nursery
pub record IsWalked (pins : Pins) (seat : Seat) (held : Held) : Type 0 where
  pub at : IsAt pins seat
  pub holds : HoldsPage seat held
  pub as_taken : IsAsTaken seat held
  pub there : HasCell (view_of seat).about.opening held.page
  pub fixed : IsContent (view_of seat).about.opening held.page held.homed.page
  pub old : RefersYoung (view_of seat).about.opening held.page held.homed.page → ⊥

-- where the word is a reference, it is to a target of the page in hand, which is an allocated cell
abbrev pub IsTargetWord : Seat → Word → Type 0
IsTargetWord seat word = (a : ℕ) → word ≡ Ref (record { 0 = a })
    → IsAllocated (view_of seat).about.opening a × ((h : Hand) × ((view_of seat).hand ≡ Some h) × (is_target (objects_in (view_of seat).about.opening h.content) h.page a ≡ true))

-- the allocated cell of a superpage with this number, on this page, whose bookmark bit the view set
pub record IsSetCell (k : Key) (v : View) (page q n : ℕ) : Type 0 where
  pub address : ℕ
  pub there : IsAllocated k.opening address
  pub on : page ≡ page_of address
  pub superpage : q ≡ superpage_of address
  pub number : n ≡ cell_number (class_at k.opening address) address
  pub bookmarked : IsBookmarkedBy k v address

-- in a mark turn this cell was marked, and nothing else changed that the view says but what it won, owes and read. No page is owed that
-- wasn't: where the view won the mark, the page of the cell is queued
pub record ShadesTarget (v : View) (q n : ℕ) (w : View) : Type 0 where
  pub same : w ≡ record v { known = w.known; won = w.won; owed = w.owed; read = w.read }
  pub known : v.about.lanes ≡ false → w.known ≡ (16 * q + n / 64, 1 * 2 ^ (n % 64) % 2 ^ 64) ∷ v.known
  pub unmarked : v.about.lanes ≡ true → (w.known ≡ v.known) × (w.won ≡ v.won) × (w.owed ≡ v.owed)
  pub less : OwesNoMore v w
  pub reads : ReadsNoPage v w

-- the cells to which some words refer were bookmarked, in a mark turn marked too, and the superpages met in which they lie. The
-- words are known by the tests that some of them passes
pub record Marks (old : Seat) (met : List ℕ) (some : (Word → Bool) → Bool) (new : Seat) (more : List ℕ) : Type 0 where
  pub seat : IsSameSeat old new
  pub slots : slots_of new ≡ slots_of old
  pub same : (h : Hand) → (view_of old).hand ≡ Some h
      → (marked : List (ℕ × ℕ))
      × (view_of new ≡ record (view_of old) { hand = Some (record h { marked = marked }); bookmarked = (view_of new).bookmarked; known = (view_of new).known; won = (view_of new).won; owed = (view_of new).owed; read = (view_of new).read })
  pub bits : (q b : ℕ) → b < 1024 → sets_cell (view_of new) q b ≡ (some (names_cell (view_of old).about.opening.classes q b) || sets_cell (view_of old) q b)
  pub knows : (view_of old).about.lanes ≡ false → (q b : ℕ) → b < 1024 → knows_cell (view_of new) q b ≡ (some (names_cell (view_of old).about.opening.classes q b) || knows_cell (view_of old) q b)
  pub unmarked : (view_of old).about.lanes ≡ true → ((view_of new).known ≡ (view_of old).known) × ((view_of new).won ≡ (view_of old).won) × ((view_of new).owed ≡ (view_of old).owed)
  pub less : OwesNoMore (view_of old) (view_of new)
  pub meets : (q : ℕ) → has more q ≡ (some (names_in q) || has met q)
  pub reads : ReadsNoPage (view_of old) (view_of new)

-- of the superpages below an end, those of the set are counted once more
pub record CountsUpTo (end : ℕ) (met : List ℕ) (old new : List ℕ) : Type 0 where
  pub below : (q : ℕ) → q < end → times q new ≡ times q old + one_if (has met q)
  pub above : (q : ℕ) → end ≤ q → times q new ≡ times q old

-- the seat counted the superpages of the set below an end once more for the page in its hands
pub record Counts (old : Seat) (met : List ℕ) (end : ℕ) (new : Seat) : Type 0 where
  pub seat : IsSameSeat old new
  pub slots : slots_of new ≡ slots_of old
  pub same : (h : Hand) → (view_of old).hand ≡ Some h
      → (counted : List ℕ) × (view_of new ≡ record (view_of old) { hand = Some (record h { counted = counted }); read = (view_of new).read }) × CountsUpTo end met h.counted counted
  pub reads : ReadsNoPage (view_of old) (view_of new)

-- one superpage was, if it is of the set
pub record CountsOne (old : Seat) (met : List ℕ) (superpage : ℕ) (new : Seat) : Type 0 where
  pub seat : IsSameSeat old new
  pub slots : slots_of new ≡ slots_of old
  pub same : (h : Hand) → (view_of old).hand ≡ Some h
      → (counted : List ℕ) × (view_of new ≡ record (view_of old) { hand = Some (record h { counted = counted }); read = (view_of new).read })
      × ((q : ℕ) → times q counted ≡ times q h.counted + (if q == superpage then one_if (has met q) else 0))
  pub reads : ReadsNoPage (view_of old) (view_of new)
