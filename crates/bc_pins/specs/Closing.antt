-- What closing a table requires, and what it gives.
use Rattle.std.specs.Prelude.{◌≡◌, ℕ, ◌+◌, ◌-◌, ◌*◌, ◌/◌, ◌%◌, ◌^◌, ◌<◌, ◌≤◌, ◌≢◌, ◌==◌, ◌⊎◌, Bool, true, false, nat_lt, List, [], length, min, None, slice_index, slice_index_or}
use Rattle.atomic_table.specs.declared.shared.Seat.{Seat as Worker}
use Rattle.atomic_table.specs.Seated.{TableId}
use Rattle.bc_bits.specs.Counting.{one_if}
use Rattle.bc_superpages.specs.declared.headers.Header.{Header}
use Rattle.bc_superpages.specs.Headers.{unused_header}
use Rattle.bc_superpages.specs.declared.headers.PageState.{PageState}
use Rattle.bc_superpages.specs.declared.headers.PageState.TheVariants as state
use Rattle.bc_superpages.specs.Layout.{Layout, superpages, set_of, content_at}
use Rattle.bc_bits.specs.Bits.{has}
use Rattle.std.specs.Int.{bit_at}
use Rattle.bc_frames.specs.Pool.{is_free}
use Rattle.bc_bits.specs.BitChanges.{AreWords}
use Rattle.bc_superpages.specs.Kept.{IsCellSet, IsLayout}
use Rattle.bc_pins.specs.Facts.{has_bit_of, opened_bit, puts_with, IsBitOfTarget}
use Rattle.bc_superpages.specs.LayoutAt.{state_at}
use Rattle.bc_superpages.specs.Collecting.{is_marked}
use Rattle.bc_superpages.specs.Paging.{is_bookmarked}
use Rattle.bc_reach.specs.Reach.{Reach}
use Rattle.bc_word.specs.Addresses.{page_of}
use Rattle.bc_superpages.specs.declared.parts.SpaceParts.{SpaceParts}
use Rattle.bc_superpages.specs.Parts.{AreParts, parts_layout}
use Rattle.bc_pins.specs.Contents.{IsContent, RefersYoung}
use Rattle.bc_superpages.specs.Parts.{state_in}
use Rattle.bc_pins.specs.declared.views.Lodged.{Lodged}
use Rattle.bc_pins.specs.declared.views.View.{View}
use Rattle.bc_pins.specs.declared.pins.Seat.{Seat}
use Rattle.bc_pins.specs.Key.{Key, pages_of, page_at, owner, counter_at, bookmark_at, mark_at, finished_at}
use Rattle.bc_pins.specs.Totals.{total, times}
use Rattle.bc_pins.specs.Opening.{IsOpenable, IsMarkable}
use Rattle.bc_pins.specs.Tidy.{IsTidy}
use Rattle.bc_pins.specs.Views.{state_word, opened_word, opened_state, opened_content, has_role, sets_bit, reads_of, reads_as, record_of}
use Rattle.bc_pins.specs.Tracing.{RefersToCell, opened_mark, opened_finished, tells}
use Rattle.bc_pins.specs.Calls.{view_of, CountsFetches}

-- a seat of this table with no page and no frame right in hand, which opened the box of each page that it took from Gone
pub record IsBack (id : TableId) (k : Key) (seat : Seat) : Type 0 where
  pub table : seat.inner.table_id ≡ id
  pub about : (view_of seat).about ≡ k
  pub hand : (view_of seat).hand ≡ None
  pub slots : seat.inner.me.1 ≡ []
  pub rights : (view_of seat).rights ≡ []
  pub opens : CountsFetches seat
  pub tidy : IsTidy (view_of seat)

-- all seats of a table: between them they have each role that was given out
pub record AreBack (id : TableId) (k : Key) (seats : List Seat) : Type 0 where
  pub some : 0 < length seats
  pub each : (j : ℕ) → j < length seats → (d : Seat) → IsBack id k (slice_index_or seats j d)
  pub roles : (r : ℕ) → total (λ (seat : Seat). has_role (view_of seat) r) seats ≡ times r k.roles

-- how many numbers of notices the seats claimed
abbrev pub claims_of : List Seat → ℕ
claims_of seats = total (λ (seat : Seat). length (view_of seat).notices) seats

-- each number below as many as the seats claimed was claimed by one of them, once, and no other number by any. The word from which they
-- are claimed counts to 2 ^ 64 alone
abbrev pub HaveClaimed : List Seat → Type 0
HaveClaimed seats = claims_of seats < 2 ^ 64 → (n : ℕ) → total (λ (seat : Seat). times n (view_of seat).notices) seats ≡ one_if (nat_lt n (claims_of seats))

-- a seat into which those from a place on were joined: it has all that they had
pub record Gathered (id : TableId) (k : Key) (all front : List Seat) (root : Worker Lodged View) : Type 0 where
  pub table : root.table_id ≡ id
  pub about : root.me.0.about ≡ k
  pub hand : root.me.0.hand ≡ None
  pub slots : root.me.1 ≡ []
  pub rights : root.me.0.rights ≡ []
  pub tidy : IsTidy root.me.0
  pub fewer : length front ≤ length all
  pub same : (j : ℕ) → j < length front → (d : Seat) → slice_index_or front j d ≡ slice_index_or all j d
  pub roles : (r : ℕ) → times r root.me.0.roles + total (λ (seat : Seat). has_role (view_of seat) r) front ≡ times r k.roles
  pub recorded : (p : ℕ) → times p root.me.0.recorded + total (λ (seat : Seat). times p (view_of seat).recorded) front ≡ total (λ (seat : Seat). times p (view_of seat).recorded) all
  pub left : (p : ℕ) → times p root.me.0.left + total (λ (seat : Seat). times p (view_of seat).left) front ≡ total (λ (seat : Seat). times p (view_of seat).left) all
  pub emptied : (p : ℕ) → times p root.me.0.emptied + total (λ (seat : Seat). times p (view_of seat).emptied) front ≡ total (λ (seat : Seat). times p (view_of seat).emptied) all
  pub bookmarked : (w b : ℕ) → sets_bit w b root.me.0.bookmarked + total (λ (seat : Seat). sets_bit w b (view_of seat).bookmarked) front ≡ total (λ (seat : Seat). sets_bit w b (view_of seat).bookmarked) all
  pub won : (w b : ℕ) → tells w b root.me.0.won + total (λ (seat : Seat). tells w b (view_of seat).won) front ≡ total (λ (seat : Seat). tells w b (view_of seat).won) all
  pub finished : (w b : ℕ) → tells w b root.me.0.finished + total (λ (seat : Seat). tells w b (view_of seat).finished) front ≡ total (λ (seat : Seat). tells w b (view_of seat).finished) all
  pub fetched : (p : ℕ) → times p root.me.0.fetched + total (λ (seat : Seat). times p (view_of seat).fetched) front ≡ total (λ (seat : Seat). times p (view_of seat).fetched) all
  pub returned : (p : ℕ) → times p root.me.0.returned + total (λ (seat : Seat). times p (view_of seat).returned) front ≡ total (λ (seat : Seat). times p (view_of seat).returned) all
  pub gone : (p : ℕ) → times p root.me.0.gone + total (λ (seat : Seat). times p (view_of seat).gone) front ≡ total (λ (seat : Seat). times p (view_of seat).gone) all
  pub busy : (p : ℕ) → times p root.me.0.busy + total (λ (seat : Seat). times p (view_of seat).busy) front ≡ total (λ (seat : Seat). times p (view_of seat).busy) all
  pub put : (p w b : ℕ) → puts_with k p w b root.me.0.changed + total (λ (seat : Seat). puts_with k p w b (view_of seat).changed) front ≡ total (λ (seat : Seat). puts_with k p w b (view_of seat).changed) all
  pub read : (i n : ℕ) → times n (reads_of i root.me.0.read) + total (λ (seat : Seat). times n (reads_of i (view_of seat).read)) front ≡ total (λ (seat : Seat). times n (reads_of i (view_of seat).read)) all
  pub claimed : length root.me.0.notices + claims_of front ≡ claims_of all
  pub notices : (n : ℕ) → times n root.me.0.notices + total (λ (seat : Seat). times n (view_of seat).notices) front ≡ total (λ (seat : Seat). times n (view_of seat).notices) all
  pub mine : (j : ℕ) → length front ≤ j → j < length all → (d : Seat) (p : ℕ) → 0 < has_role (view_of (slice_index_or all j d)) (owner k p)
      → (0 < has_role root.me.0 (owner k p)) × (record_of root.me.0 p ≡ record_of (view_of (slice_index_or all j d)) p)

-- how often the seats took a page from Gone
abbrev pub fetches_of : List Seat → ℕ
fetches_of seats = total (λ (seat : Seat). length (view_of seat).fetched) seats

-- the header has the first states, of four, that words have for the pages of its superpage
pub record PagesSet (old new : Header) (superpage : ℕ) (words : List ℕ) (count : ℕ) : Type 0 where
  pub same : new ≡ record old { pages = new.pages }
  pub long : length new.pages ≡ length old.pages
  pub near : (i : ℕ) → i < count → state_word (slice_index_or new.pages i state.Absent) ≡ slice_index words (16 * superpage + i)

-- the header has the counter and the first bookmark words, of sixteen, that the table's words have for its superpage
pub record SummarySet (old new : Header) (superpage superpages : ℕ) (words : List ℕ) (count : ℕ) : Type 0 where
  pub same : new ≡ record old { incoming = slice_index words (16 * superpages + superpage); bookmarks = new.bookmarks }
  pub long : length new.bookmarks ≡ 16
  pub fits : AreWords new.bookmarks
  pub bits : (j : ℕ) → j < count → slice_index new.bookmarks j ≡ slice_index words (17 * superpages + (16 * superpage + j))

-- of the first frames those are free whose bits are clear in the words from a place on
pub record PoolSet (old new : List Bool) (count start : ℕ) (words : List ℕ) : Type 0 where
  pub long : length new ≡ length old
  pub near : (f : ℕ) → f < count → is_free new f ≡ (bit_at (slice_index words (start + f / 64)) (f % 64) == 0)
  pub far : (f : ℕ) → count ≤ f → is_free new f ≡ is_free old f

-- the header has the first marks and finished words, of sixteen, that words have for its superpage from a place on
pub record MarksSet (old new : Header) (superpage superpages start : ℕ) (words : List ℕ) (count : ℕ) : Type 0 where
  pub same : new ≡ record old { marks = new.marks; finished = new.finished }
  pub marks_set : IsCellSet new.marks
  pub finished_set : IsCellSet new.finished
  pub marks : (j : ℕ) → j < count → slice_index new.marks j ≡ slice_index words (start + (16 * superpage + j))
  pub finished : (j : ℕ) → j < count → slice_index new.finished j ≡ slice_index words (start + (16 * superpages + (16 * superpage + j)))

-- the header has what words have for its superpage: the states of its pages, its counter and bookmarks, and in a mark turn, from a place
-- on, its marks and finished cells
pub record HeaderSet (old new : Header) (superpage superpages start : ℕ) (lanes : Bool) (words : List ℕ) : Type 0 where
  pub stated : Header
  pub summed : Header
  pub states : PagesSet old stated superpage words 4
  pub summary : SummarySet stated summed superpage superpages words 16
  pub unmarked : lanes ≡ true → new ≡ summed
  pub marked : lanes ≡ false → MarksSet summed new superpage superpages start words 16

-- the first headers have
pub record HeadersBelow (old new : List Header) (count superpages start : ℕ) (lanes : Bool) (words : List ℕ) : Type 0 where
  pub long : length new ≡ length old
  pub near : (q : ℕ) → q < count → HeaderSet (slice_index_or old q unused_header) (slice_index_or new q unused_header) q superpages start lanes words
  pub far : (q : ℕ) → count ≤ q → slice_index_or new q unused_header ≡ slice_index_or old q unused_header

-- the header's sets of bookmarks, marks and finished cells are sets of cells, and it has four states
pub record IsWritable (header : Header) : Type 0 where
  pub bookmarks : IsCellSet header.bookmarks
  pub marks : IsCellSet header.marks
  pub finished : IsCellSet header.finished
  pub states : length header.pages ≡ 4

-- states, counters and bookmarks are those of the table's words, and nothing else of the headers changed
pub record HeadersSet (k : Key) (old new : List Header) (words : List ℕ) : Type 0 where
  pub long : length new ≡ length old
  pub near : (p : ℕ) → p < pages_of k → state_word (state_in new p) ≡ slice_index words (page_at p)
  pub far : (p : ℕ) → pages_of k ≤ p → state_in new p ≡ state_in old p
  pub else_same : (q : ℕ) → slice_index_or new q unused_header
      ≡ record (slice_index_or old q unused_header) { pages = (slice_index_or new q unused_header).pages; bookmarks = (slice_index_or new q unused_header).bookmarks; incoming = (slice_index_or new q unused_header).incoming }
  pub states_long : (q : ℕ) → length (slice_index_or new q unused_header).pages ≡ length (slice_index_or old q unused_header).pages
  pub counters : (q : ℕ) → q < k.supers → (slice_index_or new q unused_header).incoming ≡ slice_index words (counter_at k q)
  pub sets : (q : ℕ) → q < k.supers → IsCellSet (slice_index_or new q unused_header).bookmarks
  pub bookmarks : (q j : ℕ) → q < k.supers → j < 16 → slice_index (slice_index_or new q unused_header).bookmarks j ≡ slice_index words (bookmark_at k (16 * q + j))
  pub behind : (q : ℕ) → k.supers ≤ q
      → ((slice_index_or new q unused_header).bookmarks ≡ (slice_index_or old q unused_header).bookmarks) × ((slice_index_or new q unused_header).incoming ≡ (slice_index_or old q unused_header).incoming)

-- where a page is once the table is closed: Remembered exactly where it was so at the opening or its lane's seat put it back so; Gone and
-- Absent by the opening and by what the seats made of it. In a mark turn no page became Remembered. A page that its lane read as
-- Held with nothing in hand, and didn't take from Gone since, is Gone or Absent, or a seat that isn't that lane's put it back. One that
-- any seat read as Held some seat read as Home or Remembered, or some seat took it from Gone; and one that any seat read as Absent,
-- Remembered or Gone isn't Home, unless some seat took it from Gone
pub record ClosedState (k : Key) (seats : List Seat) (st : PageState) (p : ℕ) : Type 0 where
  pub remembered : 0 < one_if (opened_word k p == 2) + total (λ (seat : Seat). times p (view_of seat).recorded) seats → st ≡ state.Remembered
  pub as_opened : k.lanes ≡ false → st ≡ state.Remembered → opened_word k p ≡ 2
  pub recorded : st ≡ state.Remembered → 0 < one_if (opened_word k p == 2) + total (λ (seat : Seat). times p (view_of seat).recorded) seats
  pub gone : one_if (state_word st == 4) + total (λ (seat : Seat). times p (view_of seat).fetched) seats
      ≡ one_if (opened_word k p == 4) + total (λ (seat : Seat). times p (view_of seat).left) seats
  pub absent : one_if (state_word st == 0) ≡ one_if (opened_word k p == 0) + total (λ (seat : Seat). times p (view_of seat).emptied) seats
  pub busy : 0 < total (λ (seat : Seat). times p (view_of seat).busy) seats
      → 0 < total (λ (seat : Seat). times p (view_of seat).returned) seats + one_if (state_word st == 4) + one_if (state_word st == 0)
  pub held : 0 < total (λ (seat : Seat). reads_as p 3 (view_of seat)) seats
      → 0 < total (λ (seat : Seat). reads_as p 1 (view_of seat)) seats + total (λ (seat : Seat). reads_as p 2 (view_of seat)) seats + total (λ (seat : Seat). times p (view_of seat).fetched) seats
  pub away : 0 < total (λ (seat : Seat). reads_as p 0 (view_of seat)) seats + total (λ (seat : Seat). reads_as p 2 (view_of seat)) seats + total (λ (seat : Seat). reads_as p 4 (view_of seat)) seats
      → total (λ (seat : Seat). times p (view_of seat).fetched) seats ≡ 0 → st ≢ state.Home

-- how many of the contents that the page had in the turn have the target of this bit: the opening's, and those with which a seat put it back
abbrev pub had_by : Key → List Seat → ℕ → ℕ → ℕ → ℕ
had_by k seats page w b = one_if (has_bit_of k page (opened_content k page) w b) + total (λ (seat : Seat). puts_with k page w b (view_of seat).changed) seats

-- bit b of a bookmark word is that of a target of a page that a seat made Gone, by a content that the page had in the turn. Where none took
-- it from Gone it is Gone still, and has the target
pub record IsOfPageLeft (k : Key) (seats : List Seat) (s : Layout) (w b : ℕ) : Type 0 where
  pub page : ℕ
  pub inside : page < pages_of k
  pub left : 0 < total (λ (seat : Seat). times page (view_of seat).left) seats
  pub had : 0 < had_by k seats page w b
  pub still : total (λ (seat : Seat). times page (view_of seat).fetched) seats ≡ 0
      → (state_at s.states page ≡ state.Gone) × IsBitOfTarget k page (content_at s.pages page) w b

-- a bookmark bit once the table is closed, by its word, of which each superpage has sixteen, and its place there
pub record ClosedBit (k : Key) (seats : List Seat) (s : Layout) (w b : ℕ) : Type 0 where
  pub kept : 0 < opened_bit k w b + total (λ (seat : Seat). sets_bit w b (view_of seat).bookmarked) seats → has (set_of s.bookmarks (w / 16)) (64 * (w % 16) + b) ≡ true
  pub new : has (set_of s.bookmarks (w / 16)) (64 * (w % 16) + b) ≡ true → opened_bit k w b ≡ 0 → IsOfPageLeft k seats s w b
  pub only : has (set_of s.bookmarks (w / 16)) (64 * (w % 16) + b) ≡ true → 0 < opened_bit k w b + total (λ (seat : Seat). sets_bit w b (view_of seat).bookmarked) seats

-- the space that a closed table gives back: as it was opened, but for the states of pages, their contents, bookmarks and counters, the
-- free frames and the reads, which are as many more as pages were taken from Gone. Each page has the content that its lane's seat records,
-- or else the opening's. A bookmark bit is set exactly where it was at the opening or a seat set it, and a new one is that of a target of a
-- page which left. A page that its lane read as Gone, and didn't take since, is Gone. A table may be opened over it again, as it could at
-- the opening: so it is summarised
pub record Closed (k : Key) (seats : List Seat) (s : Layout) : Type 0 where
  pub same : s ≡ record k.opening { states = s.states; pages = s.pages; bookmarks = s.bookmarks; incoming = s.incoming; free = s.free; reads = s.reads }
  pub reads : s.reads ≡ min (k.opening.reads + fetches_of seats) (2 ^ 64 - 1)
  pub mine : (j : ℕ) → j < length seats → (d : Seat) (p : ℕ) → p < pages_of k → 0 < has_role (view_of (slice_index_or seats j d)) (owner k p)
      → content_at s.pages p ≡ record_of (view_of (slice_index_or seats j d)) p
  pub unowned : (p : ℕ) → p < pages_of k → times (owner k p) k.roles ≡ 0 → content_at s.pages p ≡ opened_content k p
  pub behind : (p : ℕ) → pages_of k ≤ p → p < 4 * superpages k.opening → (state_at s.states p ≡ opened_state k p) × (content_at s.pages p ≡ opened_content k p)
  pub states_are : (p : ℕ) → p < pages_of k → ClosedState k seats (state_at s.states p) p
  pub read_gone : (j : ℕ) → j < length seats → (d : Seat) (p : ℕ) → 0 < times p (view_of (slice_index_or seats j d)).gone → state_at s.states p ≡ state.Gone
  pub bits : (w b : ℕ) → w < 16 * k.supers → b < 64 → ClosedBit k seats s w b
  pub bits_behind : (q : ℕ) → k.supers ≤ q → set_of s.bookmarks q ≡ set_of k.opening.bookmarks q
  pub fixed : (p : ℕ) → p < pages_of k → IsContent k.opening p (content_at s.pages p)
  pub young : (p : ℕ) → p < pages_of k → RefersYoung k.opening p (content_at s.pages p) → state_at s.states p ≡ state.Remembered
  pub openable : IsOpenable k.opening → IsOpenable s

-- the first headers have the marks and finished cells that words have from a place on
pub record MarksBelow (old new : List Header) (count superpages start : ℕ) (words : List ℕ) : Type 0 where
  pub long : length new ≡ length old
  pub near : (q : ℕ) → q < count → MarksSet (slice_index_or old q unused_header) (slice_index_or new q unused_header) q superpages start words 16
  pub far : (q : ℕ) → count ≤ q → slice_index_or new q unused_header ≡ slice_index_or old q unused_header

-- a space's parts with the marks and finished words of a list of words from a place on
pub record LaysMarks (old new : SpaceParts) (superpages start : ℕ) (words : List ℕ) : Type 0 where
  pub kept : AreParts new
  pub same : parts_layout new ≡ record (parts_layout old) { marks = (parts_layout new).marks; finished = (parts_layout new).finished }
  pub marks : (w : ℕ) → w < 16 * superpages → slice_index (set_of (parts_layout new).marks (w / 16)) (w % 16) ≡ slice_index words (start + w)
  pub finished : (w : ℕ) → w < 16 * superpages → slice_index (set_of (parts_layout new).finished (w / 16)) (w % 16) ≡ slice_index words (start + (16 * superpages + w))
  pub behind : (q : ℕ) → superpages ≤ q → (set_of (parts_layout new).marks q ≡ set_of (parts_layout old).marks q) × (set_of (parts_layout new).finished q ≡ set_of (parts_layout old).finished q)

-- the space that is put together of parts has the marks and finished words of a list of words from a place on
pub record LaidSpace (old s : Layout) (superpages start : ℕ) (words : List ℕ) : Type 0 where
  pub layout : IsLayout s
  pub same : s ≡ record old { marks = s.marks; finished = s.finished }
  pub marks : (w : ℕ) → w < 16 * superpages → slice_index (set_of s.marks (w / 16)) (w % 16) ≡ slice_index words (start + w)
  pub finished : (w : ℕ) → w < 16 * superpages → slice_index (set_of s.finished (w / 16)) (w % 16) ≡ slice_index words (start + (16 * superpages + w))
  pub behind : (q : ℕ) → superpages ≤ q → (set_of s.marks q ≡ set_of old.marks q) × (set_of s.finished q ≡ set_of old.finished q)

-- the space that the table of a mark turn gives back. But for marks and finished bits it is as another table's. Marks are those of the
-- opening and those that the seats won, each once, and finished cells those of the opening and those that the seats finished. No page
-- was taken from Gone. Whatever a seat read of a mark word has the marks of the opening, and each mark that it has is there still; the same
-- of finished words. Another mark turn may begin over it. A marked cell was marked or is bookmarked, or is reached from such through
-- pages that aren't gone; and a cell that was bookmarked in the turn is marked
pub record ClosedMarks (k : Key) (seats : List Seat) (s : Layout) : Type 0 where
  pub bare : Layout
  pub closed : Closed k seats bare
  pub same : s ≡ record bare { marks = s.marks; finished = s.finished }
  pub won : (w b : ℕ) → w < 16 * k.supers → b < 64 → bit_at (slice_index (set_of s.marks (w / 16)) (w % 16)) b ≡ opened_mark k w b + total (λ (seat : Seat). tells w b (view_of seat).won) seats
  pub ended : (w b : ℕ) → w < 16 * k.supers → b < 64 → 0 < bit_at (slice_index (set_of s.finished (w / 16)) (w % 16)) b → 0 < opened_finished k w b + total (λ (seat : Seat). tells w b (view_of seat).finished) seats
  pub stays : (w b : ℕ) → w < 16 * k.supers → b < 64 → 0 < opened_finished k w b + total (λ (seat : Seat). tells w b (view_of seat).finished) seats → bit_at (slice_index (set_of s.finished (w / 16)) (w % 16)) b ≡ 1
  pub behind : (q : ℕ) → k.supers ≤ q → (set_of s.marks q ≡ set_of k.opening.marks q) × (set_of s.finished q ≡ set_of k.opening.finished q)
  pub unfetched : (p : ℕ) → total (λ (seat : Seat). times p (view_of seat).fetched) seats ≡ 0
  pub read_marks : (w n b : ℕ) → w < 16 * k.supers → 0 < total (λ (seat : Seat). times n (reads_of (mark_at k w) (view_of seat).read)) seats → b < 64
      → (opened_mark k w b ≤ bit_at n b) × (bit_at n b ≤ bit_at (slice_index (set_of s.marks (w / 16)) (w % 16)) b)
  pub read_finished : (w n b : ℕ) → w < 16 * k.supers → 0 < total (λ (seat : Seat). times n (reads_of (finished_at k w) (view_of seat).read)) seats → b < 64
      → (opened_finished k w b ≤ bit_at n b) × (bit_at n b ≤ bit_at (slice_index (set_of s.finished (w / 16)) (w % 16)) b)
  pub markable : IsMarkable s
  pub due : (a : ℕ) → is_marked s a ≡ true → Reach (λ x. (is_marked k.opening x ≡ true) ⊎ (is_bookmarked s x ≡ true)) (λ x y. (state_at s.states (page_of x) ≢ state.Gone) × RefersToCell s x y) a
  pub new : (a : ℕ) → is_bookmarked s a ≡ true → (is_bookmarked k.opening a ≡ true) ⊎ (is_marked s a ≡ true)
