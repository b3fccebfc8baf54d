-- The turn facts: what holds of the words, the slots and the views of a table between any two steps of a turn. Each is said
-- of one page, one seat or one frame. A page's record is the content that its lane put back last, or else the opening's.
use Rattle.std.specs.Prelude.{◌≡◌, ℕ, ◌+◌, ◌*◌, ◌/◌, ◌%◌, ◌<◌, ◌≤◌, ◌==◌, ◌&&◌, ◌⊎◌, Bool, true, false, if◌then◌else◌, List, [], ◌∷◌, nat_lt, slice_index, Some, None}
use Rattle.std.specs.Int.{bit_at}
use Prim.Native.Nat.{zero, suc}
use mathlib.Core.Option.{some, none}
use mathlib.Core.Option as maybe
use lib.ListN.{get_elem?}
use Rattle.atomic_table.specs.Table.{State}
use Rattle.bc_bits.specs.Counting.{one_if}
use Rattle.bc_word.specs.Addresses.{superpage_of, cell_number}
use Rattle.bc_superpages.specs.declared.spaces.Homed.{Homed}
use Rattle.bc_superpages.specs.Layout.{set_of}
use Rattle.bc_superpages.specs.Calls.{class_at}
use Rattle.bc_bookmarks.specs.Targets.{is_target, has_target_in, HasCell}
use Rattle.bc_pins.specs.declared.views.Lodged.{Lodged}
use Rattle.bc_pins.specs.declared.views.Lodged.TheVariants.{Nothing, Home, Away}
use Rattle.bc_pins.specs.declared.views.Hand.{Hand}
use Rattle.bc_pins.specs.declared.views.View.{View}
use Rattle.bc_pins.specs.Key.{Key, pages_of, owner, IsFrozenIn, page_at, counter_at, bookmark_at, frame_at, frame_words, frame_slot, store_slot}
use Rattle.bc_pins.specs.Totals.{total, times, sum_to}
use Rattle.bc_pins.specs.Contents.{IsContent, RefersYoung, IsBarePage, has_target_with, objects_in}
use Rattle.bc_pins.specs.Views.{grips, grips_remembered, frame_in_hand, counted_for, sets_bit, sets_for, marked_for, has_role, withholds, reads_as, entries, opened_content, opened_word, record_of}

-- a table as the rule sees it: its words, its slots, and the views of its seats
abbrev pub Table : Type 0
Table = State Lodged View

-- a slot: none where it is out with a seat, and else what lies in it
abbrev pub Slot : Type 0
Slot = maybe.Option (maybe.Option Lodged)

-- word i of the table
abbrev pub word : Table → ℕ → ℕ
word s i = slice_index s.words i

-- a page's word
abbrev pub page_word : Table → ℕ → ℕ
page_word s page = word s (page_at page)

-- what lies in a slot: `some (some x)` where it is at home
abbrev pub slot : Table → ℕ → Slot
slot s i = get_elem? s.homes i

-- the box lies in the frame slot, the store slot is empty, and the box has the page's record
abbrev pub IsHomed : Slot → Slot → List ℕ → Type 0
IsHomed frame store c = (h : Homed) × (frame ≡ some (some (Home h))) × (store ≡ some (some Nothing)) × (h.page ≡ c)

-- the content lies in the store slot, the frame slot is empty, and it is the page's record
abbrev pub IsAway : Slot → Slot → List ℕ → Type 0
IsAway frame store c = (frame ≡ some (some Nothing)) × (store ≡ some (some (Away c)))

-- where the box of a page lies by its word: in the frame slot if it is Home or Remembered, in the store slot if it is Gone or
-- Absent, and with a seat if it is Held
abbrev pub Lies : ℕ → Slot → Slot → List ℕ → Type 0
Lies zero frame store c = IsAway frame store c
Lies (suc zero) frame store c = IsHomed frame store c
Lies (suc (suc zero)) frame store c = IsHomed frame store c
Lies (suc (suc (suc zero))) frame store c = (frame ≡ some none) × (store ≡ some none)
Lies (suc (suc (suc (suc zero)))) frame store c = IsAway frame store c
Lies (suc (suc (suc (suc (suc n))))) frame store c = ⊥

-- the box of a page lies where its word says, and the page is in hand in exactly one view where its word is Held, and in none
-- else
pub record Place (k : Key) (s : Table) (rec : ℕ → List ℕ) (page : ℕ) : Type 0 where
  pub lies : Lies (page_word s page) (slot s (frame_slot k page)) (slot s (store_slot k page)) (rec page)
  pub held : total (λ (v : View). grips page v.hand) s.views ≡ one_if (page_word s page == 3)

-- how often the page is Remembered, or in hand with its holder's view saying so: once or not
abbrev pub remembered_now : Table → ℕ → ℕ
remembered_now s page = one_if (page_word s page == 2) + total (λ (v : View). grips_remembered page v.hand) s.views

-- bit b of bookmark word w, in the table
abbrev pub bookmark_bit : Key → List ℕ → ℕ → ℕ → ℕ
bookmark_bit k words w b = bit_at (slice_index words (bookmark_at k w)) b

-- bit b of bookmark word w, at the opening
abbrev pub opened_bit : Key → ℕ → ℕ → ℕ
opened_bit k w b = bit_at (slice_index (set_of k.opening.bookmarks (w / 16)) (w % 16)) b

-- bit b of the allocated cells that bookmark word w is of
abbrev pub cell_bit : Key → ℕ → ℕ → ℕ
cell_bit k w b = bit_at (slice_index (set_of k.opening.cells (w / 16)) (w % 16)) b

-- the cell that begins at the address is bookmarked in the table
pub record HasBookmarkBit (k : Key) (words : List ℕ) (address : ℕ) : Type 0 where
  pub within : superpage_of address < k.supers
  pub few : cell_number (class_at k.opening address) address < 1024
  pub starts : address % class_at k.opening address ≡ 0
  pub bit : bookmark_bit k words (16 * superpage_of address + cell_number (class_at k.opening address) address / 64) (cell_number (class_at k.opening address) address % 64) ≡ 1

-- Gone: a page with this content has an allocated cell, and each of its targets is bookmarked. So none is a nursery address
pub record Summary (k : Key) (words : List ℕ) (page : ℕ) (c : List ℕ) : Type 0 where
  pub there : HasCell k.opening page
  pub targets : (a : ℕ) → is_target (objects_in k.opening c) page a ≡ true → HasBookmarkBit k words a

-- is bit b of a bookmark word that of a target of the page, where it has this content?
abbrev pub has_bit_of : Key → ℕ → List ℕ → ℕ → ℕ → Bool
has_bit_of k page content w b = has_target_with k.opening page content (w / 16) (64 * (w % 16) + b)

-- how many of the contents with which the page was put back have that target
abbrev pub puts_with : Key → ℕ → ℕ → ℕ → List (ℕ × List ℕ) → ℕ
puts_with k page w b [] = 0
puts_with k page w b (e ∷ es) = (if e.0 == page then one_if (has_bit_of k page e.1 w b) else 0) + puts_with k page w b es

-- how many of the contents that the page had in the turn have it: the opening's, and those with which its lane put it back
abbrev pub had_with : Key → Table → ℕ → ℕ → ℕ → ℕ
had_with k s page w b = one_if (has_bit_of k page (opened_content k page) w b) + total (λ (v : View). puts_with k page w b v.changed) s.views

-- Remembered, and Fixed: a page whose record refers to a nursery is Remembered or in hand so. Whatever was put back keeps
-- what is fixed, an Absent page has no allocated cell, and a Gone page is summarised. Its record is a content that it had
pub record Content (k : Key) (s : Table) (rec : ℕ → List ℕ) (page : ℕ) : Type 0 where
  pub fixed : IsContent k.opening page (rec page)
  pub young : RefersYoung k.opening page (rec page) → 0 < remembered_now s page
  pub bare : page_word s page ≡ 0 → IsBarePage k.opening page
  pub gone : page_word s page ≡ 4 → Summary k s.words page (rec page)
  pub had : (w b : ℕ) → has_bit_of k page (rec page) w b ≡ true → 0 < had_with k s page w b

-- nobody holds a page's domain in a mark turn
abbrev pub IsUnheld : Key → Type 0
IsUnheld k = k.lanes ≡ false → (page : ℕ) → times (owner k page) k.roles ≡ 0

-- how often the page was Remembered at the opening or was put back so by its lane
abbrev pub remembered_ever : Key → Table → ℕ → ℕ
remembered_ever k s page = one_if (opened_word k page == 2) + total (λ (v : View). times page v.recorded) s.views

-- how often the page was taken from Gone
abbrev pub fetched_ever : Table → ℕ → ℕ
fetched_ever s page = total (λ (v : View). times page v.fetched) s.views

-- Words: a page is Remembered, or in hand so, exactly where it was at the opening or its lane put it back so; it is Gone, and
-- Absent, by the opening and by what the views made of it. In a mark turn no page becomes Remembered. A page that its lane read as
-- Held with nothing in hand, and didn't take from Gone since, is in another's hands, was put back by another, or is Gone or Absent. One that any
-- view read as Held was taken, so somebody read it as Home or Remembered. One that any view read as Absent, Remembered or Gone is one
-- of these, or in hand to be put back as Remembered, or was taken from Gone, since none is taken from Absent. Whoever
-- took one from Gone read it as Gone, and not as Home or Remembered
pub record Standing (k : Key) (s : Table) (page : ℕ) : Type 0 where
  pub remembered : 0 < remembered_ever k s page → 0 < remembered_now s page
  pub recorded : 0 < remembered_now s page → 0 < remembered_ever k s page
  pub as_opened : k.lanes ≡ false → 0 < remembered_ever k s page → opened_word k page ≡ 2
  pub gone : one_if (page_word s page == 4) + total (λ (v : View). times page v.fetched) s.views ≡ one_if (opened_word k page == 4) + total (λ (v : View). times page v.left) s.views
  pub absent : one_if (page_word s page == 0) ≡ one_if (opened_word k page == 0) + total (λ (v : View). times page v.emptied) s.views
  pub busy : 0 < total (λ (v : View). times page v.busy) s.views → 0 < total (withholds k page) s.views + one_if (page_word s page == 4) + one_if (page_word s page == 0)
  pub held : 0 < total (reads_as page 3) s.views → 0 < total (reads_as page 1) s.views + total (reads_as page 2) s.views + fetched_ever s page
  pub away : 0 < total (reads_as page 0) s.views + total (reads_as page 2) s.views + total (reads_as page 4) s.views
      → (page_word s page ≡ 0) ⊎ ((page_word s page ≡ 4) ⊎ (0 < remembered_now s page + fetched_ever s page))

-- Content, of one seat: the lane that holds a page's domain records its content and that it is remembered, and takes it from Gone,
-- and nobody else does; but a page of a frozen domain any seat may take from Gone. What a seat has in hand has the content that it took
pub record RecordsContent (k : Key) (rec : ℕ → List ℕ) (v : View) : Type 0 where
  pub mine : (p : ℕ) → 0 < has_role v (owner k p) → rec p ≡ record_of v p
  pub others : (p : ℕ) → has_role v (owner k p) ≡ 0 → entries p v.changed ≡ 0
  pub unrecorded : (p : ℕ) → has_role v (owner k p) ≡ 0 → times p v.recorded ≡ 0
  pub unfetched : (p : ℕ) → has_role v (owner k p) ≡ 0 → (IsFrozenIn k p → ⊥) → times p v.fetched ≡ 0
  pub in_hand : (h : Hand) → v.hand ≡ Some h → (h.page < pages_of k) × (h.content ≡ rec h.page)

-- Seen: a page that was read as Remembered, and not taken so, is Remembered or in hand so, and an own page that was read as Gone is Gone until the seat
-- takes it. Own pages alone are noted as busy. A page that is in hand was read as Home or Remembered when it was taken, or was taken
-- from Gone
pub record Saw (k : Key) (s : Table) (v : View) : Type 0 where
  pub seen : (p : ℕ) → 0 < times p v.seen → (p < pages_of k) × (0 < remembered_now s p)
  pub gone : (p : ℕ) → 0 < times p v.gone → (p < pages_of k) × (0 < has_role v (owner k p)) × (page_word s p ≡ 4)
  pub busy : (p : ℕ) → 0 < times p v.busy → 0 < has_role v (owner k p)
  pub taken : (p : ℕ) → 0 < grips p v.hand → 0 < reads_as p 1 v + reads_as p 2 v + times p v.fetched

-- a seat that has done and read nothing and has nothing in hand
pub record IsIdle (v : View) : Type 0 where
  pub hand : v.hand ≡ None
  pub rights : v.rights ≡ []
  pub recorded : v.recorded ≡ []
  pub left : v.left ≡ []
  pub emptied : v.emptied ≡ []
  pub returned : v.returned ≡ []
  pub fetched : v.fetched ≡ []
  pub bookmarked : v.bookmarked ≡ []
  pub won : v.won ≡ []
  pub known : v.known ≡ []
  pub finished : v.finished ≡ []
  pub read : v.read ≡ []
  pub notices : v.notices ≡ []

-- a seat has the key of its table, and one without a role has done nothing
pub record Seated (k : Key) (v : View) : Type 0 where
  pub about : v.alive ≡ true → v.about ≡ k
  pub idle : v.roles ≡ [] → IsIdle v

-- Roles: each role that was given out is in exactly one view, and none was given out twice
pub record Roles (k : Key) (s : Table) : Type 0 where
  pub each : (r : ℕ) → total (λ (v : View). times r v.roles) s.views ≡ times r k.roles
  pub apart : (r : ℕ) → times r k.roles ≤ 1
  pub nobody : times 0 k.roles ≡ 0

-- 1 if what lies in a slot uses the frame, else 0
abbrev pub frame_of : Lodged → ℕ → ℕ
frame_of Nothing frame = 0
frame_of (Home h) frame = one_if (h.frame == frame)
frame_of (Away c) frame = 0

-- 1 if the slot isn't out and what lies in it uses the frame, else 0
abbrev pub frame_lodged : ℕ → maybe.Option Lodged → ℕ
frame_lodged frame maybe.none = 0
frame_lodged frame (maybe.some x) = frame_of x frame

-- how often a frame is a page's at home, in hand, or a right in hand
abbrev pub frame_used : Table → ℕ → ℕ
frame_used s frame = total (frame_lodged frame) s.homes + total (λ (v : View). frame_in_hand frame v.hand + times frame v.rights) s.views

-- the bit of a frame in the frame words
abbrev pub frame_bit : Key → List ℕ → ℕ → ℕ
frame_bit k words frame = bit_at (slice_index words (frame_at k (frame / 64))) (frame % 64)

-- the frame's bit is clear: it is free
abbrev pub is_clear : Key → List ℕ → ℕ → Bool
is_clear k words frame = nat_lt frame k.frames && (frame_bit k words frame == 0)

-- Frames: each frame is in one place: a page's at home, in hand, a right in hand, a nursery's, withheld, or free. The bits beyond the
-- last frame are set and nobody's
pub record Frames (k : Key) (s : Table) (frame : ℕ) : Type 0 where
  pub used : frame_used s frame + (times frame k.nursery + one_if (is_clear k s.words frame)) ≡ one_if (nat_lt frame k.frames)
  pub past : k.frames ≤ frame → frame < 64 * frame_words k → frame_bit k s.words frame ≡ 1

-- how often a page with this content counts for a superpage: once where it has a target there, or not
abbrev pub points : Key → ℕ → List ℕ → ℕ → ℕ
points k page c q = one_if (has_target_in (objects_in k.opening c) page q)

-- what a page adds to a superpage's counter: where it is Gone what its content adds_to, and where it is in hand what its holder
-- counted for it
abbrev pub adds_to : Key → Table → (ℕ → List ℕ) → ℕ → ℕ → ℕ
adds_to k s rec q page = (if page_word s page == 4 then points k page (rec page) q else 0) + total (λ (v : View). counted_for page q v.hand) s.views

-- Counters: each superpage's counter is what all pages add
abbrev pub Counters : Key → Table → (ℕ → List ℕ) → ℕ → Type 0
Counters k s rec q = word s (counter_at k q) ≡ sum_to (adds_to k s rec q) (pages_of k)

-- how often a bookmark bit was set: at the opening, and by each view
abbrev pub ever_set : Key → Table → ℕ → ℕ → ℕ
ever_set k s w b = opened_bit k w b + total (λ (v : View). sets_bit w b v.bookmarked) s.views

-- a bookmark bit is set exactly where it was at the opening or a view set it, and it is that of an allocated cell
pub record Bits (k : Key) (s : Table) (w b : ℕ) : Type 0 where
  pub kept : 0 < ever_set k s w b → bookmark_bit k s.words w b ≡ 1
  pub only : 0 < bookmark_bit k s.words w b → 0 < ever_set k s w b
  pub cell : 0 < bookmark_bit k s.words w b → 0 < cell_bit k w b

-- what a seat bookmarked and counted: each superpage once for the page in hand; and the pages for which it set bits are in its
-- hands, or were given up by it. Where no bit was set for the page since it was taken, it isn't one of these but by then
pub record Marking (v : View) : Type 0 where
  pub once : (h : Hand) → v.hand ≡ Some h → (q : ℕ) → times q h.counted ≤ 1
  pub whose : (p : ℕ) → 0 < marked_for p v.bookmarked → (0 < grips p v.hand) ⊎ (0 < times p v.left)
  pub unmarked : (h : Hand) → v.hand ≡ Some h → h.marked ≡ [] → 0 < marked_for h.page v.bookmarked → 0 < times h.page v.left

-- bit b of a bookmark word is that of a target of the page, where it has this content
pub record IsBitOfTarget (k : Key) (page : ℕ) (content : List ℕ) (w b : ℕ) : Type 0 where
  pub address : ℕ
  pub target : is_target (objects_in k.opening content) page address ≡ true
  pub superpage : superpage_of address ≡ w / 16
  pub number : cell_number (class_at k.opening address) address ≡ 64 * (w % 16) + b

-- each bookmark bit that a seat set for a page is that of a target which the page had in the turn, and which it has by its record, unless
-- it was taken from Gone since: then its lane may have changed it
pub record MarksTargets (k : Key) (s : Table) (rec : ℕ → List ℕ) (v : View) : Type 0 where
  pub each : (p w b : ℕ) → b < 64 → 0 < sets_for p w b v.bookmarked → (p < pages_of k) × (fetched_ever s p ≡ 0 → IsBitOfTarget k p (rec p) w b)
  pub had : (p w b : ℕ) → b < 64 → 0 < sets_for p w b v.bookmarked → 0 < had_with k s p w b
