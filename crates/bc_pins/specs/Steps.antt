-- The kinds of step: what the view is after each, and what the seat that makes it knows by it.
use Prim.Native.Nat.{zero, suc}
use Rattle.std.specs.Prelude.{◌≡◌, ◌≢◌, ℕ, ◌+◌, ◌*◌, ◌/◌, ◌%◌, ◌^◌, ◌<◌, ◌≤◌, ◌==◌, ◌&&◌, ◌⊎◌, bit_and, Bool, true, false, if◌then◌else◌, nat_lt, List, [], ◌∷◌, ◌++◌, take, drop, slice_index, Some, None}
use Rattle.atomic_table.specs.Table.{Me, Step, rest}
use Rattle.bc_bits.specs.Counting.{one_if}
use Rattle.std.specs.Int.{bit_at, bit_not, w64}
use Rattle.bc_word.specs.Addresses.{superpage_of, page_of, cell_number}
use Rattle.bc_word.specs.CellAddresses.{cell_address}
use Rattle.bc_superpages.specs.LayoutAt.{IsAllocated, layout_of}
use Rattle.bc_superpages.specs.Calls.{class_at}
use Rattle.bc_bookmarks.specs.Targets.{is_target, has_target_in, HasCell}
use Rattle.bc_superpages.specs.declared.spaces.Homed.{Homed}
use Rattle.bc_pins.specs.declared.views.Lodged.{Lodged}
use Rattle.bc_pins.specs.declared.views.Lodged.TheVariants.{Nothing, Home, Away}
use Rattle.bc_pins.specs.declared.views.Hand.{Hand}
use Rattle.bc_pins.specs.declared.views.View.{View}
use Rattle.bc_pins.specs.Key.{Key, owner, page_at, counter_at, bookmark_at, frame_at, mark_at, finished_at, queue_at, notice_at, home_slot, frame_slot, store_slot}
use Rattle.bc_pins.specs.Totals.{times}
use Rattle.bc_pins.specs.Contents.{IsContent, RefersYoung, IsBarePage, objects_in}
use Rattle.bc_pins.specs.Facts.{IsBitOfTarget, points}
use Rattle.bc_pins.specs.Tracing.{RefersToCell, KnowsMarked, opened_mark, opened_finished, tells}
use Rattle.bc_pins.specs.Views.{is_empty_handed, has_role, sets_bit, opened_content, opened_word, record_of}

-- what a seat has: its view, and the slots that are out with it
abbrev pub Mine : Type 0
Mine = Me Lodged View

-- is the view that of the lane which holds the page's domain?
abbrev pub owns : View → ℕ → Bool
owns v page = nat_lt 0 (has_role v (owner v.about page))

-- a seat that has these roles and has done nothing
abbrev pub fresh : Key → List ℕ → View
fresh k roles = record {
  alive = true;
  about = k;
  roles = roles;
  hand = None;
  changed = [];
  recorded = [];
  left = [];
  emptied = [];
  fetched = [];
  returned = [];
  seen = [];
  gone = [];
  busy = [];
  read = [];
  bookmarked = [];
  rights = [];
  known = [];
  won = [];
  finished = [];
  owed = [];
  looked = [];
  notices = [];
}

-- the key of no table
abbrev pub no_key : Key
no_key = record {
  supers = 0;
  frames = 0;
  pool = [];
  lanes = true;
  opening = layout_of [] [] 0 0 0 0;
  owners = [];
  roles = [];
  nursery = [];
}

-- the view of a seat that was joined away
abbrev pub nobody : View
nobody = record (fresh no_key []) { alive = false }

-- a word of a page was read: which, and what; a Remembered is kept by all, a Gone by the lane that holds the page's domain, and so
-- is a Held that it read with nothing in hand
abbrev pub having_read : View → ℕ → ℕ → View
having_read v page found = record v {
  read = (page_at page, found) ∷ v.read;
  seen = if found == 2 then page ∷ v.seen else v.seen;
  gone = if (found == 4) && owns v page then page ∷ v.gone else v.gone;
  busy = if (found == 3) && (owns v page && is_empty_handed v.hand) then page ∷ v.busy else v.busy;
}

-- the page is in hand
abbrev pub gripping : View → ℕ → Bool → Homed → View
gripping v page remembered homed = record v {
  read = (page_at page, if remembered then 2 else 1) ∷ v.read;
  hand = Some (record {
    page = page;
    remembered = remembered;
    frame = homed.frame;
    content = homed.page;
    counted = [];
    marked = [];
  });
}

-- the page was put back: a lane's record is the new content, and whether it is remembered, and whoever isn't that lane returned it
abbrev pub released : View → ℕ → Bool → List ℕ → View
released v page remembered content = record v {
  hand = None;
  changed = if owns v page then (page, content) ∷ v.changed else v.changed;
  recorded = if remembered && owns v page then page ∷ v.recorded else v.recorded;
  returned = if owns v page then v.returned else page ∷ v.returned;
}

-- bits of a bookmark word were set for the page in hand, and the word was read as it was before
abbrev pub bookmarking : View → Hand → ℕ → ℕ → ℕ → View
bookmarking v h w bits found = record v {
  hand = Some (record h { marked = (w, bits) ∷ h.marked });
  bookmarked = (h.page, w, bits) ∷ v.bookmarked;
  read = (bookmark_at v.about w, found) ∷ v.read;
}

-- a superpage was counted for the page in hand, and its counter was read as it was before
abbrev pub counting : View → Hand → ℕ → ℕ → View
counting v h superpage found = record v {
  hand = Some (record h { counted = superpage ∷ h.counted });
  read = (counter_at v.about superpage, found) ∷ v.read;
}

-- the view after the page in hand was made Gone; its frame is a right in hand
abbrev pub leaving : View → Hand → View
leaving v h = record v {
  hand = None;
  left = h.page ∷ v.left;
  rights = h.frame ∷ v.rights;
}

-- the view after the page in hand was made Absent; its frame is a right in hand
abbrev pub vacating : View → Hand → View
vacating v h = record v {
  hand = None;
  emptied = h.page ∷ v.emptied;
  rights = h.frame ∷ v.rights;
}

-- rights without those to frames whose bits, in this frame word, are among these
abbrev pub given_back : ℕ → ℕ → List ℕ → List ℕ
given_back w bits [] = []
given_back w bits (f ∷ fs) = if (f / 64 == w) && (bit_at bits (f % 64) == 1) then given_back w bits fs else f ∷ given_back w bits fs

-- the view after frames were given back by these bits of a frame word
abbrev pub giving : View → ℕ → ℕ → ℕ → View
giving v w bits found = record v { rights = given_back w bits v.rights; read = (frame_at v.about w, found) ∷ v.read }

-- a list without a number
abbrev pub without : ℕ → List ℕ → List ℕ
without n [] = []
without n (x ∷ xs) = if x == n then without n xs else x ∷ without n xs

-- the superpages below a bound in which a page with this content has a target
unfoldable pub named_below : Key → ℕ → List ℕ → ℕ → List ℕ
named_below k page c zero = []
named_below k page c (suc q) = if has_target_in (objects_in k.opening c) page q then q ∷ named_below k page c q else named_below k page c q

-- the page was taken from Gone: it is in hand with its content, and counted in each superpage that has a target of it. A frame to which
-- there was a right is the page's, and that the page is Gone isn't kept any more, nor that it was in another's hands
abbrev pub fetching : View → ℕ → List ℕ → ℕ → View
fetching v page content frame = record v {
  read = (page_at page, 4) ∷ v.read;
  hand = Some (record {
    page = page;
    remembered = false;
    frame = frame;
    content = content;
    counted = named_below v.about page content v.about.supers;
    marked = [];
  });
  rights = without frame v.rights;
  gone = without page v.gone;
  busy = without page v.busy;
  fetched = page ∷ v.fetched;
}

-- a superpage isn't counted for the page in hand any more, and its counter was read as it was before
abbrev pub discounting : View → Hand → ℕ → ℕ → View
discounting v h superpage found = record v {
  hand = Some (record h { counted = without superpage h.counted });
  read = (counter_at v.about superpage, found) ∷ v.read;
}

-- the frames whose bits, of the first ones in this frame word, were read as clear
unfoldable pub clear_frames : ℕ → ℕ → ℕ → List ℕ
clear_frames w found zero = []
clear_frames w found (suc b) = if bit_at found b == 0 then (64 * w + b) ∷ clear_frames w found b else clear_frames w found b

-- all bits of a frame word were set: there is a right to each frame that was free
abbrev pub claiming : View → ℕ → ℕ → View
claiming v w found = record v { rights = clear_frames w found 64 ++ v.rights; read = (frame_at v.about w, found) ∷ v.read }

-- each of the bits, in this frame word, is that of a frame to which the view has the right
abbrev pub AreRights : View → ℕ → ℕ → Type 0
AreRights v w bits = (b : ℕ) → b < 64 → 0 < bit_at bits b → 0 < times (64 * w + b) v.rights

-- the slots of a page that was taken, as the seat has them: the frame slot first
abbrev pub both_slots : Key → ℕ → Lodged → Lodged → List (ℕ × Lodged)
both_slots k page frame store = (frame_slot k page, frame) ∷ (store_slot k page, store) ∷ []

-- bit b of a bookmark word is that of a target of the page in hand
abbrev pub IsTargetBit : Key → Hand → ℕ → ℕ → Type 0
IsTargetBit k h w b = IsBitOfTarget k h.page h.content w b

-- each of the bits is
abbrev pub AreTargets : Key → Hand → ℕ → ℕ → Type 0
AreTargets k h w bits = (b : ℕ) → b < 64 → 0 < bit_at bits b → IsTargetBit k h w b

-- the view set the bookmark bit of the cell that begins at the address
pub record IsBookmarkedBy (k : Key) (v : View) (address : ℕ) : Type 0 where
  pub within : superpage_of address < k.supers
  pub few : cell_number (class_at k.opening address) address < 1024
  pub starts : address % class_at k.opening address ≡ 0
  pub bit : 0 < sets_bit (16 * superpage_of address + cell_number (class_at k.opening address) address / 64) (cell_number (class_at k.opening address) address % 64) v.bookmarked

-- what is owed of a page that is made Gone: an allocated cell lies on it, it isn't remembered, each of its targets was bookmarked,
-- and each superpage was counted for it in which it has a target, and no other
pub record MayLeave (k : Key) (v : View) (h : Hand) : Type 0 where
  pub there : HasCell k.opening h.page
  pub quiet : h.remembered ≡ false
  pub targets : (a : ℕ) → is_target (objects_in k.opening h.content) h.page a ≡ true → IsBookmarkedBy k v a
  pub counts : (q : ℕ) → q < k.supers → times q h.counted ≡ points k h.page h.content q
  pub marked : k.lanes ≡ false → (a : ℕ) → IsAllocated k.opening a → is_target (objects_in k.opening h.content) h.page a ≡ true → KnowsMarked k v a

-- what is owed of a page that is made Absent: no allocated cell lies on it, it isn't remembered, and nothing was counted or
-- bookmarked for it
pub record MayVacate (k : Key) (h : Hand) : Type 0 where
  pub bare : IsBarePage k.opening h.page
  pub quiet : h.remembered ≡ false
  pub uncounted : h.counted ≡ []
  pub unmarked : h.marked ≡ []

-- the seat has each role that was given out, so no other one works
abbrev pub HasAllRoles : View → Type 0
HasAllRoles v = (r : ℕ) → times r v.roles ≡ times r v.about.roles

-- what is known by a word that was read: the page's state, and what was read of it before is still so. No allocated cell lies on
-- a page that is Absent, and one lies on a page that is Gone, which wasn't Remembered at the opening. A seat that has all roles and
-- nothing in hand reads no page as Held
pub record ReadsWord (v : View) (page found : ℕ) : Type 0 where
  pub word : found ≤ 4
  pub bare : found ≡ 0 → IsBarePage v.about.opening page
  pub there : found ≡ 4 → HasCell v.about.opening page
  pub seen : 0 < times page v.seen → found ≢ 2 → found ≡ 3
  pub gone : 0 < times page v.gone → found ≡ 4
  pub quiet : found ≡ 4 → opened_word v.about page ≢ 2
  pub alone : HasAllRoles v → v.hand ≡ None → found ≢ 3

-- what is known of the box of a page that was taken from Home, or from Home and remembered. Its content is what the lane that
-- holds the page's domain put back last, and where none does that of the opening. An own page is remembered exactly where it was
-- so at the opening or the seat put it back so, and one that nobody holds exactly where it was so at the opening. An own page that was
-- Gone at the opening the seat took from there
pub record Takes (v : View) (page : ℕ) (remembered : Bool) (homed : Homed) : Type 0 where
  pub mine : 0 < has_role v (owner v.about page) → homed.page ≡ record_of v page
  pub unowned : times (owner v.about page) v.about.roles ≡ 0 → homed.page ≡ opened_content v.about page
  pub plain : owner v.about page ≡ 0 → remembered ≡ true → opened_word v.about page ≡ 2
  pub fixed : IsContent v.about.opening page homed.page
  pub young : RefersYoung v.about.opening page homed.page → remembered ≡ true
  pub recorded : 0 < one_if (opened_word v.about page == 2) + times page v.recorded → remembered ≡ true
  pub found : remembered ≡ true → 0 < has_role v (owner v.about page) → 0 < one_if (opened_word v.about page == 2) + times page v.recorded
  pub here : opened_word v.about page ≡ 4 → 0 < has_role v (owner v.about page) → 0 < times page v.fetched

-- take: the page is in hand with its box, or the word that was read is known
pub record Took (st : Step Lodged) (m : Mine) (found : ℕ) (m' : Mine) : Type 0 where
  pub hit : (page : ℕ) → st.word ≡ page_at page → found ≡ st.first → (homed : Homed)
      × (m' ≡ (gripping m.0 page (st.first == 2) homed, both_slots m.0.about page (Home homed) Nothing))
      × Takes m.0 page (st.first == 2) homed
  pub miss : (page : ℕ) → st.word ≡ page_at page → found ≢ st.first → (m' ≡ (having_read m.0 page found, m.1)) × ReadsWord m.0 page found

-- what is known of the box of a page that was taken from Gone, an own one or one of a frozen domain: its content is what the seat put
-- back last, or else the opening's, and always the opening's where nobody holds the page. An allocated cell lies on it, it refers to no
-- nursery, and it wasn't remembered: neither at the opening nor since
pub record Fetches (v : View) (page : ℕ) (content : List ℕ) : Type 0 where
  pub mine : content ≡ record_of v page
  pub unowned : owner v.about page ≡ 0 → content ≡ opened_content v.about page
  pub fixed : IsContent v.about.opening page content
  pub there : HasCell v.about.opening page
  pub old : RefersYoung v.about.opening page content → ⊥
  pub quiet : one_if (opened_word v.about page == 2) + times page v.recorded ≡ 0

-- take gone, by a seat that has one right to a frame: the page is in hand, and its box is in its store slot, or the word that was
-- read is known
pub record Fetched (st : Step Lodged) (m : Mine) (found : ℕ) (m' : Mine) : Type 0 where
  pub hit : (page frame : ℕ) → st.word ≡ page_at page → m.0.rights ≡ frame ∷ [] → found ≡ 4 → (content : List ℕ)
      × (m' ≡ (fetching m.0 page content frame, both_slots m.0.about page Nothing (Away content))) × Fetches m.0 page content
  pub miss : (page : ℕ) → st.word ≡ page_at page → found ≢ 4 → (m' ≡ (having_read m.0 page found, m.1)) × ReadsWord m.0 page found

-- Release: nothing is in hand, and the slots are at home
pub record Gave (st : Step Lodged) (m m' : Mine) : Type 0 where
  pub slots : m'.1 ≡ rest (rest m.1)
  pub view : (page : ℕ) (homed : Homed) → st.word ≡ page_at page → m.1 ≡ (home_slot page, Home homed) ∷ rest m.1 → m'.0 ≡ released m.0 page (st.first == 2) homed.page

-- bookmark bit: the view has the bits set for the page in hand
pub record SetBits (st : Step Lodged) (m : Mine) (found : ℕ) (m' : Mine) : Type 0 where
  pub view : (h : Hand) (w : ℕ) → m.0.hand ≡ Some h → st.word ≡ bookmark_at m.0.about w → m' ≡ (bookmarking m.0 h w st.first found, m.1)

-- counter add: the view has the superpage counted for the page in hand
pub record Counted (st : Step Lodged) (m : Mine) (found : ℕ) (m' : Mine) : Type 0 where
  pub view : (h : Hand) (q : ℕ) → m.0.hand ≡ Some h → st.word ≡ counter_at m.0.about q → m' ≡ (counting m.0 h q found, m.1)

-- Counter sub, of the page in hand
pub record Discounted (st : Step Lodged) (m : Mine) (found : ℕ) (m' : Mine) : Type 0 where
  pub view : (h : Hand) (q : ℕ) → m.0.hand ≡ Some h → st.word ≡ counter_at m.0.about q → m' ≡ (discounting m.0 h q found, m.1)

-- Frame claim. Each frame whose bit was clear is one of the heap's
pub record Claimed (st : Step Lodged) (m : Mine) (found : ℕ) (m' : Mine) : Type 0 where
  pub view : (w : ℕ) → st.word ≡ frame_at m.0.about w → m' ≡ (claiming m.0 w found, m.1)
  pub frames : (w b : ℕ) → st.word ≡ frame_at m.0.about w → b < 64 → bit_at found b ≡ 0 → 64 * w + b < m.0.about.frames

-- where the cell begins whose bit is bit b of word w, of those that a set has for all superpages
abbrev pub bit_cell : Key → ℕ → ℕ → ℕ
bit_cell k w b = cell_address (w / 16) (slice_index k.opening.classes (w / 16)) (64 * (w % 16) + b)

-- the pages of the cells of the first n bits, in this mark word, that are set in these bits and clear in what was found
unfoldable pub won_pages : Key → ℕ → ℕ → ℕ → ℕ → List ℕ
won_pages k w bits found zero = []
won_pages k w bits found (suc b) = if (bit_at bits b == 1) && (bit_at found b == 0) then page_of (bit_cell k w b) ∷ won_pages k w bits found b else won_pages k w bits found b

-- bits of a mark word were set: all of them are known to be set, those that were clear were won, and their pages are owed
abbrev pub shading : View → ℕ → ℕ → ℕ → View
shading v w bits found = record v {
  known = (w, bits) ∷ v.known;
  won = (w, bit_and bits (bit_not w64 found)) ∷ v.won;
  owed = won_pages v.about w bits found 64 ++ v.owed;
  read = (mark_at v.about w, found) ∷ v.read;
}

-- a mark word was read: what was read is known to be set, and it is one of the looks
abbrev pub seeing : View → ℕ → ℕ → View
seeing v w found = record v {
  known = (w, found) ∷ v.known;
  looked = (w, found) ∷ v.looked;
  read = (mark_at v.about w, found) ∷ v.read;
}

-- the view after cells were finished by these bits of a finished word
abbrev pub finishing : View → ℕ → ℕ → ℕ → View
finishing v w bits found = record v { finished = (w, bits) ∷ v.finished; read = (finished_at v.about w, found) ∷ v.read }

-- the view after a finished word was read
abbrev pub having_looked : View → ℕ → ℕ → View
having_looked v w found = record v { read = (finished_at v.about w, found) ∷ v.read }

-- a page's queue bit was set: the page isn't owed any more
abbrev pub queueing : View → ℕ → ℕ → View
queueing v page found = record v { owed = without page v.owed; read = (queue_at v.about (page / 4), found) ∷ v.read }

-- a page's queue bit was cleared: if it was set, the page is owed, and the looks begin anew
abbrev pub dequeuing : View → ℕ → ℕ → View
dequeuing v page found = record v {
  owed = if bit_at found (page % 4) == 0 then v.owed else page ∷ v.owed;
  looked = if bit_at found (page % 4) == 0 then v.looked else [];
  read = (queue_at v.about (page / 4), found) ∷ v.read;
}

-- pages without those of a superpage whose queue bits were read as set
abbrev pub unqueued : ℕ → ℕ → List ℕ → List ℕ
unqueued superpage found [] = []
unqueued superpage found (p ∷ ps) = if (p / 4 == superpage) && (bit_at found (p % 4) == 1) then unqueued superpage found ps else p ∷ unqueued superpage found ps

-- a queue word was read: a page whose bit was read as set isn't owed any more
abbrev pub peeking : View → ℕ → ℕ → View
peeking v superpage found = record v { owed = unqueued superpage found v.owed; read = (queue_at v.about superpage, found) ∷ v.read }

-- a queue word was read by a view that saw nothing gray left of what it owes: it owes nothing any more
abbrev pub settling : View → ℕ → ℕ → View
settling v superpage found = record v { owed = []; read = (queue_at v.about superpage, found) ∷ v.read }

-- bit b of word w, of those that a set has for all superpages, is that of the allocated cell at the address
pub record IsBitOf (k : Key) (w b address : ℕ) : Type 0 where
  pub there : IsAllocated k.opening address
  pub superpage : superpage_of address ≡ w / 16
  pub number : cell_number (class_at k.opening address) address ≡ 64 * (w % 16) + b

-- a cell that is known to be marked, on the page in hand, refers to the address
pub record IsReferred (k : Key) (v : View) (address : ℕ) : Type 0 where
  pub hand : Hand
  pub has : v.hand ≡ Some hand
  pub from : ℕ
  pub on : page_of from ≡ hand.page
  pub marked : KnowsMarked k v from
  pub leads : RefersToCell k.opening from address

-- bit b of mark word w may be set: such a cell refers to its cell, or the view set its bookmark bit
pub record MayShade (k : Key) (v : View) (w b : ℕ) : Type 0 where
  pub address : ℕ
  pub bit : IsBitOf k w b address
  pub why : IsReferred k v address ⊎ IsBookmarkedBy k v address

-- each of these bits of mark word w may be set
abbrev pub MayShadeAll : Key → View → ℕ → ℕ → Type 0
MayShadeAll k v w bits = (b : ℕ) → b < 64 → 0 < bit_at bits b → MayShade k v w b

-- bit b of finished word w may be set: each cell to which its cell refers is known to be marked
pub record MayFinish (k : Key) (v : View) (w b : ℕ) : Type 0 where
  pub address : ℕ
  pub bit : IsBitOf k w b address
  pub targets : (a : ℕ) → RefersToCell k.opening address a → KnowsMarked k v a

-- each of these bits of finished word w may be set
abbrev pub MayFinishAll : Key → View → ℕ → ℕ → Type 0
MayFinishAll k v w bits = (b : ℕ) → b < 64 → 0 < bit_at bits b → MayFinish k v w b

-- the view after a number was claimed: it is the number of a notice, or past the last
abbrev pub taking_notice : View → ℕ → View
taking_notice v found = record v { notices = found ∷ v.notices }

-- claim of a notice: the view has the number that was found
pub record TookNotice (st : Step Lodged) (m : Mine) (found : ℕ) (m' : Mine) : Type 0 where
  pub view : st.word ≡ notice_at m.0.about → m' ≡ (taking_notice m.0 found, m.1)

-- shade: the view has the bits of the mark word set
pub record Shaded (st : Step Lodged) (m : Mine) (found : ℕ) (m' : Mine) : Type 0 where
  pub view : (w : ℕ) → st.word ≡ mark_at m.0.about w → m' ≡ (shading m.0 w st.first found, m.1)

-- look at marks: the view has what was read of the mark word, and that has the marks of the opening and those that the seat won
pub record SawMarks (st : Step Lodged) (m : Mine) (found : ℕ) (m' : Mine) : Type 0 where
  pub view : (w : ℕ) → st.word ≡ mark_at m.0.about w → m' ≡ (seeing m.0 w found, m.1)
  pub own : (w b : ℕ) → st.word ≡ mark_at m.0.about w → b < 64 → opened_mark m.0.about w b + tells w b m.0.won ≤ bit_at found b

-- done bit: the view has the bits of the finished word set
pub record Finished (st : Step Lodged) (m : Mine) (found : ℕ) (m' : Mine) : Type 0 where
  pub view : (w : ℕ) → st.word ≡ finished_at m.0.about w → m' ≡ (finishing m.0 w st.first found, m.1)

-- look at what is finished: the view has what was read of the finished word, and that has the cells which were finished at the opening and
-- those that the seat finished
pub record SawFinished (st : Step Lodged) (m : Mine) (found : ℕ) (m' : Mine) : Type 0 where
  pub view : (w : ℕ) → st.word ≡ finished_at m.0.about w → m' ≡ (having_looked m.0 w found, m.1)
  pub own : (w b : ℕ) → st.word ≡ finished_at m.0.about w → b < 64 → 0 < opened_finished m.0.about w b + tells w b m.0.finished → bit_at found b ≡ 1

-- queue bit: the bit of the page is set, and the page isn't owed
pub record Queued (st : Step Lodged) (m : Mine) (found : ℕ) (m' : Mine) : Type 0 where
  pub view : (page : ℕ) → st.word ≡ queue_at m.0.about (page / 4) → st.first ≡ 2 ^ (page % 4) → m' ≡ (queueing m.0 page found, m.1)

-- dequeue bit: the bit of the page is clear, and the page is owed if the bit was set
pub record Dequeued (st : Step Lodged) (m : Mine) (found : ℕ) (m' : Mine) : Type 0 where
  pub view : (page : ℕ) → st.word ≡ queue_at m.0.about (page / 4) → st.first ≡ bit_not w64 (2 ^ (page % 4)) → m' ≡ (dequeuing m.0 page found, m.1)

-- look at the queue
pub record SawQueue (st : Step Lodged) (m : Mine) (found : ℕ) (m' : Mine) : Type 0 where
  pub view : (superpage : ℕ) → st.word ≡ queue_at m.0.about superpage → m' ≡ (peeking m.0 superpage found, m.1)

-- settle: the same look, by a view that has paid what it owes
pub record SettledPages (st : Step Lodged) (m : Mine) (found : ℕ) (m' : Mine) : Type 0 where
  pub view : (superpage : ℕ) → st.word ≡ queue_at m.0.about superpage → m' ≡ (settling m.0 superpage found, m.1)

-- Frame give
pub record GaveFrames (st : Step Lodged) (m : Mine) (found : ℕ) (m' : Mine) : Type 0 where
  pub view : (w bits : ℕ) → st.word ≡ frame_at m.0.about w → st.first ≡ bit_not w64 bits → bits < 2 ^ 64 → m' ≡ (giving m.0 w bits found, m.1)

-- evict word: the slots are at home, and the seat has a right to the page's frame, which is one of the heap's
pub record Left (st : Step Lodged) (m m' : Mine) : Type 0 where
  pub slots : m'.1 ≡ rest (rest m.1)
  pub view : (h : Hand) → m.0.hand ≡ Some h → m'.0 ≡ leaving m.0 h
  pub frame : (h : Hand) → m.0.hand ≡ Some h → h.frame < m.0.about.frames

-- absent word: the slots are at home, and the seat has a right to the page's frame, which is one of the heap's
pub record Vacated (st : Step Lodged) (m m' : Mine) : Type 0 where
  pub slots : m'.1 ≡ rest (rest m.1)
  pub view : (h : Hand) → m.0.hand ≡ Some h → m'.0 ≡ vacating m.0 h
  pub frame : (h : Hand) → m.0.hand ≡ Some h → h.frame < m.0.about.frames

-- Look
pub record Looked (st : Step Lodged) (m : Mine) (found : ℕ) (m' : Mine) : Type 0 where
  pub view : (page : ℕ) → st.word ≡ page_at page → m' ≡ (having_read m.0 page found, m.1)
  pub reads : (page : ℕ) → st.word ≡ page_at page → ReadsWord m.0 page found

-- split: the seat that keeps the rest of the roles
abbrev pub dealer : View → View
dealer v = record v { roles = drop 1 v.roles }

-- split: the new seat, with the first role
abbrev pub dealt : View → View
dealt v = record (fresh v.about (take 1 v.roles)) { alive = v.alive }

-- Join: the view takes over all that the other kept. Its looks are none, so it answers for each gray cell of the pages that either owed
abbrev pub united : View → View → View
united v w = record v {
  roles = v.roles ++ w.roles;
  changed = v.changed ++ w.changed;
  recorded = v.recorded ++ w.recorded;
  left = v.left ++ w.left;
  emptied = v.emptied ++ w.emptied;
  fetched = v.fetched ++ w.fetched;
  returned = v.returned ++ w.returned;
  seen = v.seen ++ w.seen;
  gone = v.gone ++ w.gone;
  busy = v.busy ++ w.busy;
  read = v.read ++ w.read;
  bookmarked = v.bookmarked ++ w.bookmarked;
  rights = v.rights ++ w.rights;
  known = v.known ++ w.known;
  won = v.won ++ w.won;
  finished = v.finished ++ w.finished;
  owed = v.owed ++ w.owed;
  looked = [];
  notices = v.notices ++ w.notices;
}
