-- A lane's turn: which whole heaps what the lane has may belong to, what its seat and the table are, and what is done.
use Rattle.std.specs.Prelude.{◌≡◌, ◌≢◌, ◌⊎◌, ℕ, ◌+◌, ◌-◌, ◌*◌, ◌/◌, ◌^◌, ◌<◌, ◌≤◌, Bool, true, false, List, ◌∷◌, [], ◌++◌, length, map, take, drop, Option, Some, None, Vec, slice_index, slice_index_or, vec_capacity}
use Rattle.std.specs.Global.{Global}
use Rattle.std.specs.List.{AllByRecursion}
use Rattle.bc_lane.specs.declared.looking.Looking.{Looking}
use Rattle.bc_lane.specs.declared.looking.Looking.TheVariants as looking
use Rattle.bc_lane.specs.declared.parts.LanePart.{LanePart}
use Rattle.bc_lane.specs.declared.stops.Stop.{Stop}
use Rattle.bc_lane.specs.declared.stops.Stop.TheVariants as stop
use Rattle.bc_lane.specs.declared.turns.LaneDone.{LaneDone}
use Rattle.bc_lane.specs.declared.turns.LaneRoom.{LaneRoom}
use Rattle.bc_lane.specs.declared.turns.LaneRoots.{LaneRoots}
use Rattle.bc_lane.specs.declared.turns.LaneTurn.{LaneTurn}
use Rattle.bc_nursery.specs.Entries.{Entries}
use Rattle.bc_nursery.specs.Nurseries.{Nursery}
use Rattle.bc_lane.specs.Doing.{DidAll}
use Rattle.bc_lane.specs.Shown.{IsFrozenPage, IsOwnPage, ShowsPages, ShowsSlots}
use Rattle.bc_model.specs.State.{State, holder_of, lets_read}
use Rattle.bc_model.specs.declared.operations.Op.{Op}
use Rattle.bc_model.specs.declared.operations.Reply.{Reply}
use Rattle.bc_model.specs.declared.values.Holder.{Holder}
use Rattle.bc_model.specs.declared.values.Holder.TheVariants as holder
use Rattle.bc_model.specs.declared.values.Slot.{Slot}
use Rattle.bc_mutator.specs.Effects.{DidOperation}
use Rattle.bc_mutator.specs.Objects.{MayOperate, slot_word}
use Rattle.bc_mutator.specs.Operations.{IsOpOf, MayName, NeedsEntry, WantsMore}
use Rattle.bc_mutator.specs.Parts.{IsPartOf, TouchesHand, has_right, touched_slot, writes_field}
use Rattle.bc_nursery.specs.Objects.{left_of}
use Rattle.bc_pins.specs.declared.holding.Held.{Held}
use Rattle.bc_pins.specs.declared.key.Role.TheVariants.{Lane}
use Rattle.bc_pins.specs.declared.pins.Pins.{Pins}
use Rattle.bc_pins.specs.declared.pins.Seat.{Seat}
use Rattle.bc_pins.specs.declared.views.View.{View}
use Rattle.bc_evict.specs.Claiming.{all_bits}
use Rattle.bc_evict.specs.Victims.{IsPassed}
use Rattle.bc_pins.specs.Calls.{CountsFetches, HoldsPage, IsAt, IsFree, IsSameWorker, key_of, view_of}
use Rattle.bc_pins.specs.Contents.{IsBarePage}
use Rattle.bc_pins.specs.Key.{Key, frame_at, frame_words, owner, owner_role, page_at, pages_of}
use Rattle.bc_pins.specs.Totals.{times}
use Rattle.bc_pins.specs.Views.{entries, has_role, opened_state, reads_at, reads_of}
use Rattle.bc_superpages.specs.declared.headers.PageState.TheVariants.{Absent}
use Rattle.bc_superpages.specs.Layout.{content_at}
use Rattle.bc_superpages.specs.LayoutAt.{IsAllocated}
use Rattle.bc_superpages.specs.RootWords.{RootWords}
use Rattle.bc_whole_heap.specs.Heaps.{HeapView}
use Rattle.bc_whole_heap.specs.LaneStates.{StandsAs}
use Rattle.bc_word.specs.Addresses.{page_of, superpage_of}
use Rattle.bc_word.specs.declared.addresses.Address.{Address}
use Rattle.bc_word.specs.declared.words.Word.TheVariants.{Ref}

-- the root words that the lane's slots and those of frozen domains may belong to
abbrev pub SlotsOf : LanePart → RootWords → Type 0
SlotsOf part r = ShowsSlots part.holders.items part.lane part.slots part.shared.value part.starts.items part.words.items r

-- a whole heap to which belongs what the lane has, with this page in hand and a seat of this view. The lane may operate on it,
-- and it stands for a state in which the lane has its number of births
pub record IsWhole (part : LanePart) (v : View) (hand : Option Held) (end : ℕ) (h : HeapView) : Type 0 where
  pub ready : MayOperate h part.holders.items part.lane
  pub stands : (serials : List ℕ) × (state : State) × StandsAs h part.holders.items serials state × (slice_index serials part.lane ≡ part.serial)
  pub belongs : IsPartOf (ShowsPages v hand end) (SlotsOf part) part.chunk part.buffer part.lane h

-- what stays of it
pub record SamePart (old new : LanePart) : Type 0 where
  pub lane : new.lane ≡ old.lane
  pub holders : new.holders ≡ old.holders
  pub domains : new.domains ≡ old.domains
  pub slots : new.slots ≡ old.slots
  pub starts : new.starts ≡ old.starts
  pub shared : new.shared ≡ old.shared

-- where the words of each domain's slots begin. The list names no domain twice
abbrev pub AreStarts : List ℕ → ℕ → ℕ → List ℕ → Type 0
AreStarts domains slots count starts =
    (length starts ≡ count) × (((i j : ℕ) → i < j → j < length domains → slice_index domains i < slice_index domains j)
    → (i : ℕ) → i < length domains → slice_index starts (slice_index domains i) ≡ i * slots)

-- room for what a lane takes into a turn, where it holds these domains, and each domain has so many slots
pub record IsRoomOf (holders : List Holder) (domains : List ℕ) (slots : ℕ) (room : LaneRoom) : Type 0 where
  pub holders_are : room.holders.items ≡ holders
  pub slots_are : room.slots ≡ slots
  pub starts : AreStarts domains slots (length holders) room.starts.items

-- what a lane takes into a turn, in which it is to do so many operations and has done those that have replies. It shares these root words
pub record IsPreparedTurn (lane : ℕ) (holders : List Holder) (slots : ℕ) (shared : RootWords) (roots : LaneRoots) (chunk : Nursery) (buffer : Entries) (serial : ℕ) (replies : Vec Reply Global) (count : ℕ) (turn : LaneTurn) : Type 0 where
  pub lane_is : turn.part.lane ≡ lane
  pub holders_are : turn.part.holders.items ≡ holders
  pub domains : turn.part.domains ≡ roots.domains
  pub slots_are : turn.part.slots ≡ slots
  pub words : turn.part.words ≡ roots.words
  pub starts : AreStarts roots.domains.items slots (length holders) turn.part.starts.items
  pub shared_is : turn.part.shared.value ≡ shared
  pub chunk_is : turn.part.chunk ≡ chunk
  pub buffer_is : turn.part.buffer ≡ buffer
  pub serial_is : turn.part.serial ≡ serial
  pub next : turn.next ≡ length replies.items
  pub replies_are : turn.replies ≡ replies
  pub count_is : turn.count ≡ count

-- what a lane gives back after a turn
pub record IsFinished (turn : LaneTurn) (done : LaneDone) : Type 0 where
  pub domains : done.roots.domains ≡ turn.part.domains
  pub words : done.roots.words ≡ turn.part.words
  pub chunk : done.chunk ≡ turn.part.chunk
  pub buffer : done.buffer ≡ turn.part.buffer
  pub serial : done.serial ≡ turn.part.serial
  pub next : done.next ≡ turn.next
  pub replies : done.replies ≡ turn.replies
  pub room : done.room ≡ record { holders = turn.part.holders; starts = turn.part.starts; slots = turn.part.slots }

-- the table is one for lanes, who hold the domains so, and no seat's role is that of nobody. Pages past its end are Absent
pub record IsLaneTable (k : Key) (holders : List Holder) : Type 0 where
  pub lanes : k.lanes ≡ true
  pub owners : k.owners ≡ map owner_role holders
  pub nobody : times 0 k.roles ≡ 0
  pub behind : (page : ℕ) → pages_of k ≤ page → opened_state k page ≡ Absent

-- what a lane has in hand its seat has: this page, or none
abbrev pub HasInHand : Seat → Option Held → Type 0
HasInHand seat None = IsFree seat
HasInHand seat (Some held) = HoldsPage seat held

-- the seat is this lane's, and not nobody's, at this table, with this page in hand, and has no right to a frame
pub record IsLaneSeat (pins : Pins) (lane : ℕ) (seat : Seat) (hand : Option Held) : Type 0 where
  pub at : IsAt pins seat
  pub role : seat.role ≡ Lane lane
  pub somebody : has_role (view_of seat) 0 ≡ 0
  pub hands : HasInHand seat hand
  pub rights : (view_of seat).rights ≡ []

-- the slot whose object an operation looks at, where there is one, refers to this address
abbrev pub LooksAtObject : RootWords → Option Slot → Address → Type 0
LooksAtObject r None at = ⊥
LooksAtObject r (Some p) at = slot_word r p ≡ Ref at

-- the operation looks at a cell on this page
abbrev pub LooksOn : HeapView → Op → ℕ → Type 0
LooksOn h op page = (at : Address) × LooksAtObject h.roots (touched_slot op) at × IsAllocated h.space at.0 × (page_of at.0 ≡ page)

-- the operation looks at a cell on this page of a domain to which the lane may do what it does, and names no slot that the lane may not. So
-- an operation that is answered otherwise looks at no page
pub record LooksRightOn (holders : List Holder) (lane : ℕ) (h : HeapView) (op : Op) (page : ℕ) : Type 0 where
  pub named : MayName holders lane op
  pub right : has_right holders lane op (slice_index h.space.domains (page / 4)) ≡ true
  pub looks : LooksOn h op page

-- what the seat read last: this, of this page
abbrev pub ReadLast : View → ℕ → ℕ → Type 0
ReadLast v page found = (rest : List (ℕ × ℕ)) × (v.read ≡ (page_at page, found) ∷ rest)

-- the page's word was read since, and said last that the page is in another's hands; which is noted
pub record ReadsHeld (v w : View) (page : ℕ) : Type 0 where
  pub last : ReadLast w page 3
  pub since : length v.read < length w.read
  pub noted : 0 < times page w.busy

-- the word of a page of a frozen domain was read since, and said last that the page is in another's hands
pub record ReadsFrozenHeld (v w : View) (page : ℕ) : Type 0 where
  pub frozen : IsFrozenPage w page
  pub last : ReadLast w page 3
  pub since : length v.read < length w.read

-- by these looks a page that was Gone couldn't come back into a frame that is free. There was none: each frame word was read once and had no
-- clear bit, and no page's word was read. Or the page had gone to somebody else: its word was read once, and said neither Home nor Gone
abbrev pub FindsNoWayBack : Key → ℕ → List (ℕ × ℕ) → Type 0
FindsNoWayBack k page looks =
    (((q : ℕ) → q < pages_of k → reads_at q looks ≡ []) × ((word : ℕ) → word < frame_words k → reads_of (frame_at k word) looks ≡ all_bits ∷ []))
    ⊎ ((found : ℕ) × (found < 4) × (found ≢ 1) × (reads_at page looks ≡ found ∷ []))

-- the seat read on, and by all that it read since a page that was Gone couldn't come back into a frame that is free
pub record HasNoWayBack (v w : View) (page : ℕ) : Type 0 where
  pub later : List (ℕ × ℕ)
  pub reads : w.read ≡ later ++ v.read
  pub since : FindsNoWayBack v.about page later

-- the word of a page of a frozen domain was read since, and said that the page is Gone; and by all that was read later it couldn't come back
-- into a frame that is free
pub record ReadsFrozenGone (v w : View) (page : ℕ) : Type 0 where
  pub frozen : IsFrozenPage w page
  pub before : List (ℕ × ℕ)
  pub later : List (ℕ × ℕ)
  pub gone : w.read ≡ later ++ (page_at page, 4) ∷ (before ++ v.read)
  pub since : FindsNoWayBack w.about page later

-- a page's word was read since, and said last that the page is Home
pub record ReadsHome (v w : View) (page : ℕ) : Type 0 where
  pub between : List (ℕ × ℕ)
  pub later : List (ℕ × ℕ)
  pub reads : w.read ≡ later ++ (page_at page, 1) ∷ (between ++ v.read)
  pub once : (reads_at page between ≡ []) × (reads_at page later ≡ [])

-- the word of a page of a frozen domain was read since, and said that the page is Gone, and at the next step on it, which was the last one,
-- that it is Home: another lane brought it back
pub record ReadsFrozenMoved (v w : View) (page : ℕ) : Type 0 where
  pub frozen : IsFrozenPage w page
  pub before : List (ℕ × ℕ)
  pub between : List (ℕ × ℕ)
  pub later : List (ℕ × ℕ)
  pub reads : w.read ≡ later ++ (page_at page, 1) ∷ (between ++ (page_at page, 4) ∷ (before ++ v.read))
  pub once : (reads_at page between ≡ []) × (reads_at page later ≡ [])

-- the page in hand was put back, if there was one: nothing else changed but what the seat records of its page, or that it returned it
abbrev pub IsLaidDown : View → View → Type 0
IsLaidDown v w = w ≡ record v { hand = None; changed = w.changed; recorded = w.recorded; returned = w.returned }

-- by these looks no frame is free and no page can leave: each frame word was read once and had no clear bit, and the word of each page of
-- the table was read once, and it was a state in which no page can be taken
pub record ShowsNoFrame (k : Key) (looks : List (ℕ × ℕ)) : Type 0 where
  pub frames : (word : ℕ) → word < frame_words k → reads_of (frame_at k word) looks ≡ all_bits ∷ []
  pub pages : (q : ℕ) → q < pages_of k → IsPassed looks q

-- no frame was found. Nothing changed but what was read and what is noted of pages: so no frame was claimed, and none given back
pub record FindsNoFrameAtAll (v w : View) : Type 0 where
  pub looks : List (ℕ × ℕ)
  pub view : w ≡ record v { read = looks ++ v.read; seen = w.seen; gone = w.gone; busy = w.busy }
  pub gone : (page : ℕ) → times page v.gone ≤ times page w.gone
  pub none : ShowsNoFrame v.about looks

-- the page was read as Gone since, as is noted, by a seat that had nothing in hand and no right to a frame; and from then on no frame was found
pub record FindsNoFrameFor (v w : View) (page : ℕ) : Type 0 where
  -- what the seat's view was when it began to look for a frame, and what it had read before the page's word
  pub ready : View
  pub before : List (ℕ × ℕ)
  pub gone : ready.read ≡ (page_at page, 4) ∷ (before ++ v.read)
  pub hands : ready.hand ≡ None
  pub rights : ready.rights ≡ []
  pub none : FindsNoFrameAtAll ready w
  pub noted : 0 < times page w.gone

-- how often a frame word was read as full, with no clear bit: none of its frames was free
abbrev pub full_reads : Key → ℕ → List (ℕ × ℕ) → ℕ
full_reads k word looks = times all_bits (reads_of (frame_at k word) looks)

-- a seat read on, took and put back pages of the table, reloaded pages that were Gone, own ones and those of frozen domains, and made
-- pages Gone or Absent for their frames, no more than it reloaded, and no more than it read any frame word as full. A page of another
-- lane's it made Gone or Absent as often as it read it as Home, and none such it reloaded; and none that isn't its own it put back as
-- Remembered or recorded. It has the rights to frames that it had, counted no superpage, and returned no page but those of frozen domains
pub record ReadsOn (v w : View) : Type 0 where
  pub same : w ≡ record v { hand = w.hand; changed = w.changed; recorded = w.recorded; returned = w.returned; seen = w.seen; gone = w.gone; busy = w.busy; read = w.read; left = w.left; emptied = w.emptied; fetched = w.fetched; bookmarked = w.bookmarked }
  pub more : List (ℕ × ℕ)
  pub read : w.read ≡ more ++ v.read
  pub behind : (page : ℕ) → pages_of v.about ≤ page → (entries page w.changed ≡ entries page v.changed) × (times page w.recorded ≡ times page v.recorded)
  pub others : (page : ℕ) → has_role v (owner v.about page) ≡ 0 → (entries page w.changed ≡ entries page v.changed) × (times page w.recorded ≡ times page v.recorded)
  pub foreign : (page : ℕ) → page < pages_of v.about → has_role v (owner v.about page) ≡ 0 → owner v.about page ≢ 0
      → times page w.left + times page w.emptied ≡ times 1 (reads_at page more) + (times page v.left + times page v.emptied)
  pub fetches : (page : ℕ) → has_role v (owner v.about page) ≡ 0 → owner v.about page ≢ 0 → times page w.fetched ≡ times page v.fetched
  pub returned : (page : ℕ) → times page v.returned < times page w.returned → IsFrozenPage v page
  pub far : (page : ℕ) → pages_of v.about ≤ page → (times page w.left ≡ times page v.left) × (times page w.emptied ≡ times page v.emptied) × (times page w.fetched ≡ times page v.fetched)
  pub few : (length w.left + length w.emptied) + length v.fetched ≤ length w.fetched + (length v.left + length v.emptied)
  pub full : (word : ℕ) → word < frame_words v.about → length w.left + length w.emptied ≤ full_reads v.about word more + (length v.left + length v.emptied)

-- a seat reloaded no more pages than so many
abbrev pub ReloadsUpTo : ℕ → View → View → Type 0
ReloadsUpTo most v w = length w.fetched ≤ most + length v.fetched

-- a page that a seat left as it was: as often as it read it as Home it made it Gone or Absent, and it didn't reload it
pub record PassesBy (v w : View) (page : ℕ) : Type 0 where
  pub home : times 1 (reads_at page w.read) + (times page v.left + times page v.emptied) ≡ times 1 (reads_at page v.read) + (times page w.left + times page w.emptied)
  pub fetched : times page w.fetched ≡ times page v.fetched

-- the page was put back with this content, as one of these entries says
abbrev pub IsPutBack : ℕ → List ℕ → List (ℕ × List ℕ) → Type 0
IsPutBack page content [] = ⊥
IsPutBack page content (e ∷ es) = ((e.0 ≡ page) × (e.1 ≡ content)) ⊎ IsPutBack page content es

-- the page is in hand, with this content
abbrev pub IsInHandAs : Option Held → ℕ → List ℕ → Type 0
IsInHandAs None page content = ⊥
IsInHandAs (Some held) page content = (held.page ≡ page) × (held.homed.page ≡ content)

-- a seat that had this in hand put back nothing but that, as it had it
abbrev pub PutsBack : View → Option Held → View → Type 0
PutsBack v hand w = (page : ℕ) → (content : List ℕ) → IsPutBack page content w.changed → IsPutBack page content v.changed ⊎ IsInHandAs hand page content

-- a seat has the right to this frame and to no other, which it claimed, or for which it made one page Gone or Absent, the one that it
-- read as Home; then it read each frame word as full besides. What it knew to be Gone it knows still, and nothing else changed that the
-- view says
pub record HasFrame (v : View) (frame : ℕ) (w : View) : Type 0 where
  pub looks : List (ℕ × ℕ)
  pub view : w ≡ record v { rights = frame ∷ []; seen = w.seen; gone = w.gone; busy = w.busy; read = looks ++ v.read; left = w.left; emptied = w.emptied; bookmarked = w.bookmarked }
  pub gone : (page : ℕ) → times page v.gone ≤ times page w.gone
  pub given : (page : ℕ) → page < pages_of v.about → times page w.left + times page w.emptied ≡ times 1 (reads_at page looks) + (times page v.left + times page v.emptied)
  pub far : (page : ℕ) → pages_of v.about ≤ page → (times page w.left ≡ times page v.left) × (times page w.emptied ≡ times page v.emptied)
  pub few : length w.left + length w.emptied ≤ 1 + (length v.left + length v.emptied)
  pub full : (word : ℕ) → word < frame_words v.about → length w.left + length w.emptied ≤ full_reads v.about word looks + (length v.left + length v.emptied)

-- a call leaves the seat that seat, and it counts the boxes that it opens still, if it did
pub record IsSameLane (old new : Seat) : Type 0 where
  pub worker : IsSameWorker old new
  pub opens : CountsFetches old → CountsFetches new

-- this is true of the lane's operation of that number, which there is
abbrev pub IsNextOp : List Op → ℕ → (Op → Type 0) → Type 0
IsNextOp ops next P = (op : Op) × (next < length ops) × (op ≡ slice_index_or ops next op) × P op

-- the lane may read all slots that the operation names, and write the one that it writes
abbrev pub LaneMayName : LanePart → Op → Type 0
LaneMayName part op = MayName part.holders.items part.lane op

-- what the operation looks at, if at a cell, lies on pages of which this is true
abbrev pub LeadsToPageWhere : LanePart → ℕ → Op → (ℕ → Type 0) → Type 0
LeadsToPageWhere part end op P = (v : View) → (hand : Option Held) → TouchesHand (ShowsPages v hand end) (SlotsOf part) P (touched_slot op)

-- the operation looks at a cell on this page of the table, of a domain that has this holder, and the lane may do to it what the operation does
pub record LooksReadable (part : LanePart) (k : Key) (end : ℕ) (op : Op) (who : Holder) (page : ℕ) : Type 0 where
  pub named : LaneMayName part op
  pub leads : LeadsToPageWhere part end op (λ q. q ≡ page)
  pub inside : page < pages_of k
  pub domain : slice_index k.opening.domains (page / 4) < length part.holders.items
  pub owned : holder_of part.holders.items (slice_index k.opening.domains (page / 4)) ≡ who
  pub cell : IsBarePage k.opening page → ⊥
  pub looks : (v : View) → (hand : Option Held) → (h : HeapView) → v.about ≡ k → IsWhole part v hand end h → IsOpOf h.roots op → LooksRightOn part.holders.items part.lane h op page

-- the operation looks at a cell of a domain that another lane holds, which this lane may not read
pub record LooksForeign (h : HeapView) (holders : List Holder) (lane : ℕ) (op : Op) : Type 0 where
  pub at : Address
  pub looks : LooksAtObject h.roots (touched_slot op) at
  pub there : IsAllocated h.space at.0
  pub foreign : lets_read (holder_of holders (slice_index h.space.domains (superpage_of at.0))) lane ≡ false

-- the operation would write a field of a cell of a frozen domain
pub record LooksSealed (h : HeapView) (holders : List Holder) (op : Op) : Type 0 where
  pub at : Address
  pub looks : LooksAtObject h.roots (touched_slot op) at
  pub there : IsAllocated h.space at.0
  pub frozen : holder_of holders (slice_index h.space.domains (superpage_of at.0)) ≡ holder.Frozen
  pub writes : writes_field op ≡ true

-- this is true of every whole heap to which what the lane has belongs
abbrev pub InEachWhole : LanePart → Key → ℕ → Op → (HeapView → Type 0) → Type 0
InEachWhole part k end op P = (v : View) → (hand : Option Held) → (h : HeapView) → v.about ≡ k → IsWhole part v hand end h → IsOpOf h.roots op → P h

-- what is known of where an operation looks
abbrev pub LooksTold : LanePart → Key → ℕ → Op → Looking → Type 0
LooksTold part k end op looking.Nowhere = LaneMayName part op → LeadsToPageWhere part end op (λ _. ⊥)
LooksTold part k end op (looking.Own page) = LooksReadable part k end op (holder.Lane part.lane) page
LooksTold part k end op (looking.Frozen page) = LooksReadable part k end op holder.Frozen page
LooksTold part k end op looking.Foreign = LaneMayName part op × InEachWhole part k end op (λ h. LooksForeign h part.holders.items part.lane op)
LooksTold part k end op looking.Sealed = LaneMayName part op × InEachWhole part k end op (λ h. LooksSealed h part.holders.items op)

-- an own page couldn't be brought: the stop is what was read since
abbrev pub IsRefusedOwn : View → View → ℕ → Stop → Type 0
IsRefusedOwn v w page why = ((why ≡ stop.Busy page) × ReadsHeld v w page) ⊎ ((why ≡ stop.NoFrame) × FindsNoFrameFor v w page)

-- one of a frozen domain couldn't be brought
abbrev pub IsRefusedFrozen : View → View → ℕ → Stop → Type 0
IsRefusedFrozen v w page why =
    ((why ≡ stop.Busy page) × ReadsFrozenHeld v w page)
    ⊎ (((why ≡ stop.Gone page) × ReadsFrozenGone v w page) ⊎ ((why ≡ stop.Moved page) × ReadsFrozenMoved v w page))

-- the page couldn't be brought, which is of a frozen domain or the lane's own
abbrev pub IsRefusedPage : View → View → ℕ → Stop → Type 0
IsRefusedPage v w page why = IsRefusedOwn v w page why ⊎ IsRefusedFrozen v w page why

-- the page is one of a frozen domain, so no seat has the role of who holds it
abbrev pub IsNobodysPage : View → ℕ → Type 0
IsNobodysPage v page = IsFrozenPage v page × (times (owner v.about page) v.about.roles ≡ 0)

-- the page is one of a frozen domain, or else the lane's own
abbrev pub IsFrozenOrOwn : View → ℕ → Bool → Type 0
IsFrozenOrOwn v page true = IsNobodysPage v page
IsFrozenOrOwn v page false = IsOwnPage v page

-- who holds the page's domain then
abbrev pub holder_if : Bool → ℕ → Holder
holder_if true lane = holder.Frozen
holder_if false lane = holder.Lane lane

-- an operation of the lane was done and answered, in every whole heap
abbrev pub DoesOne : LanePart → View → Option Held → LanePart → View → Option Held → ℕ → Op → Reply → Type 0
DoesOne old v hand new w after end op reply = (h : HeapView) → IsWhole old v hand end h → IsOpOf h.roots op
    → (k : HeapView) × IsWhole new w after end k × DidOperation h k old.holders.items old.lane old.serial new.serial op reply

-- nothing was done: what belonged to a whole heap does so still
abbrev pub StaysWhole : LanePart → View → Option Held → LanePart → View → Option Held → ℕ → Type 0
StaysWhole old v hand new w after end = (new ≡ old) × ((h : HeapView) → IsWhole old v hand end h → IsWhole old w after end h)

-- the operation looks at a cell on this page, as the lane may, whatever whole heap what the lane has belongs to
abbrev pub LooksOnIn : LanePart → View → Option Held → ℕ → Op → ℕ → Type 0
LooksOnIn part w hand end op page = (h : HeapView) → IsWhole part w hand end h → IsOpOf h.roots op → LooksRightOn part.holders.items part.lane h op page

-- why an operation isn't done, by what the lane has now, and what its seat read since it had the view v
abbrev pub StopsOp : View → LanePart → View → Option Held → ℕ → Op → Stop → Type 0
StopsOp v part w hand end op stop.End = ⊥
StopsOp v part w hand end op stop.NurseryFull = WantsMore part.holders.items part.lane (left_of part.chunk) op
StopsOp v part w hand end op stop.BufferFull = (h : HeapView) → IsWhole part w hand end h → IsOpOf h.roots op → NeedsEntry part.holders.items part.lane h.space h.roots part.chunk part.buffer op
StopsOp v part w hand end op (stop.Busy page) = (ReadsHeld v w page ⊎ ReadsFrozenHeld v w page) × LooksOnIn part w hand end op page
StopsOp v part w hand end op stop.NoFrame = (page : ℕ) × FindsNoFrameFor v w page × LooksOnIn part w hand end op page
StopsOp v part w hand end op (stop.Gone page) = ReadsFrozenGone v w page × LooksOnIn part w hand end op page
StopsOp v part w hand end op (stop.Moved page) = ReadsFrozenMoved v w page × LooksOnIn part w hand end op page

-- why a lane stops before the operation of this number: at its end, or since that operation isn't done
abbrev pub WhyStopped : View → List Op → ℕ → LaneTurn → View → Option Held → Stop → Type 0
WhyStopped v ops end turn w hand why = ((why ≡ stop.End) × (length ops ≤ turn.next)) ⊎ IsNextOp ops turn.next (λ op. StopsOp v turn.part w hand end op why)

-- the next operation looks at a cell on this page
abbrev pub LooksNext : List Op → ℕ → LaneTurn → View → Option Held → ℕ → Type 0
LooksNext ops end turn v hand page = IsNextOp ops turn.next (λ op. LooksOnIn turn.part v hand end op page)

-- what the turn of a lane rests on
pub record IsGoing (pins : Pins) (ops : List Op) (turn : LaneTurn) (seat : Seat) (hand : Option Held) : Type 0 where
  pub table : IsLaneTable (key_of pins) turn.part.holders.items
  pub seated : IsLaneSeat pins turn.part.lane seat hand
  pub few : turn.part.lane < 16
  pub count : length ops ≡ turn.count
  pub births : turn.part.serial + (length ops - turn.next) < 2 ^ 32

-- as many domains, and slots of each
pub record SameSizes (h k : HeapView) : Type 0 where
  pub domains : k.roots.domains ≡ h.roots.domains
  pub slots : k.roots.slots ≡ h.roots.slots

-- this is true of the heap that the first of the operations with these replies, so many, made of the one to which what the lane had belonged
pub record ComesInRun (ops : List Op) (end : ℕ) (old : LaneTurn) (v : View) (hand : Option Held) (replies : List Reply) (before : ℕ) (P : HeapView → Type 0) : Type 0 where
  pub within : before ≤ length replies
  pub comes : (h : HeapView) → IsWhole old.part v hand end h → AllByRecursion (IsOpOf h.roots) ops
      → (k : HeapView) × (serial : ℕ) × DidAll old.part.holders.items old.part.lane (take before (drop old.next ops)) (take before replies) h old.part.serial k serial × P k

-- one of the operations with these replies looks at a cell on this page, as the lane may, or the one after them: in the heap that those
-- before it made of the one to which what the lane had belonged
pub record LooksInRun (ops : List Op) (end : ℕ) (old : LaneTurn) (v : View) (hand : Option Held) (replies : List Reply) (page : ℕ) : Type 0 where
  pub before : ℕ
  pub op : Op
  pub less : old.next + before < length ops
  pub is : op ≡ slice_index_or ops (old.next + before) op
  pub run : ComesInRun ops end old v hand replies before (λ k. LooksRightOn old.part.holders.items old.part.lane k op page)

-- the page had this content in the heap that some of the operations with these replies, the first, made
pub record HadInRun (ops : List Op) (end : ℕ) (old : LaneTurn) (v : View) (hand : Option Held) (replies : List Reply) (page : ℕ) (content : List ℕ) : Type 0 where
  pub before : ℕ
  pub run : ComesInRun ops end old v hand replies before (λ k. content_at k.space.pages page ≡ content)

-- operations of the lane were done, in their order: whatever whole heap what the lane had belonged to, what it has now belongs to
-- that heap with these operations done. Their replies are kept, where there was room for them. A page on which none of them looks, nor
-- the next one, the seat left as it was; and each page that it put back it put back as it was in the heap that some of them made
pub record LaneRan (ops : List Op) (end : ℕ) (old : LaneTurn) (v : View) (hand : Option Held) (new : LaneTurn) (w : View) (after : Option Held) : Type 0 where
  pub replies : List Reply
  pub kept : new.replies.items ≡ old.replies.items ++ replies
  pub room : vec_capacity new.replies ≡ vec_capacity old.replies
  pub next : new.next ≡ old.next + length replies
  pub count : new.count ≡ old.count
  pub same : SamePart old.part new.part
  pub serial : new.part.serial ≤ old.part.serial + length replies
  pub reads : ReadsOn v w
  pub looked : (page : ℕ) → page < pages_of v.about → PassesBy v w page ⊎ LooksInRun ops end old v hand replies page
  pub puts : (page : ℕ) → (content : List ℕ) → IsPutBack page content w.changed → IsPutBack page content v.changed ⊎ HadInRun ops end old v hand replies page content
  pub done : (h : HeapView) → IsWhole old.part v hand end h → AllByRecursion (IsOpOf h.roots) ops
      → (k : HeapView) × IsWhole new.part w after end k × SameSizes h k
      × DidAll old.part.holders.items old.part.lane (take (length replies) (drop old.next ops)) replies h old.part.serial k new.part.serial
