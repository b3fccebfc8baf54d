-- What a lane takes into a turn out of the heap, and what stands in its places meanwhile.
use Rattle.std.specs.Prelude.{◌≡◌, ◌≢◌, ◌⊎◌, ℕ, ◌+◌, ◌-◌, ◌*◌, ◌<◌, ◌≤◌, List, [], ◌++◌, length, map, Vec, vec_capacity, None, slice_index, slice_index_or}
use Rattle.std.specs.List.{AllByRecursion}
use Rattle.std.specs.declared.alloc.Global.{Global}
use Rattle.bc_lane.specs.declared.parts.LanePart.{LanePart}
use Rattle.bc_lane.specs.declared.turns.LaneRoots.{LaneRoots}
use Rattle.bc_lane.specs.declared.turns.LaneTurn.{LaneTurn}
use Rattle.bc_lane.specs.declared.stops.Stop.{Stop}
use Rattle.bc_lane.specs.Turns.{AreStarts, IsGoing, IsPreparedTurn, IsRoomOf, IsWhole}
use Rattle.bc_model.specs.Rows.{lists_of}
use Rattle.bc_model.specs.State.{holder_of}
use Rattle.bc_model.specs.declared.operations.Op.{Op}
use Rattle.bc_model.specs.declared.operations.Reply.{Reply}
use Rattle.bc_model.specs.declared.values.Holder.{Holder}
use Rattle.bc_model.specs.declared.values.Holder.TheVariants.{Lane}
use Rattle.bc_mutator.specs.Objects.{own_chunk}
use Rattle.bc_mutator.specs.Operations.{IsOpOf}
use Rattle.bc_pager.specs.Paging.{pager_roles}
use Rattle.bc_pins.specs.Calls.{view_of}
use Rattle.bc_pins.specs.declared.key.Role.{Role}
use Rattle.bc_pins.specs.declared.key.Role.TheVariants as role
use Rattle.bc_pins.specs.declared.pins.Pins.{Pins}
use Rattle.bc_pins.specs.declared.pins.Seat.{Seat}
use Rattle.bc_reach.specs.Distinct.{Has}
use Rattle.bc_superpages.specs.RootSlots.{root_at}
use Rattle.bc_superpages.specs.RootWords.{RootWords}
use Rattle.bc_turn.specs.Begun.{HasLeft, RanLane, of_lane}
use Rattle.bc_turn.specs.declared.rooms.Spare.{Spare}
use Rattle.bc_turn.specs.declared.rooms.TurnRoom.{TurnRoom}
use Rattle.bc_turn.specs.declared.runs.Run.{Run}
use Rattle.bc_whole_heap.specs.Closed.{buffer_of}
use Rattle.bc_whole_heap.specs.Heaps.{HeapView, end_of}
use Rattle.bc_word.specs.WordBits.{IsPacked}

-- the domains below this one that the lane holds, in ascending order
pub record AreHeldBelow (holders : List Holder) (lane end : ℕ) (domains : List ℕ) : Type 0 where
  pub rising : (i j : ℕ) → i < j → j < length domains → slice_index domains i < slice_index domains j
  pub within : (i : ℕ) → i < length domains → slice_index domains i < end
  pub held : (i : ℕ) → i < length domains → holder_of holders (slice_index domains i) ≡ Lane lane
  pub all : (d : ℕ) → d < end → holder_of holders d ≡ Lane lane → (i : ℕ) × (i < length domains) × (slice_index domains i ≡ d)

-- the domains that the lane holds, in ascending order
abbrev pub AreHeldDomains : List Holder → ℕ → List ℕ → Type 0
AreHeldDomains holders lane domains = AreHeldBelow holders lane (length holders) domains

-- a word for each root slot of the first of these domains, in order of domain and slot
pub record AreFirstWords (r : RootWords) (domains : List ℕ) (count : ℕ) (words : List ℕ) : Type 0 where
  pub long : length words ≡ count * r.slots
  pub each : (i t : ℕ) → i < count → t < r.slots → slice_index words (i * r.slots + t) ≡ root_at r (slice_index domains i) t
  pub packed : (k : ℕ) → IsPacked (slice_index words k)

-- of all of them
abbrev pub AreWordsOf : RootWords → List ℕ → List ℕ → Type 0
AreWordsOf r domains words = AreFirstWords r domains (length domains) words

-- words to which those of a domain's first slots were appended
pub record HasCopied (r : RootWords) (domain count : ℕ) (old new : List ℕ) : Type 0 where
  pub long : length new ≡ length old + count
  pub kept : (k : ℕ) → k < length old → slice_index new k ≡ slice_index old k
  pub each : (t : ℕ) → t < count → slice_index new (length old + t) ≡ root_at r domain t
  pub packed : ((k : ℕ) → IsPacked (slice_index old k)) → (k : ℕ) → IsPacked (slice_index new k)

-- room for the turn of a lane: the domains that it holds, and room for a word for each of their slots
pub record IsSpareOf (holders : List Holder) (slots : ℕ) (spare : Spare) : Type 0 where
  pub room : IsRoomOf holders spare.roots.domains.items slots spare.room
  pub domains : AreHeldDomains holders spare.lane spare.roots.domains.items
  pub words : spare.roots.words.items ≡ []
  pub capacity : length spare.roots.domains.items * slots ≤ vec_capacity spare.roots.words

-- the lanes of such rooms
abbrev pub spare_lanes : List Spare → List ℕ
spare_lanes spares = map (λ (spare : Spare). spare.lane) spares

-- each room that is kept is one for its lane
abbrev pub AreSparesOf : List Holder → ℕ → List Spare → Type 0
AreSparesOf holders slots spares = (i : ℕ) → i < length spares → (d : Spare) → IsSpareOf holders slots (slice_index_or spares i d)

-- lanes in ascending order, with each that has operations left among them
pub record HasBusyAmong (lanes : List (List Op)) (replies : List (List Reply)) (kept : List ℕ) : Type 0 where
  pub rising : (i j : ℕ) → i < j → j < length kept → slice_index kept i < slice_index kept j
  pub within : (i : ℕ) → i < length kept → slice_index kept i < length lanes
  pub all : (lane : ℕ) → HasLeft lanes replies lane → (i : ℕ) × (i < length kept) × (slice_index kept i ≡ lane)

-- no room is kept, or that of lanes with each among them that has operations left
abbrev pub IsRoomKept : List Holder → ℕ → List (List Op) → List (List Reply) → TurnRoom → Type 0
IsRoomKept holders slots lanes replies room =
    (room.spares.items ≡ []) ⊎ (AreSparesOf holders slots room.spares.items × HasBusyAmong lanes replies (spare_lanes room.spares.items))

-- the roles of a turn: these lanes, in their order, and so many pagers
abbrev pub turn_roles : List ℕ → ℕ → List Role
turn_roles busy pagers = map (λ (lane : ℕ). role.Lane lane) busy ++ pager_roles pagers

-- what a lane takes into a turn: the words of its domains' root slots, its chunk, its write buffer, its births and its replies. The heap's root
-- words it shares
pub record TakesAlong (h : HeapView) (holders : List Holder) (serials : List ℕ) (lanes : List (List Op)) (before : List (List Reply)) (lane : ℕ) (turn : LaneTurn) : Type 0 where
  pub roots : LaneRoots
  pub domains : AreHeldDomains holders lane roots.domains.items
  pub words : AreWordsOf h.roots roots.domains.items roots.words.items
  pub told : Vec Reply Global
  pub told_are : told.items ≡ of_lane before lane
  pub prepared : IsPreparedTurn lane holders h.roots.slots h.roots roots (own_chunk h lane) (buffer_of h.buffers lane) (slice_index serials lane) told (length (of_lane lanes lane)) turn

-- the lanes that run
abbrev pub running_lanes : List Run → List ℕ
running_lanes runs = map (λ (run : Run). run.turn.part.lane) runs

-- what lane i took into the turn; the last of the runs comes first
abbrev pub turn_at : Run → List Run → ℕ → LaneTurn
turn_at d runs i = (slice_index_or runs (length runs - (i + 1)) d).turn

-- the seat of lane i; the last of the runs comes first
abbrev pub seat_at : Run → List Run → ℕ → Seat
seat_at d runs i = (slice_index_or runs (length runs - (i + 1)) d).seat

-- there is room for all replies of each lane but these
abbrev pub HasReplyRoom : List (List Op) → List (Vec Reply Global) → List ℕ → Type 0
HasReplyRoom lanes replies away =
    (j : ℕ) → (v : Vec Reply Global) → j < length replies → (Has away j → ⊥) → v ≡ slice_index_or replies j v → length (of_lane lanes j) ≤ vec_capacity v

-- the chunks, write buffers and replies of these lanes are out of their places, and nothing else has changed
pub record AreAway (away : List ℕ) (h : HeapView) (before : List (List Reply)) (k : HeapView) (after : List (List Reply)) : Type 0 where
  pub same : k ≡ record h { chunks = k.chunks; buffers = k.buffers }
  pub chunks_long : length k.chunks ≡ length h.chunks
  pub buffers_long : length k.buffers ≡ length h.buffers
  pub replies_long : length after ≡ length before
  pub chunk : (l : ℕ) → (Has away l → ⊥) → own_chunk k l ≡ own_chunk h l
  pub buffer : (l : ℕ) → (Has away l → ⊥) → buffer_of k.buffers l ≡ buffer_of h.buffers l
  pub replies : (l : ℕ) → (Has away l → ⊥) → of_lane after l ≡ of_lane before l

-- as many lists as lanes
pub record FitsLanes (lanes : ℕ) (h : HeapView) (serials replies : ℕ) : Type 0 where
  pub chunks : length h.chunks ≡ lanes
  pub buffers : length h.buffers ≡ lanes
  pub births : serials ≡ lanes
  pub told : replies ≡ lanes

-- where the words of a lane's domains lie among those that it took into the turn, and that there are as many
pub record LiesRight (holders : List Holder) (r : RootWords) (part : LanePart) : Type 0 where
  pub domains : AreHeldDomains holders part.lane part.domains.items
  pub starts : AreStarts part.domains.items part.slots (length holders) part.starts.items
  pub slots : part.slots ≡ r.slots
  pub holders_long : length holders ≡ r.domains
  pub long : length r.words ≡ r.domains * r.slots
  pub enough : length part.domains.items * r.slots ≤ length part.words.items
  pub packed : (k : ℕ) → IsPacked (slice_index part.words.items k)

-- the words of a domain's first slots were written, from this place of the list on, and all other slots are as they were. A slot
-- whose word changed is noted
pub record LaysSlots (old : RootWords) (domain : ℕ) (words : List ℕ) (start count : ℕ) (new : RootWords) : Type 0 where
  pub same : new ≡ record old { words = new.words; noted = new.noted }
  pub long : length new.words ≡ length old.words
  pub own : (t : ℕ) → t < count → root_at new domain t ≡ slice_index words (start + t)
  pub others : (d t : ℕ) → t < old.slots → (d ≢ domain) ⊎ (count ≤ t) → root_at new d t ≡ root_at old d t
  pub kept : (i : ℕ) → Has old.noted i → Has new.noted i
  pub written : (i : ℕ) → (slice_index new.words i ≡ slice_index old.words i) ⊎ Has new.noted i

-- the words of the first of these domains were written
pub record LaysDomains (old : RootWords) (domains words : List ℕ) (count : ℕ) (new : RootWords) : Type 0 where
  pub same : new ≡ record old { words = new.words; noted = new.noted }
  pub long : length new.words ≡ length old.words
  pub own : (i t : ℕ) → i < count → t < old.slots → root_at new (slice_index domains i) t ≡ slice_index words (i * old.slots + t)
  pub others : (d t : ℕ) → t < old.slots → ((i : ℕ) → i < count → slice_index domains i ≢ d) → root_at new d t ≡ root_at old d t
  pub kept : (i : ℕ) → Has old.noted i → Has new.noted i
  pub written : (i : ℕ) → (slice_index new.words i ≡ slice_index old.words i) ⊎ Has new.noted i

-- a lane can run: it has operations, its seat is free, it shares these root words, and there is a whole heap to which belongs what it has
pub record CanRun (pins : Pins) (lanes : List (List Op)) (shared : RootWords) (run : Run) : Type 0 where
  pub within : run.turn.part.lane < length lanes
  pub shares : run.turn.part.shared.value ≡ shared
  pub going : IsGoing pins (of_lane lanes run.turn.part.lane) run.turn run.seat None
  pub heap : HeapView
  pub whole : IsWhole run.turn.part (view_of run.seat) None (end_of heap.space) heap
  pub ops : AllByRecursion (IsOpOf heap.roots) (of_lane lanes run.turn.part.lane)

-- a lane has run, and stopped for some cause
pub record LaneHasRun (lanes : List (List Op)) (old new : Run) : Type 0 where
  pub why : Stop
  pub ran : RanLane (of_lane lanes old.turn.part.lane) old.turn old.seat new.turn new.seat why

-- all lanes of a list have run, each stopped for some cause
pub record HaveRun (lanes : List (List Op)) (old new : List Run) : Type 0 where
  pub long : length new ≡ length old
  pub each : (i : ℕ) → (d : Run) → i < length old → LaneHasRun lanes (slice_index_or old i d) (slice_index_or new i d)

-- each of a list of lanes can run
abbrev pub CanAllRun : Pins → List (List Op) → RootWords → List Run → Type 0
CanAllRun pins lanes shared runs = (i : ℕ) → (d : Run) → i < length runs → CanRun pins lanes shared (slice_index_or runs i d)

-- there is room for all replies of the lane
abbrev pub HasRoomForLane : List (List Op) → LaneTurn → Type 0
HasRoomForLane lanes turn = length (of_lane lanes turn.part.lane) ≤ vec_capacity turn.replies

-- all busy lanes took along what is their own: their turns and seats stand in the list, the last first
pub record AreTaken (h : HeapView) (holders : List Holder) (serials : List ℕ) (lanes : List (List Op)) (before : List (Vec Reply Global)) (busy : List ℕ) (seats : List Seat) (k : HeapView) (after : List (Vec Reply Global)) (runs : List Run) : Type 0 where
  pub long : length runs ≡ length busy
  pub each : (i : ℕ) → i < length busy → (d : Run) → TakesAlong h holders serials lanes (lists_of before) (slice_index busy i) (turn_at d runs i)
  pub seats_are : (i : ℕ) → i < length busy → (d : Run) → (e : Seat) → seat_at d runs i ≡ slice_index_or seats i e
  pub enough : (i : ℕ) → i < length busy → (d : Run) → HasRoomForLane lanes (turn_at d runs i)
  pub away : AreAway (running_lanes runs) h (lists_of before) k (lists_of after)
  pub room : HasReplyRoom lanes after (running_lanes runs)

-- what was taken into a turn may be laid back into these root slots
pub record MayLay (r : RootWords) (domains words : List ℕ) : Type 0 where
  pub rising : (i j : ℕ) → i < j → j < length domains → slice_index domains i < slice_index domains j
  pub within : (i : ℕ) → i < length domains → slice_index domains i < r.domains
  pub enough : length domains * r.slots ≤ length words
  pub packed : (k : ℕ) → IsPacked (slice_index words k)

-- the list has the turns of the busy lanes, the last first, and they may be laid back into the heap
pub record AreRunsOf (holders : List Holder) (busy : List ℕ) (h : HeapView) (runs : List Run) : Type 0 where
  pub long : length runs ≡ length busy
  pub rising : (i j : ℕ) → i < j → j < length busy → slice_index busy i < slice_index busy j
  pub within : (i : ℕ) → i < length busy → slice_index busy i < length h.chunks
  pub lane_is : (i : ℕ) → i < length busy → (d : Run) → (turn_at d runs i).part.lane ≡ slice_index busy i
  pub holders_are : (i : ℕ) → i < length busy → (d : Run) → (turn_at d runs i).part.holders.items ≡ holders
  pub right : (i : ℕ) → i < length busy → (d : Run) → LiesRight holders h.roots (turn_at d runs i).part

-- there is room for all replies of every lane
abbrev pub HasAllReplyRoom : List (List Op) → List (Vec Reply Global) → Type 0
HasAllReplyRoom lanes replies =
    (j : ℕ) → (v : Vec Reply Global) → j < length replies → v ≡ slice_index_or replies j v → length (of_lane lanes j) ≤ vec_capacity v
