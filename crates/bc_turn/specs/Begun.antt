-- What a turn begins with: the lanes that have operations left, each with what it takes into the turn and its seat at the table,
-- and what is known of each run.
use Rattle.std.specs.Prelude.{◌≡◌, ℕ, ◌<◌, List, [], ◌∷◌, length, None, slice_index, slice_index_or}
use Rattle.bc_lane.specs.Back.{heap_back}
use Rattle.bc_lane.specs.declared.stops.Stop.{Stop}
use Rattle.bc_lane.specs.declared.turns.LaneTurn.{LaneTurn}
use Rattle.bc_lane.specs.Doing.{tried_from}
use Rattle.bc_lane.specs.Turns.{IsGoing, IsWhole, LaneRan, ReloadsUpTo, WhyStopped}
use Rattle.bc_model.specs.declared.operations.Op.{Op}
use Rattle.bc_model.specs.declared.operations.Reply.{Reply}
use Rattle.bc_model.specs.declared.values.Holder.{Holder}
use Rattle.bc_pins.specs.Calls.{CountsFetches, IsFree, IsSameWorker, key_of, view_of}
use Rattle.bc_pins.specs.Key.{lane_role}
use Rattle.bc_pins.specs.Steps.{fresh}
use Rattle.bc_pins.specs.declared.pins.Pins.{Pins}
use Rattle.bc_pins.specs.declared.pins.Seat.{Seat}
use Rattle.bc_whole_heap.specs.Heaps.{HeapView, end_of}

-- the operations of a lane, or its replies so far
abbrev pub of_lane : {X : Type 0} → List (List X) → ℕ → List X
of_lane lists lane = slice_index_or lists lane []

-- the lane has operations left
abbrev pub HasLeft : List (List Op) → List (List Reply) → ℕ → Type 0
HasLeft lanes replies lane = length (of_lane replies lane) < length (of_lane lanes lane)

-- the lanes that have operations left, in ascending order
pub record AreBusyLanes (lanes : List (List Op)) (replies : List (List Reply)) (busy : List ℕ) : Type 0 where
  pub within : (i : ℕ) → i < length busy → slice_index busy i < length lanes
  pub more : (i : ℕ) → i < length busy → HasLeft lanes replies (slice_index busy i)
  pub rising : (i j : ℕ) → i < j → j < length busy → slice_index busy i < slice_index busy j
  pub all : (lane : ℕ) → HasLeft lanes replies lane → (i : ℕ) × (i < length busy) × (slice_index busy i ≡ lane)

-- a lane that begins: its seat has done nothing and opened no box, what it takes into the turn belongs to the heap with every page back, and
-- its replies are those so far
pub record IsBegunLane (pins : Pins) (h : HeapView) (holders : List Holder) (serials : List ℕ) (lanes : List (List Op)) (before : List (List Reply)) (turn : LaneTurn) (seat : Seat) : Type 0 where
  pub within : turn.part.lane < length lanes
  pub going : IsGoing pins (of_lane lanes turn.part.lane) turn seat None
  pub view : view_of seat ≡ fresh (key_of pins) (lane_role turn.part.lane ∷ [])
  pub opens : seat.opens ≡ 0
  pub whole : IsWhole turn.part (view_of seat) None (end_of h.space) (heap_back h)
  pub holders_are : turn.part.holders.items ≡ holders
  pub serial_is : turn.part.serial ≡ slice_index serials turn.part.lane
  pub next : turn.next ≡ length (of_lane before turn.part.lane)
  pub replies_are : turn.replies.items ≡ of_lane before turn.part.lane

-- all lanes that have operations left begin: the busy lane of number i has this turn and this seat
pub record AreBegun (pins : Pins) (h : HeapView) (holders : List Holder) (serials : List ℕ) (lanes : List (List Op)) (before : List (List Reply)) (busy : List ℕ) (turn : ℕ → LaneTurn) (seat : ℕ → Seat) : Type 0 where
  pub busy_are : AreBusyLanes lanes before busy
  pub each : (i : ℕ) → i < length busy → IsBegunLane pins h holders serials lanes before (turn i) (seat i)
  pub lane_is : (i : ℕ) → i < length busy → (turn i).part.lane ≡ slice_index busy i

-- what a lane's run says: whatever whole heap what the lane had belonged to, what it has now belongs to that heap with its
-- operations done, and the stop has its cause there. It reloaded no more pages than it tried operations. The seat is that seat, with nothing in
-- hand, and counts still the boxes that it opens
pub record RanLane (ops : List Op) (old : LaneTurn) (seat : Seat) (new : LaneTurn) (after : Seat) (why : Stop) : Type 0 where
  pub ran : (h : HeapView) → IsWhole old.part (view_of seat) None (end_of h.space) h → LaneRan ops (end_of h.space) old (view_of seat) None new (view_of after) None
  pub stopped : (h : HeapView) → IsWhole old.part (view_of seat) None (end_of h.space) h → WhyStopped (view_of seat) ops (end_of h.space) new (view_of after) None why
  pub once : ReloadsUpTo (tried_from (length ops) old.next new.next) (view_of seat) (view_of after)
  pub seat_is : IsSameWorker seat after
  pub counts : CountsFetches seat → CountsFetches after
  pub free : IsFree after

-- all lanes that began ran
pub record AllRan (lanes : List (List Op)) (busy : List ℕ) (old : ℕ → LaneTurn) (seat : ℕ → Seat) (new : ℕ → LaneTurn) (after : ℕ → Seat) : Type 0 where
  pub why : ℕ → Stop
  pub each : (i : ℕ) → i < length busy → RanLane (of_lane lanes (slice_index busy i)) (old i) (seat i) (new i) (after i) (why i)
