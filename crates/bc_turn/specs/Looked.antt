-- Heaps on the way of a lane's turn: pages on which an operation looks, and contents that a page had. How many operations all lanes try.
use Rattle.std.specs.Prelude.{◌≡◌, ℕ, ◌+◌, ◌/◌, ◌<◌, ◌≤◌, true, List, ◌++◌, length, take, drop, slice_index, slice_index_or}
use Rattle.bc_lane.specs.Back.{heap_back}
use Rattle.bc_lane.specs.Doing.{DidAll, tried_from}
use Rattle.bc_lane.specs.Turns.{LooksRightOn}
use Rattle.bc_model.specs.State.{holder_of, lets_read}
use Rattle.bc_model.specs.declared.operations.Op.{Op}
use Rattle.bc_model.specs.declared.operations.Reply.{Reply}
use Rattle.bc_model.specs.declared.values.Holder.{Holder}
use Rattle.bc_model.specs.declared.values.Holder.TheVariants.{Lane}
use Rattle.bc_pins.specs.Totals.{sum_to}
use Rattle.bc_superpages.specs.Layout.{content_at}
use Rattle.bc_turn.specs.Begun.{of_lane}
use Rattle.bc_whole_heap.specs.Heaps.{HeapView}

-- the first operations of a lane in the turn, so many, make this heap of the one before the turn with every page back. `before` and `serials` are
-- the replies and the births of each lane before the turn, `after` the replies after it
pub record IsOnTheWay (holders : List Holder) (lanes : List (List Op)) (h : HeapView) (serials : List ℕ) (before after : List (List Reply)) (lane count : ℕ) (heap : HeapView) : Type 0 where
  -- what the lane did in the turn
  pub new : List Reply
  pub told : of_lane after lane ≡ of_lane before lane ++ new
  pub within : count ≤ length new
  pub serial : ℕ
  pub did : DidAll holders lane (take count (drop (length (of_lane before lane)) (of_lane lanes lane))) (take count new) (heap_back h) (slice_index serials lane) heap serial

-- an operation that a lane did in the turn, which may do so to the page's domain, looks at a cell on the page, or the next one that it would do: in
-- the heap that its operations before that one make. So where the domain isn't frozen the lane is the one that holds it
pub record IsLookedAtInTurn (holders : List Holder) (lanes : List (List Op)) (h : HeapView) (serials : List ℕ) (before after : List (List Reply)) (page : ℕ) : Type 0 where
  pub lane : ℕ
  pub reader : lets_read (holder_of holders (slice_index h.space.domains (page / 4))) lane ≡ true
  pub count : ℕ
  pub op : Op
  pub less : length (of_lane before lane) + count < length (of_lane lanes lane)
  pub is : op ≡ slice_index_or (of_lane lanes lane) (length (of_lane before lane) + count) op
  pub heap : HeapView
  pub way : IsOnTheWay holders lanes h serials before after lane count heap
  pub looks : LooksRightOn holders lane heap op page

-- the page had this content in the turn: in a heap that the first operations of its domain's lane make
pub record HadInTurn (holders : List Holder) (lanes : List (List Op)) (h : HeapView) (serials : List ℕ) (before after : List (List Reply)) (page : ℕ) (content : List ℕ) : Type 0 where
  pub lane : ℕ
  pub holder : holder_of holders (slice_index h.space.domains (page / 4)) ≡ Lane lane
  pub count : ℕ
  pub heap : HeapView
  pub way : IsOnTheWay holders lanes h serials before after lane count heap
  pub is : content_at heap.space.pages page ≡ content

-- how many operations a lane tried in the turn: those that it did, and the next one where there is one
abbrev pub tried_by : List (List Op) → List (List Reply) → List (List Reply) → ℕ → ℕ
tried_by lanes before after lane = tried_from (length (of_lane lanes lane)) (length (of_lane before lane)) (length (of_lane after lane))

-- how many all lanes tried
abbrev pub tried_in_turn : List (List Op) → List (List Reply) → List (List Reply) → ℕ
tried_in_turn lanes before after = sum_to (tried_by lanes before after) (length lanes)
