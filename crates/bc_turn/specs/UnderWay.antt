-- A turn under way: its table is open, and the lanes that run have what is their own.
use Rattle.std.specs.Prelude.{◌≡◌, ℕ, Bool, ◌+◌, ◌-◌, ◌*◌, ◌^◌, ◌<◌, ◌≤◌, List, ◌++◌, length, min, option_to_list, Vec, replicate, slice_index}
use Rattle.std.specs.List.{AllByRecursion}
use Rattle.std.specs.declared.alloc.Global.{Global}
use Rattle.bc_model.specs.Rows.{lists_of}
use Rattle.bc_model.specs.State.{State}
use Rattle.bc_model.specs.declared.operations.Op.{Op}
use Rattle.bc_model.specs.declared.operations.Reply.{Reply}
use Rattle.bc_model.specs.declared.values.Holder.{Holder}
use Rattle.bc_mutator.specs.Objects.{AreWhole}
use Rattle.bc_mutator.specs.Operations.{IsOpOf}
use Rattle.bc_pager.specs.Feeding.{rooms_of_live}
use Rattle.bc_pager.specs.Paging.{rooms_of, seats_of}
use Rattle.bc_pager.specs.Serving.{no_answers}
use Rattle.bc_pins.specs.declared.key.Turn.TheVariants.{Lanes}
use Rattle.bc_pins.specs.declared.pins.Seat.{Seat}
use Rattle.bc_pins.specs.Opened.{Opened}
use Rattle.bc_superpages.specs.Kept.{IsLayout}
use Rattle.bc_superpages.specs.Layout.{Layout}
use Rattle.bc_turn.specs.Begun.{AreBusyLanes, of_lane}
use Rattle.bc_turn.specs.Taking.{AreTaken, FitsLanes, turn_roles}
use Rattle.bc_turn.specs.declared.turns.OpenTurn.{OpenTurn}
use Rattle.bc_whole_heap.specs.Heaps.{HeapView}
use Rattle.bc_whole_heap.specs.LaneStates.{StandsAs}
use Rattle.bc_whole_heap.specs.Running.{IsRunning}

-- lanes that can run on this heap began a turn with so many notices, in which more may come or not, and none has run yet: a table was
-- opened over the heap's space for those that have operations left, for the pagers and after them for the live one where more may come,
-- and they took along what is their own. `k` and `after` are the heap and the replies
-- that stand meanwhile
pub record IsTurnUnderWay (holders : List Holder) (lanes : List (List Op)) (h : HeapView) (serials : List ℕ) (before : List (Vec Reply Global)) (notices : ℕ) (turn : OpenTurn) (k : HeapView) (after : List (Vec Reply Global)) (live : Bool) : Type 0 where
  -- what holds of the heap and the operations
  pub running : IsRunning h holders
  pub state : State
  pub stands : StandsAs h holders serials state
  pub layout : IsLayout h.space
  pub whole : AreWhole h.chunks
  pub domains : h.roots.domains ≤ 64
  pub long : length h.roots.words ≡ h.roots.domains * h.roots.slots
  pub fits : FitsLanes (length lanes) h (length serials) (length before)
  pub ops : AllByRecursion (AllByRecursion (IsOpOf h.roots)) lanes
  pub births : (j : ℕ) → slice_index serials j + (length (of_lane lanes j) - length (of_lane (lists_of before) j)) < 2 ^ 32
  -- the lanes that run, and what they took along. A space without pages stands in the heap's place
  pub busy : List ℕ
  pub busy_are : AreBusyLanes lanes (lists_of before) busy
  pub some : 0 < length busy
  pub seats : List Seat
  pub hollow : Layout
  pub opened : Opened h.space Lanes holders (turn_roles busy (length (turn.pagers.items ++ option_to_list turn.live))) turn.pins (seats ++ seats_of (turn.pagers.items ++ option_to_list turn.live))
  pub taken : AreTaken (record h { space = hollow }) holders serials lanes before busy seats k after turn.runs.items
  -- as many pagers as notices, at most four, each with room for an answer to each notice, and none has answered yet
  pub count : length turn.pagers.items ≡ min notices 4
  pub rooms : rooms_of turn.pagers.items ≡ replicate (length turn.pagers.items) (no_answers notices)
  pub few : notices < 2 ^ 61
  -- the live pager has room for its answers, and has answered none
  pub lives : rooms_of (option_to_list turn.live) ≡ rooms_of_live live
