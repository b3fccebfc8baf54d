use Rattle.std.proofs.Common.{◌≡◌, ℕ, ◌<◌, List, length, get_or, vec_capacity}
use Rattle.bc_cycle.specs.Emptying.{heap_view}
use Rattle.bc_model.specs.Rows.{lists_of}
use Rattle.bc_model.specs.declared.operations.Op.{Op}
use Rattle.bc_model.specs.declared.values.Holder.{Holder}
use Rattle.bc_turn.specs.declared.runs.Run.{Run}
use Rattle.bc_turn.specs.Taking.{AreRunsOf, HasReplyRoom, HasRoomForLane, running_lanes}
use Rattle.bc_turn.proofs.EndingLemmas.{Ending, Gathering}
use Rattle.bc_turn.proofs.RoomLemmas.{AreReturned}
use Rattle.bc_turn.proofs.ending.end_all.Given as goal

abbrev pub invariant-loop-run : goal.invariant-loop-run
invariant-loop-run l = record {
  ending : (holders : List Holder) → (busy : List ℕ) → AreRunsOf holders busy (heap_view l.fn.heap) l.fn.runs.items
      → Ending holders busy (heap_view l.fn.heap) l.fn.serials (lists_of l.fn.replies) l.fn.runs.items l.runs.items (heap_view l.heap) l.serials (lists_of l.replies) l.seats.items;
  gathering : Gathering l.fn.runs.items l.runs.items l.seats.items;
  room : (lanes : List (List Op)) → HasReplyRoom lanes l.fn.replies (running_lanes l.fn.runs.items)
      → ((i : ℕ) → (d : Run) → i < length l.fn.runs.items → HasRoomForLane lanes (get_or l.fn.runs.items i d).turn) → HasReplyRoom lanes l.replies (running_lanes l.runs.items);
  same : l.heap ≡ record l.fn.heap { roots = l.heap.roots; chunks = l.heap.chunks; buffers = l.heap.buffers };
  capacity : vec_capacity l.seats ≡ vec_capacity l.fn.seats;
  returned : (holders : List Holder) → (busy : List ℕ) → AreRunsOf holders busy (heap_view l.fn.heap) l.fn.runs.items → AreReturned holders l.fn.heap.roots.slots busy l.spares.items;
  even : length l.spares.items ≡ length l.seats.items;
  spare_capacity : vec_capacity l.spares ≡ vec_capacity l.fn.spares;
}

abbrev pub decreases-loop-run : goal.decreases-loop-run
decreases-loop-run l = length l.runs.items
