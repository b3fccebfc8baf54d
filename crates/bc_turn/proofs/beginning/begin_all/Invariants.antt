use Rattle.std.proofs.Common.{◌≡◌, List, length, vec_capacity}
use Rattle.bc_cycle.specs.Emptying.{heap_view}
use Rattle.bc_model.specs.Rows.{lists_of}
use Rattle.bc_model.specs.declared.values.Holder.{Holder}
use Rattle.bc_turn.specs.Taking.{AreSparesOf}
use Rattle.bc_turn.proofs.LendingLemmas.{Lending}
use Rattle.bc_turn.proofs.beginning.begin_all.Given as goal

abbrev pub invariant-loop-seat : goal.invariant-loop-seat
invariant-loop-seat l = record {
  lending : (holders : List Holder) → AreSparesOf holders l.fn.heap.roots.slots l.fn.spares.items
      → Lending holders l.serials (lists_of l.lanes) (heap_view l.fn.heap) l.fn.replies l.fn.spares.items l.fn.seats.items l.spares.items l.seats.items (heap_view l.heap) l.replies l.runs.items;
  same : l.heap ≡ record l.fn.heap { chunks = l.heap.chunks; buffers = l.heap.buffers };
  room : vec_capacity l.runs ≡ vec_capacity l.fn.runs;
  capacity : vec_capacity l.seats ≡ vec_capacity l.fn.seats;
  spare_capacity : vec_capacity l.spares ≡ vec_capacity l.fn.spares;
}

abbrev pub decreases-loop-seat : goal.decreases-loop-seat
decreases-loop-seat l = length l.seats.items
