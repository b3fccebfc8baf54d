use Rattle.bc_model.specs.Rows.{lists_of}
use Rattle.bc_turn.specs.Taking.{AreSparesOf, spare_lanes}
use Rattle.bc_turn.proofs.TakingLemmas.{AreBusyBelow}
use Rattle.bc_turn.proofs.rooms.take_spares.Given as goal

abbrev pub invariant-loop-number : goal.invariant-loop-number
invariant-loop-number l = record {
  busy : AreBusyBelow (lists_of l.lanes) (lists_of l.replies) l.number (spare_lanes l.spares.items);
  spares : AreSparesOf l.holders l.slots l.spares.items;
}
