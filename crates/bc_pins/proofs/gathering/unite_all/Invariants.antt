use Rattle.std.proofs.Common.{◌≡◌, ◌+◌, ◌-◌, ◌^◌, ◌≤◌, min, length}
use Rattle.bc_pins.specs.Closing.{Gathered, fetches_of}
use Rattle.bc_pins.proofs.gathering.unite_all.Given as goal

abbrev pub invariant-loop-seat : goal.invariant-loop-seat
invariant-loop-seat l = record {
  gathered : Gathered l.board.table_id l.board.key l.fn.seats.items l.seats.items l.root;
  store : l.store ≡ record l.fn.store { reads = l.store.reads };
  reads : min (l.store.reads + fetches_of l.seats.items) (2 ^ 64 - 1) ≡ min (l.fn.store.reads + fetches_of l.fn.seats.items) (2 ^ 64 - 1);
  low : l.store.reads ≤ 2 ^ 64 - 1;
}

abbrev pub decreases-loop-seat : goal.decreases-loop-seat
decreases-loop-seat l = length l.seats.items
