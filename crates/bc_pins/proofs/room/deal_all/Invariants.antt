use Rattle.std.proofs.Common.{◌≡◌, [], map, drop, vec_capacity}
use Rattle.bc_pins.specs.Key.{role_number}
use Rattle.bc_pins.specs.Steps.{fresh}
use Rattle.bc_pins.specs.Seating.{AreDealt}
use Rattle.bc_pins.proofs.room.deal_all.Given as goal

abbrev pub invariant-loop-number : goal.invariant-loop-number
invariant-loop-number l = record {
  table : l.root.table_id ≡ l.board.table_id;
  me : l.root.me ≡ (fresh l.board.key (map role_number (drop l.number l.roles)), []);
  room : vec_capacity l.seats ≡ vec_capacity l.fn.seats;
  dealt : AreDealt l.board.table_id l.board.key l.roles l.number l.seats.items;
}
