use Rattle.std.proofs.Common.{◌≡◌, [], ◌∷◌, ◌++◌, length, vec_capacity}
use Rattle.bc_pins.specs.Calls.{IsAt, CountsFetches}
use Rattle.bc_pins.specs.Closing.{Gathered}
use Rattle.bc_pins.proofs.pins.Pins.join_all.Given as goal

abbrev pub invariant-loop-other : goal.invariant-loop-other
invariant-loop-other l = record {
  gathered : Gathered l.self.table.shared.table_id l.self.table.shared.key (l.fn.others.items ++ l.fn.seat ∷ []) l.others.items l.seat.inner;
  at : IsAt l.self l.seat;
  opens : CountsFetches l.seat;
  role : l.seat.role ≡ l.fn.seat.role;
  room : vec_capacity l.others ≡ vec_capacity l.fn.others;
}

abbrev pub decreases-loop-other : goal.decreases-loop-other
decreases-loop-other l = length l.others.items
