use Rattle.std.proofs.Common.{ap, sym, subst, arith}
use Rattle.bc_pins.specs.Tidy.{IsTidy}
use Rattle.bc_pins.specs.Steps.{Mine}
use Rattle.bc_pins.specs.Calls.{key_of, view_of}
use Rattle.bc_pins.proofs.JoinLemmas.{unites}
use Rattle.bc_pins.proofs.GatherLemmas.{tidy_united}
use Rattle.bc_pins.proofs.pins.Pins.join.Goals as goal

pub join_seat-requires : goal.join_seat-requires
join_seat-requires c =
    let words = c.args.self.now.words in
    let at = c.requires.seat in
    let back = c.requires.other in (
      at.table,
      back.table,
      back.slots,
      omega arith,
      unites (key_of c.args.self.now) c.args.seat.now.inner.id c.args.other.inner.id (view_of c.args.seat.now) (view_of c.args.other) at.about back.about c.requires.free.hand back.hand,
    )

pub invariant_of-seat : goal.invariant_of-seat
invariant_of-seat c =
    let tidy = tidy_united (key_of c.args.self.now) (view_of c.args.seat.now) (view_of c.args.other) c.args.seat.now.tidy c.requires.other.tidy c.requires.seat.about c.requires.other.about in
    record { tidy = subst IsTidy (sym (ap (λ (m : Mine). m.0) c.join_seat.ensures.2)) tidy }
