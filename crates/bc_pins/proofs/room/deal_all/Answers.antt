use Rattle.std.proofs.Common.{◌≡◌, ◌+◌, ◌<◌, ◌∙◌, ap, sym, subst, arith, length}
use Rattle.atomic_table.specs.declared.shared.Seat.{Seat as Worker}
use Rattle.bc_pins.specs.declared.views.Lodged.{Lodged}
use Rattle.bc_pins.specs.declared.views.View.{View}
use Rattle.bc_pins.specs.Seating.{AreDealt}
use Rattle.bc_pins.proofs.DealLemmas.{deals_from, rest_is, first_is, dealt_more, last_dealt}
use Rattle.bc_pins.proofs.room.deal_all.Goals as goal

pub split_seat-inner-requires : goal.split_seat-inner-requires
split_seat-inner-requires c =
    let inv = c.loop-number.invariant in
    (inv.table, c.requires.table.1, deals_from _ _ _ _ inv.me)

pub loop-number-preserved : goal.loop-number-preserved
loop-number-preserved c =
    let inv = c.loop-number.invariant in
    let split = c.split_seat-inner.ensures in
    let lt = c.loop-number-test.true in
    let near : c.loop-number.number < length c.args.roles.now = omega arith in
    record {
      table = split.0 ∙ inv.table;
      me = rest_is _ c.args.roles.now c.loop-number.number _ _ near inv.me split.2;
      room = c.push_reserved.ensures.capacity ∙ inv.room;
      dealt = subst (AreDealt _ _ c.args.roles.now (c.loop-number.number + 1)) (sym c.push_reserved.ensures.items)
          (dealt_more _ _ _ _ _ _ inv.dealt (record {
            table = ap (λ (w : Worker Lodged View). w.table_id) c.seat_of.ensures.inner ∙ split.3 ∙ inv.table;
            me = ap (λ (w : Worker Lodged View). w.me) c.seat_of.ensures.inner ∙ first_is _ c.args.roles.now c.loop-number.number _ _ near inv.me split.4;
            its_role = c.seat_of.ensures.role;
            opens = c.seat_of.ensures.opens;
          }));
    }

pub returns : goal.returns
returns c =
    let inv = c.loop-number.invariant in
    let end = c.loop-number.auto.number-end in
    let done = c.loop-number-test.false in
    let some = c.requires.some in
    let last : c.loop-number.number + 1 ≡ length c.args.roles.now = omega arith in
    record {
      dealt = subst (AreDealt _ _ c.args.roles.now (length c.args.roles.now)) (sym c.push_reserved-2.ensures.items)
          (last_dealt _ _ c.args.roles.now _ _ _ _ last inv.dealt (ap (λ (w : Worker Lodged View). w.table_id) c.seat_of-2.ensures.inner ∙ inv.table) (ap (λ (w : Worker Lodged View). w.me) c.seat_of-2.ensures.inner ∙ inv.me)
          c.seat_of-2.ensures.role (omega arith) c.seat_of-2.ensures.opens);
    }
