use Rattle.std.proofs.Common.{◌-◌, length, refl, arith}
use Rattle.bc_lane.proofs.HandLemmas.{none-reloaded, same-lane, then-lane, tried-more}
use Rattle.bc_lane.proofs.RunLemmas.{fits-all, ran-none, ran-then}
use Rattle.bc_lane.proofs.TurnLemmas.{why-since}
use Rattle.bc_pins.specs.Calls.{view_of}
use Rattle.bc_lane.proofs.running.run_to_stop.Goals as goal

pub operations-init : goal.operations-init
operations-init g c = record {
  ran = ran-none c.args.ops.now c.args.end c.args.turn.now (view_of c.args.seat.now) c.args.hand.now;
  going = c.requires.going;
  seat = same-lane c.args.seat.now;
  further = omega arith;
  once = none-reloaded (view_of c.args.seat.now) (view_of c.args.seat.now) (c.args.turn.now.next - c.args.turn.now.next) refl;
}

pub operate_next-requires-clause-whole : goal.operate_next-requires-clause-whole
operate_next-requires-clause-whole g c =
    let w = c.requires.whole in
    let m = c.operations.invariant.ran.done w.0 w.1 w.2 in
    (m.0, m.1, fits-all w.0 m.0 c.args.ops.now m.2 w.2)

pub operations-preserved : goal.operations-preserved
operations-preserved g c =
    let before = c.operations.invariant in
    let now = c.operate_next.ensures in
    record {
      ran = ran-then c.args.ops.now c.args.end c.args.turn.now c.operations.turn c.operate_next.new.turn (view_of c.args.seat.now) (view_of c.operations.seat) (view_of c.operate_next.new.seat) c.args.hand.now c.operations.hand c.operate_next.new.hand before.ran now.ran;
      going = now.going;
      seat = then-lane c.args.seat.now c.operations.seat c.operate_next.new.seat before.seat now.seat;
      further = (let up = before.further in let next = c.in_default.ensures.further in omega arith);
      once = (let up = before.further in let some = before.once in let one = now.once in let next = c.in_default.ensures.further in omega arith);
    }

pub returns-in-Err-clause-ran : goal.returns-in-Err-clause-ran
returns-in-Err-clause-ran g c =
    ran-then c.args.ops.now c.args.end c.args.turn.now c.operations.turn c.operate_next.new.turn (view_of c.args.seat.now) (view_of c.operations.seat) (view_of c.operate_next.new.seat) c.args.hand.now c.operations.hand c.operate_next.new.hand c.operations.invariant.ran c.operate_next.ensures.ran

pub returns-in-Err-clause-seat : goal.returns-in-Err-clause-seat
returns-in-Err-clause-seat g c = then-lane c.args.seat.now c.operations.seat c.operate_next.new.seat c.operations.invariant.seat c.operate_next.ensures.seat

pub returns-in-Err-clause-why : goal.returns-in-Err-clause-why
returns-in-Err-clause-why g c =
    why-since (view_of c.args.seat.now) (view_of c.operations.seat) c.args.ops.now c.args.end c.operate_next.new.turn (view_of c.operate_next.new.seat) c.operate_next.new.hand c.in-Err.why c.operations.invariant.ran.reads c.in-Err.ensures.why

pub returns-in-Err-clause-once : goal.returns-in-Err-clause-once
returns-in-Err-clause-once g c =
    let some = c.operations.invariant.once in
    let one = c.operate_next.ensures.once in
    let same = c.in-Err.ensures.stays in
    let tried = tried-more (length c.args.ops.now) c.args.turn.now.next c.operate_next.new.turn.next (let more = c.operations-test.true in omega arith) in
    omega arith

pub returns-clause-once : goal.returns-clause-once
returns-clause-once g c =
    let some = c.operations.invariant.once in
    omega arith
