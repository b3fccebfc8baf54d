use Rattle.std.proofs.Common.{ℕ, None, ap, sym, subst}
use Rattle.bc_lane.specs.Turns.{IsWhole, LaneRan, WhyStopped}
use Rattle.bc_lane.proofs.HandLemmas.{reloaded-until, then-lane}
use Rattle.bc_lane.proofs.TurnLemmas.{ran-laid, same-end, why-laid}
use Rattle.bc_pins.specs.Calls.{key_of, view_of}
use Rattle.bc_pins.specs.declared.views.View.{View}
use Rattle.bc_whole_heap.specs.Heaps.{end_of}
use Rattle.bc_lane.proofs.turns.LaneTurn.run.Goals as goal

pub run_to_stop-why-requires-clause-whole : goal.run_to_stop-why-requires-clause-whole
run_to_stop-why-requires-clause-whole g c =
    let w = c.requires.whole in
    let e = same-end c.args.self.now.part (view_of c.args.seat.now) None (key_of c.args.pins.now) (end_of w.0.space) c.end-end.result w.0 c.requires.going.seated.at.about w.1 c.end-end.ensures.end in
    (w.0, subst (λ (n : ℕ). IsWhole c.args.self.now.part (view_of c.args.seat.now) None n w.0) (sym e) w.1, w.2)

pub put_hand_back-requires-clause-at : goal.put_hand_back-requires-clause-at
put_hand_back-requires-clause-at g c = c.run_to_stop-why.ensures.going.seated.at

pub put_hand_back-requires-clause-hands : goal.put_hand_back-requires-clause-hands
put_hand_back-requires-clause-hands g c = c.run_to_stop-why.ensures.going.seated.hands

pub put_hand_back-requires-clause-shown : goal.put_hand_back-requires-clause-shown
put_hand_back-requires-clause-shown g c =
    let w = c.requires.whole in
    let e = same-end c.args.self.now.part (view_of c.args.seat.now) None (key_of c.args.pins.now) (end_of w.0.space) c.end-end.result w.0 c.requires.going.seated.at.about w.1 c.end-end.ensures.end in
    let k = c.run_to_stop-why.ensures.ran.done w.0 (subst (λ (n : ℕ). IsWhole c.args.self.now.part (view_of c.args.seat.now) None n w.0) (sym e) w.1) w.2 in
    (c.end-end.result, k.0.space, k.1.belongs.space)

pub returns-clause-ran : goal.returns-clause-ran
returns-clause-ran g c = λ h w.
    let e = same-end c.args.self.now.part (view_of c.args.seat.now) None (key_of c.args.pins.now) (end_of h.space) c.end-end.result h c.requires.going.seated.at.about w c.end-end.ensures.end in
    subst (λ (n : ℕ). LaneRan c.args.ops.now n c.args.self.now (view_of c.args.seat.now) None c.run_to_stop-why.new.turn (view_of c.put_hand_back.new.seat) None) e
    (ran-laid c.args.ops.now c.end-end.result c.args.self.now c.run_to_stop-why.new.turn (view_of c.args.seat.now) (view_of c.run_to_stop-why.new.seat) (view_of c.put_hand_back.new.seat) None c.run_to_stop-why.new.hand c.run_to_stop-why.ensures.ran c.put_hand_back.ensures.reads c.put_hand_back.ensures.passes c.put_hand_back.ensures.puts c.put_hand_back.ensures.shows)

pub returns-clause-why : goal.returns-clause-why
returns-clause-why g c = λ h w.
    let e = same-end c.args.self.now.part (view_of c.args.seat.now) None (key_of c.args.pins.now) (end_of h.space) c.end-end.result h c.requires.going.seated.at.about w c.end-end.ensures.end in
    subst (λ (n : ℕ). WhyStopped (view_of c.args.seat.now) c.args.ops.now n c.run_to_stop-why.new.turn (view_of c.put_hand_back.new.seat) None c.run_to_stop-why.result) e
    (why-laid (view_of c.args.seat.now) c.args.ops.now c.run_to_stop-why.new.turn (view_of c.run_to_stop-why.new.seat) (view_of c.put_hand_back.new.seat) c.run_to_stop-why.new.hand c.end-end.result c.run_to_stop-why.result c.put_hand_back.ensures.laid
    (λ none. ap view_of (c.put_hand_back.ensures.idle none)) c.put_hand_back.ensures.back c.run_to_stop-why.ensures.why)

pub returns-clause-seat : goal.returns-clause-seat
returns-clause-seat g c = then-lane c.args.seat.now c.run_to_stop-why.new.seat c.put_hand_back.new.seat c.run_to_stop-why.ensures.seat c.put_hand_back.ensures.same

pub returns-clause-once : goal.returns-clause-once
returns-clause-once g c =
    reloaded-until (view_of c.args.seat.now) (view_of c.run_to_stop-why.new.seat) (view_of c.put_hand_back.new.seat) _ c.run_to_stop-why.ensures.once (ap (λ (v : View). v.fetched) c.put_hand_back.ensures.laid)
