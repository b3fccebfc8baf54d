use Rattle.std.proofs.Common.{None, ap, ◌∙◌}
use Rattle.std.proofs.lemmas.Result.{IfErr-weaker, IfOk-weaker, on_err_weaker}
use Rattle.bc_lane.proofs.AnswerLemmas.{frozen-unchanged, either-whole, whole-moved}
use Rattle.bc_lane.proofs.HandLemmas.{at-lane, reloaded-until, rights-on, somebody-lane, then-lane, then-reads}
use Rattle.bc_lane.proofs.PassLemmas.{looked-then, puts-on}
use Rattle.bc_lane.proofs.TurnLemmas.{stops-laid}
use Rattle.bc_pins.specs.Calls.{view_of}
use Rattle.bc_pins.specs.declared.views.View.{View}
use Rattle.bc_lane.proofs.attempting.operate_frozen.Goals as goal

pub put_hand_back-requires-clause-shown : goal.put_hand_back-requires-clause-shown
put_hand_back-requires-clause-shown g c =
    let w = c.requires.whole in
    let k = either-whole c.args.part.now c.operate_in_hand-answer.new.part (view_of c.args.seat.now) (view_of c.operate_in_hand-answer.new.seat) c.args.hand.now c.operate_in_hand-answer.new.hand c.args.end c.args.op.now c.operate_in_hand-answer.result
    c.operate_in_hand-answer.ensures.done c.operate_in_hand-answer.ensures.still w.0 w.1 w.2 in
    (c.args.end, k.0.space, k.1.belongs.space)

pub returns-clause-seated : goal.returns-clause-seated
returns-clause-seated g c =
    let mid = c.operate_in_hand-answer.ensures.seated in
    let same = c.put_hand_back.ensures.same in
    record {
      at = at-lane c.args.pins.now c.operate_in_hand-answer.new.seat c.put_hand_back.new.seat mid.at same;
      role = same.worker.role ∙ mid.role;
      somebody = somebody-lane c.operate_in_hand-answer.new.seat c.put_hand_back.new.seat same mid.somebody;
      hands = rw c.put_hand_back.ensures.none c.put_hand_back.ensures.free;
      rights = rights-on (view_of c.operate_in_hand-answer.new.seat) (view_of c.put_hand_back.new.seat) c.put_hand_back.ensures.reads mid.rights;
    }

pub returns-clause-seat : goal.returns-clause-seat
returns-clause-seat g c = then-lane c.args.seat.now c.operate_in_hand-answer.new.seat c.put_hand_back.new.seat c.operate_in_hand-answer.ensures.seat c.put_hand_back.ensures.same

pub returns-clause-reads : goal.returns-clause-reads
returns-clause-reads g c = then-reads (view_of c.args.seat.now) (view_of c.operate_in_hand-answer.new.seat) (view_of c.put_hand_back.new.seat) c.operate_in_hand-answer.ensures.reads c.put_hand_back.ensures.reads

pub returns-clause-looked : goal.returns-clause-looked
returns-clause-looked g c = λ q near.
    looked-then (view_of c.args.seat.now) (view_of c.operate_in_hand-answer.new.seat) (view_of c.put_hand_back.new.seat) q _ (c.operate_in_hand-answer.ensures.looked q near) (c.put_hand_back.ensures.passes q)

pub returns-clause-puts : goal.returns-clause-puts
returns-clause-puts g c =
    puts-on (view_of c.args.seat.now) (view_of c.operate_in_hand-answer.new.seat) (view_of c.put_hand_back.new.seat) c.args.hand.now c.operate_in_hand-answer.ensures.puts
    (frozen-unchanged c.args.pins.now c.args.part.now.holders.items c.args.part.now.lane c.args.page c.operate_in_hand-answer.new.seat c.put_hand_back.new.seat c.operate_in_hand-answer.new.hand c.requires.table c.operate_in_hand-answer.ensures.seated
    c.requires.looks.domain c.requires.looks.owned c.operate_in_hand-answer.ensures.only c.put_hand_back.ensures.foreign c.put_hand_back.ensures.idle)

pub returns-clause-done : goal.returns-clause-done
returns-clause-done g c =
    let new = c.operate_in_hand-answer.new in
    IfOk-weaker c.operate_in_hand-answer.result _ _
    (λ reply does h whole fits.
    let k = does h whole fits in (
      k.0,
      rw c.put_hand_back.ensures.none (whole-moved new.part (view_of new.seat) (view_of c.put_hand_back.new.seat) new.hand None c.args.end k.0 c.put_hand_back.ensures.shows k.1),
      k.2,
    ))
    c.operate_in_hand-answer.ensures.done

pub returns-clause-still : goal.returns-clause-still
returns-clause-still g c =
    let new = c.operate_in_hand-answer.new in
    on_err_weaker c.operate_in_hand-answer.result
    (λ still. (
      still.0,
      λ h whole. rw c.put_hand_back.ensures.none (whole-moved c.args.part.now (view_of new.seat) (view_of c.put_hand_back.new.seat) new.hand None c.args.end h c.put_hand_back.ensures.shows (still.1 h whole)),
    ))
    c.operate_in_hand-answer.ensures.still

pub returns-clause-why : goal.returns-clause-why
returns-clause-why g c =
    let new = c.operate_in_hand-answer.new in
    IfErr-weaker c.operate_in_hand-answer.result _ _
    (λ why stops.
    rw c.put_hand_back.ensures.none (stops-laid (view_of c.args.seat.now) new.part (view_of new.seat) (view_of c.put_hand_back.new.seat) new.hand c.args.end c.args.op.now why c.put_hand_back.ensures.laid
    (λ none. ap view_of (c.put_hand_back.ensures.idle none)) c.put_hand_back.ensures.back stops))
    c.operate_in_hand-answer.ensures.why

pub returns-clause-once : goal.returns-clause-once
returns-clause-once g c =
    reloaded-until (view_of c.args.seat.now) (view_of c.operate_in_hand-answer.new.seat) (view_of c.put_hand_back.new.seat) 1 c.operate_in_hand-answer.ensures.once (ap (λ (v : View). v.fetched) c.put_hand_back.ensures.laid)
