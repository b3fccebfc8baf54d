use Rattle.std.proofs.Common.{List, None, length, sym, subst, arith}
use Rattle.std.specs.List.{AllByRecursion}
use Rattle.bc_lane.specs.Doing.{tried_from}
use Rattle.bc_lane.specs.Turns.{IsGoing, LaneRan, ReloadsUpTo, WhyStopped}
use Rattle.bc_model.specs.declared.operations.Op.{Op}
use Rattle.bc_mutator.specs.Operations.{IsOpOf}
use Rattle.bc_pins.specs.Calls.{view_of}
use Rattle.bc_turn.proofs.TakingLemmas.{ops-of, ops-within}
use Rattle.bc_turn.proofs.runs.run_lane.Goals as goal
use Rattle.bc_whole_heap.specs.Heaps.{end_of}

pub bounds-lanes-lane : goal.bounds-lanes-lane
bounds-lanes-lane g c =
    let lane = c.lane-lane.ensures.lane in
    let lt = ops-within c.args.lanes.now c.args.run.now.turn.part.lane c.requires.within in
    omega arith

pub run-why-requires-clause-going : goal.run-why-requires-clause-going
run-why-requires-clause-going g c =
    subst (λ (ops : List Op). IsGoing c.args.pins.now ops c.args.run.now.turn c.args.run.now.seat None)
    (sym (ops-of c.args.lanes.now c.args.run.now.turn.part.lane c.lane-lane.result c.index-lanes-lane.result c.deref.result.now c.requires.within c.lane-lane.ensures.lane c.index-lanes-lane.is c.deref.ensures.value)) c.requires.going

pub run-why-requires-clause-whole : goal.run-why-requires-clause-whole
run-why-requires-clause-whole g c = (
  c.requires.heap,
  c.requires.whole,
  subst (AllByRecursion (IsOpOf c.requires.heap.roots))
      (sym (ops-of c.args.lanes.now c.args.run.now.turn.part.lane c.lane-lane.result c.index-lanes-lane.result c.deref.result.now c.requires.within c.lane-lane.ensures.lane c.index-lanes-lane.is c.deref.ensures.value)) c.requires.ops,
)

pub returns : goal.returns
returns g c =
    let old = c.args.run.now in
    let turn = c.run-why.new.self in
    let seat = c.run-why.new.seat in
    let ops = ops-of c.args.lanes.now old.turn.part.lane c.lane-lane.result c.index-lanes-lane.result c.deref.result.now c.requires.within c.lane-lane.ensures.lane c.index-lanes-lane.is c.deref.ensures.value in
    record {
      why = c.run-why.result;
      ran = record {
        ran = λ h whole. subst (λ (xs : List Op). LaneRan xs (end_of h.space) old.turn (view_of old.seat) None turn (view_of seat) None) ops (c.run-why.ensures.ran h whole);
        stopped = λ h whole. subst (λ (xs : List Op). WhyStopped (view_of old.seat) xs (end_of h.space) turn (view_of seat) None c.run-why.result) ops (c.run-why.ensures.why h whole);
        once = subst (λ (xs : List Op). ReloadsUpTo (tried_from (length xs) old.turn.next turn.next) (view_of old.seat) (view_of seat)) ops c.run-why.ensures.once;
        seat_is = c.run-why.ensures.seat.worker;
        counts = c.run-why.ensures.seat.opens;
        free = c.run-why.ensures.free;
      };
    }
