use Rattle.std.proofs.Common.{Vec, Global, List, length, refl, ◌≢◌, ◌≤◌, ◌∙◌, ap, subst, arith}
use Rattle.bc_model.specs.Rows.{lists_of}
use Rattle.bc_nursery.specs.Nurseries.{Nursery}
use Rattle.bc_model.specs.declared.operations.Reply.{Reply}
use Rattle.bc_engine.specs.Lanes.{of_lane}
use Rattle.bc_engine.proofs.AttemptLemmas.{attempts-none, attempts-then}
use Rattle.bc_engine.proofs.RunLemmas.{as-before, cells-same, cells-then, runs-same, runs-then, each-further}
use Rattle.bc_engine.proofs.lanes.step_lanes.Goals as goal

pub loop-lane-init : goal.loop-lane-init
loop-lane-init c = record {
  runs = runs-same (lists_of c.args.lanes.now) c.args.running.now c.args.running.now c.args.replies.now refl;
  leaves = cells-same c.args.running.now;
  attempts = attempts-none (lists_of c.args.lanes.now) c.args.running.now (lists_of c.args.replies.now);
  unrecorded = c.requires.unrecorded;
  empty = λ n le. c.requires.empty n;
  each = λ j lt. absurd (omega arith);
  before = λ j le. refl;
}

pub loop-lane-preserved : goal.loop-lane-preserved
loop-lane-preserved c =
    let e = c.advance-further.ensures in
    let lane = c.loop-lane.lane in
    let before = c.loop-lane.invariant in
    let here = before.empty lane (omega arith) in
    record {
      runs = runs-then before.runs e.runs;
      leaves = cells-then before.leaves e.leaves;
      attempts = attempts-then before.attempts e.attempts;
      unrecorded = e.unrecorded here before.unrecorded;
      empty = λ n le.
          let ne : n ≢ lane = omega arith in
          ap (λ (x : Nursery). x.objects) (e.others.chunk n ne) ∙ before.empty n (omega arith);
      each = each-further (lists_of c.args.lanes.now) (lists_of c.args.replies.now) (lists_of c.loop-lane.replies) (lists_of c.advance-further.new.replies) lane c.advance-further.result
          before.before e.others.replies before.each e.further
          (λ stop. subst (λ (vs : List (Vec Reply Global)). length (of_lane (lists_of c.args.lanes.now) lane) ≤ length (of_lane (lists_of vs) lane)) (e.same stop) (e.alone here before.unrecorded stop));
      before = as-before (lists_of c.args.replies.now) before.before e.others;
    }
