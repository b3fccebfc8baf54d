use Rattle.std.proofs.Common.{refl, arith}
use Rattle.bc_model.specs.Rows.{lists_of}
use Rattle.bc_engine.proofs.AttemptLemmas.{attempts-none, attempts-then, stopped-more}
use Rattle.bc_engine.proofs.RunLemmas.{cells-same, cells-then, runs-same, runs-then}
use Rattle.bc_engine.proofs.lanes.run_lanes.Goals as goal

pub loop-lane-init : goal.loop-lane-init
loop-lane-init c = record {
  runs = runs-same (lists_of c.args.lanes.now) c.args.running.now c.args.running.now c.args.replies.now refl;
  leaves = cells-same c.args.running.now;
  attempts = attempts-none (lists_of c.args.lanes.now) c.args.running.now (lists_of c.args.replies.now);
  stopped = λ j lt. absurd (omega arith);
}

pub loop-lane-preserved : goal.loop-lane-preserved
loop-lane-preserved c = record {
  runs = runs-then c.loop-lane.invariant.runs c.run_lane.ensures.runs;
  leaves = cells-then c.loop-lane.invariant.leaves c.run_lane.ensures.leaves;
  attempts = attempts-then c.loop-lane.invariant.attempts c.run_lane.ensures.attempts;
  stopped = stopped-more (lists_of c.args.lanes.now) c.loop-lane.invariant.runs c.run_lane.ensures.runs c.loop-lane.invariant.leaves c.run_lane.ensures.leaves c.loop-lane.invariant.attempts c.run_lane.ensures.attempts c.run_lane.ensures.others c.loop-lane.invariant.stopped c.run_lane.ensures.stopped;
}
