use Rattle.std.proofs.Common.{refl}
use Rattle.bc_model.specs.Rows.{lists_of}
use Rattle.bc_engine.proofs.AttemptLemmas.{attempts-none, attempts-then}
use Rattle.bc_engine.proofs.RunLemmas.{cells-same, cells-then, runs-same, runs-then, leaves-same, leaves-then}
use Rattle.bc_engine.proofs.lanes.run_lane.Goals as goal

pub operations-init : goal.operations-init
operations-init c = record {
  runs = runs-same (lists_of c.args.lanes.now) c.args.running.now c.args.running.now c.args.replies.now refl;
  leaves = cells-same c.args.running.now;
  attempts = attempts-none (lists_of c.args.lanes.now) c.args.running.now (lists_of c.args.replies.now);
  others = leaves-same c.args.lane c.args.running.now c.args.running.now (lists_of c.args.replies.now) refl;
}

pub operations-preserved : goal.operations-preserved
operations-preserved c = record {
  runs = runs-then c.operations.invariant.runs c.advance.ensures.runs;
  leaves = cells-then c.operations.invariant.leaves c.advance.ensures.leaves;
  attempts = attempts-then c.operations.invariant.attempts c.advance.ensures.attempts;
  others = leaves-then c.operations.invariant.others c.advance.ensures.others;
}

pub returns-clause-runs : goal.returns-clause-runs
returns-clause-runs c = runs-then c.operations.invariant.runs c.advance.ensures.runs

pub returns-clause-leaves : goal.returns-clause-leaves
returns-clause-leaves c = cells-then c.operations.invariant.leaves c.advance.ensures.leaves

pub returns-clause-attempts : goal.returns-clause-attempts
returns-clause-attempts c = attempts-then c.operations.invariant.attempts c.advance.ensures.attempts

pub returns-clause-others : goal.returns-clause-others
returns-clause-others c = leaves-then c.operations.invariant.others c.advance.ensures.others
