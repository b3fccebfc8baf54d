use Rattle.std.proofs.Common.{arith}
use Rattle.bc_engine.proofs.opened.operations_of.Goals as goal
use Rattle.bc_engine.proofs.OperationLemmas.{operations-all, operations-more}

pub loop-ops-preserved : goal.loop-ops-preserved
loop-ops-preserved c = record {
  sum = operations-more c.args.lanes.now c.loop-ops.ops-index c.loop-ops.all c.saturating_add-all.result c.len.result c.ops-item.result c.loop-ops-test.true c.ops-item.is c.len.ensures (omega (arith, c.saturating_add-all.ensures)) c.loop-ops.invariant.sum;
  few = omega (arith, c.saturating_add-all.ensures);
}

pub returns : goal.returns
returns c = operations-all c.args.lanes.now c.loop-ops.ops-index c.loop-ops.all (omega (arith, c.loop-ops-test.false)) (omega (arith, c.loop-ops.invariant.few)) c.loop-ops.invariant.sum
