use Rattle.std.proofs.Common.{arith}
use Rattle.bc_replay.proofs.TextsFit.{ops-more}
use Rattle.bc_replay.proofs.texts.ops_in.Goals as goal

pub loop-ops-preserved : goal.loop-ops-preserved
loop-ops-preserved c =
    let so_far = c.loop-ops.invariant in
    let long = c.len-all.ensures in
    omega (arith, so_far, long, ops-more c.args.lanes.now c.loop-ops.ops-index c.ops-item.result c.loop-ops-test.true c.ops-item.is)
