use Rattle.std.proofs.Common.{◌<◌, length, below_more, arith}
use Rattle.bc_engine.proofs.RunLemmas.{of_lane-long}
use Rattle.bc_engine.proofs.lanes.are_done.Goals as goal

pub loop-lane-preserved : goal.loop-lane-preserved
loop-lane-preserved c =
    let lane = c.loop-lane.lane in
    let lanes = c.args.lanes.now in
    let replies = c.args.replies.now in
    let within : lane < length lanes = omega arith in
    let there : lane < length replies = omega (arith, c.requires) in
    let done = of_lane-long replies lane c.len.result c.index-replies-lane.result there c.index-replies-lane.is c.len.ensures in
    let long = of_lane-long lanes lane c.len-in-loop-lane.result c.index-lanes-lane.result within c.index-lanes-lane.is c.len-in-loop-lane.ensures in
    let past = c.if-len.false in
    below_more _ _ c.loop-lane.invariant (omega arith)
