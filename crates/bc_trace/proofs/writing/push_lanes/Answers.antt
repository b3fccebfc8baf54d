use Rattle.std.proofs.Common.{List, map, ◌++◌, ap, ◌∙◌}
use Rattle.std.specs.List.{flat_map}
use Rattle.bc_model.specs.declared.operations.Op.{Op}
use Rattle.bc_trace.specs.Lines.{lane, op, line_text}
use Rattle.bc_trace.proofs.Written.{lanes-more}
use Rattle.bc_trace.proofs.writing.push_lanes.Goals as goal

pub loop-lane-preserved : goal.loop-lane-preserved
loop-lane-preserved c =
    let ops = c.deref.ensures.value ∙ ap (λ v. v.items) c.index-lanes-lane.is in
    lanes-more (λ v. v.items) c.args.lanes.now c.loop-lane.lane c.index-lanes-lane.result c.args.out.now.items c.loop-lane.out.items c.push_lane.new.out.items c.loop-lane-test.true c.loop-lane.invariant (c.in_ok-push_lane.ensures ∙ ap (λ (os : List Op). c.loop-lane.out.items ++ (line_text (lane c.loop-lane.lane) ++ flat_map line_text (map op os))) ops)
