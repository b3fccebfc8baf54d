use Rattle.std.proofs.Common.{ℕ, List, ap, ◌∙◌, ◌++◌}
use Rattle.bc_model.specs.declared.operations.Reply.{Reply}
use Rattle.bc_trace.specs.Replies.{lane_text}
use Rattle.bc_trace.proofs.Texts.{lanes_text-more}
use Rattle.bc_trace.proofs.replies.phase_text.Goals as goal

pub loop-lane-preserved : goal.loop-lane-preserved
loop-lane-preserved c =
    let replies = c.as_slice-its_replies.ensures.value ∙ ap (λ v. v.items) c.its_replies-item.is in
    lanes_text-more (λ v. v.items) c.deref-its_replies-items.result.now c.loop-lane.lane c.its_replies-item.result c.put_numbered.new.out.items c.loop-lane.text.items c.put_lane.new.out.items c.loop-lane-test.true c.loop-lane.invariant
    (c.put_lane.ensures.text
    ∙ ap (λ (text : List ℕ). text ++ lane_text c.loop-lane.lane c.as_slice-its_replies.result.now) c.in_ok-reserve.ensures.items
    ∙ ap (λ (rs : List Reply). c.loop-lane.text.items ++ lane_text c.loop-lane.lane rs) replies)
