use Rattle.std.proofs.Common.{List, Vec, Global, length, ap, ◌∙◌, ◌++◌, map, arith}
use Rattle.std.proofs.lemmas.List.{take_all}
use Rattle.bc_model.specs.declared.operations.Reply.{Reply}
use Rattle.bc_trace.specs.Replies.{lane_text, lanes_text}
use Rattle.bc_trace.proofs.Texts.{count-more, lanes_text-more, phase_text-made}
use Rattle.bc_trace.proofs.replies.put_phase.Goals as goal

pub loop-lane-preserved : goal.loop-lane-preserved
loop-lane-preserved c =
    let inv = c.loop-lane.invariant in
    let replies = c.deref.ensures.value ∙ ap (λ v. v.items) c.its_replies-item.is in
    let long = c.put_lane.ensures.long in
    let before = inv.long in
    record {
      text = lanes_text-more (λ v. v.items) c.deref-its_replies-items.result.now c.loop-lane.lane c.its_replies-item.result c.put_numbered.new.out.items c.loop-lane.out.items c.put_lane.new.out.items c.loop-lane-test.true inv.text (c.put_lane.ensures.text ∙ ap (λ (rs : List Reply). c.loop-lane.out.items ++ lane_text c.loop-lane.lane rs) replies);
      long = omega (arith, long, before, ap length replies, count-more (λ (v : Vec Reply Global). v.items) c.deref-its_replies-items.result.now c.loop-lane.lane c.its_replies-item.result c.loop-lane-test.true);
      room = c.put_lane.ensures.room ∙ inv.room;
    }

pub returns-clause-text : goal.returns-clause-text
returns-clause-text c =
    let all = take_all c.loop-lane.lane c.deref-its_replies-items.result.now c.loop-lane-test.false ∙ c.deref-its_replies-items.ensures.value in
    phase_text-made c.args.number c.args.replies.now c.args.out.now.items c.put_numbered.new.out.items c.loop-lane.out.items c.put_numbered.ensures.text (c.loop-lane.invariant.text ∙ ap (λ (vs : List (Vec Reply Global)). c.put_numbered.new.out.items ++ lanes_text 0 (map (λ v. v.items) vs)) all ∙ ap (λ (rs : List (List Reply)). c.put_numbered.new.out.items ++ lanes_text 0 rs) c.replies.view_is)
