use Rattle.std.proofs.Common.{◌+◌, ◌++◌, List, get_or, drop, sym, ap, ◌∙◌, append-nil, arith}
use Rattle.std.proofs.lemmas.List.{get_or_default}
use Rattle.bc_model.specs.Run.{replies_to}
use Rattle.bc_model.specs.declared.operations.Op.{Op}
use Rattle.bc_model.specs.declared.operations.Op.TheVariants.{New}
use Rattle.bc_model.specs.declared.operations.Reply.{Reply}
use Rattle.bc_model.proofs.Runs.{after_ops-end, replies_to-end, run-state, run-reply}
use Rattle.bc_model.proofs.plain_heap.Flat.replay.Goals as goal

pub loop-op-preserved : goal.loop-op-preserved
loop-op-preserved c =
    let ops = c.args.ops.now in
    let i = c.loop-op.op-index in
    let s = c.loop-op.self in
    let any : Op = New (record { domain = 0; slot = 0 }) 0 in
    let o = get_or ops i any in
    let is = get_or_default ops i any o c.loop-op-test.true in
    let ok = c.in_ok-reply.ensures.ok in
    record {
      state = run-state s c.step.new.self c.args.lane ops i o c.in_ok-reply.reply c.loop-op-test.true is ok ∙ c.loop-op.invariant.state;
      replies =
          ap (λ (rs : List Reply). rs ++ replies_to c.step.new.self c.args.lane (drop (i + 1) ops)) c.in_ok-push.ensures.items
          ∙ run-reply s c.step.new.self c.args.lane ops i o c.in_ok-reply.reply c.loop-op.replies.items c.loop-op-test.true is ok
          ∙ c.loop-op.invariant.replies;
      sizes = c.step.ensures.sizes ∙ c.loop-op.invariant.sizes;
      more = λ j. omega (arith, c.step.ensures.more j, c.loop-op.invariant.more j);
    }

pub returns-clause-replies : goal.returns-clause-replies
returns-clause-replies c =
    let items = c.loop-op.replies.items in
    sym (append-nil items)
    ∙ ap (λ (rs : List Reply). items ++ rs) (sym (replies_to-end c.loop-op.self c.args.lane c.args.ops.now c.loop-op.op-index c.loop-op-test.false))
    ∙ c.loop-op.invariant.replies

pub returns-clause-state : goal.returns-clause-state
returns-clause-state c =
    sym (after_ops-end c.loop-op.self c.args.lane c.args.ops.now c.loop-op.op-index c.loop-op-test.false) ∙ c.loop-op.invariant.state
