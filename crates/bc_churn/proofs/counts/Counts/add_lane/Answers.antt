use Rattle.std.proofs.Common.{◌<◌, ◌+◌, ◌^◌, List, ℕ, length, get_or, refl, sym, ◌∙◌, subst, arith}
use Rattle.std.proofs.lemmas.List.{length-set}
use Rattle.bc_churn.proofs.Counting.{counted-more, room-for-one}
use Rattle.bc_churn.proofs.counts.Counts.add_lane.Goals as goal

pub loop-reply-init : goal.loop-reply-init
loop-reply-init c = ((λ k. omega arith), refl)

pub overflow_add-self : goal.overflow_add-self
overflow_add-self c =
    let room = subst (λ (kinds : List ℕ). get_or kinds c.kind_of.result 0 + length c.args.replies.now < 2 ^ 64) (sym c.self.view_is) (c.requires c.kind_of.result) in
    let fits = room-for-one c.self.inside.kinds c.loop-reply.self-inside.kinds c.args.replies.now c.loop-reply.reply-index c.kind_of.result (2 ^ 64) c.loop-reply-test.true c.loop-reply.invariant.0 room in
    omega (arith, fits)

pub loop-reply-preserved : goal.loop-reply-preserved
loop-reply-preserved c = (
  counted-more c.self.inside.kinds c.loop-reply.self-inside.kinds _ c.args.replies.now c.loop-reply.reply-index c.kind_of.result _ c.loop-reply-test.true c.kind_of.ensures.kind
      (omega (arith, c.kind_of.ensures.below, c.loop-reply.invariant.1, c.self.told)) refl c.loop-reply.invariant.0,
  length-set c.loop-reply.self-inside.kinds c.kind_of.result _ ∙ c.loop-reply.invariant.1,
)
