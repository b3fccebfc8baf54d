use Rattle.std.proofs.Common.{◌≡◌, ◌∙◌, ◌∷◌, ◌++◌, [], ◌-◌, length, arith, ap, Some, refl}
use Rattle.std.proofs.lemmas.List.{length-append}
use Rattle.bc_feed.specs.Ends.{taken_of}
use Rattle.bc_live.specs.Queues.{QueueView}
use Rattle.bc_live.proofs.NoticeLemmas.{numbered-next}
use Rattle.bc_live.proofs.notices.QueueNoticesNotices.next.Goals as goal

pub returns-clause-some : goal.returns-clause-some
returns-clause-some g c =
    let is = c.self.view_is in
    let hint = c.in-Some.hint in
    let more : taken_of c.take.new.self ≡ taken_of c.self.inside.taker ++ hint ∷ [] = c.in-Some.ensures.some in
    let long = ap length more in
    let longer = length-append (taken_of c.self.inside.taker) (hint ∷ []) in
    let all = ap length c.taken.ensures.taken in (
      ap Some (numbered-next (taken_of c.args.self.now.taker) (taken_of c.take.new.self) hint (length c.taken.result.now - 1)
          (more ∙ ap (λ (n : QueueView). taken_of n.taker ++ hint ∷ []) is) (omega (arith, long, longer, all))),
      ap (λ (n : QueueView). n.ends) is,
      refl,
    )
