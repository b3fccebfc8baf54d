use Rattle.std.proofs.Common.{length, arith, ap}
use Rattle.bc_feed.specs.Ends.{taken_of}
use Rattle.bc_live.specs.Queues.{QueueView}
use Rattle.bc_pager.proofs.NumberLemmas.{numbered-long}
use Rattle.bc_live.proofs.notices.QueueNoticesNotices.may_come.Goals as goal

pub returns-clause-few : goal.returns-clause-few
returns-clause-few g c =
    let is = c.self.view_is in
    let taken = ap (λ (n : QueueView). length (taken_of n.taker)) is in
    let most = ap (λ (n : QueueView). n.most) is in
    omega (arith, numbered-long 0 (taken_of c.args.self.now.taker), taken, most, c.self.invariant.2, c.taken.ensures.few)
