use Rattle.std.proofs.Common.{ap}
use Rattle.bc_feed.proofs.RuleLemmas.{unites}
use Rattle.bc_feed.proofs.ends.Channel.close.Goals as goal

pub absorb-requires-clause-rule : goal.absorb-requires-clause-rule
absorb-requires-clause-rule g c = unites _ _ _ _ (ap (λ v. v.pushes) c.args.feeder.account) (ap (λ v. v.pops) c.args.taker.account)
