use Rattle.std.proofs.Common.{ap}
use Rattle.bc_feed.proofs.RuleLemmas.{gets, shows}
use Rattle.bc_feed.proofs.ends.Taker.take.Goals as goal

pub pop_as-requires-clause-rule : goal.pop_as-requires-clause-rule
pop_as-requires-clause-rule g c = (gets _ _ (ap (λ v. v.pops) c.args.self.now.account), shows _ _)
