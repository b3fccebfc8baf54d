use Rattle.std.proofs.Common.{ap}
use Rattle.bc_feed.proofs.RuleLemmas.{parts}
use Rattle.bc_feed.proofs.ends.BothEnds.fill.Goals as goal

pub another-taker_pass-requires-clause-rule : goal.another-taker_pass-requires-clause-rule
another-taker_pass-requires-clause-rule g c = let pushed = c.push_first.ensures.pushed in parts _ _ (ap (λ v. v.pushes) pushed) (ap (λ v. v.pops) pushed)
