use Rattle.bc_feed.proofs.RuleLemmas.{gets, shows}
use Rattle.bc_feed.proofs.closing.drain.Goals as goal

pub pop_as-requires-clause-rule : goal.pop_as-requires-clause-rule
pop_as-requires-clause-rule g c = (gets _ _ c.loop-hint.invariant.pops, shows _ _)
