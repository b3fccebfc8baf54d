use Rattle.bc_feed.proofs.RuleLemmas.{tells}
use Rattle.bc_feed.proofs.opening.tell.Goals as goal

pub another-requires-clause-rule : goal.another-requires-clause-rule
another-requires-clause-rule g c = tells _ _ _ c.requires.new
