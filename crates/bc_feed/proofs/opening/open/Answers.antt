use Rattle.bc_feed.proofs.RuleLemmas.{begins}
use Rattle.bc_feed.proofs.opening.open.Goals as goal

pub ruled-requires-clause-rule : goal.ruled-requires-clause-rule
ruled-requires-clause-rule c = begins
