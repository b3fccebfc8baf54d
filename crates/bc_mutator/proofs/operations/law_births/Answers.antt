use Rattle.bc_mutator.proofs.NewLemmas.{none-later}
use Rattle.bc_mutator.proofs.operations.law_births.Goals as goal

pub returns : goal.returns
returns c = none-later
