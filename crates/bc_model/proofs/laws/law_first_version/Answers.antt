use Rattle.bc_model.proofs.FirstVersion.{NoneFrozen-before, NoneFrozen-after_cut}
use Rattle.bc_model.proofs.laws.law_first_version.Goals as goal

pub returns-clause-before : goal.returns-clause-before
returns-clause-before c = NoneFrozen-before

pub returns-clause-cut : goal.returns-clause-cut
returns-clause-cut c = NoneFrozen-after_cut
