use Rattle.bc_model.proofs.Outcomes.{foreign-where}
use Rattle.bc_model.proofs.laws.law_foreign.Goals as goal

pub returns : goal.returns
returns c = foreign-where
