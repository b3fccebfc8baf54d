use Rattle.bc_model.proofs.Outcomes.{no_object-where}
use Rattle.bc_model.proofs.laws.law_not_object.Goals as goal

pub returns : goal.returns
returns c = no_object-where
