use Rattle.bc_model.proofs.Outcomes.{no_field-where}
use Rattle.bc_model.proofs.laws.law_range.Goals as goal

pub returns : goal.returns
returns c = no_field-where
