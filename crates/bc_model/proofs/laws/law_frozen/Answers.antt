use Rattle.bc_model.proofs.Outcomes.{frozen-where}
use Rattle.bc_model.proofs.laws.law_frozen.Goals as goal

pub returns : goal.returns
returns c = frozen-where
