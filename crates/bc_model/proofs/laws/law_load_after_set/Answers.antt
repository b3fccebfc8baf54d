use Rattle.bc_model.proofs.StepLaws.{load-after-set}
use Rattle.bc_model.proofs.laws.law_load_after_set.Goals as goal

pub returns : goal.returns
returns c = load-after-set
