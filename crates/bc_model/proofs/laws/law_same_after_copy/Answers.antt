use Rattle.bc_model.proofs.StepLaws.{same-after-copy}
use Rattle.bc_model.proofs.laws.law_same_after_copy.Goals as goal

pub returns : goal.returns
returns c = same-after-copy
