use Rattle.bc_model.proofs.StepLaws.{len-after-new}
use Rattle.bc_model.proofs.laws.law_len_after_new.Goals as goal

pub returns : goal.returns
returns c = len-after-new
