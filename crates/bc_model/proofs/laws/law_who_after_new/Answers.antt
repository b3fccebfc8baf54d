use Rattle.bc_model.proofs.StepLaws.{who-after-new}
use Rattle.bc_model.proofs.laws.law_who_after_new.Goals as goal

pub returns : goal.returns
returns c = who-after-new
