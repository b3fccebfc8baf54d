use Rattle.bc_model.proofs.StepLaws.{who-after-clear}
use Rattle.bc_model.proofs.laws.law_who_after_clear.Goals as goal

pub returns : goal.returns
returns c = who-after-clear
