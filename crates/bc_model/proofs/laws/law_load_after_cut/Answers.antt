use Rattle.bc_model.proofs.StepLaws.{load-after-cut}
use Rattle.bc_model.proofs.laws.law_load_after_cut.Goals as goal

pub returns : goal.returns
returns c = load-after-cut
