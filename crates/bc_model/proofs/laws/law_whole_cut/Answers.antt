use Rattle.bc_model.proofs.StepLaws.{cut_lanes-whole}
use Rattle.bc_model.proofs.laws.law_whole_cut.Goals as goal

pub returns : goal.returns
returns c = cut_lanes-whole
