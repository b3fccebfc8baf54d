use Rattle.bc_model.proofs.Needs.{IsNeed-unique}
use Rattle.bc_model.proofs.laws.law_one_need.Goals as goal

pub returns : goal.returns
returns c = IsNeed-unique
