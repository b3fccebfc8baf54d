use Rattle.bc_model.proofs.NeedFound.{need-found}
use Rattle.bc_model.proofs.laws.law_has_need.Goals as goal

pub returns : goal.returns
returns c = need-found
