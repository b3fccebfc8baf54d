use Rattle.bc_model.proofs.AnyOrder.{commute}
use Rattle.bc_model.proofs.laws.law_steps_commute.Goals as goal

pub returns : goal.returns
returns c = commute
