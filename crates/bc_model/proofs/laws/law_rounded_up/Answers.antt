use Rattle.bc_model.proofs.Needs.{rounded_up}
use Rattle.bc_model.proofs.laws.law_rounded_up.Goals as goal

pub returns : goal.returns
returns c = rounded_up
