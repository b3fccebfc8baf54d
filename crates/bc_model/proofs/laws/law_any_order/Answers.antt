use Rattle.bc_model.proofs.AnyOrder.{as_in_order}
use Rattle.bc_model.proofs.laws.law_any_order.Goals as goal

pub returns : goal.returns
returns c = as_in_order
