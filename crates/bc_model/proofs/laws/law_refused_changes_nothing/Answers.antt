use Rattle.bc_model.proofs.Refusals.{refused-stays}
use Rattle.bc_model.proofs.laws.law_refused_changes_nothing.Goals as goal

pub returns : goal.returns
returns c = refused-stays
