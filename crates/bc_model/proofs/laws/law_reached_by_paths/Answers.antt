use Rattle.bc_model.proofs.Needs.{Reached-iff-path}
use Rattle.bc_model.proofs.laws.law_reached_by_paths.Goals as goal

pub returns : goal.returns
returns c = Reached-iff-path
