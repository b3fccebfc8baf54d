use Rattle.bc_model.proofs.Callers.{IsPhase-from_setup}
use Rattle.bc_model.proofs.laws.law_phase_fits.Goals as goal

pub returns : goal.returns
returns c = IsPhase-from_setup
