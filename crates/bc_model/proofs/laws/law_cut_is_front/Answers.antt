use Rattle.bc_model.proofs.CutFronts.{cut-front, run-front}
use Rattle.bc_model.proofs.laws.law_cut_is_front.Goals as goal

pub returns-clause-phase : goal.returns-clause-phase
returns-clause-phase c = cut-front

pub returns-clause-run : goal.returns-clause-run
returns-clause-run c = run-front
