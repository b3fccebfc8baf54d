use Rattle.bc_model.proofs.RunStates.{OfSetup-before, OfSetup-after_cut}
use Rattle.bc_model.proofs.laws.law_states_of_a_run.Goals as goal

pub returns-clause-before : goal.returns-clause-before
returns-clause-before c = λ t k h. let of = OfSetup-before t k h in (of.state, of.sizes)

pub returns-clause-cut : goal.returns-clause-cut
returns-clause-cut c = λ t k cut h. let of = OfSetup-after_cut t k cut h in (of.state, of.sizes)
