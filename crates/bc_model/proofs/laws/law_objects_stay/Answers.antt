use Rattle.std.proofs.Common.{ap}
use Rattle.bc_model.specs.State.{State}
use Rattle.bc_model.proofs.States.{only-changed}
use Rattle.bc_model.proofs.StepLaws.{Grows-steps}
use Rattle.bc_model.proofs.laws.law_objects_stay.Goals as goal

pub returns-clause-steps : goal.returns-clause-steps
returns-clause-steps c = Grows-steps

pub returns-clause-changes : goal.returns-clause-changes
returns-clause-changes c = λ s x. ap (λ (t : State). t.made) (only-changed s x)
