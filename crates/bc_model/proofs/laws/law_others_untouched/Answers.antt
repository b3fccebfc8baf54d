use Rattle.bc_model.proofs.StepLaws.{slot-untouched, object-untouched}
use Rattle.bc_model.proofs.laws.law_others_untouched.Goals as goal

pub returns-clause-slots : goal.returns-clause-slots
returns-clause-slots c = slot-untouched

pub returns-clause-objects : goal.returns-clause-objects
returns-clause-objects c = object-untouched
