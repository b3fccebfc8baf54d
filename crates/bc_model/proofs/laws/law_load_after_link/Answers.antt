use Rattle.bc_model.proofs.StepLaws.{load-after-link, slot-after-link}
use Rattle.bc_model.proofs.laws.law_load_after_link.Goals as goal

pub returns-clause-reply : goal.returns-clause-reply
returns-clause-reply c = load-after-link

pub returns-clause-slot : goal.returns-clause-slot
returns-clause-slot c = slot-after-link
