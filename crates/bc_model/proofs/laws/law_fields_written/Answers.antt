use Rattle.bc_model.proofs.Changes.{field-after-set, field-after-cut, field-after-link, other-fields}
use Rattle.bc_model.proofs.laws.law_fields_written.Goals as goal

pub returns-clause-set : goal.returns-clause-set
returns-clause-set c = field-after-set

pub returns-clause-cut : goal.returns-clause-cut
returns-clause-cut c = field-after-cut

pub returns-clause-link : goal.returns-clause-link
returns-clause-link c = field-after-link

pub returns-clause-others : goal.returns-clause-others
returns-clause-others c = other-fields
