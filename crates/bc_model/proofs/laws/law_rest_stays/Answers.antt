use Rattle.bc_model.proofs.Changes.{rest-stays}
use Rattle.bc_model.proofs.laws.law_rest_stays.Goals as goal

pub returns-clause-holders : goal.returns-clause-holders
returns-clause-holders c = λ s j o. (rest-stays s j o).holders

pub returns-clause-width : goal.returns-clause-width
returns-clause-width c = λ s j o. (rest-stays s j o).width

pub returns-clause-slots : goal.returns-clause-slots
returns-clause-slots c = λ s j o. (rest-stays s j o).slots
