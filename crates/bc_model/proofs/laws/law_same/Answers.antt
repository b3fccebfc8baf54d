use Rattle.bc_model.proofs.Outcomes.{same-yes, same-no}
use Rattle.bc_model.proofs.laws.law_same.Goals as goal

pub returns-clause-yes : goal.returns-clause-yes
returns-clause-yes c = same-yes

pub returns-clause-no : goal.returns-clause-no
returns-clause-no c = same-no
