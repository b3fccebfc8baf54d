use Rattle.bc_churn.proofs.ChurnNeed.{need-cut, need-whole}
use Rattle.bc_churn.proofs.churn_laws.law_churn_need.Goals as goal

pub returns-clause-cut : goal.returns-clause-cut
returns-clause-cut c = need-cut

pub returns-clause-whole : goal.returns-clause-whole
returns-clause-whole c = need-whole
