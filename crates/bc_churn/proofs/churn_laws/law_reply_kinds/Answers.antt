use Rattle.bc_churn.proofs.KindTable.{reply-begins}
use Rattle.bc_churn.proofs.churn_laws.law_reply_kinds.Goals as goal

pub returns : goal.returns
returns c = reply-begins
