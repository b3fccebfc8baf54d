use Rattle.bc_churn.proofs.ChurnSums.{counted-once, counted-run, counted-frozen, counted-printed}
use Rattle.bc_churn.proofs.churn_laws.law_counts.Goals as goal

pub returns-clause-replies : goal.returns-clause-replies
returns-clause-replies c = counted-once

pub returns-clause-run : goal.returns-clause-run
returns-clause-run c = counted-run

pub returns-clause-frozen : goal.returns-clause-frozen
returns-clause-frozen c = counted-frozen

pub returns-clause-churn : goal.returns-clause-churn
returns-clause-churn c = counted-printed
