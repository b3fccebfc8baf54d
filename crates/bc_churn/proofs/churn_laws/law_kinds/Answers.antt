use Rattle.bc_churn.proofs.Formed.{draw-below}
use Rattle.bc_churn.proofs.KindTable.{kinds-are, is-drawn, drawn-alone}
use Rattle.bc_churn.proofs.churn_laws.law_kinds.Goals as goal

pub returns-clause-kinds : goal.returns-clause-kinds
returns-clause-kinds c = kinds-are

pub returns-clause-drawn : goal.returns-clause-drawn
returns-clause-drawn c = is-drawn

pub returns-clause-alone : goal.returns-clause-alone
returns-clause-alone c = drawn-alone

pub returns-clause-below : goal.returns-clause-below
returns-clause-below c = draw-below
