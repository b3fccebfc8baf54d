use Rattle.bc_churn.proofs.ChurnSums.{phase-ops, trace-ops}
use Rattle.bc_churn.proofs.churn_laws.law_churn_ops.Goals as goal

pub returns-clause-phase : goal.returns-clause-phase
returns-clause-phase c = phase-ops

pub returns-clause-trace : goal.returns-clause-trace
returns-clause-trace c = trace-ops
