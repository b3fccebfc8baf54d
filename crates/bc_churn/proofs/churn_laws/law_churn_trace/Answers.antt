use Rattle.bc_churn.proofs.ChurnNeed.{phase-is, setup-is, trace-holders, trace-phases, version-is}
use Rattle.bc_churn.proofs.Formed.{churn-formed}
use Rattle.bc_churn.proofs.churn_laws.law_churn_trace.Goals as goal

pub returns-clause-formed : goal.returns-clause-formed
returns-clause-formed c = churn-formed

pub returns-clause-version : goal.returns-clause-version
returns-clause-version c = version-is

pub returns-clause-setup : goal.returns-clause-setup
returns-clause-setup c = setup-is

pub returns-clause-phases : goal.returns-clause-phases
returns-clause-phases c = trace-phases

pub returns-clause-phase : goal.returns-clause-phase
returns-clause-phase c = phase-is

pub returns-clause-holders : goal.returns-clause-holders
returns-clause-holders c = trace-holders
