use Rattle.bc_trace.proofs.Answered.{spelled_or_faulty, not_both, same_fault}
use Rattle.bc_trace.proofs.laws.law_one_fault.Goals as goal

pub returns-clause-either : goal.returns-clause-either
returns-clause-either c = spelled_or_faulty

pub returns-clause-not_both : goal.returns-clause-not_both
returns-clause-not_both c = not_both

pub returns-clause-alone : goal.returns-clause-alone
returns-clause-alone c = same_fault
