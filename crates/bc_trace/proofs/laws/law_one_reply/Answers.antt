use Rattle.bc_trace.proofs.Shown.{same_line, same_phase, same_output, same_need}
use Rattle.bc_trace.proofs.laws.law_one_reply.Goals as goal

pub returns-clause-line : goal.returns-clause-line
returns-clause-line c = same_line

pub returns-clause-phase : goal.returns-clause-phase
returns-clause-phase c = same_phase

pub returns-clause-output : goal.returns-clause-output
returns-clause-output c = same_output

pub returns-clause-need : goal.returns-clause-need
returns-clause-need c = same_need
