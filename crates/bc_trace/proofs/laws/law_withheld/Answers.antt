use Rattle.bc_trace.proofs.Withheld.{running_sums}
use Rattle.bc_trace.proofs.laws.law_withheld.Goals as goal

pub returns : goal.returns
returns c = running_sums
