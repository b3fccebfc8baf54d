use Rattle.bc_trace.proofs.Answered.{same_trace}
use Rattle.bc_trace.proofs.laws.law_one_trace.Goals as goal

pub returns : goal.returns
returns c = same_trace
