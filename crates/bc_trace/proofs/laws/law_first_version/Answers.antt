use Rattle.bc_trace.proofs.LineAtFails.{freeze_unknown}
use Rattle.bc_trace.proofs.laws.law_first_version.Goals as goal

pub returns : goal.returns
returns c = freeze_unknown
