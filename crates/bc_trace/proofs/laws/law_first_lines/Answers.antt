use Rattle.bc_trace.proofs.Endings.{follow_begins, begins_follow}
use Rattle.bc_trace.proofs.laws.law_first_lines.Goals as goal

pub returns : goal.returns
returns c = λ lines. (follow_begins lines, begins_follow lines)
