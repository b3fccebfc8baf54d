use Rattle.bc_trace.proofs.Endings.{goes_on, stands_there}
use Rattle.bc_trace.proofs.laws.law_next_word.Goals as goal

pub returns : goal.returns
returns c = λ before w pass. (λ h. goes_on before w pass h.0 h.1, stands_there before w)
