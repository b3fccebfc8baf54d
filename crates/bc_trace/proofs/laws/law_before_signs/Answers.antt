use Rattle.std.proofs.Common.{inr}
use Rattle.bc_trace.proofs.Withheld.{sign_is_number_fault, sign_counts, none_withheld}
use Rattle.bc_trace.proofs.laws.law_before_signs.Goals as goal

pub returns-clause-number : goal.returns-clause-number
returns-clause-number c = λ s line digits b hints old formed stands sign parts few. sign_is_number_fault s line digits b hints old formed stands sign parts few

pub returns-clause-hint : goal.returns-clause-hint
returns-clause-hint c = λ s line digits b hints old formed stands sign parts many. inr (sign_counts s line digits b hints old formed stands sign parts many)

pub returns-clause-none : goal.returns-clause-none
returns-clause-none c = none_withheld
