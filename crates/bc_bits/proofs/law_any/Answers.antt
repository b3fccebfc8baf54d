use Rattle.bc_bits.proofs.AnyLemmas.{any_below-some, any_below-at}
use Rattle.bc_bits.proofs.law_any.Goals as goal

pub returns : goal.returns
returns c = record { some = any_below-some; here = any_below-at }
