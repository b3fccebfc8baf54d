use Rattle.bc_bits.proofs.BitLemmas.{has-none_set, some_set-none_set}
use Rattle.bc_bits.proofs.law_none_set.Goals as goal

pub returns : goal.returns
returns c = record { none = λ ws none b. has-none_set ws b none; some = some_set-none_set }
