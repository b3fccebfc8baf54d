use Rattle.std.proofs.Common.{◌%◌, arith}
use Rattle.bc_bits.specs.Bits.{has}
use Rattle.bc_bits.proofs.BitLemmas.{word_test}
use Rattle.bc_bits.proofs.contains.Goals as goal

pub returns : goal.returns
unfolding has
returns c = λ d. record { test = word_test _ (d.args.bit % 64) (omega arith) }
