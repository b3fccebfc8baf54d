use Rattle.bc_bits.proofs.BitLemmas.{has-with_bit_same, has-with_bit_other}
use Rattle.bc_bits.proofs.law_with_bit.Goals as goal

pub returns : goal.returns
returns c = record { same = has-with_bit_same; others = has-with_bit_other }
