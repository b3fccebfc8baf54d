use Rattle.bc_bits.proofs.BitLemmas.{has-without_bit_same, has-without_bit_other}
use Rattle.bc_bits.proofs.law_without_bit.Goals as goal

pub returns : goal.returns
returns c = record { same = has-without_bit_same; others = has-without_bit_other }
