use Rattle.bc_bits.proofs.CountLemmas.{count_below-none, count_below-all, count_below-more}
use Rattle.bc_bits.proofs.law_count.Goals as goal

pub returns : goal.returns
returns c = record { none = count_below-none; all = count_below-all; more = count_below-more }
