use Rattle.std.proofs.Common.{◌%◌, sym, arith}
use Rattle.bc_bits.specs.Bits.{has}
use Rattle.bc_bits.proofs.BitLemmas.{word_test, has-beyond}
use Rattle.bc_image.proofs.addresses.is_there.Goals as goal

pub returns-then-word-there : goal.returns-then-word-there
returns-then-word-there c = sym (has-beyond c.args.there.now c.args.at (omega arith))

pub returns : goal.returns
unfolding has
returns c = word_test _ (c.args.at % 64) (omega arith)
