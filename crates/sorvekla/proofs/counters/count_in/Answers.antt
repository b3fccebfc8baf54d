use Rattle.std.proofs.Common.{arith}
use Rattle.bc_bits.specs.Bits.{has}
use Rattle.bc_bits.proofs.CountLemmas.{count_below-le}
use Rattle.sorvekla.proofs.counters.count_in.Goals as goal

pub returns-then-header-class-clause-few : goal.returns-then-header-class-clause-few
returns-then-header-class-clause-few c =
    let most = count_below-le (has c.args.header.now.cells) 1024 in
    omega (arith, most, c.count.ensures.count)
