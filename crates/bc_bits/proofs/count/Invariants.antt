use Rattle.std.proofs.Common.{◌≡◌, ◌≤◌}
use Rattle.bc_bits.specs.Bits.{has}
use Rattle.bc_bits.specs.Counting.{count_below}
use Rattle.bc_bits.proofs.count.Given as goal

abbrev pub invariant-loop-bit : goal.invariant-loop-bit
invariant-loop-bit l = (l.total ≡ count_below (has l.set) l.bit) × (l.total ≤ l.bit)
