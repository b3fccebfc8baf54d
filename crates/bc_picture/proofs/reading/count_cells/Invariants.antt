use Rattle.std.proofs.Common.{◌≡◌, ◌≤◌}
use Rattle.bc_bits.specs.Bits.{has}
use Rattle.bc_bits.specs.Counting.{count_below}
use Rattle.bc_picture.proofs.reading.count_cells.Given as goal

abbrev pub invariant-loop-cell : goal.invariant-loop-cell
invariant-loop-cell l = (l.count ≡ count_below (has l.header.cells) l.cell) × (l.count ≤ l.cell)
