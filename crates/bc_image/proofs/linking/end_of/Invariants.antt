use Rattle.std.proofs.Common.{ℕ, ◌<◌}
use Rattle.bc_image.specs.Memories.{cell_at}
use Rattle.bc_image.proofs.linking.end_of.Given as goal

abbrev pub invariant-loop-cell : goal.invariant-loop-cell
invariant-loop-cell l = (k : ℕ) → k < l.cell-index → (cell_at l.cells k).address < l.end
