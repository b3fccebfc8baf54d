use Rattle.bc_picture.specs.Building.{PromisesFirst}
use Rattle.bc_picture.proofs.promising.promise_cells.Given as goal

abbrev pub invariant-loop-cell : goal.invariant-loop-cell
invariant-loop-cell l = PromisesFirst l.fn.space l.cells l.cell-index l.space
