use Rattle.std.proofs.Common.{◌≡◌, length}
use Rattle.bc_picture.specs.Building.{IsPlacing}
use Rattle.bc_picture.proofs.PlacedCells.{Same}
use Rattle.bc_picture.proofs.placing.place_cells.Given as goal

abbrev pub invariant-loop-cell : goal.invariant-loop-cell
invariant-loop-cell l = record {
  placing : IsPlacing l.cells l.cell-index l.space;
  same : Same l.fn.space l.space;
  long : length l.words ≡ 127;
}
