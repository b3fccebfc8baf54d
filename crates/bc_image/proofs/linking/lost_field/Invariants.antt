use Rattle.std.proofs.Common.{◌≡◌, List, None}
use Rattle.bc_image.specs.Cells.{CellList}
use Rattle.bc_image.specs.Homes.{HasHomes}
use Rattle.bc_image.specs.Numbered.{words_below, first_lost}
use Rattle.bc_image.proofs.linking.lost_field.Given as goal

abbrev pub invariant-loop-index : goal.invariant-loop-index
invariant-loop-index l = (all : List CellList) → HasHomes all l.there → first_lost all (words_below l.heads l.cells l.index) ≡ None
