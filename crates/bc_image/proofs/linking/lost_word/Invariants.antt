use Rattle.std.proofs.Common.{List}
use Rattle.bc_image.specs.Cells.{CellList}
use Rattle.bc_image.specs.Homes.{HasHomes}
use Rattle.bc_image.proofs.LinkLemmas.{IsLooking}
use Rattle.bc_image.proofs.linking.lost_word.Given as goal

abbrev pub invariant-loop-place : goal.invariant-loop-place
invariant-loop-place l = (cells : List CellList) → HasHomes cells l.there → IsLooking cells l.number l.words l.place
