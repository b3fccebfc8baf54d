use Rattle.std.proofs.Common.{◌≡◌, length, take}
use Rattle.bc_image.specs.Homes.{HasHomes}
use Rattle.bc_image.proofs.addresses.homes.Given as goal

abbrev pub invariant-loop-cell : goal.invariant-loop-cell
invariant-loop-cell l = record {
  sized : length l.there.items ≡ l.words;
  homes : HasHomes (take l.cell-index l.cells) l.there.items;
}
