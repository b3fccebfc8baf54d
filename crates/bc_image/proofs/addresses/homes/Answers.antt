use Rattle.std.proofs.Common.{ap, ◌∙◌, arith}
use Rattle.std.proofs.lemmas.List.{length-replicate}
use Rattle.bc_bits.proofs.BitLemmas.{length-with_bit}
use Rattle.bc_image.specs.Cells.{CellList}
use Rattle.bc_image.proofs.LinkLemmas.{homes-begin, home-below, homes-more}
use Rattle.bc_image.proofs.addresses.homes.Goals as goal

pub loop-cell-init : goal.loop-cell-init
loop-cell-init c = rw (c.in_ok-there.ensures.items_if_clones_equal (λ y e. e)) (record { sized = length-replicate c.args.words 0; homes = homes-begin c.args.words })

pub note_home-requires : goal.note_home-requires
note_home-requires c =
    let at = ap (λ (x : CellList). x.address) c.cell.view_is in
    let below = home-below c.args.cells.now c.loop-cell.cell-index c.cell-item.result c.cell.inside.address.0 c.loop-cell-test.true c.cell-item.is at c.args.words c.requires in
    let sized = c.loop-cell.invariant.sized in
    omega arith

pub loop-cell-preserved : goal.loop-cell-preserved
loop-cell-preserved c =
    let at = ap (λ (x : CellList). x.address) c.cell.view_is in
    let below = home-below c.args.cells.now c.loop-cell.cell-index c.cell-item.result c.cell.inside.address.0 c.loop-cell-test.true c.cell-item.is at c.args.words c.requires in
    let sized = c.loop-cell.invariant.sized in
    rw c.note_home.ensures (record {
      sized = length-with_bit c.loop-cell.there.items c.cell.inside.address.0 ∙ sized;
      homes = homes-more c.args.cells.now c.loop-cell.cell-index c.cell-item.result c.cell.inside.address.0 c.loop-cell-test.true c.cell-item.is at c.loop-cell.there.items (omega arith) c.loop-cell.invariant.homes;
    })
