use Rattle.std.proofs.Common.{ℕ, List, refl, ap, sym, subst, arith}
use Rattle.bc_image.specs.Cells.{CellList}
use Rattle.bc_image.proofs.LinkLemmas.{item-here}
use Rattle.bc_superpages.specs.Layout.{Layout, superpages}
use Rattle.bc_picture.specs.Building.{ArePlaceable, CanBePlaced, PlacesCell}
use Rattle.bc_picture.proofs.PlacedCells.{names-placing, can-place, here-or-room, placed-more, same-then}
use Rattle.bc_picture.proofs.placing.place_cells.Goals as goal

pub loop-cell-init : goal.loop-cell-init
loop-cell-init c = record { placing = c.requires.placing; same = refl; long = refl }

pub place_cell-requires-clause-can : goal.place_cell-requires-clause-can
place_cell-requires-clause-can c =
    let cells : List CellList = c.args.cells.now in
    let i : ℕ = c.loop-cell.cell-index in
    let s : Layout = c.loop-cell.space in
    let is = item-here cells i c.cell-item.result c.loop-cell-test.true c.cell-item.is in
    let ok : ArePlaceable (superpages s) cells = subst (λ (n : ℕ). ArePlaceable n cells) (sym (ap superpages c.loop-cell.invariant.same)) c.requires.cells in
    subst (CanBePlaced s) (sym is) (can-place cells i s ok (let lt = c.loop-cell-test.true in omega arith) c.loop-cell.invariant.placing c.loop-cell-test.true)

pub place_cell-requires-clause-here : goal.place_cell-requires-clause-here
place_cell-requires-clause-here c =
    let cells : List CellList = c.args.cells.now in
    let i : ℕ = c.loop-cell.cell-index in
    let s : Layout = c.loop-cell.space in
    let is = item-here cells i c.cell-item.result c.loop-cell-test.true c.cell-item.is in
    let ok : ArePlaceable (superpages s) cells = subst (λ (n : ℕ). ArePlaceable n cells) (sym (ap superpages c.loop-cell.invariant.same)) c.requires.cells in
    rw is (here-or-room cells i s ok (let lt = c.loop-cell-test.true in omega arith) c.loop-cell.invariant.placing c.loop-cell-test.true)

pub place_cell-requires-clause-names : goal.place_cell-requires-clause-names
place_cell-requires-clause-names c =
    let cells : List CellList = c.args.cells.now in
    let i : ℕ = c.loop-cell.cell-index in
    let s : Layout = c.loop-cell.space in
    let ok : ArePlaceable (superpages s) cells = subst (λ (n : ℕ). ArePlaceable n cells) (sym (ap superpages c.loop-cell.invariant.same)) c.requires.cells in
    names-placing cells i s ok (let lt = c.loop-cell-test.true in omega arith) c.loop-cell.invariant.placing

pub loop-cell-preserved : goal.loop-cell-preserved
loop-cell-preserved c =
    let cells : List CellList = c.args.cells.now in
    let i : ℕ = c.loop-cell.cell-index in
    let s : Layout = c.loop-cell.space in
    let t : Layout = c.place_cell.new.space in
    let is = item-here cells i c.cell-item.result c.loop-cell-test.true c.cell-item.is in
    let ok : ArePlaceable (superpages s) cells = subst (λ (n : ℕ). ArePlaceable n cells) (sym (ap superpages c.loop-cell.invariant.same)) c.requires.cells in
    record {
      placing = placed-more cells i s t ok c.loop-cell-test.true c.loop-cell.invariant.placing (subst (PlacesCell s t) is c.place_cell.ensures.places);
      same = same-then c.args.space.now s t c.loop-cell.invariant.same c.place_cell.ensures.places.same;
      long = c.place_cell.ensures.long;
    }
