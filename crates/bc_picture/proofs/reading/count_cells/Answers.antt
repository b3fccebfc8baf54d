use Rattle.std.proofs.Common.{◌≡◌, ap, sym, ◌∙◌, arith}
use Rattle.bc_bits.specs.Bits.{has}
use Rattle.bc_bits.specs.Counting.{count_below, one_if}
use Rattle.bc_classes.specs.Classes.{cap}
use Rattle.bc_picture.proofs.CellLists.{count-start, count-more}
use Rattle.bc_picture.proofs.reading.count_cells.Goals as goal
use Rattle.bc_picture.proofs.reading.count_cells.Goals.{then-contains, else-contains}

pub loop-cell-init : goal.loop-cell-init
loop-cell-init c = (sym (count-start (has c.args.header.now.cells)), omega arith)

pub loop-cell-preserved : goal.loop-cell-preserved
loop-cell-preserved c =
    let h = c.loop-cell.invariant in
    let more = count-more (has c.args.header.now.cells) c.loop-cell.cell in
    elim c.if-contains.branch [
      | then-contains w ↦
          let one : one_if (has c.args.header.now.cells c.loop-cell.cell) ≡ 1 = ap one_if (sym c.contains.ensures.test ∙ w.if-contains.true) in
          let is = w.count-is in
          (omega (arith, is, h.0, more, one), omega (arith, is, h.1))
      | else-contains w ↦
          let none : one_if (has c.args.header.now.cells c.loop-cell.cell) ≡ 0 = ap one_if (sym c.contains.ensures.test ∙ w.if-contains.false) in
          let is = w.count-is in
          (omega (arith, is, h.0, more, none), omega (arith, is, h.1))
    ]

pub returns : goal.returns
returns c =
    let all : c.loop-cell.cell ≡ cap c.args.header.now.class = omega (arith, c.loop-cell-test.false, c.loop-cell.auto.cell-end, c.cap-cell-end.ensures.cells) in
    c.loop-cell.invariant.0 ∙ ap (count_below (has c.args.header.now.cells)) all
