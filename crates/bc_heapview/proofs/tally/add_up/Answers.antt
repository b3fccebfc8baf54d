-- One find more is counted.
use Rattle.std.proofs.Common.{◌≡◌, ℕ, ◌+◌, ◌*◌, ◌<◌, ◌≤◌, List, length, ap, sym, subst, ◌∙◌, arith}
use Rattle.std.proofs.lemmas.List.{get_or_read, length-set}
use Rattle.bc_classes.specs.Classes.{class_of}
use Rattle.bc_classes.specs.ClassNumbers.{IsClass}
use Rattle.bc_classes.proofs.ClassLemmas.{class_of-class}
use Rattle.bc_image.specs.Cells.{CellList}
use Rattle.bc_image.specs.Memories.{cell_at, no_cell}
use Rattle.bc_heapview.specs.Searches.{find_at}
use Rattle.bc_heapview.proofs.TallyLemmas.{class-small, small-more, tallied-more}
use Rattle.bc_heapview.proofs.tally.add_up.Goals as goal

pub bounds-tally-head : goal.bounds-tally-head
bounds-tally-head c =
    let node : ℕ = (find_at c.args.found.now c.loop-find.find-index).node in
    let node_in = c.requires.nodes c.loop-find.find-index c.loop-find-test.true in
    let is = c.cell.view_is ∙ get_or_read c.args.cells.now node c.index-cells-find.result node_in c.index-cells-find.is no_cell in
    let d_is = ap (λ (x : CellList). x.head.domain) is in
    let d_in = c.requires.cells.domains node node_in in
    let class = class-small c.class_of-class.result (subst IsClass (sym c.class_of-class.ensures.class) (class_of-class c.cell.inside.head.fields)) in
    let size = c.loop-find.invariant.size in
    omega (arith, d_is, d_in, class, size)

pub bounds-tally-head-in-loop-find : goal.bounds-tally-head-in-loop-find
bounds-tally-head-in-loop-find c =
    let node : ℕ = (find_at c.args.found.now c.loop-find.find-index).node in
    let node_in = c.requires.nodes c.loop-find.find-index c.loop-find-test.true in
    let is = c.cell.view_is ∙ get_or_read c.args.cells.now node c.index-cells-find.result node_in c.index-cells-find.is no_cell in
    let d_is = ap (λ (x : CellList). x.head.domain) is in
    let d_in = c.requires.cells.domains node node_in in
    let class = class-small c.class_of-class.result (subst IsClass (sym c.class_of-class.ensures.class) (class_of-class c.cell.inside.head.fields)) in
    let size = c.loop-find.invariant.size in
    omega (arith, d_is, d_in, class, size)

pub loop-find-preserved : goal.loop-find-preserved
loop-find-preserved c =
    let k : ℕ = c.loop-find.find-index in
    let node : ℕ = (find_at c.args.found.now k).node in
    let node_in = c.requires.nodes k c.loop-find-test.true in
    let is = c.cell.view_is ∙ get_or_read c.args.cells.now node c.index-cells-find.result node_in c.index-cells-find.is no_cell in
    let d : ℕ = c.cell.inside.head.domain in
    let j : ℕ = c.class_of-class.result in
    let d_is : d ≡ (cell_at c.args.cells.now node).head.domain = ap (λ (x : CellList). x.head.domain) is in
    let j_is : j ≡ class_of (cell_at c.args.cells.now node).head.fields = c.class_of-class.ensures.class ∙ ap (λ (x : CellList). class_of x.head.fields) is in
    let domain = c.requires.cells.domains node node_in in
    let d_in : d < 64 = omega (arith, d_is, domain) in
    let j_in : j < 129 = class-small j (subst IsClass (sym c.class_of-class.ensures.class) (class_of-class c.cell.inside.head.fields)) in
    let size = c.loop-find.invariant.size in
    record {
      size = length-set c.loop-find.tally (129 * d + j) _ ∙ size;
      tally = tallied-more c.args.cells.now c.args.found.now c.loop-find.tally k d j c.loop-find-test.true size d_in j_in d_is j_is c.loop-find.invariant.tally;
      small = small-more c.loop-find.tally (129 * d + j) k (omega (arith, d_in, j_in, size)) c.loop-find.invariant.small;
    }
