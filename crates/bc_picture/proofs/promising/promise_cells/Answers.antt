use Rattle.std.proofs.Common.{ℕ, ◌<◌, ◌^◌, List, sym, ap, subst, ◌∙◌, arith}
use Rattle.bc_classes.specs.Classes.{class_of}
use Rattle.bc_classes.specs.ClassNumbers.{IsClass}
use Rattle.bc_classes.proofs.ClassLemmas.{class_of-class}
use Rattle.bc_image.specs.Cells.{CellList}
use Rattle.bc_image.proofs.LinkLemmas.{item-here}
use Rattle.bc_superpages.specs.Calls.{CanPromiseAt, with_promise}
use Rattle.bc_superpages.specs.Layout.{Layout}
use Rattle.bc_picture.proofs.PromisedCells.{promises-none, can-promise, promises-more}
use Rattle.bc_picture.proofs.promising.promise_cells.Goals as goal

pub loop-cell-init : goal.loop-cell-init
loop-cell-init c = promises-none c.args.space.now c.args.cells.now c.requires.new

pub class_of-requires : goal.class_of-requires
class_of-requires c =
    let cells : List CellList = c.args.cells.now in
    let i : ℕ = c.loop-cell.cell-index in
    let is = c.cell.view_is ∙ item-here cells i c.cell-item.result c.loop-cell-test.true c.cell-item.is in
    let few : c.cell.inside.head.fields < 2 ^ 7 = subst (λ (x : CellList). x.head.fields < 2 ^ 7) (sym is) ((c.requires.cells.each i c.loop-cell-test.true).head.fields) in
    omega arith

pub promise_at-requires-clause-class : goal.promise_at-requires-clause-class
promise_at-requires-clause-class c = subst IsClass (sym c.class_of.ensures.class) (class_of-class c.cell.inside.head.fields)

pub promise_at-requires-clause-may : goal.promise_at-requires-clause-may
promise_at-requires-clause-may c =
    let cells : List CellList = c.args.cells.now in
    let i : ℕ = c.loop-cell.cell-index in
    let t : Layout = c.loop-cell.space in
    let is = c.cell.view_is ∙ item-here cells i c.cell-item.result c.loop-cell-test.true c.cell-item.is in
    subst (λ (n : ℕ). CanPromiseAt t c.cell.inside.head.domain n c.cell.inside.address.0) (sym c.class_of.ensures.class)
    (subst (λ (x : CellList). CanPromiseAt t x.head.domain (class_of x.head.fields) x.address) (sym is)
    (can-promise c.args.space.now t cells i c.requires.new c.facts.ensures.kept c.requires.cells c.loop-cell-test.true c.loop-cell.invariant))

pub loop-cell-preserved : goal.loop-cell-preserved
loop-cell-preserved c =
    let cells : List CellList = c.args.cells.now in
    let i : ℕ = c.loop-cell.cell-index in
    let t : Layout = c.loop-cell.space in
    let is = c.cell.view_is ∙ item-here cells i c.cell-item.result c.loop-cell-test.true c.cell-item.is in
    promises-more c.args.space.now t cells i c.requires.new c.facts.ensures.kept c.requires.cells c.loop-cell-test.true c.loop-cell.invariant c.promise_at.new.self
    (c.promise_at.ensures.promised
    ∙ ap (λ (n : ℕ). with_promise t c.cell.inside.head.domain n c.cell.inside.address.0) c.class_of.ensures.class
    ∙ ap (λ (x : CellList). with_promise t x.head.domain (class_of x.head.fields) x.address) is)
