use Rattle.std.proofs.Common.{ℕ, refl, sym, ap, ◌∙◌}
use Rattle.std.proofs.lemmas.List.{get_or_read}
use Rattle.bc_image.specs.Cells.{CellList}
use Rattle.bc_image.specs.Memories.{no_cell}
use Rattle.bc_image.proofs.LinkLemmas.{fields-more, fields-found, fields-end}
use Rattle.bc_image.proofs.linking.lost_field.Goals as goal

pub loop-index-init : goal.loop-index-init
loop-index-init c all h = refl

pub returns-in-Some : goal.returns-in-Some
returns-in-Some c all h =
    let k : ℕ = c.loop-index.index in
    let lt = c.loop-index-test.true in
    let is = c.cell.view_is ∙ get_or_read c.args.cells.now k c.index-cells-index.result lt c.index-cells-index.is no_cell in
    fields-found all c.args.heads.now c.args.cells.now k c.deref.result.now _ c.in-Some.number lt (c.deref.ensures.value ∙ ap (λ (x : CellList). x.fields) is) refl (c.loop-index.invariant all h) (sym c.in-Some.is ∙ c.lost_word.ensures all h)

pub loop-index-preserved : goal.loop-index-preserved
loop-index-preserved c all h =
    let k : ℕ = c.loop-index.index in
    let lt = c.loop-index-test.true in
    let is = c.cell.view_is ∙ get_or_read c.args.cells.now k c.index-cells-index.result lt c.index-cells-index.is no_cell in
    fields-more all c.args.heads.now c.args.cells.now k c.deref.result.now _ (c.deref.ensures.value ∙ ap (λ (x : CellList). x.fields) is) refl (c.loop-index.invariant all h) (sym c.in_default.is ∙ c.lost_word.ensures all h)

pub returns : goal.returns
returns c all h = fields-end all c.args.heads.now c.args.cells.now c.loop-index.index c.loop-index-test.false c.loop-index.auto.index-end (c.loop-index.invariant all h)
