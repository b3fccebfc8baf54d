use Rattle.std.proofs.Common.{◌≡◌, ℕ, ◌<◌, List, [], ◌∷◌, length, length-append, arith, refl, sym, ap, subst, ◌∙◌}
use Rattle.std.proofs.lemmas.List.{length-reverse}
use Rattle.std.proofs.lemmas.List.{get_or_read}
use Rattle.bc_standing.specs.Standing.{birth_of}
use Rattle.bc_model.specs.declared.values.Birth.{Birth}
use Rattle.bc_image.specs.Cells.{CellList}
use Rattle.bc_image.specs.Memories.{no_cell}
use Rattle.bc_heapview.specs.Backs.{WayLeadsTo, birth_at}
use Rattle.bc_heapview.specs.Searches.{HasOrigin, IsSearched, find_at}
use Rattle.bc_heapview.specs.declared.search.Origin.TheVariants.{Slot, Field}
use Rattle.bc_heapview.proofs.BackLemmas.{back-begin, back-more, back-end}
use Rattle.bc_heapview.proofs.paths.way_back.Goals as goal

pub returns-in-Slot-clause-way : goal.returns-in-Slot-clause-way
returns-in-Slot-clause-way c roots s =
    let cells : List CellList = c.args.cells.now in
    let at : ℕ = c.loop-place.at in
    let within = c.loop-place.invariant.within in
    let node : ℕ = (find_at c.args.found.now at).node in
    let birth : Birth = record { lane = c.cell.inside.head.lane; serial = c.cell.inside.head.serial } in
    let birth-is : birth ≡ birth_at cells node = ap (λ (x : CellList). birth_of x.head) (c.cell.view_is ∙ get_or_read cells node c.index-cells-find.result (c.requires.nodes at within) c.index-cells-find.is no_cell) in
    let to : WayLeadsTo roots cells (s.ways at) birth = (node, s.finds.leading at within, sym birth-is) in
    let from = subst (HasOrigin s.ways at) c.in-Slot.is (s.finds.origin at within) in
    rw c.reverse.ensures.items (back-end roots cells s.ways at c.args.entry c.in-Slot.place birth c.loop-place.steps.items from to (c.loop-place.invariant.back roots s))

pub returns-in-Slot-clause-few : goal.returns-in-Slot-clause-few
returns-in-Slot-clause-few c = let few = c.loop-place.invariant.few in omega (arith, few, ap length c.reverse.ensures.items, length-reverse c.loop-place.steps.items)

pub loop-place-preserved : goal.loop-place-preserved
loop-place-preserved c =
    let cells : List CellList = c.args.cells.now in
    let at : ℕ = c.loop-place.at in
    let within = c.loop-place.invariant.within in
    let node : ℕ = (find_at c.args.found.now at).node in
    let birth : Birth = record { lane = c.cell.inside.head.lane; serial = c.cell.inside.head.serial } in
    let birth-is : birth ≡ birth_at cells node = ap (λ (x : CellList). birth_of x.head) (c.cell.view_is ∙ get_or_read cells node c.index-cells-find.result (c.requires.nodes at within) c.index-cells-find.is no_cell) in
    let any = c.requires.searched.1 in
    let before = (subst (HasOrigin any.ways at) c.in-Field.is (any.finds.origin at within)).0 in
    record {
      within = omega (arith, before, within);
      few = let few = c.loop-place.invariant.few in omega (arith, before, few, ap length c.in_ok-push-in-Field.ensures.items, length-append c.loop-place.steps.items (record { field = c.in-Field.field; birth = birth } ∷ []));
      back = λ roots s.
          let to : WayLeadsTo roots cells (s.ways at) birth = (node, s.finds.leading at within, sym birth-is) in
          let from = subst (HasOrigin s.ways at) c.in-Field.is (s.finds.origin at within) in
          rw c.in_ok-push-in-Field.ensures.items (back-more roots cells s.ways at c.args.entry c.in-Field.before (record { field = c.in-Field.field; birth = birth }) c.loop-place.steps.items from.1 to (c.loop-place.invariant.back roots s));
    }
