use Rattle.std.proofs.Common.{◌≡◌, ◌≢◌, ℕ, true, [], Option, ap, sym, subst, ◌∙◌}
use Rattle.std.specs.List.{flat_map}
use Rattle.bc_bookmarks.proofs.MovingLemmas.{MovesPages-none}
use Rattle.bc_bookmarks.proofs.PageCells.{header-class, here-none, here-allocated}
use Rattle.bc_image.specs.Images.{cell_items}
use Rattle.bc_memory.specs.Memory.{Cell, Memory}
use Rattle.bc_superpages.specs.declared.headers.PageState.TheVariants.{Absent}
use Rattle.bc_superpages.specs.Headers.{is_resident}
use Rattle.bc_superpages.specs.Layout.{Layout}
use Rattle.bc_superpages.specs.LayoutAt.{header_of, state_at, IsAllocated}
use Rattle.bc_superpages.specs.Memory.{memory}
use Rattle.bc_word.specs.Addresses.{superpage_of}
use Rattle.bc_picture.specs.SpaceListing.{listed_cell}
use Rattle.bc_picture.proofs.StreamLemmas.{on-ok-map, on-err-map, puts-start, puts-is, breaks-is, room-is}
use Rattle.bc_picture.proofs.ReadLemmas.{moved-memory, allocated-there}
use Rattle.bc_picture.proofs.superpages.put_at.Goals as goal

pub cell-requires : goal.cell-requires
cell-requires g c = header-class c.args.space.now c.header-header.result.now c.superpage.result c.facts.ensures.kept (rw c.superpage.ensures.superpage c.requires.superpage) c.header-header.ensures.header

pub returns-then-not-contains-clause-puts : goal.returns-then-not-contains-clause-puts
returns-then-not-contains-clause-puts g c =
    let s = c.args.space.now in
    let a = c.args.cell.0 in
    let h = c.header-header.result.now in
    let is : h ≡ header_of s (superpage_of a) = c.header-header.ensures.header ∙ ap (header_of s) c.superpage.ensures.superpage in
    let none = here-none s h a c.cell.result is c.cell.ensures.cell (sym c.contains.ensures.test ∙ c.if-not-contains.true) in
    puts-is _ _ (flat_map cell_items (listed_cell a (memory s a))) [] (ap (λ (o : Option Cell). flat_map cell_items (listed_cell a o)) none) (puts-start _)

pub returns-then-not-contains-clause-moves : goal.returns-then-not-contains-clause-moves
returns-then-not-contains-clause-moves g c = MovesPages-none c.args.space.now c.requires.readable.summarised

pub open-requires-clause-there : goal.open-requires-clause-there
open-requires-clause-there g c =
    let s = c.args.space.now in
    let a = c.args.cell.0 in
    let h = c.header-header.result.now in
    let is : h ≡ header_of s (superpage_of a) = c.header-header.ensures.header ∙ ap (header_of s) c.superpage.ensures.superpage in
    let on = here-allocated s h a c.cell.result is c.cell.ensures.cell c.requires.start (sym c.contains.ensures.test ∙ c.if-not-contains.false) in
    subst (λ (p : ℕ). state_at s.states p ≢ Absent) (sym c.page.ensures.page) (allocated-there s a c.facts.ensures.kept on)

pub put_object-requires-clause-cell : goal.put_object-requires-clause-cell
put_object-requires-clause-cell g c =
    let s = c.args.space.now in
    let a = c.args.cell.0 in
    let h = c.header-header.result.now in
    let is : h ≡ header_of s (superpage_of a) = c.header-header.ensures.header ∙ ap (header_of s) c.superpage.ensures.superpage in
    let on = here-allocated s h a c.cell.result is c.cell.ensures.cell c.requires.start (sym c.contains.ensures.test ∙ c.if-not-contains.false) in
    record {
      allocated = subst (λ (l : Layout). IsAllocated l a) (sym c.open.ensures.moves.same) on;
      resident = subst (λ (p : ℕ). is_resident (state_at c.open.new.space.states p) ≡ true) c.page.ensures.page c.open.ensures.here;
    }

pub put_object-requires-clause-room : goal.put_object-requires-clause-room
put_object-requires-clause-room g c =
    let xs = flat_map cell_items (listed_cell c.args.cell.0 (memory c.args.space.now c.args.cell.0)) in
    let ys = flat_map cell_items (listed_cell c.args.cell.0 (memory c.open.new.space c.args.cell.0)) in
    let e : xs ≡ ys = ap (λ (m : Memory). flat_map cell_items (listed_cell c.args.cell.0 (m c.args.cell.0))) (sym (moved-memory c.args.space.now c.open.new.space c.open.ensures.moves)) in
    room-is _ _ xs ys e c.requires.room

pub returns-clause-puts : goal.returns-clause-puts
returns-clause-puts g c =
    let xs = flat_map cell_items (listed_cell c.args.cell.0 (memory c.args.space.now c.args.cell.0)) in
    let ys = flat_map cell_items (listed_cell c.args.cell.0 (memory c.open.new.space c.args.cell.0)) in
    let e : xs ≡ ys = ap (λ (m : Memory). flat_map cell_items (listed_cell c.args.cell.0 (m c.args.cell.0))) (sym (moved-memory c.args.space.now c.open.new.space c.open.ensures.moves)) in
    on-ok-map _ _ c.put_object.result (λ h. puts-is _ _ xs ys e h) c.put_object.ensures.puts

pub returns-clause-breaks : goal.returns-clause-breaks
returns-clause-breaks g c =
    let xs = flat_map cell_items (listed_cell c.args.cell.0 (memory c.args.space.now c.args.cell.0)) in
    let ys = flat_map cell_items (listed_cell c.args.cell.0 (memory c.open.new.space c.args.cell.0)) in
    let e : xs ≡ ys = ap (λ (m : Memory). flat_map cell_items (listed_cell c.args.cell.0 (m c.args.cell.0))) (sym (moved-memory c.args.space.now c.open.new.space c.open.ensures.moves)) in
    on-err-map _ _ c.put_object.result (λ h. breaks-is _ _ xs ys e h) c.put_object.ensures.breaks
