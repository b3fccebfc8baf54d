use Rattle.std.proofs.Common.{ℕ, ◌+◌, ◌<◌, ◌≤◌, List, length, slice_index, sym, ap, subst, ◌∙◌, arith}
use Rattle.bc_image.specs.Cells.{CellList}
use Rattle.bc_image.specs.Listings.{ListingLists}
use Rattle.bc_superpages.specs.Layout.{Layout, superpages}
use Rattle.bc_word.specs.WordBits.{IsPacked}
use Rattle.bc_picture.specs.Building.{ArePlaceable, PromisesFirst, IsPlacing}
use Rattle.bc_picture.proofs.BuiltHeaps.{placeable, new-own, placing-none, built-whole}
use Rattle.bc_picture.proofs.PlacedCells.{packed-words}
use Rattle.bc_picture.proofs.building.fill.Goals as goal

pub put_roots-requires-clause-packed : goal.put_roots-requires-clause-packed
put_roots-requires-clause-packed c =
    let l : ListingLists = c.args.listing.now in
    let is = c.deref.ensures.value ∙ ap (λ (m : ListingLists). m.roots) c.listing.view_is in
    subst (λ (ns : List ℕ). (k : ℕ) → k < length ns → IsPacked (slice_index ns k)) (sym is)
    (packed-words l.setup.superpages l.cells l.roots (placeable l c.requires.image) c.requires.image.roots)

pub promise_cells-requires-clause-cells : goal.promise_cells-requires-clause-cells
promise_cells-requires-clause-cells c =
    let l : ListingLists = c.args.listing.now in
    let s : Layout = c.args.space in
    let own = new-own s l.setup.superpages l.setup.frames _ c.requires.new in
    let is = c.deref-2.ensures.value ∙ ap (λ (m : ListingLists). m.cells) c.listing.view_is in
    subst (ArePlaceable (superpages s)) (sym is) (subst (λ (n : ℕ). ArePlaceable n l.cells) (sym own.0) (placeable l c.requires.image))

pub place_cells-requires-clause-cells : goal.place_cells-requires-clause-cells
place_cells-requires-clause-cells c =
    let l : ListingLists = c.args.listing.now in
    let s : Layout = c.args.space in
    let t : Layout = c.promise_cells.new.space in
    let own = new-own s l.setup.superpages l.setup.frames _ c.requires.new in
    let is = c.deref-3.ensures.value ∙ ap (λ (m : ListingLists). m.cells) c.listing.view_is in
    subst (ArePlaceable (superpages t)) (sym is) (subst (λ (n : ℕ). ArePlaceable n l.cells) (sym (c.promise_cells.ensures.promises.long ∙ own.0)) (placeable l c.requires.image))

pub place_cells-requires-clause-placing : goal.place_cells-requires-clause-placing
place_cells-requires-clause-placing c =
    let l : ListingLists = c.args.listing.now in
    let s : Layout = c.args.space in
    let t : Layout = c.promise_cells.new.space in
    let own = new-own s l.setup.superpages l.setup.frames _ c.requires.new in
    let first = c.deref-2.ensures.value ∙ ap (λ (m : ListingLists). m.cells) c.listing.view_is in
    let second = c.deref-3.ensures.value ∙ ap (λ (m : ListingLists). m.cells) c.listing.view_is in
    let h : PromisesFirst s l.cells (length l.cells) t = subst (λ (cs : List CellList). PromisesFirst s cs (length cs) t) first c.promise_cells.ensures.promises in
    let low = c.requires.image.setup.frames.0 in
    let frames : s.nursery + 1 ≤ s.frames = subst (λ (m : Layout). m.nursery + 1 ≤ m.frames) (sym c.requires.new) (omega arith) in
    subst (λ (cs : List CellList). IsPlacing cs 0 t) (sym second) (placing-none s t l.cells own.1 h frames)

pub returns-clause-space : goal.returns-clause-space
returns-clause-space c =
    let l : ListingLists = c.args.listing.now in
    let s : Layout = c.args.space in
    let t : Layout = c.promise_cells.new.space in
    let u : Layout = c.place_cells.new.space in
    let own = new-own s l.setup.superpages l.setup.frames _ c.requires.new in
    let first = c.deref-2.ensures.value ∙ ap (λ (m : ListingLists). m.cells) c.listing.view_is in
    let second = c.deref-3.ensures.value ∙ ap (λ (m : ListingLists). m.cells) c.listing.view_is in
    let h : PromisesFirst s l.cells (length l.cells) t = subst (λ (cs : List CellList). PromisesFirst s cs (length cs) t) first c.promise_cells.ensures.promises in
    let p : IsPlacing l.cells (length l.cells) u = subst (λ (cs : List CellList). IsPlacing cs (length cs) u) second c.place_cells.ensures.placed in
    built-whole l s t u c.requires.new own.0 h p c.place_cells.ensures.same
