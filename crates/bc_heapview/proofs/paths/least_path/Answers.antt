use Rattle.std.proofs.Common.{◌≡◌, ℕ, List, length, ap, sym, ◌∙◌, arith}
use Rattle.bc_model.specs.declared.traces.Setup.{Setup}
use Rattle.bc_image.specs.Listings.{ListingLists}
use Rattle.bc_heapview.proofs.PathLemmas.{answer-none, answer-some}
use Rattle.bc_heapview.proofs.paths.least_path.Goals as goal

pub returns-in-None-clause-least : goal.returns-in-None-clause-least
returns-in-None-clause-least c =
    let roots = ap (λ (l : ListingLists). l.roots) c.listing.view_is in
    let cells = ap (λ (l : ListingLists). l.cells) c.listing.view_is in
    answer-none c.args.listing.now c.args.birth c.deref-2.result.now c.deref-3.result.now c.deref-5.result.now c.in_ok-found.found.items c.deref-4.result.now (c.deref-2.ensures.value ∙ roots) (c.deref-3.ensures.value ∙ cells) (c.deref-5.ensures.value ∙ cells) c.deref-4.ensures.value c.in_ok-found.ensures.searched c.in-None.ensures.found

pub returns-clause-least : goal.returns-clause-least
returns-clause-least c =
    let roots = ap (λ (l : ListingLists). l.roots) c.listing.view_is in
    let cells = ap (λ (l : ListingLists). l.cells) c.listing.view_is in
    let slots : c.listing.inside.setup.slots ≡ c.args.listing.now.setup.slots = ap (λ (l : ListingLists). l.setup.slots) c.listing.view_is in
    answer-some c.args.listing.now c.args.birth c.deref-2.result.now c.deref-3.result.now c.deref-5.result.now c.deref-7.result.now c.in_ok-found.found.items c.deref-4.result.now c.deref-6.result.now c.in-Some.entry c.in_ok-place.place c.listing.inside.setup.slots c.in_ok-place.first c.in_ok-place.steps.items
    (c.deref-2.ensures.value ∙ roots) (c.deref-3.ensures.value ∙ cells) (c.deref-5.ensures.value ∙ cells) (c.deref-7.ensures.value ∙ cells) c.deref-4.ensures.value c.deref-6.ensures.value slots (rw slots c.requires.slots) c.in_ok-found.ensures.searched c.in-Some.ensures.found c.in_ok-place.ensures.way

pub returns-clause-few : goal.returns-clause-few
returns-clause-few c =
    let cells = ap (λ (l : ListingLists). length l.cells) c.listing.view_is in
    let entry = c.in-Some.ensures.found.0 in
    let back = c.in_ok-place.ensures.few in
    let few = c.in_ok-found.ensures.few in
    omega (arith, cells, entry, back, few, ap length c.deref-3.ensures.value, ap length c.deref-4.ensures.value)
