use Rattle.std.proofs.Common.{◌≡◌, ℕ, ◌^◌, ◌<◌, ◌≤◌, List, length, get_or, ap, sym, subst, ◌∙◌, rules, arith}
use Rattle.std.proofs.lemmas.List.{with_items_is}
use Rattle.bc_image.specs.Listings.{ListingLists}
use Rattle.bc_heapview.specs.Searches.{IsSearched}
use Rattle.bc_heapview.specs.Tallies.{IsPairTally}
use Rattle.bc_heapview.specs.declared.search.Found.{Found}
use Rattle.bc_heapview.proofs.BirthLemmas.{searched-tally}
use Rattle.bc_heapview.proofs.TallyLemmas.{zeros-at}
use Rattle.bc_heapview.proofs.tally.tally_of.Goals as goal

pub add_up-requires-clause-zeros : goal.add_up-requires-clause-zeros
add_up-requires-clause-zeros c = λ i. ap (λ (xs : List ℕ). get_or xs i 0) (c.deref_mut.ensures.value ∙ c.in_ok-tally.ensures.items_if_clones_equal (λ y e. e)) ∙ zeros-at 8256 i

pub returns-clause-tally : goal.returns-clause-tally
returns-clause-tally c =
    let roots = ap (λ (l : ListingLists). l.roots) c.listing.view_is in
    let cells = ap (λ (l : ListingLists). l.cells) c.listing.view_is in
    let kept = with_items_is c.in_ok-tally.tally c.add_up.new.tally (search rules) in
    let h = searched-tally c.args.listing.now c.deref-2.result.now c.deref-3.result.now c.deref-5.result.now c.in_ok-found.found.items c.deref-4.result.now c.add_up.new.tally (c.deref-2.ensures.value ∙ roots) (c.deref-3.ensures.value ∙ cells) (c.deref-5.ensures.value ∙ cells) c.deref-4.ensures.value
    c.in_ok-found.ensures.searched c.add_up.ensures.tally in
    (h.0, h.1, subst (λ (t : List ℕ). IsPairTally c.args.listing.now.cells h.0 t) (sym kept) h.2)

pub returns-clause-small : goal.returns-clause-small
returns-clause-small c = λ i.
    let kept = with_items_is c.in_ok-tally.tally c.add_up.new.tally (search rules) in
    let cells = ap (λ (l : ListingLists). length l.cells) c.listing.view_is in
    let le = c.add_up.ensures.small i in
    let few = c.in_ok-found.ensures.few in
    let most = c.requires.viewable.few in
    subst (λ (t : List ℕ). get_or t i 0 < 2 ^ 32) (sym kept) (omega (arith, le, few, most, cells, ap length c.deref-4.ensures.value, ap length c.deref-3.ensures.value))
