use Rattle.std.proofs.Common.{◌≡◌, ◌≤◌, ap, sym, ◌∙◌, arith}
use Rattle.bc_image.specs.Listings.{ListingLists}
use Rattle.bc_heapview.proofs.BirthLemmas.{few-counts, tally-counts}
use Rattle.bc_heapview.proofs.ViewLemmas.{countable, viewable}
use Rattle.bc_heapview.proofs.tally.counts.Goals as goal

pub tally_of-requires-clause-viewable : goal.tally_of-requires-clause-viewable
tally_of-requires-clause-viewable c = viewable c.args.listing.now c.requires.listing

pub tally_of-requires-clause-cells : goal.tally_of-requires-clause-cells
tally_of-requires-clause-cells c = countable c.args.listing.now c.requires.listing

pub list_counts-requires-clause-domains : goal.list_counts-requires-clause-domains
list_counts-requires-clause-domains c =
    let few = c.requires.listing.setup.domains.1 in
    let is = ap (λ (l : ListingLists). l.setup.domains) c.listing.view_is in
    omega arith

pub returns-clause-counts : goal.returns-clause-counts
returns-clause-counts c = λ s pictures.
    tally-counts c.args.listing.now s c.in_ok-tally.tally.items c.deref.result.now c.listing.inside.setup.domains c.in_ok-counts.counts.items pictures c.in_ok-tally.ensures.tally c.deref.ensures.value
    (ap (λ (l : ListingLists). l.setup.domains) c.listing.view_is) c.requires.listing.setup.domains.1 c.in_ok-counts.ensures.counts

pub returns-clause-few : goal.returns-clause-few
returns-clause-few c =
    few-counts c.in_ok-tally.tally.items c.deref.result.now c.listing.inside.setup.domains c.in_ok-counts.counts.items c.deref.ensures.value
    (let few = c.requires.listing.setup.domains.1 in let is = ap (λ (l : ListingLists). l.setup.domains) c.listing.view_is in omega arith) c.in_ok-tally.ensures.small c.in_ok-counts.ensures.counts
