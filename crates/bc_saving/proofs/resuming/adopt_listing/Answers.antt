use Rattle.std.proofs.Common.{◌∙◌, ap}
use Rattle.std.proofs.lemmas.Result.{IfOk-weaker}
use Rattle.bc_image.specs.Listings.{ListingLists}
use Rattle.bc_superpages.specs.RootWords.{RootWords}
use Rattle.bc_saving.proofs.BuiltParts.{adopted-copied, stands-copied}
use Rattle.bc_saving.proofs.resuming.adopt_listing.Goals as goal

pub adopt-requires-clause-parts : goal.adopt-requires-clause-parts
adopt-requires-clause-parts c =
    let l : ListingLists = c.args.listing.now in
    let e = c.in_ok-picture.ensures in
    adopted-copied l c.in_ok-picture.picture.roots c.in_ok-picture.picture.space c.requires.image
    (record {
      objects = e.memory;
      words = ap (λ (x : RootWords). x.words) e.roots;
      domains = ap (λ (x : RootWords). x.domains) e.roots;
      slots = ap (λ (x : RootWords). x.slots) e.roots;
      supers = e.superpages;
      frames = e.frames;
      nursery = e.nursery;
      summarised = e.summarised;
      calm = e.calm;
      used = e.domains;
    })
    c.listing.inside.setup c.in_ok-holders.holders.items c.in_ok-births.births.items (ap (λ (x : ListingLists). x.setup) c.listing.view_is)
    (c.in_ok-holders.ensures.items_if_clones_equal (λ x y h. h) ∙ c.deref.ensures.value ∙ ap (λ (x : ListingLists). x.holders) c.listing.view_is)
    (c.in_ok-births.ensures.items_if_clones_equal (λ x y h. h) ∙ c.deref-2.ensures.value ∙ ap (λ (x : ListingLists). x.births) c.listing.view_is)

pub returns-clause-stands : goal.returns-clause-stands
returns-clause-stands c =
    let l : ListingLists = c.args.listing.now in
    let e = c.in_ok-picture.ensures in
    IfOk-weaker c.adopt.result _ _ (λ engine stands state consistent pictures.
    stands state (stands-copied l c.in_ok-picture.picture.roots c.in_ok-picture.picture.space c.requires.image
    (record {
      objects = e.memory;
      words = ap (λ (x : RootWords). x.words) e.roots;
      domains = ap (λ (x : RootWords). x.domains) e.roots;
      slots = ap (λ (x : RootWords). x.slots) e.roots;
      supers = e.superpages;
      frames = e.frames;
      nursery = e.nursery;
      summarised = e.summarised;
      calm = e.calm;
      used = e.domains;
    })
    c.listing.inside.setup c.in_ok-holders.holders.items c.in_ok-births.births.items (ap (λ (x : ListingLists). x.setup) c.listing.view_is)
    (c.in_ok-holders.ensures.items_if_clones_equal (λ x y h. h) ∙ c.deref.ensures.value ∙ ap (λ (x : ListingLists). x.holders) c.listing.view_is)
    (c.in_ok-births.ensures.items_if_clones_equal (λ x y h. h) ∙ c.deref-2.ensures.value ∙ ap (λ (x : ListingLists). x.births) c.listing.view_is)
    state consistent pictures)) c.adopt.ensures.stands
