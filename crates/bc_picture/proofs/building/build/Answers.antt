use Rattle.std.proofs.Common.{sym, ap}
use Rattle.bc_superpages.specs.RootWords.{RootWords}
use Rattle.bc_picture.proofs.BuiltHeaps.{built-listed, built-listing, built-domains}
use Rattle.bc_picture.proofs.Names.{listing-names}
use Rattle.bc_picture.proofs.SavedHeaps.{pictured}
use Rattle.bc_picture.proofs.building.build.Goals as goal

pub returns-clause-listing : goal.returns-clause-listing
returns-clause-listing c = built-listing c.args.listing.now c.fill.result.roots c.fill.result.space c.requires.image (ap (λ (r : RootWords). r.words) c.fill.ensures.roots) c.fill.ensures.space

pub returns-clause-domains : goal.returns-clause-domains
returns-clause-domains c = built-domains c.args.listing.now c.fill.result.space c.requires.image c.fill.ensures.space

pub returns-clause-stands : goal.returns-clause-stands
returns-clause-stands c = λ s. pictured c.args.listing.now c.fill.result.roots c.fill.result.space s c.fill.ensures.space.memory (ap (λ (r : RootWords). r.words) c.fill.ensures.roots)

pub returns-clause-names : goal.returns-clause-names
returns-clause-names c =
    listing-names c.fill.result.space c.args.listing.now c.fill.ensures.kept (sym (built-listed c.args.listing.now c.fill.result.space c.requires.image c.fill.ensures.space)) c.requires.image.cells
