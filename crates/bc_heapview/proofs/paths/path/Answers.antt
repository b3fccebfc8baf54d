use Rattle.bc_heapview.proofs.ViewLemmas.{viewable}
use Rattle.bc_heapview.proofs.paths.path.Goals as goal

pub least_path-requires : goal.least_path-requires
least_path-requires c = viewable c.args.listing.now c.requires.listing
