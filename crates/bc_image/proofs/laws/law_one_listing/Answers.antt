use Rattle.bc_image.proofs.OneListing.{one-listing}
use Rattle.bc_image.proofs.laws.law_one_listing.Goals as goal

pub returns : goal.returns
returns c = one-listing
