use Rattle.bc_image.proofs.OneImage.{one-image}
use Rattle.bc_image.proofs.laws.law_one_image.Goals as goal

pub returns : goal.returns
returns c = one-image
