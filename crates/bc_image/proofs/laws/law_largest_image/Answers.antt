use Rattle.bc_image.proofs.SizeLemmas.{image-few}
use Rattle.bc_image.proofs.laws.law_largest_image.Goals as goal

pub returns : goal.returns
returns c = image-few
