use Rattle.bc_image.proofs.OneListing.{image-or-fault, not-both, one-fault}
use Rattle.bc_image.proofs.laws.law_one_image_fault.Goals as goal

pub returns-clause-either : goal.returns-clause-either
returns-clause-either c = image-or-fault

pub returns-clause-not_both : goal.returns-clause-not_both
returns-clause-not_both c = not-both

pub returns-clause-alone : goal.returns-clause-alone
returns-clause-alone c = one-fault
