use Rattle.std.proofs.Common.{sym, append-nil}
use Rattle.bc_image.specs.Images.{image_bytes}
use Rattle.bc_image.proofs.laws.law_read_back.Goals as goal

pub returns : goal.returns
returns c = λ l is. record { listing = is; spelled = sym (append-nil (image_bytes l)) }
