use Rattle.bc_pins.proofs.GrayLemmas.{gray_pages}
use Rattle.bc_pins.proofs.laws.law_gray_pages.Goals as goal

pub returns : goal.returns
returns c = record { owed = gray_pages }
