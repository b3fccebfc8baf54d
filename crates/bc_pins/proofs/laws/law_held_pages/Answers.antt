use Rattle.bc_pins.proofs.InHandLemmas.{held_pages}
use Rattle.bc_pins.proofs.laws.law_held_pages.Goals as goal

pub returns : goal.returns
returns c = record { held = held_pages }
