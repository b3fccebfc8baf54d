use Rattle.bc_pins.proofs.InUseLemmas.{frames_in_use}
use Rattle.bc_pins.proofs.laws.law_frames_in_use.Goals as goal

pub returns : goal.returns
returns c = record { in_use = frames_in_use }
