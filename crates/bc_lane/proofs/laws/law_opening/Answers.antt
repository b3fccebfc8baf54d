use Rattle.bc_lane.proofs.OpenLemmas.{opened-whole}
use Rattle.bc_lane.proofs.laws.law_opening.Goals as goal

pub returns : goal.returns
returns c = λ k roles turn. opened-whole k roles turn.part
