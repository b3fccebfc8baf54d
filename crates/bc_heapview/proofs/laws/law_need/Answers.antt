use Rattle.bc_heapview.proofs.LengthLemmas.{room-ample, room-known}
use Rattle.bc_heapview.proofs.laws.law_need.Goals as goal

pub returns-clause-image : goal.returns-clause-image
returns-clause-image c = room-known

pub returns-clause-ample : goal.returns-clause-ample
returns-clause-ample c = room-ample
