use Rattle.bc_image.proofs.FaultPlaceLemmas.{lies-at, only-short, fault-stays, leads-nowhere}
use Rattle.bc_image.proofs.laws.law_fault_place.Goals as goal

pub returns-clause-item : goal.returns-clause-item
returns-clause-item c = lies-at

pub returns-clause-before : goal.returns-clause-before
returns-clause-before c = only-short

pub returns-clause-stays : goal.returns-clause-stays
returns-clause-stays c = fault-stays

pub returns-clause-link : goal.returns-clause-link
returns-clause-link c = leads-nowhere
