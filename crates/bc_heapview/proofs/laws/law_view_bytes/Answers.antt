use Rattle.bc_heapview.proofs.LengthLemmas.{objects-few, text-bound}
use Rattle.bc_heapview.proofs.laws.law_view_bytes.Goals as goal

pub returns-clause-text : goal.returns-clause-text
returns-clause-text c = text-bound

pub returns-clause-objects : goal.returns-clause-objects
returns-clause-objects c = objects-few
