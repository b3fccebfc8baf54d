use Rattle.bc_running.proofs.UnaskedLemmas.{collects-unasked}
use Rattle.heap_workshop.proofs.workshops.Workshop.collect_with.Goals as goal

pub returns-clause-collected : goal.returns-clause-collected
returns-clause-collected g c = rw (← c.self.view_is) (λ is. collects-unasked c.collect_beside.ensures.collected)
