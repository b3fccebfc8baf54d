use Rattle.bc_cycle.specs.declared.emptying.EmptyingKind.{EmptyingKind}
use Rattle.heap_workshop.proofs.RefusalLemmas.{refused-need}
use Rattle.heap_workshop.proofs.workshops.Workshop.empty.Goals as goal

pub returns-in-Ok-clause-in_place : goal.returns-in-Ok-clause-in_place
returns-in-Ok-clause-in_place g c = rw (← c.self.view_is) c.in-Ok.ensures.in_place

pub returns-in-Ok-clause-pages : goal.returns-in-Ok-clause-pages
returns-in-Ok-clause-pages g c = rw (← c.self.view_is) c.in-Ok.ensures.pages

pub returns-in-Ok-clause-kept : goal.returns-in-Ok-clause-kept
returns-in-Ok-clause-kept g c = rw (← c.self.view_is) c.in-Ok.ensures.kept

pub returns-in-Err-OutOfHeap-clause-need : goal.returns-in-Err-OutOfHeap-clause-need
returns-in-Err-OutOfHeap-clause-need g c =
    let refused = c.in-Err-OutOfHeap in
    rw (← c.self.view_is) (refused-need EmptyingKind c.self.inside.running.heap c.empty_nursery.new.self.heap refused.field-0 refused.need refused.field-0-is refused.ensures.meaning refused.ensures.need)
