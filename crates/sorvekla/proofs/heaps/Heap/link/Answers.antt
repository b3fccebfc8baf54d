use Rattle.sorvekla.proofs.RefusalLemmas.{told-change, told-refused}
use Rattle.sorvekla.proofs.heaps.Heap.link.Goals as goal

pub returns-clause-done : goal.returns-clause-done
returns-clause-done g c = told-change c.change_told.result c.change_told.ensures.ok c.in_ok-reply.ensures.done

pub returns-clause-refused : goal.returns-clause-refused
returns-clause-refused g c = told-refused c.change_told.result c.change_told.ensures.err c.in_ok-reply.ensures.done
