use Rattle.sorvekla.specs.Steps.{reply_of}
use Rattle.sorvekla.proofs.RefusalLemmas.{told-done, told-refused}
use Rattle.sorvekla.proofs.heaps.Heap.who.Goals as goal

pub returns-clause-done : goal.returns-clause-done
returns-clause-done g c = told-done c.value_told.result (reply_of) c.value_told.ensures.ok c.in_ok-reply.ensures.done

pub returns-clause-refused : goal.returns-clause-refused
returns-clause-refused g c = told-refused c.value_told.result c.value_told.ensures.err c.in_ok-reply.ensures.done
