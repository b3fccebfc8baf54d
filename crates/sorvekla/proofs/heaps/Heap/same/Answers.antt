use Rattle.sorvekla.specs.Steps.{reply_of_same}
use Rattle.sorvekla.proofs.RefusalLemmas.{told-done, told-refused}
use Rattle.sorvekla.proofs.heaps.Heap.same.Goals as goal

pub returns-clause-done : goal.returns-clause-done
returns-clause-done g c = told-done c.same_told.result (reply_of_same) c.same_told.ensures.ok c.in_ok-reply.ensures.done

pub returns-clause-refused : goal.returns-clause-refused
returns-clause-refused g c = told-refused c.same_told.result c.same_told.ensures.err c.in_ok-reply.ensures.done
