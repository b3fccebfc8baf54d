use Rattle.bc_model.specs.declared.operations.Reply.TheVariants as reply
use Rattle.sorvekla.proofs.RefusalLemmas.{told-done, told-refused}
use Rattle.sorvekla.proofs.heaps.Heap.len.Goals as goal

pub returns-clause-done : goal.returns-clause-done
returns-clause-done g c = told-done c.len_told.result (λ n. reply.Len n) c.len_told.ensures.ok c.in_ok-reply.ensures.done

pub returns-clause-refused : goal.returns-clause-refused
returns-clause-refused g c = told-refused c.len_told.result c.len_told.ensures.err c.in_ok-reply.ensures.done
