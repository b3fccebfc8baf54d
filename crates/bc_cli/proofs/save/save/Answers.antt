use Rattle.std.proofs.Common.{◌≡◌, ◌<◌, inl, inr, length, subst, sym, arith}
use Rattle.bc_model.specs.Lists.{TraceLists}
use Rattle.bc_replay.proofs.Bytes.{few-read, may_give-whole, told_or_no_memory}
use Rattle.bc_cli.proofs.Saving.{complete-save, fewer-save, need-alone, need-saved, same-saved}
use Rattle.bc_cli.proofs.save.save.Goals as goal

pub save_trace-requires-clause-few : goal.save_trace-requires-clause-few
save_trace-requires-clause-few g c κs within = omega (arith, few-read _ _ _ c.in-Ok.ensures.found)

pub save_trace-requires-clause-room : goal.save_trace-requires-clause-room
save_trace-requires-clause-room g c κs within = λ enough l saved.
    let read = c.in-Ok.ensures.found in
    c.requires.room read.bytes c.in-Ok.trace (may_give-whole _ _ _ _ read.whole) read.whole.short read.spelled enough l saved

pub returns-in-Ok-clause-done : goal.returns-in-Ok-clause-done
returns-in-Ok-clause-done g c = λ e.
    let out = c.save_trace.ensures.done e in
    (record { trace = c.in-Ok.trace; read = c.in-Ok.ensures.found; enough = c.save_trace.ensures.enough (λ not. cc); listing = out.0; saved = out.1; written = out.2; fits = out.3 }, c.save_trace.ensures.unhanded (inl e))

pub returns-in-Ok-clause-write_fault : goal.returns-in-Ok-clause-write_fault
returns-in-Ok-clause-write_fault g c = λ e.
    let out = c.save_trace.ensures.write_fault e in (
      c.save_trace.ensures.cause e,
      record { trace = c.in-Ok.trace; read = c.in-Ok.ensures.found; enough = c.save_trace.ensures.enough (λ not. cc); listing = out.0; saved = out.1; written = out.2 },
      c.save_trace.ensures.unhanded (inr e),
    )

pub returns-in-Ok-clause-out_of_heap : goal.returns-in-Ok-clause-out_of_heap
returns-in-Ok-clause-out_of_heap g c =
    need-saved _ _ _ c.in-Ok.trace _ _ _ c.in-Ok.ensures.found c.save_trace.ensures.enough c.save_trace.ensures.out_of_heap

pub returns-in-Ok-clause-mismatch : goal.returns-in-Ok-clause-mismatch
returns-in-Ok-clause-mismatch g c = λ e.
    let fewer = c.save_trace.ensures.mismatch e in
    (record { trace = c.in-Ok.trace; read = c.in-Ok.ensures.found; fewer = fewer.0 }, fewer.1)

pub returns-in-Ok-clause-complete : goal.returns-in-Ok-clause-complete
returns-in-Ok-clause-complete g c = λ bytes t told short spelled enough fits firm held.
    let same = c.in-Ok.ensures.spelled bytes t told short spelled firm in
    let both = same-saved t c.in-Ok.trace c.args.count same enough fits in
    complete-save c.save_trace.result.status c.in-Ok.trace c.args.count _ c.save_trace.ensures.ending (λ e. (c.save_trace.ensures.mismatch e).0) (need-alone _ _ _ c.save_trace.ensures.out_of_heap)
    both.0 both.1 (λ e. held (c.save_trace.ensures.cause e))

pub returns-in-Ok-clause-fewer : goal.returns-in-Ok-clause-fewer
returns-in-Ok-clause-fewer g c = λ bytes t told short spelled fewer firm.
    let same = c.in-Ok.ensures.spelled bytes t told short spelled firm in
    fewer-save c.save_trace.result.status _ c.args.count c.save_trace.ensures.enough (subst (λ (x : TraceLists). length x.phases < c.args.count) (sym same) fewer) c.save_trace.ensures.ending

pub returns-in-Ok-clause-faulty : goal.returns-in-Ok-clause-faulty
returns-in-Ok-clause-faulty g c = λ bytes f told short fault firm. absurd (c.in-Ok.ensures.faulty bytes f told short fault firm)

pub returns-in-Err-clause-faulty : goal.returns-in-Err-clause-faulty
returns-in-Err-clause-faulty g c = λ bytes f told short fault firm.
    told_or_no_memory _ _ _ c.without_heap.ensures.status (c.in-Err.ensures.faulty bytes f told short fault firm)
