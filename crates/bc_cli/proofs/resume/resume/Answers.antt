use Rattle.std.proofs.Common.{◌≡◌, inl, inr, subst, sym}
use Rattle.bc_image.proofs.Pictured.{some-state}
use Rattle.bc_replay.proofs.Bytes.{may_give-whole, told_or_no_memory}
use Rattle.bc_cli.proofs.Resuming.{complete-resumed, need-resumed, same-resumed}
use Rattle.bc_cli.proofs.resume.resume.Goals as goal

pub resume_trace-requires-clause-room : goal.resume_trace-requires-clause-room
resume_trace-requires-clause-room g c κs within =
    let found = c.in-Ok.ensures.found in
    c.requires.room found.0.bytes found.0.rest c.in-Ok.found.listing c.in-Ok.found.trace (may_give-whole _ _ _ _ found.0.whole) found.0.whole.short found.0.image found.0.spelled found.1

pub returns-in-Ok-clause-done : goal.returns-in-Ok-clause-done
returns-in-Ok-clause-done g c = λ e.
    let found = c.in-Ok.ensures.found in
    record { found = record { listing = c.in-Ok.found.listing; trace = c.in-Ok.found.trace; read = found.0; goes = found.1; pictured = some-state _ found.0.image.listing }; ending = c.resume_trace.ensures.done e }

pub returns-in-Ok-clause-write_fault : goal.returns-in-Ok-clause-write_fault
returns-in-Ok-clause-write_fault g c = λ e.
    let found = c.in-Ok.ensures.found in
    let fault = c.resume_trace.ensures.write_fault e in
    (fault.0, record { found = record { listing = c.in-Ok.found.listing; trace = c.in-Ok.found.trace; read = found.0; goes = found.1; pictured = some-state _ found.0.image.listing }; ending = fault.1 })

pub returns-in-Ok-clause-out_of_heap : goal.returns-in-Ok-clause-out_of_heap
returns-in-Ok-clause-out_of_heap g c =
    let found = c.in-Ok.ensures.found in
    need-resumed _ _ _ _ _ _ (record { listing = c.in-Ok.found.listing; trace = c.in-Ok.found.trace; read = found.0; goes = found.1; pictured = some-state _ found.0.image.listing }) c.resume_trace.ensures.out_of_heap

pub returns-in-Ok-clause-no_memory : goal.returns-in-Ok-clause-no_memory
returns-in-Ok-clause-no_memory g c = λ e.
    let found = c.in-Ok.ensures.found in
    elim (c.resume_trace.ensures.no_memory e) [
      | inl same ↦ inl same
      | inr stops ↦ inr (record { found = record { listing = c.in-Ok.found.listing; trace = c.in-Ok.found.trace; read = found.0; goes = found.1; pictured = some-state _ found.0.image.listing }; ending = stops })
    ]

pub returns-in-Ok-clause-complete : goal.returns-in-Ok-clause-complete
returns-in-Ok-clause-complete g c = λ bytes rest l t s told short image spelled goes is pictured fits firm held.
    let same = c.in-Ok.ensures.complete bytes rest l t told short image spelled goes firm in
    complete-resumed c.resume_trace.result.status c.in-Ok.found.listing c.in-Ok.found.trace s _ _ _ c.resume_trace.ensures.ending c.resume_trace.ensures.out_of_heap is
    (same-resumed _ _ _ _ s same.0 same.1 pictured fits).0 (same-resumed _ _ _ _ s same.0 same.1 pictured fits).1 (λ e. held (c.resume_trace.ensures.write_fault e).0)

pub returns-in-Ok-clause-apart : goal.returns-in-Ok-clause-apart
returns-in-Ok-clause-apart g c = λ bytes rest l t told short image spelled apart firm. absurd (c.in-Ok.ensures.apart bytes rest l t told short image spelled apart firm)

pub returns-in-Ok-clause-faulty : goal.returns-in-Ok-clause-faulty
returns-in-Ok-clause-faulty g c = λ bytes rest l f told short image fault firm. absurd (c.in-Ok.ensures.faulty bytes rest l f told short image fault firm)

pub returns-in-Ok-clause-image_faulty : goal.returns-in-Ok-clause-image_faulty
returns-in-Ok-clause-image_faulty g c = λ bytes f told short fault firm. absurd (c.in-Ok.ensures.image_faulty bytes f told short fault firm)

pub returns-in-Err-clause-apart : goal.returns-in-Err-clause-apart
returns-in-Err-clause-apart g c = λ bytes rest l t told short image spelled apart firm.
    told_or_no_memory _ _ _ c.without_heap.ensures.status (c.in-Err.ensures.apart bytes rest l t told short image spelled apart firm)

pub returns-in-Err-clause-faulty : goal.returns-in-Err-clause-faulty
returns-in-Err-clause-faulty g c = λ bytes rest l f told short image fault firm.
    told_or_no_memory _ _ _ c.without_heap.ensures.status (c.in-Err.ensures.faulty bytes rest l f told short image fault firm)

pub returns-in-Err-clause-image_faulty : goal.returns-in-Err-clause-image_faulty
returns-in-Err-clause-image_faulty g c = λ bytes f told short fault firm.
    told_or_no_memory _ _ _ c.without_heap.ensures.status (c.in-Err.ensures.image_faulty bytes f told short fault firm)

pub returns-in-Err-clause-short : goal.returns-in-Err-clause-short
returns-in-Err-clause-short g c = λ not. c.in-Err.ensures.short (λ e. not (cc (e, c.in-Err.is, c.without_heap.ensures.status)))
