use Rattle.std.proofs.Common.{sym, ap, ◌∙◌, subst, Err, inr}
use Rattle.std.proofs.lemmas.Result.{err_from_is_err_and}
use Rattle.bc_trace.specs.Faults.{Fault}
use Rattle.bc_replay.proofs.Bytes.{read_is, refused_so, not_faulty, not_longer, unread-short, unread-firm}
use Rattle.bc_replay.proofs.input.read_trace.Goals as goal

pub returns-in_err-bytes-clause-spelled : goal.returns-in_err-bytes-clause-spelled
returns-in_err-bytes-clause-spelled g c = λ bytes t told short spelled firm.
    let p = err_from_is_err_and c.from_residual.result c.from_residual.ensures.1 in
    rw (p.1, p.2) (unread-short _ (λ e. not_longer _ _ bytes (c.in_err-bytes.ensures.too_long (ap Err e)) told short) (λ e. firm (c.in_err-bytes.ensures.read_fault (ap Err e))))

pub returns-in_err-bytes-clause-faulty : goal.returns-in_err-bytes-clause-faulty
returns-in_err-bytes-clause-faulty g c = λ bytes f told short fault firm.
    let p = err_from_is_err_and c.from_residual.result c.from_residual.ensures.1 in
    rw (p.1, p.2) (inr (unread-short _ (λ e. not_longer _ _ bytes (c.in_err-bytes.ensures.too_long (ap Err e)) told short) (λ e. firm (c.in_err-bytes.ensures.read_fault (ap Err e)))))

pub returns-in_err-bytes-clause-longer : goal.returns-in_err-bytes-clause-longer
returns-in_err-bytes-clause-longer g c = λ bytes told long firm.
    let p = err_from_is_err_and c.from_residual.result c.from_residual.ensures.1 in
    rw (p.1, p.2) (unread-firm _ (λ e. firm (c.in_err-bytes.ensures.read_fault (ap Err e))))

pub returns-in_err-trace-clause-faulty : goal.returns-in_err-trace-clause-faulty
returns-in_err-trace-clause-faulty g c = λ bytes f told short fault firm.
    let p = err_from_is_err_and c.from_residual-in_err-trace.result c.from_residual-in_err-trace.ensures.1 in
    let read = c.deref.ensures.value ∙ read_is _ _ bytes c.in_ok-bytes.ensures.all told in
    rw p.1 (refused_so f _ _ p.2 (c.in_err-trace.ensures.faulty f (subst (λ b. Fault b f.line f.cause) (sym read) fault)))

pub returns-clause-faulty : goal.returns-clause-faulty
returns-clause-faulty g c = λ bytes f told short fault firm.
    not_faulty c.deref.result.now bytes f (c.deref.ensures.value ∙ read_is _ _ bytes c.in_ok-bytes.ensures.all told) c.in_ok-trace.ensures.faulty fault
