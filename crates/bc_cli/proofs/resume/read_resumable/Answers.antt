use Rattle.std.proofs.Common.{ap, Err, inr}
use Rattle.std.proofs.lemmas.Result.{err_from_is_err_and}
use Rattle.bc_replay.proofs.Bytes.{not_longer, unread-short, unread-firm}
use Rattle.bc_cli.proofs.resume.read_resumable.Goals as goal

-- ---- the bytes weren't read

pub returns-in_err-bytes-clause-complete : goal.returns-in_err-bytes-clause-complete
returns-in_err-bytes-clause-complete g c = λ bytes rest l t told short image spelled goes firm.
    let p = err_from_is_err_and c.from_residual.result c.from_residual.ensures.1 in
    rw (p.1, p.2) (unread-short _ (λ e. not_longer _ _ bytes (c.in_err-bytes.ensures.too_long (ap Err e)) told short) (λ e. firm (c.in_err-bytes.ensures.read_fault (ap Err e))))

pub returns-in_err-bytes-clause-apart : goal.returns-in_err-bytes-clause-apart
returns-in_err-bytes-clause-apart g c = λ bytes rest l t told short image spelled goes firm.
    let p = err_from_is_err_and c.from_residual.result c.from_residual.ensures.1 in
    rw (p.1, p.2) (inr (unread-short _ (λ e. not_longer _ _ bytes (c.in_err-bytes.ensures.too_long (ap Err e)) told short) (λ e. firm (c.in_err-bytes.ensures.read_fault (ap Err e)))))

pub returns-in_err-bytes-clause-faulty : goal.returns-in_err-bytes-clause-faulty
returns-in_err-bytes-clause-faulty g c = λ bytes rest l f told short image fault firm.
    let p = err_from_is_err_and c.from_residual.result c.from_residual.ensures.1 in
    rw (p.1, p.2) (inr (unread-short _ (λ e. not_longer _ _ bytes (c.in_err-bytes.ensures.too_long (ap Err e)) told short) (λ e. firm (c.in_err-bytes.ensures.read_fault (ap Err e)))))

pub returns-in_err-bytes-clause-image_faulty : goal.returns-in_err-bytes-clause-image_faulty
returns-in_err-bytes-clause-image_faulty g c = λ bytes f told short fault firm.
    let p = err_from_is_err_and c.from_residual.result c.from_residual.ensures.1 in
    rw (p.1, p.2) (inr (unread-short _ (λ e. not_longer _ _ bytes (c.in_err-bytes.ensures.too_long (ap Err e)) told short) (λ e. firm (c.in_err-bytes.ensures.read_fault (ap Err e)))))

pub returns-in_err-bytes-clause-longer : goal.returns-in_err-bytes-clause-longer
returns-in_err-bytes-clause-longer g c = λ bytes told long firm.
    let p = err_from_is_err_and c.from_residual.result c.from_residual.ensures.1 in
    rw (p.1, p.2) (unread-firm _ (λ e. firm (c.in_err-bytes.ensures.read_fault (ap Err e))))
