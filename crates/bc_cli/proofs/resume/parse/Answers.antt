use Rattle.std.proofs.Common.{◌≡◌, List, ℕ, drop, sym, ap, ◌∙◌, subst, inr}
use Rattle.std.proofs.lemmas.List.{take_rest}
use Rattle.std.proofs.lemmas.Result.{err_from_is_err_and}
use Rattle.bc_trace.specs.Answers.{TellsFault}
use Rattle.bc_trace.specs.Faults.{Fault}
use Rattle.bc_trace.specs.Lines.{Spells}
use Rattle.bc_replay.specs.Statuses.{refusal_of}
use Rattle.bc_replay.proofs.Bytes.{refused_so}
use Rattle.bc_cli.proofs.ParseLemmas.{rest_is, unparsed-trace}
use Rattle.bc_cli.proofs.resume.parse.Goals as goal

pub returns-in_err-trace-clause-refusal : goal.returns-in_err-trace-clause-refusal
returns-in_err-trace-clause-refusal c =
    let p = err_from_is_err_and c.from_residual-in_err-trace.result c.from_residual-in_err-trace.ensures.1 in
    rw p.1 (unparsed-trace c.args.bytes.now (drop c.in_ok-listing.used c.args.bytes.now) c.in_ok-listing.listing _ _ p.2 c.in_ok-listing.ensures.found.1
    (subst (λ (b : List ℕ). TellsFault b c.in_err-trace.field-0.0) (take_rest c.args.bytes.now c.in_ok-listing.used) c.in_err-trace.ensures.fault))

pub returns-in_err-trace-clause-complete : goal.returns-in_err-trace-clause-complete
returns-in_err-trace-clause-complete c = λ rest l t image spelled goes.
    let p = err_from_is_err_and c.from_residual-in_err-trace.result c.from_residual-in_err-trace.ensures.1 in
    let same = take_rest c.args.bytes.now c.in_ok-listing.used ∙ rest_is c.args.bytes.now rest l c.in_ok-listing.used image (c.in_ok-listing.ensures.listed l rest image).1 in
    rw p.1 (p.2 ∙ ap refusal_of (c.in_err-trace.ensures.spelled t (subst (λ (b : List ℕ). Spells b t) (sym same) spelled)))

pub returns-in_err-trace-clause-apart : goal.returns-in_err-trace-clause-apart
returns-in_err-trace-clause-apart c = λ rest l t image spelled apart.
    let p = err_from_is_err_and c.from_residual-in_err-trace.result c.from_residual-in_err-trace.ensures.1 in
    let same = take_rest c.args.bytes.now c.in_ok-listing.used ∙ rest_is c.args.bytes.now rest l c.in_ok-listing.used image (c.in_ok-listing.ensures.listed l rest image).1 in
    rw p.1 (inr (p.2 ∙ ap refusal_of (c.in_err-trace.ensures.spelled t (subst (λ (b : List ℕ). Spells b t) (sym same) spelled))))

pub returns-in_err-trace-clause-faulty : goal.returns-in_err-trace-clause-faulty
returns-in_err-trace-clause-faulty c = λ rest l f image fault.
    let p = err_from_is_err_and c.from_residual-in_err-trace.result c.from_residual-in_err-trace.ensures.1 in
    let same = take_rest c.args.bytes.now c.in_ok-listing.used ∙ rest_is c.args.bytes.now rest l c.in_ok-listing.used image (c.in_ok-listing.ensures.listed l rest image).1 in
    rw p.1 (refused_so f _ _ p.2 (c.in_err-trace.ensures.faulty f (subst (λ (b : List ℕ). Fault b f.line f.cause) (sym same) fault)))

pub returns-then-not-goes_with-clause-faulty : goal.returns-then-not-goes_with-clause-faulty
returns-then-not-goes_with-clause-faulty c = λ rest l f image fault.
    let same = take_rest c.args.bytes.now c.in_ok-listing.used ∙ rest_is c.args.bytes.now rest l c.in_ok-listing.used image (c.in_ok-listing.ensures.listed l rest image).1 in
    absurd (c.in_ok-trace.ensures.faulty f (subst (λ (b : List ℕ). Fault b f.line f.cause) (sym same) fault))

pub returns-clause-faulty : goal.returns-clause-faulty
returns-clause-faulty c = λ rest l f image fault.
    let same = take_rest c.args.bytes.now c.in_ok-listing.used ∙ rest_is c.args.bytes.now rest l c.in_ok-listing.used image (c.in_ok-listing.ensures.listed l rest image).1 in
    c.in_ok-trace.ensures.faulty f (subst (λ (b : List ℕ). Fault b f.line f.cause) (sym same) fault)
