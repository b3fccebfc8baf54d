use Rattle.std.proofs.Common.{refl, ◌≡◌, ◌∙◌, ◌+◌, ℕ, drop, subst, sym, arith, ap, Ok, None}
use Rattle.std.specs.Prelude.{sum_by}
use Rattle.bc_engine.specs.EngineFacts.{HasRoomForBirths}
use Rattle.bc_model.specs.RunLengths.{ops_of}
use Rattle.bc_cli.proofs.Saving.{not-some}
use Rattle.bc_cli.proofs.save.run_first.Goals as goal

pub loop-index-init : goal.loop-index-init
loop-index-init g c = record { run = c.requires.opened; births = λ n h. h; workers = refl }

pub loop-index-preserved : goal.loop-index-preserved
loop-index-preserved g c =
    let e = c.in_ok-need.ensures in
    let none : c.in_ok-need.need ≡ None = not-some c.in_ok-need.need (sym c.is_some.ensures ∙ c.if-is_some.false) in
    let done = ap Ok none in
    record { run = e.run done; births = λ n h. e.births n (c.loop-index.invariant.births n h) done; workers = e.workers ∙ c.loop-index.invariant.workers }

pub returns-clause-births : goal.returns-clause-births
returns-clause-births g c = λ n h e.
    let at : c.loop-index.index ≡ c.args.count = omega (arith, c.loop-index-test.false, c.loop-index.auto.index-end) in
    subst (λ (k : ℕ). HasRoomForBirths c.loop-index.engine (sum_by ops_of (drop k c.args.trace.now.phases) + n)) at (c.loop-index.invariant.births n h)
