use Rattle.std.proofs.Common.{sym, ◌∙◌}
use Rattle.std.proofs.lemmas.Result.{IfOk-weaker}
use Rattle.bc_mutator.proofs.StepLemmas.{did-step, foreign-step, frozen-step}
use Rattle.bc_mutator.proofs.operations.operate_parts.Goals as goal

pub returns-clause-done : goal.returns-clause-done
returns-clause-done g c =
    IfOk-weaker c.act.result _ _
    (λ reply done h s.
    let k = done h s in
    (k.0, k.1, did-step h k.0 c.args.holders.now c.args.lane c.args.serial.now c.act.new.serial c.args.op.now reply (sym c.reads_all.ensures.held ∙ c.if-not-reads_all.false) (sym c.writes_target.ensures.right ∙ c.if-not-writes_target.false) k.2))
    c.act.ensures.done

pub returns-then-not-reads_all-clause-done : goal.returns-then-not-reads_all-clause-done
returns-then-not-reads_all-clause-done g c = λ h s.
    (h, s.part, foreign-step h c.args.holders.now c.args.lane c.args.serial.now c.args.op.now s.ready (sym c.reads_all.ensures.held ∙ c.if-not-reads_all.true))

pub returns-then-not-writes_target-clause-done : goal.returns-then-not-writes_target-clause-done
returns-then-not-writes_target-clause-done g c = λ h s.
    (h, s.part, frozen-step h c.args.holders.now c.args.lane c.args.serial.now c.args.op.now s.ready (sym c.reads_all.ensures.held ∙ c.if-not-reads_all.false) (sym c.writes_target.ensures.right ∙ c.if-not-writes_target.true))
