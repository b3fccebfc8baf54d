use Rattle.std.proofs.Common.{List, ◌++◌, ap, sym, ◌∙◌, arith}
use Rattle.bc_model.specs.declared.operations.Op.{Op}
use Rattle.bc_model.proofs.Holders.{write-default}
use Rattle.bc_churn.proofs.Drawing.{clears-held, clears-free}
use Rattle.bc_churn.proofs.churn.lane_ops.Goals as goal
use Rattle.bc_churn.proofs.churn.lane_ops.Goals.{then-lets_write+in_ok-extend_from_slice, else-lets_write}

pub loop-domain-preserved : goal.loop-domain-preserved
loop-domain-preserved c =
    let holders = c.args.holders.now in
    let items = c.loop-domain.ops.items in
    let new = c.if-lets_write.ops.items in
    let told = sym (write-default holders c.loop-domain.domain c.args.lane (omega arith)) ∙ sym c.lets_write.ensures in
    elim c.if-lets_write.branch [
      | then-lets_write+in_ok-extend_from_slice w ↦
          clears-held holders c.args.lane c.loop-domain.domain items new (told ∙ w.if-lets_write.true) c.loop-domain.invariant
          (ap (λ v. v.items) w.ops-is ∙ w.in_ok-extend_from_slice.ensures.items ∙ ap (λ (os : List Op). items ++ os) w.clears_of.ensures)
      | else-lets_write w ↦
          clears-free holders c.args.lane c.loop-domain.domain items new (told ∙ w.if-lets_write.false) c.loop-domain.invariant (ap (λ v. v.items) w.ops-is)
    ]
