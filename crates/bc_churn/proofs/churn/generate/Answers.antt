use Rattle.std.proofs.Common.{◌≡◌, refl, sym, subst}
use Rattle.bc_model.specs.WellFormed.{IsTrace}
use Rattle.bc_model.specs.contracts.traces.Trace.{the_view}
use Rattle.bc_churn.specs.Churn.{churn_setup, churn_trace}
use Rattle.bc_churn.proofs.Formed.{churn-formed}
use Rattle.bc_churn.proofs.Drawing.{phase-made, number-made, holders-made, phases-count, trace-made}
use Rattle.bc_churn.proofs.churn.generate.Goals as goal

pub loop-phase-init : goal.loop-phase-init
unfolding Rattle.bc_model.specs.Run.after_changes
loop-phase-init c = (c.in_ok-phases.ensures.items, c.new-generator.ensures, refl)

pub loop-phase-preserved : goal.loop-phase-preserved
loop-phase-preserved c =
    let start = c.args.start in
    let ops = c.args.ops in
    let k = c.loop-phase.phase in
    let p = rw c.min-drawn.ensures at c.in_ok-made.ensures in
    let i = c.loop-phase.invariant in (
      phase-made start ops k c.loop-phase.generator c.loop-phase.holders c.loop-phase.phases.items c.push.new.self.items c.in_ok-made.made i.0 i.1 i.2 p.phase c.in_ok-push.ensures.items,
      number-made start ops k c.loop-phase.generator c.draw_phase.new.generator i.1 p.next,
      holders-made start ops k c.loop-phase.generator c.loop-phase.holders c.draw_phase.new.holders i.1 i.2 p.holders,
    )

made : (c : goal.After-loop-phase) → the_view (record { version = 1; setup = churn_setup; phases = c.loop-phase.phases }) ≡ churn_trace c.args.start c.args.ops
made c =
    trace-made c.args.start c.args.ops c.loop-phase.phase c.loop-phase.phases.items _ refl c.loop-phase.invariant.0
    (phases-count c.args.ops c.loop-phase.phase c.div_ceil-count.result c.div_ceil-count.ensures c.loop-phase.auto.phase-end c.loop-phase-test.false)

pub returns-clause-trace : goal.returns-clause-trace
returns-clause-trace c = made c

pub returns-clause-formed : goal.returns-clause-formed
returns-clause-formed c = subst IsTrace (sym (made c)) (churn-formed c.args.start c.args.ops)
