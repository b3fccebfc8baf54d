use Rattle.std.proofs.Common.{refl, sym, ◌∙◌}
use Rattle.bc_cli.proofs.Counted.{replies_before-none}
use Rattle.bc_cli.proofs.churn.count_phases.Goals as goal

pub loop-index-init : goal.loop-index-init
loop-index-init g c = record {
  run = c.requires.opened;
  counted = c.new-counts.ensures ∙ sym (replies_before-none c.args.trace.now);
  workers = refl;
}

pub loop-index-preserved : goal.loop-index-preserved
loop-index-preserved g c =
    let e = c.in_ok-count_phase.ensures in
    record { run = e.run; counted = e.counted; workers = e.workers ∙ c.loop-index.invariant.workers }
