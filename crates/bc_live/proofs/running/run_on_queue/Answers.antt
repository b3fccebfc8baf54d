use Rattle.std.proofs.Common.{◌≡◌, sym, subst}
use Rattle.bc_replay.specs.declared.outcome.Outcome.{Outcome}
use Rattle.bc_live.specs.Runs.{HasFed}
use Rattle.bc_live.proofs.FedLemmas.{fed_from_none}
use Rattle.bc_live.proofs.running.run_on_queue.Goals as goal

pub returns-clause-fed : goal.returns-clause-fed
returns-clause-fed g c =
    let ran = c.run_as.ensures.ran in
    subst (λ (o : Outcome). HasFed c.args.trace.now c.args.workers c.run_as.new.live.taker c.run_as.new.answers.items o.heap) (sym ran.1)
    (fed_from_none _ _ _ c.run_as.new.live.taker _ c.run_as.new.answers.items ran.0.heap c.requires.fresh c.requires.none c.run_as.ensures.told ran.3)
