use Rattle.std.proofs.Common.{ℕ, List, sym, subst}
use Rattle.bc_live.specs.Feeds.{FedTrace}
use Rattle.bc_live.proofs.FedLemmas.{ran-so}
use Rattle.bc_live.proofs.live.run_fed.Goals as goal

pub returns-clause-fed_run : goal.returns-clause-fed_run
returns-clause-fed_run g c =
    let ran = c.run_beside_feeder-outcome in
    ran-so c.from_status.result _
    (subst (λ (taken : List ℕ). FedTrace c.args.trace.now c.args.asked.now.workers taken ran.new.answers.items ran.result.0.heap) (sym c.close-passed.ensures.taken) ran.ensures.fed.fed)
