use Rattle.std.proofs.Common.{◌<◌, ◌^◌, ap, sym, subst}
use Rattle.bc_model.specs.Lists.{TraceLists}
use Rattle.bc_model.specs.RunLengths.{all_ops_of}
use Rattle.bc_replay.proofs.Finishing.{HasRun-opened}
use Rattle.bc_cli.proofs.Counted.{churn-small}
use Rattle.bc_cli.proofs.churn.draw.Goals as goal

pub returns-clause-opened : goal.returns-clause-opened
returns-clause-opened c =
    HasRun-opened c.in_ok-trace.trace _ c.in_ok-engine.engine (ap (λ (x : TraceLists). x.setup) c.trace.view_is)
    (subst (λ (t : TraceLists). all_ops_of t < 2 ^ 32) (sym c.in_ok-trace.ensures.trace) (churn-small _ _ c.requires.ops)) c.in_ok-engine.ensures.opening
    (c.in_ok-engine.ensures.setup.0, c.in_ok-engine.ensures.setup.1, c.in_ok-engine.ensures.setup.2)
