use Rattle.std.proofs.Common.{◌<◌, ◌^◌, sym, subst}
use Rattle.bc_model.specs.Lists.{TraceLists}
use Rattle.bc_model.specs.RunLengths.{all_ops_of}
use Rattle.bc_model.specs.WellFormed.{IsTrace}
use Rattle.bc_churn.proofs.Formed.{churn-formed}
use Rattle.bc_replay.specs.Endings.{FitsThroughout}
use Rattle.bc_cli.proofs.Counted.{churn-fits, churn-small}
use Rattle.bc_cli.proofs.churn.replay.Goals as goal

pub count_phases-requires-clause-trace : goal.count_phases-requires-clause-trace
count_phases-requires-clause-trace g c κs within = subst IsTrace (sym c.requires.trace) (churn-formed _ _)

pub count_phases-requires-clause-few : goal.count_phases-requires-clause-few
count_phases-requires-clause-few g c κs within =
    subst (λ (t : TraceLists). all_ops_of t < 2 ^ 32) (sym c.requires.trace) (churn-small _ _ c.requires.ops)

pub count_phases-requires-clause-fits : goal.count_phases-requires-clause-fits
count_phases-requires-clause-fits g c κs within = subst FitsThroughout (sym c.requires.trace) (churn-fits _ _)
