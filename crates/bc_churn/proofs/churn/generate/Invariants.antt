use Rattle.std.proofs.Common.{◌≡◌, map}
use Rattle.bc_model.specs.State.{numbers_below}
use Rattle.bc_churn.specs.Churn.{churn_phase, holders_before, number_before}
use Rattle.bc_churn.proofs.churn.generate.Given as goal

abbrev pub invariant-loop-phase : goal.invariant-loop-phase
invariant-loop-phase l =
    (l.phases.items ≡ map (churn_phase l.start l.ops) (numbers_below l.phase))
    × (l.generator ≡ number_before l.start l.ops l.phase)
    × (l.holders ≡ holders_before l.start l.ops l.phase)
