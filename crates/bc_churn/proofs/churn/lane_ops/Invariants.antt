use Rattle.std.proofs.Common.{◌≡◌, ◌++◌}
use Rattle.bc_churn.specs.Churn.{clears_below, drawn_ops}
use Rattle.bc_churn.specs.Draws.{number_after_ops}
use Rattle.bc_churn.proofs.churn.lane_ops.Given as goal

abbrev pub invariant-loop-domain : goal.invariant-loop-domain
invariant-loop-domain l = l.ops.items ≡ clears_below l.holders l.lane l.domain

abbrev pub invariant-loop : goal.invariant-loop
invariant-loop l = (l.ops.items ≡ l.initial.ops.items ++ drawn_ops l.counter l.initial.generator) × (l.generator ≡ number_after_ops l.counter l.initial.generator)
