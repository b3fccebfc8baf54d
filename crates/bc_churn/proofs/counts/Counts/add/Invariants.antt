use Rattle.std.proofs.Common.{◌≡◌, length, map, take}
use Rattle.bc_churn.specs.Counts.{phase_replies}
use Rattle.bc_churn.proofs.Counting.{Counted}
use Rattle.bc_churn.proofs.counts.Counts.add.Given as goal

abbrev pub invariant-loop-lane : goal.invariant-loop-lane
invariant-loop-lane l = Counted l.initial.self l.self (phase_replies (map (λ v. v.items) (take l.lane-index l.lane-items))) × (length l.self ≡ length l.initial.self)
