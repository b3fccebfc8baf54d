use Rattle.std.proofs.Common.{◌≡◌, length, take}
use Rattle.bc_churn.proofs.Counting.{Counted}
use Rattle.bc_churn.proofs.counts.Counts.add_lane.Given as goal

abbrev pub invariant-loop-reply : goal.invariant-loop-reply
invariant-loop-reply l = Counted l.initial.self-inside.kinds l.self-inside.kinds (take l.reply-index l.replies) × (length l.self-inside.kinds ≡ length l.initial.self-inside.kinds)
