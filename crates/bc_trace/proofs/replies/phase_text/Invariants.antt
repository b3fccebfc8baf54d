use Rattle.std.proofs.Common.{◌≡◌, ◌++◌, map, take}
use Rattle.bc_trace.specs.Replies.{lanes_text}
use Rattle.bc_trace.proofs.replies.phase_text.Given as goal

abbrev pub invariant-loop-lane : goal.invariant-loop-lane
invariant-loop-lane l = l.text.items ≡ l.initial.text.items ++ lanes_text 0 (map (λ v. v.items) (take l.lane l.its_replies-items))
