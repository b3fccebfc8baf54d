use Rattle.std.proofs.Common.{◌≡◌, ◌+◌, ◌*◌, ◌≤◌, ◌++◌, length, map, take, vec_capacity}
use Rattle.std.specs.List.{sum_by}
use Rattle.bc_trace.specs.Replies.{lanes_text}
use Rattle.bc_trace.specs.TextRooms.{line_bytes}
use Rattle.bc_trace.proofs.replies.put_phase.Given as goal

abbrev pub invariant-loop-lane : goal.invariant-loop-lane
invariant-loop-lane l = record {
  text : l.out.items ≡ l.initial.out.items ++ lanes_text 0 (map (λ v. v.items) (take l.lane l.its_replies-items));
  long : length l.out.items ≤ length l.initial.out.items + line_bytes * (l.lane + sum_by (λ v. length v.items) (take l.lane l.its_replies-items));
  room : vec_capacity l.out ≡ vec_capacity l.initial.out;
}
