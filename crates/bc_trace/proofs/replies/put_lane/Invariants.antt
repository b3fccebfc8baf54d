use Rattle.std.proofs.Common.{◌≡◌, ◌+◌, ◌*◌, ◌≤◌, ◌++◌, length, take, vec_capacity}
use Rattle.std.specs.List.{flat_map}
use Rattle.bc_trace.specs.Replies.{reply_text}
use Rattle.bc_trace.specs.TextRooms.{line_bytes}
use Rattle.bc_trace.proofs.replies.put_lane.Given as goal

abbrev pub invariant-loop-reply : goal.invariant-loop-reply
invariant-loop-reply l = record {
  text : l.out.items ≡ l.initial.out.items ++ flat_map reply_text (take l.reply-index l.replies);
  long : length l.out.items ≤ length l.initial.out.items + line_bytes * l.reply-index;
  room : vec_capacity l.out ≡ vec_capacity l.initial.out;
}
