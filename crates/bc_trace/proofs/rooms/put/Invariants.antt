use Rattle.std.proofs.Common.{◌≡◌, ◌+◌, ◌++◌, length, take, vec_capacity}
use Rattle.bc_trace.proofs.rooms.put.Given as goal

abbrev pub invariant-loop-byte : goal.invariant-loop-byte
invariant-loop-byte l = record {
  text : l.out.items ≡ l.initial.out.items ++ take l.byte-index l.bytes;
  long : length l.out.items ≡ length l.initial.out.items + l.byte-index;
  room : vec_capacity l.out ≡ vec_capacity l.initial.out;
}
