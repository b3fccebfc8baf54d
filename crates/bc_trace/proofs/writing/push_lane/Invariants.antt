use Rattle.std.proofs.Common.{◌≡◌, ◌++◌, map, take}
use Rattle.std.specs.List.{flat_map}
use Rattle.bc_trace.specs.Lines.{op, line_text}
use Rattle.bc_trace.proofs.writing.push_lane.Given as goal

abbrev pub invariant-loop-op : goal.invariant-loop-op
invariant-loop-op l = l.out.items ≡ l.initial.out.items ++ flat_map line_text (map op (take l.op-index l.ops))
