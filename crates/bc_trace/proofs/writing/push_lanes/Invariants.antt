use Rattle.std.proofs.Common.{◌≡◌, ◌++◌, map, take}
use Rattle.std.specs.List.{flat_map}
use Rattle.bc_trace.specs.Lines.{lane_lines, line_text}
use Rattle.bc_trace.proofs.writing.push_lanes.Given as goal

abbrev pub invariant-loop-lane : goal.invariant-loop-lane
invariant-loop-lane l = l.out.items ≡ l.initial.out.items ++ flat_map line_text (lane_lines 0 (map (λ v. v.items) (take l.lane l.lanes)))
