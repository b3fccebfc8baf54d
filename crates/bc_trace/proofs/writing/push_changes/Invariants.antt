use Rattle.std.proofs.Common.{◌≡◌, ◌++◌, map, take}
use Rattle.std.specs.List.{flat_map}
use Rattle.bc_trace.specs.Lines.{change_line, line_text}
use Rattle.bc_trace.proofs.writing.push_changes.Given as goal

abbrev pub invariant-loop-change : goal.invariant-loop-change
invariant-loop-change l = l.out.items ≡ l.initial.out.items ++ flat_map line_text (map change_line (take l.change-index l.changes))
