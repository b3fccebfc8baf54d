use Rattle.std.proofs.Common.{◌≡◌, ◌++◌, take}
use Rattle.std.specs.List.{flat_map}
use Rattle.bc_trace.specs.Lines.{phase_lines, line_text}
use Rattle.bc_trace.proofs.writing.write.Given as goal

abbrev pub invariant-loop-phase : goal.invariant-loop-phase
invariant-loop-phase l = l.text.items ≡ l.initial.text.items ++ flat_map line_text (flat_map phase_lines (take l.phase-index l.phase-items))
