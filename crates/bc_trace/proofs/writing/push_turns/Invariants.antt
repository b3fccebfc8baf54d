use Rattle.std.proofs.Common.{◌≡◌, ◌++◌, take}
use Rattle.std.specs.List.{flat_map}
use Rattle.bc_trace.specs.Lines.{turn_lines, line_text}
use Rattle.bc_trace.proofs.TurnLines.{last_withheld}
use Rattle.bc_trace.proofs.writing.push_turns.Given as goal

abbrev pub invariant-loop-line : goal.invariant-loop-line
invariant-loop-line l = record {
  text : l.out.items ≡ l.initial.out.items ++ flat_map line_text (turn_lines 0 (take l.line-index l.turns));
  withheld : l.before ≡ last_withheld 0 (take l.line-index l.turns);
}
