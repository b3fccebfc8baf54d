use Rattle.std.proofs.Common.{◌≡◌, ◌+◌, ◌≤◌, length}
use Rattle.bc_trace.specs.Drafts.{shown}
use Rattle.bc_trace.specs.Reading.{lines_of, reading, read_of}
use Rattle.bc_trace.specs.Said.{IsSmall}
use Rattle.bc_trace.proofs.reading.read_lines.Given as goal

abbrev pub invariant-loop-line : goal.invariant-loop-line
invariant-loop-line l = record {
  so_far : reading (shown l.draft) l.lines (lines_of l.rest) ≡ read_of l.bytes;
  count : l.lines + length l.rest ≤ length l.bytes;
  small : IsSmall l.draft.progress l.lines;
}

abbrev pub decreases-loop-line : goal.decreases-loop-line
decreases-loop-line l = length l.rest
