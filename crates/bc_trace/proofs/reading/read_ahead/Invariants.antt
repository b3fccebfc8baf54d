use Rattle.std.proofs.Common.{◌≡◌, ◌+◌, ◌≤◌, length}
use Rattle.bc_trace.specs.Drafts.{shown}
use Rattle.bc_trace.specs.Reading.{lines_of, reading}
use Rattle.bc_trace.specs.Said.{IsSmall}
use Rattle.bc_trace.proofs.reading.read_ahead.Given as goal

abbrev pub invariant-loop-line : goal.invariant-loop-line
invariant-loop-line l = record {
  small : IsSmall l.draft.progress l.count;
  count : l.count + length l.rest ≤ l.lines + length l.text;
  more : l.lines ≤ l.count;
  reads : reading (shown l.draft) l.count (lines_of l.rest) ≡ reading (shown l.fn.draft) l.lines (lines_of l.text);
}

abbrev pub decreases-loop-line : goal.decreases-loop-line
decreases-loop-line l = length l.rest
