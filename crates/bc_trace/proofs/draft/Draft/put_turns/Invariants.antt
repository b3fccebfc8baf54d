use Rattle.std.proofs.Common.{◌≡◌, ◌+◌, ◌≤◌, length}
use Rattle.bc_trace.specs.Drafts.{shown}
use Rattle.bc_trace.specs.Reading.{lines_of, reading}
use Rattle.bc_trace.proofs.draft.Draft.put_turns.Given as goal

abbrev pub invariant-loop-many : goal.invariant-loop-many
invariant-loop-many l = record {
  progress : l.self.progress ≡ l.fn.self.progress;
  count : l.count + length l.rest ≤ l.lines + length l.text;
  more : l.lines ≤ l.count;
  reads : reading (shown l.self) l.count (lines_of l.rest) ≡ reading (shown l.fn.self) l.lines (lines_of l.text);
}

abbrev pub decreases-loop-many : goal.decreases-loop-many
decreases-loop-many l = length l.rest
