use Rattle.std.proofs.Common.{◌≡◌, ◌+◌, ◌≤◌, length}
use Rattle.bc_trace.specs.Drafts.{shown}
use Rattle.bc_trace.specs.Reading.{lines_of, reading}
use Rattle.bc_trace.proofs.draft.Draft.put_ops.Given as goal

abbrev pub invariant-loop-op : goal.invariant-loop-op
invariant-loop-op l = record {
  progress : l.self.progress ≡ l.fn.self.progress;
  count : l.count + length l.rest ≤ l.lines + length l.text;
  more : l.lines ≤ l.count;
  reads : reading (shown l.self) l.count (lines_of l.rest) ≡ reading (shown l.fn.self) l.lines (lines_of l.text);
}

abbrev pub decreases-loop-op : goal.decreases-loop-op
decreases-loop-op l = length l.rest
