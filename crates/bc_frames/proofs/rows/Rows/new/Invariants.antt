use Rattle.std.proofs.Common.{◌≡◌, ◌≤◌, length, vec_capacity}
use Rattle.bc_frames.proofs.rows.Rows.new.Given as goal

abbrev pub invariant-loop-row : goal.invariant-loop-row
invariant-loop-row l = record {
  room : l.count ≤ vec_capacity l.rows;
  long : length l.rows.items ≡ l._row;
}
