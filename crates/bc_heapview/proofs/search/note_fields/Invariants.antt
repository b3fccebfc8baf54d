use Rattle.std.proofs.Common.{◌≡◌, ℕ, ◌<◌, ◌≤◌, List, length}
use Rattle.bc_heapview.specs.Searches.{FieldsNoted, find_at}
use Rattle.bc_heapview.proofs.search.note_fields.Given as goal

abbrev pub invariant-loop-i : goal.invariant-loop-i
invariant-loop-i l = record {
  sized : length l.seen.items ≡ length l.cells;
  longer : length l.fn.found.items ≤ length l.found.items;
  kept : find_at l.found.items l.entry ≡ find_at l.fn.found.items l.entry;
  noted : (roots : List ℕ) → FieldsNoted roots l.cells l.fn.found.items l.fn.seen.items l.entry 0 → FieldsNoted roots l.cells l.found.items l.seen.items l.entry l.i;
}
