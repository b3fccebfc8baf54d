use Rattle.std.proofs.Common.{◌≡◌, ℕ, ◌-◌, length}
use Rattle.bc_heapview.specs.Searches.{FieldsNoted}
use Rattle.bc_heapview.proofs.search.search.Given as goal

abbrev pub invariant-loop-entry : goal.invariant-loop-entry
invariant-loop-entry l = FieldsNoted l.roots l.cells l.found.items l.seen.items l.entry 0

abbrev pub decreases-loop-entry : goal.decreases-loop-entry
decreases-loop-entry l = length l.cells - l.entry
