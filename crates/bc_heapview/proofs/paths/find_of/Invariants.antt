use Rattle.std.proofs.Common.{◌≡◌, ℕ, ◌<◌}
use Rattle.bc_heapview.specs.Backs.{birth_at}
use Rattle.bc_heapview.specs.Searches.{find_at}
use Rattle.bc_heapview.proofs.paths.find_of.Given as goal

abbrev pub invariant-loop-entry : goal.invariant-loop-entry
invariant-loop-entry l = (k : ℕ) → k < l.entry → birth_at l.cells (find_at l.found k).node ≡ l.birth → ⊥
