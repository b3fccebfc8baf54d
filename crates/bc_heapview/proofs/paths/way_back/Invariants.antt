use Rattle.std.proofs.Common.{◌≡◌, ℕ, ◌+◌, ◌<◌, ◌≤◌, List, length}
use Rattle.bc_heapview.specs.Searches.{IsSearched}
use Rattle.bc_heapview.proofs.BackLemmas.{IsBack}
use Rattle.bc_heapview.proofs.paths.way_back.Given as goal

abbrev pub invariant-loop-place : goal.invariant-loop-place
invariant-loop-place l = record {
  within : l.at < length l.found;
  few : length l.steps.items + l.at ≤ l.entry;
  back : (roots : List ℕ) → (s : IsSearched roots l.cells l.found) → IsBack roots l.cells s.ways l.at l.entry l.steps.items;
}

abbrev pub decreases-loop-place : goal.decreases-loop-place
decreases-loop-place l = l.at
