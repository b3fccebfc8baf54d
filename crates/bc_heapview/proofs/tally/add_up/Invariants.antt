use Rattle.std.proofs.Common.{◌≡◌, ℕ, ◌≤◌, length, take, get_or}
use Rattle.bc_heapview.specs.Tallies.{IsPairTally}
use Rattle.bc_heapview.proofs.tally.add_up.Given as goal

abbrev pub invariant-loop-find : goal.invariant-loop-find
invariant-loop-find l = record {
  size : length l.tally ≡ 8256;
  tally : IsPairTally l.cells (take l.find-index l.found) l.tally;
  small : (i : ℕ) → get_or l.tally i 0 ≤ l.find-index;
}
