use Rattle.std.proofs.Common.{◌≡◌}
use Rattle.bc_heapview.specs.Counts.{counts_of}
use Rattle.bc_heapview.specs.Tallies.{tally_at}
use Rattle.bc_heapview.proofs.tally.list_counts.Given as goal

abbrev pub invariant-loop-domain : goal.invariant-loop-domain
invariant-loop-domain l = l.counts.items ≡ counts_of l.domain (tally_at l.tally)
