use Rattle.std.proofs.Common.{◌≡◌, take}
use Rattle.bc_heapview.specs.Counts.{superpages_of}
use Rattle.bc_heapview.proofs.tally.superpages_in.Given as goal

abbrev pub invariant-loop-count : goal.invariant-loop-count
invariant-loop-count l = l.need ≡ superpages_of (take l.count-index l.counts)
