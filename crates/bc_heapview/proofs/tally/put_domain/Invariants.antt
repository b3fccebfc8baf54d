use Rattle.std.proofs.Common.{◌≡◌, ◌++◌, take}
use Rattle.std.specs.List.{flat_map}
use Rattle.bc_classes.specs.Classes.{classes}
use Rattle.bc_heapview.specs.Counts.{pair_counts}
use Rattle.bc_heapview.specs.Tallies.{tally_at}
use Rattle.bc_heapview.proofs.tally.put_domain.Given as goal

abbrev pub invariant-loop-class : goal.invariant-loop-class
invariant-loop-class l =
    l.counts.items ≡ l.fn.counts.items ++ flat_map (λ c. pair_counts l.domain c (tally_at l.tally l.domain c)) (take l.class-index classes)
