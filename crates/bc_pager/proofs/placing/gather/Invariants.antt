-- The first pagers are through.
use Rattle.std.proofs.Common.{◌≡◌, ◌+◌, ◌≤◌, length, vec_capacity}
use Rattle.std.specs.List.{AllByRecursion}
use Rattle.std.specs.Vec.Iter.{into_iter_items}
use Rattle.bc_pager.specs.Placing.{HasNumbersBelow}
use Rattle.bc_pager.proofs.PlaceLemmas.{GatheredSoFar}
use Rattle.bc_pager.proofs.placing.gather.Given as goal

abbrev pub invariant-loop-paging : goal.invariant-loop-paging
invariant-loop-paging l = record {
  gathered : GatheredSoFar l.fn.pagers.items (into_iter_items l.rest) l.fn.seats.items l.seats.items l.told;
  below : AllByRecursion (HasNumbersBelow (length l.fn.told)) (into_iter_items l.rest);
  long : length l.told ≡ length l.fn.told;
  room : length l.seats.items + length (into_iter_items l.rest) ≤ vec_capacity l.seats;
  capacity : vec_capacity l.seats ≡ vec_capacity l.fn.seats;
}

abbrev pub decreases-loop-paging : goal.decreases-loop-paging
decreases-loop-paging l = length (into_iter_items l.rest)
