use Rattle.std.proofs.Common.{◌≡◌, ◌≤◌}
use Rattle.bc_bits.specs.Counting.{count_below}
use Rattle.bc_bookmarks.specs.Summarised.{gone_in}
use Rattle.heap_workshop.proofs.counts.pages_gone.Given as goal

abbrev pub invariant-loop-page : goal.invariant-loop-page
invariant-loop-page l =
    (l.gone ≡ count_below (gone_in l.space) l.page) × (l.gone ≤ l.page)
