use Rattle.std.proofs.Common.{◌≡◌, ◌*◌, ◌≤◌}
use Rattle.std.specs.List.{sum_by}
use Rattle.bc_bits.specs.Bits.{has}
use Rattle.bc_bits.specs.Counting.{count_below}
use Rattle.bc_model.specs.State.{numbers_below}
use Rattle.bc_superpages.specs.Layout.{set_of}
use Rattle.heap_workshop.proofs.counts.objects_in_cells.Given as goal

abbrev pub invariant-loop-superpage : goal.invariant-loop-superpage
invariant-loop-superpage l =
    (l.objects ≡ sum_by (λ q. count_below (has (set_of l.space.cells q)) 1024) (numbers_below l.superpage))
    × (l.objects ≤ 1024 * l.superpage)
