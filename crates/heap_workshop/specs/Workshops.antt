-- A heap to be worked on by tests and benches.
use Rattle.std.specs.Prelude.{ℕ, ◌*◌, ◌<◌, false, length, slice_index_or}
use Rattle.std.specs.List.{sum_by}
use Rattle.bc_bits.specs.Bits.{has}
use Rattle.bc_bits.specs.Counting.{count_below}
use Rattle.bc_bookmarks.specs.Summarised.{gone_in}
use Rattle.bc_model.specs.State.{numbers_below}
use Rattle.bc_model.specs.declared.operations.Op.{Op}
use Rattle.bc_mutator.specs.Operations.{IsOpOf}
use Rattle.bc_superpages.specs.Layout.{Layout, superpages, set_of}
use Rattle.bc_running.specs.Running.{RunningView}

-- there is such a lane, and a heap of these root slots has the slots, fields and numbers that the operation names
pub record IsOpOfHeap (w : RunningView) (lane : ℕ) (op : Op) : Type 0 where
  pub known : lane < length w.serials
  pub fits : IsOpOf w.heap.roots op

-- how many superpages are in use
abbrev pub superpages_in_use : Layout → ℕ
superpages_in_use s = count_below (λ q. slice_index_or s.used q false) (superpages s)

-- how many cells are allocated: those of each superpage
abbrev pub objects_in_cells : Layout → ℕ
objects_in_cells s = sum_by (λ q. count_below (has (set_of s.cells q)) 1024) (numbers_below (superpages s))

-- how many pages are gone
abbrev pub pages_gone : Layout → ℕ
pages_gone s = count_below (gone_in s) (4 * superpages s)
