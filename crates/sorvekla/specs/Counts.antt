-- What is counted of a heap.
use Rattle.std.specs.Prelude.{ℕ, Bool, if◌then◌else◌}
use Rattle.std.specs.List.{sum_by}
use Rattle.bc_bits.specs.Bits.{has}
use Rattle.bc_bits.specs.Counting.{count_below}
use Rattle.bc_model.specs.State.{numbers_below}
use Rattle.bc_superpages.specs.Layout.{Layout, superpages, set_of}
use Rattle.bc_superpages.specs.LayoutAt.{header_of}
use Rattle.bc_whole_heap.specs.Counting.{is_of_pair}
use Rattle.sorvekla.specs.Heaps.{CallCounts}
use Rattle.sorvekla.specs.declared.counters.Counters.{Counters}

-- the numbers of these that each call has a clause on
abbrev pub call_counts : Counters → CallCounts
call_counts c = record { minor = c.minor; by_hand = c.by_hand; failsafe = c.failsafe; hinted = c.hinted }

-- the allocated cells of a superpage, if it is of the pair
abbrev pub cells_in : Layout → ℕ → ℕ → ℕ → ℕ
cells_in s domain class q = if is_of_pair domain class (header_of s q) then count_below (has (set_of s.cells q)) 1024 else 0

-- the objects of a pair of domain and class that lie in cells
abbrev pub cells_of_pair : Layout → ℕ → ℕ → ℕ
cells_of_pair s domain class = sum_by (cells_in s domain class) (numbers_below (superpages s))
