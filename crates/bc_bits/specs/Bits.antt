-- In the theorem.
-- A set of small numbers as a list of words of 64 bits: bit b is bit b % 64 of word b / 64.
use Rattle.std.specs.Prelude.{ℕ, ◌/◌, ◌%◌, Bool, ◌==◌, List, slice_index}
use Rattle.std.specs.Int.{bit_at}

-- is the bit set? Past the last word none is
unfoldable pub has : List ℕ → ℕ → Bool
has words b = bit_at (slice_index words (b / 64)) (b % 64) == 1
