-- A set of bits with one bit more or less, and sets in general.
use Rattle.std.specs.Prelude.{ℕ, ◌*◌, ◌/◌, ◌%◌, ◌^◌, ◌<◌, Bool, ◌==◌, List, slice_index, slice_set, bit_and, bit_or}
use Rattle.std.specs.List.{list_all}
use Rattle.std.specs.Int.{bit_not, w64}

-- the set with this bit set
unfoldable pub with_bit : List ℕ → ℕ → List ℕ
with_bit words b = slice_set words (b / 64) (bit_or (slice_index words (b / 64)) (1 * 2 ^ (b % 64) % 2 ^ 64))

-- the set with this bit clear
unfoldable pub without_bit : List ℕ → ℕ → List ℕ
without_bit words b =
    slice_set words (b / 64) (bit_and (slice_index words (b / 64)) (bit_not w64 (1 * 2 ^ (b % 64) % 2 ^ 64)))

-- each item is a word of 64 bits
abbrev pub AreWords : List ℕ → Type 0
AreWords words = (i : ℕ) → slice_index words i < 2 ^ 64

-- is no bit of the set set? Its words are all 0
abbrev pub none_set : List ℕ → Bool
none_set words = list_all (λ w. w == 0) words
