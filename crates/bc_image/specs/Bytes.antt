-- In the theorem.
-- Items as bytes: 8 of them, the most significant first.
use Rattle.std.specs.Prelude.{ℕ, ◌+◌, ◌*◌, ◌^◌, List, slice_index}

-- the number that the 8 bytes from a place on are
abbrev pub number_from : List ℕ → ℕ → ℕ
number_from bytes at =
    2 ^ 56 * slice_index bytes at + 2 ^ 48 * slice_index bytes (at + 1) + 2 ^ 40 * slice_index bytes (at + 2) + 2 ^ 32 * slice_index bytes (at + 3)
    + 2 ^ 24 * slice_index bytes (at + 4) + 2 ^ 16 * slice_index bytes (at + 5) + 2 ^ 8 * slice_index bytes (at + 6) + slice_index bytes (at + 7)

-- the item of this number
unfoldable pub item_at : List ℕ → ℕ → ℕ
item_at bytes number = number_from bytes (8 * number)
