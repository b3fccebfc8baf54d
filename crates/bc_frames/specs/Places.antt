-- A store has a place for each page, by its number, which holds the page's box or nothing, and a count of reads.
use Rattle.std.specs.Prelude.{ℕ, ◌+◌, ◌-◌, ◌^◌, List, Option, None, slice_index_or, min}

-- what contracts see of the store: each page's place, and the number of reads
pub record StoreView : Type 0 where
  -- the words of the box that lies in each page's place, if one does
  pub places : List (Option (List ℕ))
  -- how many pages were read back
  pub reads : ℕ

-- what lies in the place of a page
abbrev pub place_at : StoreView → ℕ → Option (List ℕ)
place_at s page = slice_index_or s.places page None

-- one more, up to the last value of 64 bits, where the count stays
abbrev pub one_more : ℕ → ℕ
one_more reads = min (reads + 1) (2 ^ 64 - 1)
