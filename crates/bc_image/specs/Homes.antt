-- Where objects lie.
use Rattle.std.specs.Prelude.{◌≡◌, ℕ, ◌<◌, List, length}
use Rattle.std.specs.Option.{is_some}
use Rattle.bc_bits.specs.Bits.{has}
use Rattle.bc_image.specs.Cells.{CellList}
use Rattle.bc_image.specs.Memories.{number_at, cell_at}

-- all objects of the list begin below an address
abbrev pub LieBelow : List CellList → ℕ → Type 0
LieBelow cells end = (k : ℕ) → k < length cells → (cell_at cells k).address < end

-- a bit for each address tells whether an object lies there
abbrev pub HasHomes : List CellList → List ℕ → Type 0
HasHomes cells there = (a : ℕ) → has there a ≡ is_some (number_at cells a)
