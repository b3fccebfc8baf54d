-- In the theorem.
-- The memory that listed objects are.
use Rattle.std.specs.Prelude.{ℕ, ◌+◌, ◌==◌, if◌then◌else◌, List, [], ◌∷◌, map, Option, Some, None, option_map, slice_index_or}
use Rattle.bc_word.specs.Words.{word_of_bits}
use Rattle.bc_word.specs.declared.heads.Head.{Head}
use Rattle.bc_memory.specs.Memory.{Cell, Memory}
use Rattle.bc_image.specs.Cells.{CellList}

-- the number of the first object that lies at the address
abbrev pub number_at : List CellList → ℕ → Option ℕ
number_at [] a = None
number_at (c ∷ cs) a = if c.address == a then Some 0 else option_map (λ n. n + 1) (number_at cs a)

-- what stands for the head of an object after the last one
abbrev pub no_head : Head
no_head = record { lane = 0; serial = 0; domain = 0; fields = 0 }

-- what stands for an object after the last one
abbrev pub no_cell : CellList
no_cell = record { address = 0; head = no_head; fields = [] }

-- the object of this number in the list
abbrev pub cell_at : List CellList → ℕ → CellList
cell_at cells k = slice_index_or cells k no_cell

-- an object as a memory holds it
abbrev pub cell_of : CellList → Cell
cell_of c = record { head = c.head; fields = map word_of_bits c.fields }

-- the listed objects as one memory
abbrev pub memory_of : List CellList → Memory
memory_of cells a = option_map (λ k. cell_of (cell_at cells k)) (number_at cells a)
