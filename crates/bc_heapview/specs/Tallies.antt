-- Finds, counted by domain and class.
use Rattle.std.specs.Prelude.{◌≡◌, ℕ, ◌+◌, ◌*◌, ◌<◌, ◌≤◌, ◌==◌, ◌&&◌, Bool, List, length, slice_index_or}
use Rattle.std.specs.List.{count_by}
use Rattle.bc_classes.specs.Classes.{class_of}
use Rattle.bc_image.specs.Cells.{CellList}
use Rattle.bc_image.specs.Memories.{cell_at}
use Rattle.bc_heapview.specs.declared.search.Found.{Found}

-- the object is in the domain and takes cells of the class
abbrev pub is_in_pair : ℕ → ℕ → CellList → Bool
is_in_pair d c o = (o.head.domain == d) && (class_of o.head.fields == c)

-- how many of the finds are of a pair
abbrev pub pair_count : List CellList → List Found → ℕ → ℕ → ℕ
pair_count cells found d c = count_by (λ (f : Found). is_in_pair d c (cell_at cells f.node)) found

-- the number of a pair in a tally
abbrev pub tally_at : List ℕ → ℕ → ℕ → ℕ
tally_at tally d c = slice_index_or tally (129 * d + c) 0

-- a tally has for each pair how many finds are of it
abbrev pub IsPairTally : List CellList → List Found → List ℕ → Type 0
IsPairTally cells found tally = (d c : ℕ) → d < 64 → c < 129 → tally_at tally d c ≡ pair_count cells found d c

-- each object is of one of 64 domains and has at most 127 fields
pub record AreCountable (cells : List CellList) : Type 0 where
  pub domains : (k : ℕ) → k < length cells → (cell_at cells k).head.domain < 64
  pub fields : (k : ℕ) → k < length cells → (cell_at cells k).head.fields ≤ 127
