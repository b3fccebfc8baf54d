-- Which object of a listing a word refers to.
use Rattle.std.specs.Prelude.{◌≡◌, ℕ, ◌+◌, ◌*◌, ◌^◌, ◌<◌, ◌≤◌, ◌==◌, if◌then◌else◌, List, [], ◌∷◌, length, Option, Some, None, option_map, slice_index, slice_index_or, zero, suc}
use Rattle.bc_bits.specs.Bits.{has}
use Rattle.bc_bits.specs.Counting.{count_below}
use Rattle.bc_word.specs.Words.{word_of_bits}
use Rattle.bc_word.specs.WordBits.{IsPacked}
use Rattle.bc_word.specs.declared.words.Word.{Word}
use Rattle.bc_word.specs.declared.words.Word.TheVariants.{Nil, Num, Ref}
use Rattle.bc_image.specs.Cells.{CellList}
use Rattle.bc_image.specs.Homes.{HasHomes}
use Rattle.bc_image.specs.Memories.{number_at, cell_at}
use Rattle.bc_heapview.specs.Ways.{Way, from_slot, by_field}
use Rattle.bc_heapview.specs.declared.indexes.Index.{Index}

-- the number of the object to which a word refers, if it refers to one
abbrev pub word_target : List CellList → Word → Option ℕ
word_target cells Nil = None
word_target cells (Num n) = None
word_target cells (Ref a) = number_at cells a.0

-- the number of the object that a word with these bits refers to
abbrev pub target_of : List CellList → ℕ → Option ℕ
target_of cells bits = word_target cells (word_of_bits bits)

-- what field i of an object refers to
abbrev pub field_target : List CellList → Option ℕ → ℕ → Option ℕ
field_target cells None i = None
field_target cells (Some k) i = target_of cells (slice_index (cell_at cells k).fields i)

-- where a way leads to
abbrev pub leads : List ℕ → List CellList → Way → Option ℕ
leads roots cells (from_slot r) = target_of cells (slice_index roots r)
leads roots cells (by_field w i) = field_target cells (leads roots cells w) i

-- for each word of a set how many numbers are members that lie in the words before it
pub record AreRanks (there before : List ℕ) : Type 0 where
  pub sized : length before ≡ length there
  pub at : (w : ℕ) → w < length there → slice_index before w ≡ count_below (has there) (64 * w)

-- objects are listed by ascending addresses
abbrev pub Rise : List CellList → Type 0
Rise cells = (j k : ℕ) → j < k → k < length cells → (cell_at cells j).address < (cell_at cells k).address

-- the index tells where these objects lie, and how many of them below each 64 addresses
pub record IsIndex (cells : List CellList) (index : Index) : Type 0 where
  pub few : length index.there.items ≤ 2 ^ 17
  pub homes : HasHomes cells index.there.items
  pub ranks : AreRanks index.there.items index.before.items
  pub rising : Rise cells

-- the bits are those of a word
abbrev pub ArePacked : ℕ → Type 0
ArePacked bits = IsPacked bits

-- all root slots and fields are words, and no object has too many fields
pub record AllPacked (roots : List ℕ) (cells : List CellList) : Type 0 where
  pub roots_packed : (r : ℕ) → r < length roots → IsPacked (slice_index roots r)
  pub fields_packed : (k i : ℕ) → k < length cells → i < length (cell_at cells k).fields → IsPacked (slice_index (cell_at cells k).fields i)
  pub few : (k : ℕ) → k < length cells → length (cell_at cells k).fields < 2 ^ 32
