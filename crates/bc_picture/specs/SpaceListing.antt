-- What a heap lists, as an image does: the objects of its space by ascending addresses, and the words of its root slots.
use Rattle.std.specs.Prelude.{ℕ, ◌+◌, ◌*◌, List, [], ◌∷◌, ◌++◌, map, Option, Some, None}
use Prim.Native.Nat.{zero, suc}
use Rattle.std.specs.Int.{bytes_high_first}
use Rattle.std.specs.List.{flat_map}
use Rattle.bc_memory.specs.Memory.{Cell, Memory}
use Rattle.bc_model.specs.declared.traces.Setup.{Setup}
use Rattle.bc_model.specs.declared.values.Holder.{Holder}
use Rattle.bc_word.specs.WordBits.{word_bits}
use Rattle.bc_superpages.specs.Layout.{Layout, superpages}
use Rattle.bc_superpages.specs.Memory.{memory}
use Rattle.bc_superpages.specs.RootWords.{RootWords}
use Rattle.bc_image.specs.Cells.{CellList}
use Rattle.bc_image.specs.Listings.{ListingLists}

-- items as bytes
unfoldable pub item_bytes : List ℕ → List ℕ
item_bytes items = flat_map (bytes_high_first 8) items

-- the object at an address, where there is one
abbrev pub listed_cell : ℕ → Option Cell → List CellList
listed_cell address None = []
listed_cell address (Some c) = record { address = address; head = c.head; fields = map word_bits c.fields } ∷ []

-- the objects that begin at so many addresses, of which the first is this one
unfoldable pub listed_from : Memory → ℕ → ℕ → List CellList
listed_from m address zero = []
listed_from m address (suc count) = listed_cell address (m address) ++ listed_from m (address + 1) count

-- the objects of a space
abbrev pub listed_cells : Layout → List CellList
listed_cells s = listed_from (memory s) 0 (2048 * superpages s)

-- what is listed of a heap, with what its engine knows
abbrev pub heap_listing : ℕ → Setup → ℕ → List Holder → List ℕ → RootWords → Layout → ListingLists
heap_listing version setup phases holders births roots s = record {
  version = version;
  setup = setup;
  phases = phases;
  holders = holders;
  births = births;
  roots = roots.words;
  cells = listed_cells s;
}
