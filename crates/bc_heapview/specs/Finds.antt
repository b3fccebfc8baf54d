-- Where finds lie.
use Rattle.std.specs.Prelude.{ℕ, List, map}
use Rattle.bc_image.specs.Cells.{CellList}
use Rattle.bc_image.specs.Memories.{cell_at}
use Rattle.bc_heapview.specs.declared.search.Found.{Found}

-- the addresses of the objects that were found, in the order of their finding
abbrev pub addresses_of : List CellList → List Found → List ℕ
addresses_of cells found = map (λ (f : Found). (cell_at cells f.node).address) found
