-- The way of a find, from its steps.
use Rattle.std.specs.Prelude.{◌≡◌, ℕ, ◌<◌, List, [], ◌∷◌, length, Some}
use Rattle.bc_model.specs.declared.values.Birth.{Birth}
use Rattle.bc_standing.specs.Standing.{birth_of}
use Rattle.bc_image.specs.Cells.{CellList}
use Rattle.bc_image.specs.Memories.{cell_at}
use Rattle.bc_heapview.specs.Targets.{leads}
use Rattle.bc_heapview.specs.Ways.{Way, from_slot, by_field}
use Rattle.bc_heapview.specs.Searches.{find_at}
use Rattle.bc_heapview.specs.declared.steps.Step.{Step}
use Rattle.bc_heapview.specs.declared.search.Found.{Found}

-- the birth of an object of the list
abbrev pub birth_at : List CellList → ℕ → Birth
birth_at cells k = birth_of (cell_at cells k).head

-- none of the finds is the object of this birth
abbrev pub HasNoFind : List Found → List CellList → Birth → Type 0
HasNoFind found cells b = (k : ℕ) → k < length found → birth_at cells (find_at found k).node ≡ b → ⊥

-- the find of this number is the object of this birth
abbrev pub IsFoundAt : List Found → List CellList → Birth → ℕ → Type 0
IsFoundAt found cells b entry = (entry < length found) × (birth_at cells (find_at found entry).node ≡ b)

-- a way and then steps
abbrev pub go_on : Way → List Step → Way
go_on w [] = w
go_on w (s ∷ steps) = go_on (by_field w s.field) steps

-- a way leads to the object of the birth
abbrev pub WayLeadsTo : List ℕ → List CellList → Way → Birth → Type 0
WayLeadsTo roots cells w b = (k : ℕ) × (leads roots cells w ≡ Some k) × (birth_at cells k ≡ b)

-- each step has the object to which the way leads with it
abbrev pub AreSteps : List ℕ → List CellList → Way → List Step → Type 0
AreSteps roots cells w [] = Unit {0}
AreSteps roots cells w (s ∷ steps) = WayLeadsTo roots cells (by_field w s.field) s.birth × AreSteps roots cells (by_field w s.field) steps

-- from this slot, which refers to that object, these steps are the find's way
pub record IsWayBack (roots : List ℕ) (cells : List CellList) (ways : ℕ → Way) (entry place : ℕ) (first : Birth) (steps : List Step) : Type 0 where
  pub way : go_on (from_slot place) steps ≡ ways entry
  pub begins : WayLeadsTo roots cells (from_slot place) first
  pub births : AreSteps roots cells (from_slot place) steps
