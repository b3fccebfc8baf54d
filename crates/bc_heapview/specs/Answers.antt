-- The least way to an object of a state.
use Rattle.std.specs.Prelude.{◌≡◌, ◌⊎◌, ℕ, ◌+◌, ◌*◌, ◌^◌, ◌<◌, ◌≤◌, List, [], ◌∷◌, length, map, slice_index_or}
use Rattle.bc_model.specs.Paths.{value_along}
use Rattle.bc_model.specs.Reached.{Reached}
use Rattle.bc_model.specs.State.{State, Object, place_of}
use Rattle.bc_model.specs.declared.values.Birth.{Birth}
use Rattle.bc_model.specs.declared.values.Value.{Value}
use Rattle.bc_model.specs.declared.values.Value.TheVariants.{Nil, Obj}
use Rattle.bc_image.specs.Listings.{ListingLists}
use Rattle.bc_heapview.specs.PathLists.{PathList}
use Rattle.bc_heapview.specs.Targets.{AllPacked, Rise}
use Rattle.bc_image.specs.Homes.{LieBelow}
use Rattle.bc_heapview.specs.declared.steps.Step.{Step}

-- a root slot, by its number, and fields lead to the object
abbrev pub IsWay : State → Birth → ℕ → List ℕ → Type 0
IsWay s b place fields = value_along s.made (slice_index_or s.slots place Nil) fields ≡ Obj b

-- numbers in the order of the first that differ
abbrev pub ComesFirst : List ℕ → List ℕ → Type 0
ComesFirst (i ∷ is) (j ∷ js) = (i < j) ⊎ ((i ≡ j) × ComesFirst is js)
ComesFirst [] js = ⊥
ComesFirst (i ∷ is) [] = ⊥

-- a way to the object that no shorter one and no earlier one of its length leads to: first by the slot, and then by the fields
pub record IsLeastWay (s : State) (b : Birth) (place : ℕ) (fields : List ℕ) : Type 0 where
  pub leads : IsWay s b place fields
  pub shortest : (p : ℕ) → (fs : List ℕ) → IsWay s b p fs → length fields ≤ length fs
  pub earliest : (p : ℕ) → (fs : List ℕ) → IsWay s b p fs → length fs ≡ length fields → ComesFirst (p ∷ fs) (place ∷ fields) → ⊥

-- each step has the object to which the fields lead with it
abbrev pub TellBirths : List (List Object) → Value → List Step → Type 0
TellBirths made v [] = Unit {0}
TellBirths made v (step ∷ steps) =
    (value_along made v (step.field ∷ []) ≡ Obj step.birth) × TellBirths made (Obj step.birth) steps

-- the fields of some steps
abbrev pub fields_of : List Step → List ℕ
fields_of steps = map (λ (step : Step). step.field) steps

-- the path is the least way, with the objects that it passes; its root slot is one of those that each domain has, so no other domain and
-- slot have its place
pub record IsPathTo (s : State) (b : Birth) (p : PathList) : Type 0 where
  pub least : IsLeastWay s b (place_of s.width p.root) (fields_of p.steps)
  pub slot : p.root.slot < s.width
  pub first : slice_index_or s.slots (place_of s.width p.root) Nil ≡ Obj p.first
  pub births : TellBirths s.made (Obj p.first) p.steps

-- no way leads to the object, since nothing reaches it
abbrev pub NoWay : State → Birth → Type 0
NoWay s b = Reached s.slots s.made b → ⊥

-- what a listing that a reader gave has of what a view asks
pub record IsViewable (l : ListingLists) : Type 0 where
  pub superpages : l.setup.superpages ≤ 4096
  pub slots : 0 < l.setup.slots
  pub few_slots : length l.roots < 2 ^ 32
  pub few : length l.cells + 1 < 2 ^ 32
  pub below : LieBelow l.cells (2048 * l.setup.superpages)
  pub rising : Rise l.cells
  pub packed : AllPacked l.roots l.cells
