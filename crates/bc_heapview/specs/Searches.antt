-- The search for least ways.
use Rattle.std.specs.Prelude.{◌≡◌, ◌⊎◌, ℕ, ◌+◌, ◌<◌, ◌≤◌, Bool, true, false, if◌then◌else◌, List, [], ◌∷◌, ◌++◌, length, Option, Some, slice_index_or, slice_set}
use Rattle.std.specs.List.{sum_by}
use Rattle.bc_bits.specs.Counting.{one_if}
use Rattle.bc_image.specs.Cells.{CellList}
use Rattle.bc_heapview.specs.Targets.{leads}
use Rattle.bc_heapview.specs.Ways.{Way, from_slot, by_field, Before, AtMost}
use Rattle.bc_heapview.specs.declared.search.Found.{Found}
use Rattle.bc_heapview.specs.declared.search.Origin.{Origin}
use Rattle.bc_heapview.specs.declared.search.Origin.TheVariants.{Slot, Field}

-- the object of this number was seen
abbrev pub is_seen : List Bool → ℕ → Bool
is_seen seen n = slice_index_or seen n false

-- the finds after an object was looked at, which is a find more if it wasn't seen
abbrev pub found_after : List Found → List Bool → ℕ → Origin → List Found
found_after found seen node origin = if is_seen seen node then found else found ++ record { node = node; origin = origin } ∷ []

-- which objects were seen after one was looked at
abbrev pub seen_after : List Bool → ℕ → List Bool
seen_after seen node = if is_seen seen node then seen else slice_set seen node true

-- what stands for a find after the last one
abbrev pub no_find : Found
no_find = record { node = 0; origin = Slot 0 }

-- the find of this number
abbrev pub find_at : List Found → ℕ → Found
find_at found k = slice_index_or found k no_find

-- the way by which a find was made
abbrev pub HasOrigin : (ℕ → Way) → ℕ → Origin → Type 0
HasOrigin ways k (Slot r) = ways k ≡ from_slot r
HasOrigin ways k (Field e i) = (e < k) × (ways k ≡ by_field (ways e) i)

-- each find is of another object, to which its way leads, and the ways rise
pub record AreFinds (roots : List ℕ) (cells : List CellList) (found : List Found) (ways : ℕ → Way) : Type 0 where
  pub leading : (k : ℕ) → k < length found → leads roots cells (ways k) ≡ Some (find_at found k).node
  pub origin : (k : ℕ) → k < length found → HasOrigin ways k (find_at found k).origin
  pub rising : (j k : ℕ) → j < k → k < length found → Before (ways j) (ways k)
  pub once : (j k : ℕ) → j < length found → k < length found → (find_at found j).node ≡ (find_at found k).node → j ≡ k
  pub within : (k : ℕ) → k < length found → (find_at found k).node < length cells

-- the object was found by this way, or by one that comes before it
pub record FoundBy (found : List Found) (ways : ℕ → Way) (node : ℕ) (v : Way) : Type 0 where
  pub entry : ℕ
  pub within : entry < length found
  pub node_is : (find_at found entry).node ≡ node
  pub least : AtMost (ways entry) v

-- where the way leads to was found, by it or by a way that comes before it
abbrev pub IsCovered : List ℕ → List CellList → List Found → (ℕ → Way) → Way → Type 0
IsCovered roots cells found ways v = (n : ℕ) → leads roots cells v ≡ Some n → FoundBy found ways n v

-- the finds are all objects that ways lead to, each with its least way, in their order
pub record IsSearched (roots : List ℕ) (cells : List CellList) (found : List Found) : Type 0 where
  pub ways : ℕ → Way
  pub finds : AreFinds roots cells found ways
  pub all : (v : Way) → IsCovered roots cells found ways v

-- how many objects were seen
abbrev pub seen_count : List Bool → ℕ
seen_count seen = sum_by one_if seen

-- the finds, and what was seen
pub record AreNotedFinds (roots : List ℕ) (cells : List CellList) (found : List Found) (seen : List Bool) (ways : ℕ → Way) : Type 0 where
  pub finds : AreFinds roots cells found ways
  pub sized : length seen ≡ length cells
  pub counted : seen_count seen ≡ length found
  pub seen_found : (n : ℕ) → is_seen seen n ≡ true → (k : ℕ) × (k < length found) × ((find_at found k).node ≡ n)
  pub found_seen : (k : ℕ) → k < length found → is_seen seen (find_at found k).node ≡ true

-- the root slots below one were gone over
pub record SlotsNoted (roots : List ℕ) (cells : List CellList) (found : List Found) (seen : List Bool) (count : ℕ) : Type 0 where
  pub ways : ℕ → Way
  pub noted : AreNotedFinds roots cells found seen ways
  pub covered : (r : ℕ) → r < count → IsCovered roots cells found ways (from_slot r)
  pub below : (k : ℕ) → k < length found → Before (ways k) (from_slot count)

-- all root slots, all fields of the finds below one, and its fields below one
pub record FieldsNoted (roots : List ℕ) (cells : List CellList) (found : List Found) (seen : List Bool) (entry field : ℕ) : Type 0 where
  pub ways : ℕ → Way
  pub noted : AreNotedFinds roots cells found seen ways
  pub slots : (r : ℕ) → IsCovered roots cells found ways (from_slot r)
  pub before : (e i : ℕ) → e < entry → e < length found → IsCovered roots cells found ways (by_field (ways e) i)
  pub here : (i : ℕ) → i < field → entry < length found → IsCovered roots cells found ways (by_field (ways entry) i)
  pub below : entry < length found → (k : ℕ) → k < length found → Before (ways k) (by_field (ways entry) field)
