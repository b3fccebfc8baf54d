-- Handles for root slots: which are handed out.
use Rattle.std.specs.Prelude.{◌≡◌, ℕ, ◌<◌, ◌≤◌, Bool, true, false, slice_index_or, slice_set}
use Rattle.bc_model.specs.State.{place_of}
use Rattle.bc_model.specs.WellFormed.{IsSlot}
use Rattle.bc_model.specs.declared.values.Slot.{Slot}
use Rattle.sorvekla.specs.Heaps.{OpenHeap}
use Rattle.sorvekla.specs.declared.errors.HeapError.{HeapError}
use Rattle.sorvekla.specs.declared.errors.HeapError.TheVariants as error
use Rattle.sorvekla.specs.declared.roots.Root.{Root}

-- is the root slot handed out?
abbrev pub is_taken : OpenHeap → Slot → Bool
is_taken h p = slice_index_or h.taken (place_of h.setup.slots p) false

-- the heap with this slot handed out, or not handed out, by this flag
abbrev pub with_taken : OpenHeap → Slot → Bool → OpenHeap
with_taken h p b = record h { taken = slice_set h.taken (place_of h.setup.slots p) b }

-- a handle of the lane for a slot of the domain: the first of those that weren't handed out, and now it is
pub record HandsOut (h : OpenHeap) (lane domain : ℕ) (root : Root) (k : OpenHeap) : Type 0 where
  pub lane_is : root.lane ≡ lane
  pub domain_is : root.slot.domain ≡ domain
  pub slot : IsSlot h.setup root.slot
  pub free : is_taken h root.slot ≡ false
  pub first : (s : ℕ) → s < root.slot.slot → is_taken h (record { domain = domain; slot = s }) ≡ true
  pub taken : k ≡ with_taken h root.slot true

-- why none is handed out: nothing has changed
abbrev pub IsRootFault : OpenHeap → ℕ → ℕ → HeapError → Type 0
IsRootFault h lane domain error.NoLane = h.setup.lanes ≤ lane
IsRootFault h lane domain error.NoDomain = h.setup.domains ≤ domain
IsRootFault h lane domain error.NoRootLeft = (s : ℕ) → s < h.setup.slots → is_taken h (record { domain = domain; slot = s }) ≡ true
IsRootFault h lane domain _ = ⊥
