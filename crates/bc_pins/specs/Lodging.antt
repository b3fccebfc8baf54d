-- Boxes that move between a space's lists and the slots of a table.
use Rattle.std.specs.Prelude.{◌≡◌, ℕ, ◌+◌, ◌<◌, ◌≤◌, List, length, Option, Some, None, slice_index_or}
use Rattle.bc_superpages.specs.declared.spaces.Homed.{Homed}
use Rattle.bc_pins.specs.Key.{home_slot}
use Rattle.bc_pins.specs.declared.views.Lodged.{Lodged}
use Rattle.bc_pins.specs.declared.views.Lodged.TheVariants.{Nothing, Home, Away}

-- the first items of a list were replaced, item i by f i
pub record Replaced {A : Type 0} (default : A) (old new : List A) (count : ℕ) (f : ℕ → A) : Type 0 where
  pub long : length new ≡ length old
  pub near : (i : ℕ) → i < count → slice_index_or new i default ≡ f i
  pub far : (i : ℕ) → count ≤ i → slice_index_or new i default ≡ slice_index_or old i default

-- what is lodged in a frame slot: a box that is home, or nothing
abbrev pub home_of : Option Homed → Lodged
home_of None = Nothing
home_of (Some homed) = Home homed

-- what is lodged in a store slot: a content that is away, or nothing
abbrev pub away_of : Option (List ℕ) → Lodged
away_of None = Nothing
away_of (Some content) = Away content

-- the box that is lodged, if one is
abbrev pub box_of : Lodged → Option Homed
box_of Nothing = None
box_of (Home homed) = Some homed
box_of (Away content) = None

-- the content that is lodged away, if one is
abbrev pub place_of : Lodged → Option (List ℕ)
place_of Nothing = None
place_of (Home homed) = None
place_of (Away content) = Some content

-- a box lies in a page's frame slot or in its place in the store, and not in both
abbrev pub LiesOnce : Lodged → Option (List ℕ) → Type 0
LiesOnce (Home homed) None = Unit {0}
LiesOnce (Home homed) (Some content) = ⊥
LiesOnce Nothing None = ⊥
LiesOnce Nothing (Some content) = Unit {0}
LiesOnce (Away x) place = ⊥

-- of the boxes in these lists those that belong into the first so many slots are in them, and out of the lists
pub record AreOut (boxes : List (Option Homed)) (places : List (Option (List ℕ))) (left : List (Option Homed)) (stored : List (Option (List ℕ))) (slots : List Lodged) (count : ℕ) : Type 0 where
  pub long : length slots ≡ count
  pub boxes_long : length left ≡ length boxes
  pub places_long : length stored ≡ length places
  pub homes : (p : ℕ) → home_slot p < count → slice_index_or slots (home_slot p) Nothing ≡ home_of (slice_index_or boxes p None)
  pub aways : (p : ℕ) → home_slot p + 4 < count → slice_index_or slots (home_slot p + 4) Nothing ≡ away_of (slice_index_or places p None)
  pub box_out : (p : ℕ) → home_slot p < count → slice_index_or left p None ≡ None
  pub box_left : (p : ℕ) → count ≤ home_slot p → slice_index_or left p None ≡ slice_index_or boxes p None
  pub place_out : (p : ℕ) → home_slot p + 4 < count → slice_index_or stored p None ≡ None
  pub place_left : (p : ℕ) → count ≤ home_slot p + 4 → slice_index_or stored p None ≡ slice_index_or places p None
