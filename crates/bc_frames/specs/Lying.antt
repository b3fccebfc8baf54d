-- What lies in a page's place of the store.
use Rattle.std.specs.Prelude.{ℕ, ◌≤◌, Bool, true, false, List, Option, Some, None, replicate, count_by}
use Rattle.bc_frames.specs.declared.storage.Place.{Place}
use Rattle.bc_frames.specs.declared.storage.Place.TheVariants.{Empty, Unused, Full}

-- the words of what lies in a place, if anything does: a page that was never used has zeros
abbrev pub lying_in : Place → Option (List ℕ)
lying_in Empty = None
lying_in Unused = Some (replicate 512 0)
lying_in (Full page) = Some page

-- in the place lie the zeros of a page that was never used
abbrev pub is_unused : Place → Bool
is_unused Empty = false
is_unused Unused = true
is_unused (Full page) = false

-- there is a page for each that was never used
abbrev pub HasPages : List Place → ℕ → Type 0
HasPages places rows = count_by is_unused places ≤ rows
