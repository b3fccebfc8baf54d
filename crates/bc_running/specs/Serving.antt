-- Notices of a turn: requests that a page leave memory, each with a hint, where nobody works beside.
use Rattle.std.specs.Prelude.{◌≡◌, ℕ, List, length, slice_index}
use Prim.Native.Nat.{zero, suc}
use Rattle.bc_bookmarks.specs.Changes.{Settled}
use Rattle.bc_pager.specs.Alone.{GivesUpFor}
use Rattle.bc_superpages.specs.Layout.{Layout}

-- for each of the first n hints, one after another, a page was given up, or nothing changed where no page can leave
abbrev pub GivesUpFirst : Layout → List ℕ → ℕ → Layout → Type 0
GivesUpFirst s hints zero t = t ≡ s
GivesUpFirst s hints (suc n) t = (u : Layout) × GivesUpFirst s hints n u × GivesUpFor u (slice_index hints n) t

-- the notices of a turn were served, each once and in order, and then the space was settled
abbrev pub Served : Layout → List ℕ → Layout → Type 0
Served s hints t = (u : Layout) × GivesUpFirst s hints (length hints) u × Settled u t
