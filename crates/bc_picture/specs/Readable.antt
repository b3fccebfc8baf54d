-- A space all of whose pages can be read one after another.
use Rattle.std.specs.Prelude.{◌≡◌, ◌≢◌, ℕ, ◌+◌, ◌≤◌, false}
use Rattle.bc_superpages.specs.declared.headers.PageState.TheVariants.{Remembered}
use Rattle.bc_superpages.specs.Layout.{Layout, is_cell}
use Rattle.bc_superpages.specs.LayoutAt.{state_at}
use Rattle.bc_bookmarks.specs.Targets.{NamesCells}
use Rattle.bc_bookmarks.specs.Summarised.{IsSummarised}

-- nothing is promised and no page is Remembered
pub record IsCalm (s : Layout) : Type 0 where
  pub promised : (x : ℕ) → is_cell s.classes s.promised x ≡ false
  pub remembered : (p : ℕ) → state_at s.states p ≢ Remembered

-- pages can leave and come back: they may use a frame, and what they refer to are cells
pub record CanBeRead (s : Layout) : Type 0 where
  pub calm : IsCalm s
  pub summarised : IsSummarised s
  pub frames : s.nursery + 1 ≤ s.frames
  pub names : (p : ℕ) → NamesCells s p
