-- When frames are short.
use Rattle.std.specs.Prelude.{ℕ, ◌+◌, ◌*◌, ◌<◌, ◌≤◌}
use Rattle.bc_superpages.specs.Layout.{Layout, superpages}

-- fewer frames are free than are wanted, and pages may use fewer than there are pages, but sixteen at least: within fewer a bookmark
-- collection finds little to free
pub record IsShortOfFrames (s : Layout) (wanted : ℕ) : Type 0 where
  pub free : s.free < wanted
  pub fewer : s.frames < s.nursery + 4 * superpages s
  pub enough : s.nursery + 16 ≤ s.frames
