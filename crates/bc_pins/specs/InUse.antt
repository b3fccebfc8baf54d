-- The frames that are in use at a moment of a turn, and how many they are at most.
use Rattle.std.specs.Prelude.{ℕ, ◌+◌, ◌<◌, ◌≤◌, length}
use Rattle.bc_pins.specs.Key.{Key}
use Rattle.bc_pins.specs.Totals.{sum_to, times}
use Rattle.bc_pins.specs.Facts.{Table, frame_used}

-- how often a frame is taken: as that of a page at home or in hand, as a right in hand, or as one that no page may use, which is a
-- nursery's or withheld
abbrev pub uses_of_frame : Key → Table → ℕ → ℕ
uses_of_frame k s frame = frame_used s frame + times frame k.nursery

-- no frame is taken twice, only the heap's frames are, and at most as many as the heap has. So pages and rights in hand use at most as
-- many as the heap has, less the nurseries' and those withheld
pub record HasFewFramesInUse (k : Key) (s : Table) : Type 0 where
  pub once : (frame : ℕ) → uses_of_frame k s frame ≤ 1
  pub within : (frame : ℕ) → 0 < uses_of_frame k s frame → frame < k.frames
  pub few : (n : ℕ) → sum_to (uses_of_frame k s) n ≤ k.frames
  pub pages : (n : ℕ) → sum_to (frame_used s) n + length k.nursery ≤ k.frames
