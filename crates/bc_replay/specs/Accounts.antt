-- In the theorem.
-- The account of a heap that is handed back: what of it left memory is summarised, and how many frames are free and in use.
use Rattle.std.specs.Prelude.{◌≡◌, ◌+◌, ◌*◌, ◌≤◌, None}
use Rattle.bc_bookmarks.specs.Summarised.{IsSummarised}
use Rattle.bc_engine.specs.Engines.{EngineView}
use Rattle.bc_superpages.specs.Calls.{resident_count}

-- The heap is in order as to its pages. Bookmarks and counters stand for what the pages that left refer to. Free frames, those that no
-- page may use and resident pages add up to the setup's frames; that each frame's number is in one place is kept by the type of the space
-- (`IsAccount`). The frames that no page may use are those of nursery pages, and besides, on a heap that turned out too small in a turn
-- with withheld frames, these. Two frames are left at least.
pub record KeepsAccount (e : EngineView) : Type 0 where
  pub summarised : IsSummarised e.running.heap.space
  pub frames : e.running.heap.space.frames ≡ e.setup.frames
  pub nursery : e.setup.lanes * e.setup.nursery ≤ e.running.heap.space.nursery
  pub returned : e.ended ≡ None → e.running.heap.space.nursery ≡ e.setup.lanes * e.setup.nursery
  pub two : e.running.heap.space.nursery + 2 ≤ e.running.heap.space.frames
  pub account : e.running.heap.space.free + (e.running.heap.space.nursery + resident_count e.running.heap.space) ≡ e.running.heap.space.frames
