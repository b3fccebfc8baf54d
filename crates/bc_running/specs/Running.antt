-- In the theorem.
-- A heap that lanes run on.
use Rattle.std.specs.Prelude.{◌≡◌, ℕ, List, []}
use Rattle.bc_whole_heap.specs.Heaps.{HeapView}
use Rattle.bc_whole_heap.specs.LaneChunks.{chunk_of}
use Rattle.bc_whole_heap.specs.LaneStates.{StandsAs}
use Rattle.bc_model.specs.State.{State}
use Rattle.bc_model.specs.declared.values.Holder.{Holder}

-- the heap, the holder of each domain, and the number of births of each lane
pub record RunningView : Type 0 where
  pub heap : HeapView
  pub holders : List Holder
  pub serials : List ℕ

-- the heap that lanes run on stands for the state
abbrev pub RunningStands : RunningView → State → Type 0
RunningStands r state = StandsAs r.heap r.holders r.serials state

-- all chunks are empty
abbrev pub HasEmptyChunks : HeapView → Type 0
HasEmptyChunks h = (l : ℕ) → (chunk_of h.chunks l).objects ≡ []
