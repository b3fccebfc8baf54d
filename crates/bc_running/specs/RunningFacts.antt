-- What is true of a heap that lanes run on between calls, and what each call leaves.
use Rattle.std.specs.Prelude.{◌≡◌, ◌≢◌, ℕ, ◌/◌, ◌%◌, ◌<◌, ◌≤◌, List, length, map, replicate, slice_index, slice_set}
use Rattle.bc_cycle.specs.Emptying.{BringsNoBirth}
use Rattle.bc_cycle.specs.Openings.{new_buffers, new_chunks, new_heap}
use Rattle.bc_whole_heap.specs.Closed.{buffer_of}
use Rattle.bc_whole_heap.specs.LaneChunks.{chunk_of}
use Rattle.bc_whole_heap.specs.Heaps.{HeapView}
use Rattle.bc_whole_heap.specs.HeapFacts.{HasTwoFrames}
use Rattle.bc_whole_heap.specs.Running.{IsRunning}
use Rattle.bc_model.specs.State.{holder_of, numbers_below}
use Rattle.bc_model.specs.declared.traces.Setup.{Setup}
use Rattle.bc_model.specs.declared.values.Holder.{Holder}
use Rattle.bc_model.specs.declared.values.Holder.TheVariants.{Lane}
use Rattle.bc_model.specs.declared.values.Slot.{Slot}
use Rattle.bc_mutator.specs.Operations.{NoneLater}
use Rattle.bc_superpages.specs.Layout.{Layout, content_at}
use Rattle.bc_superpages.specs.RootSlots.{root_at}
use Rattle.bc_superpages.specs.RootWords.{RootWords}
use Rattle.bc_running.specs.Running.{RunningView}

-- a heap that lanes run on: a heap, who holds each domain, and each lane's births
abbrev pub running_of : HeapView → List Holder → List ℕ → RunningView
running_of heap holders serials = record { heap = heap; holders = holders; serials = serials }

-- the heap that lanes run on with this space
abbrev pub with_space : RunningView → Layout → RunningView
with_space r space = record r { heap = record (r.heap) { space = space } }

-- what is true between calls: lanes can run on the heap, no object of it has a later birth of a lane than the lane's last one, and two
-- frames aren't those of nursery pages
pub record IsSound (r : RunningView) : Type 0 where
  pub running : IsRunning r.heap r.holders
  pub later : (l : ℕ) → l < length r.serials → NoneLater r.heap.space r.heap.chunks l (slice_index r.serials l)
  pub frames : HasTwoFrames r.heap.space
  pub lanes : length r.heap.chunks ≡ length r.serials
  pub few : length r.serials ≤ 16

-- what a run of this setup begins with: a new heap, of which lane `d % lanes` holds domain d, and no birth
abbrev pub new_running : Setup → RunningView
new_running setup = running_of (new_heap setup) (map (λ d. Lane (d % setup.lanes)) (numbers_below setup.domains)) (replicate setup.lanes 0)

-- the heap of these root slots and this space, with the setup's chunks and write buffers and nothing in them
abbrev pub adopted_heap : Setup → RootWords → Layout → HeapView
adopted_heap setup roots s = record { space = s; roots = roots; chunks = new_chunks setup; buffers = new_buffers setup }

-- what an operation of a lane leaves as it was: holders, the births, chunks and write buffers of other lanes, the contents of pages and the
-- root slots of domains that it doesn't hold, and so of all frozen ones, all sizes, and of the space all but states and contents of pages,
-- and what changes where a page comes back: free frames, bookmarks, counters and reads
pub record StaysBut (lane : ℕ) (r q : RunningView) : Type 0 where
  pub holders : q.holders ≡ r.holders
  pub serials : q.serials ≡ slice_set r.serials lane (slice_index q.serials lane)
  pub others : (l : ℕ) → l ≢ lane → (chunk_of q.heap.chunks l ≡ chunk_of r.heap.chunks l) × (buffer_of q.heap.buffers l ≡ buffer_of r.heap.buffers l)
  pub space : q.heap.space ≡ record r.heap.space {
    states = q.heap.space.states;
    pages = q.heap.space.pages;
    free = q.heap.space.free;
    bookmarks = q.heap.space.bookmarks;
    incoming = q.heap.space.incoming;
    reads = q.heap.space.reads;
  }
  pub pages : (page : ℕ) → holder_of r.holders (slice_index r.heap.space.domains (page / 4)) ≢ Lane lane → content_at q.heap.space.pages page ≡ content_at r.heap.space.pages page
  pub roots : q.heap.roots ≡ record r.heap.roots { words = q.heap.roots.words; noted = q.heap.roots.noted }
  pub slots : (p : Slot) → holder_of r.holders p.domain ≢ Lane lane → p.slot < r.heap.roots.slots → root_at q.heap.roots p.domain p.slot ≡ root_at r.heap.roots p.domain p.slot
  pub chunk : chunk_of q.heap.chunks lane ≡ record (chunk_of r.heap.chunks lane) { objects = (chunk_of q.heap.chunks lane).objects }
  pub chunks : length q.heap.chunks ≡ length r.heap.chunks
  pub buffers : length q.heap.buffers ≡ length r.heap.buffers
  pub capacity : (buffer_of q.heap.buffers lane).capacity ≡ (buffer_of r.heap.buffers lane).capacity

-- what a collection leaves: a heap that lanes can run on, in which no birth comes from nowhere, and as many frames and lanes
pub record Collects (h k : HeapView) (holders : List Holder) : Type 0 where
  pub running : IsRunning k holders
  pub born : BringsNoBirth h k
  pub frames : HasTwoFrames h.space → HasTwoFrames k.space
  pub lanes : length k.chunks ≡ length h.chunks
