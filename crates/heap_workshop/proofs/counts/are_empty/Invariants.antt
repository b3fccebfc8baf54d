use Rattle.std.proofs.Common.{◌≡◌, ℕ, ◌<◌, []}
use Rattle.bc_whole_heap.specs.LaneChunks.{chunk_of}
use Rattle.heap_workshop.proofs.counts.are_empty.Given as goal

abbrev pub invariant-loop-chunk : goal.invariant-loop-chunk
invariant-loop-chunk l = (k : ℕ) → k < l.chunk-index → (chunk_of l.chunks k).objects ≡ []
