use Rattle.std.proofs.Common.{ℕ, ◌<◌, List, length, get_or, subst}
use Rattle.bc_cycle.specs.Emptying.{heap_view}
use Rattle.bc_nursery.specs.Objects.{IsChunk}
use Rattle.bc_nursery.specs.Nurseries.{Nursery}
use Rattle.bc_turn.proofs.OpenableLemmas.{openable}
use Rattle.bc_whole_heap.specs.Heaps.{no_chunk}
use Rattle.bc_running.proofs.serving.serve_heap.Goals as goal

pub serve_space-requires : goal.serve_space-requires
serve_space-requires c = record {
  openable =
      openable (heap_view c.args.heap.now) c.args.holders.now c.heap_facts.ensures.layout
      (subst (λ (cs : List Nursery). (l : ℕ) → l < length cs → IsChunk (get_or cs l no_chunk)) c.deref.ensures.value c.heap_facts.ensures.whole) c.requires;
}
