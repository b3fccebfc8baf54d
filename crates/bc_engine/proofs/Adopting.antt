-- The heap of an engine that goes on with parts is in order, and stands for what the parts stand for.
use Rattle.std.proofs.Common.{◌≡◌, ℕ, ◌+◌, ◌*◌, ◌%◌, ◌^◌, ◌<◌, List, [], length, get_or, sym, ◌∙◌, ap, subst, arith}
use Rattle.std.proofs.lemmas.List.{get_or-replicate, length-replicate}
use Rattle.bc_cycle.specs.Openings.{new_buffers, new_chunks}
use Rattle.bc_cycle.proofs.OpeningLemmas.{chunk-at, chunk-none, chunks-long, no_entries}
use Rattle.bc_model.specs.State.{State}
use Rattle.bc_model.specs.declared.traces.Setup.{Setup}
use Rattle.bc_model.specs.declared.values.Holder.{Holder}
use Rattle.bc_nursery.specs.Entries.{Entries}
use Rattle.bc_nursery.specs.Nurseries.{Nursery}
use Rattle.bc_superpages.specs.Kept.{IsLayout}
use Rattle.bc_superpages.specs.Layout.{Layout}
use Rattle.bc_superpages.specs.RootWords.{RootWords}
use Rattle.bc_whole_heap.specs.Heaps.{end_of}
use Rattle.bc_whole_heap.specs.HeapFacts.{AreChunks}
use Rattle.bc_word.specs.WordBits.{IsPacked}
use Rattle.bc_running.specs.Running.{HasEmptyChunks, RunningStands, RunningView}
use Rattle.bc_running.specs.RunningFacts.{adopted_heap, running_of}
use Rattle.bc_engine.specs.Counting.{IsCounted, counts_from}
use Rattle.bc_engine.specs.EngineFacts.{CanRunLanes, IsUnrecorded, NoneWithheld}
use Rattle.bc_engine.specs.Parts.{CanAdopt, PartsStand}
use Rattle.bc_engine.proofs.Parting.{adopted_state, parts-stand, runs-adopted, stands-adopted}

-- what is true of the engine that goes on with the parts
pub record IsAdopted (setup : Setup) (holders : List Holder) (serials : List ℕ) (roots : RootWords) (s : Layout) (r : RunningView) : Type 0 where
  pub ready : CanRunLanes setup r
  pub stands : (state : State) → PartsStand setup holders serials roots s state → RunningStands r state
  pub chunks : HasEmptyChunks r.heap
  pub unrecorded : IsUnrecorded r.heap
  pub returned : NoneWithheld setup r.heap
  pub counted : IsCounted (counts_from s.reads) r.heap.space.reads

counted-from : (n : ℕ) → n < 2 ^ 64 → (n + (0 + 0 + 0 + 0) % 2 ^ 64) % 2 ^ 64 ≡ n
counted-from n lt = omega (arith, lt)

module _ (setup : Setup) (holders : List Holder) (serials : List ℕ) (roots : RootWords) (s : Layout) (can : CanAdopt setup holders serials roots s) (kept : IsLayout s) (packed : (k : ℕ) → IsPacked (get_or roots.words k 0)) (long : length roots.words ≡ roots.domains * roots.slots) (few : s.reads < 2 ^ 64) where
  laid : AreChunks (end_of s) (512 * setup.nursery) (new_chunks setup)
  laid =
      let count = can.supers in
      record {
        base = λ l lt.
            let lane : l < setup.lanes = omega (arith, lt, chunks-long setup) in
            ap (λ (c : Nursery). c.base) (chunk-at setup l lane) ∙ ap (λ (n : ℕ). 2048 * n + 512 * setup.nursery * l) (sym count);
        long = λ l lt. ap (λ (c : Nursery). c.words) (chunk-at setup l (omega (arith, lt, chunks-long setup)));
      }

  buffered : length (new_buffers setup) ≡ setup.lanes
  buffered = length-replicate setup.lanes _

  stands : (state : State) → PartsStand setup holders serials roots s state → RunningStands (running_of (adopted_heap setup roots s) holders serials) state
  stands = stands-adopted setup holders serials roots s can kept (new_chunks setup) (new_buffers setup) (chunk-none setup) (chunks-long setup)

  whole : IsAdopted setup holders serials roots s (running_of (adopted_heap setup roots s) holders serials)
  whole = record {
    ready = record {
      range = can.range;
      order = runs-adopted setup holders serials roots s can kept (new_chunks setup) (new_buffers setup) (chunk-none setup) (chunks-long setup) buffered (no_entries setup) (512 * setup.nursery) laid;
      fits = record {
        supers = can.supers;
        domains = can.rooted;
        slots = can.slots;
        lanes = chunks-long setup;
        words = λ l lt. ap (λ (c : Nursery). c.words) (chunk-at setup l lt);
        entries = λ l lt. ap (λ (b : Entries). b.capacity) (get_or-replicate setup.lanes l (record { capacity = setup.buffer; entries = [] }) _ lt);
        nursery = omega (arith, can.nursery);
        two = omega (arith, can.nursery, can.frames, can.range.frames.0);
        frames = can.frames;
        used = can.used;
      };
      lanes = can.lanes;
      meant = (adopted_state setup holders serials roots s can kept, stands (adopted_state setup holders serials roots s can kept) (parts-stand setup holders serials roots s can kept packed long));
    };
    stands = stands;
    chunks = chunk-none setup;
    unrecorded = record { entries = no_entries setup; remembered = can.none_remembered };
    returned = can.nursery;
    counted = counted-from s.reads few;
  }

  pub adopted : (r : RunningView) → r ≡ running_of (adopted_heap setup roots s) holders serials → IsAdopted setup holders serials roots s r
  adopted r is = subst (IsAdopted setup holders serials roots s) (sym is) whole
