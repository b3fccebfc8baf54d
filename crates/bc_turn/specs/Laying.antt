-- What the lanes took into a turn, laid back into the heap: first one lane's, then all.
use Rattle.std.specs.Prelude.{◌≡◌, ◌≢◌, ◌⊎◌, ℕ, ◌+◌, ◌<◌, List, length, slice_index, slice_set}
use Rattle.bc_lane.specs.declared.parts.LanePart.{LanePart}
use Rattle.bc_lane.specs.declared.turns.LaneTurn.{LaneTurn}
use Rattle.bc_model.specs.State.{holder_of}
use Rattle.bc_model.specs.declared.operations.Reply.{Reply}
use Rattle.bc_model.specs.declared.values.Holder.{Holder}
use Rattle.bc_model.specs.declared.values.Holder.TheVariants.{Lane}
use Rattle.bc_mutator.specs.Objects.{own_chunk}
use Rattle.bc_reach.specs.Distinct.{Has}
use Rattle.bc_superpages.specs.RootSlots.{root_at}
use Rattle.bc_superpages.specs.RootWords.{RootWords}
use Rattle.bc_turn.specs.Begun.{of_lane}
use Rattle.bc_whole_heap.specs.Closed.{buffer_of}
use Rattle.bc_whole_heap.specs.Heaps.{HeapView}

-- the lane's words lie in the root slots of its domains, and all other slots are as they were. A slot whose word changed is noted
pub record LaysWords (holders : List Holder) (part : LanePart) (old new : RootWords) : Type 0 where
  pub same : new ≡ record old { words = new.words; noted = new.noted }
  pub long : length new.words ≡ length old.words
  pub own : (d t : ℕ) → d < length holders → holder_of holders d ≡ Lane part.lane → t < old.slots
      → root_at new d t ≡ slice_index part.words.items (slice_index part.starts.items d + t)
  pub others : (d t : ℕ) → d < length holders → holder_of holders d ≢ Lane part.lane → t < old.slots → root_at new d t ≡ root_at old d t
  pub kept : (i : ℕ) → Has old.noted i → Has new.noted i
  pub written : (i : ℕ) → (slice_index new.words i ≡ slice_index old.words i) ⊎ Has new.noted i

-- what one lane took into the turn is laid back. `serials` and `told` are the births and replies of all lanes before, `nexts` and
-- `after` those then
pub record LaysBack (holders : List Holder) (turn : LaneTurn) (old : HeapView) (serials : List ℕ) (told : List (List Reply)) (new : HeapView) (nexts : List ℕ) (after : List (List Reply)) : Type 0 where
  pub space : new.space ≡ old.space
  pub roots : LaysWords holders turn.part old.roots new.roots
  pub chunks : new.chunks ≡ slice_set old.chunks turn.part.lane turn.part.chunk
  pub buffers : new.buffers ≡ slice_set old.buffers turn.part.lane turn.part.buffer
  pub births : nexts ≡ slice_set serials turn.part.lane turn.part.serial
  pub replies : after ≡ slice_set told turn.part.lane turn.replies.items

-- as much was laid back, by the heap at the beginning: what the first n of the busy lanes took into the turn. What isn't a busy
-- lane's is as at the beginning
pub record AreLaidBack (holders : List Holder) (busy : List ℕ) (turn : ℕ → LaneTurn) (n : ℕ) (h : HeapView) (serials : List ℕ) (before : List (List Reply)) (k : HeapView) (nexts : List ℕ) (after : List (List Reply)) : Type 0 where
  pub chunks_long : length k.chunks ≡ length h.chunks
  pub buffers_long : length k.buffers ≡ length h.buffers
  pub births_long : length nexts ≡ length serials
  pub replies_long : length after ≡ length before
  pub words_long : length k.roots.words ≡ length h.roots.words
  pub roots : k.roots ≡ record h.roots { words = k.roots.words; noted = k.roots.noted }
  pub chunk : (i : ℕ) → i < n → own_chunk k (slice_index busy i) ≡ (turn i).part.chunk
  pub buffer : (i : ℕ) → i < n → buffer_of k.buffers (slice_index busy i) ≡ (turn i).part.buffer
  pub births : (i : ℕ) → i < n → slice_index nexts (slice_index busy i) ≡ (turn i).part.serial
  pub replies : (i : ℕ) → i < n → of_lane after (slice_index busy i) ≡ (turn i).replies.items
  pub words : (i d t : ℕ) → i < n → d < length holders → holder_of holders d ≡ Lane (slice_index busy i) → t < h.roots.slots
      → root_at k.roots d t ≡ slice_index (turn i).part.words.items (slice_index (turn i).part.starts.items d + t)
  pub chunk_else : (l : ℕ) → (Has busy l → ⊥) → own_chunk k l ≡ own_chunk h l
  pub buffer_else : (l : ℕ) → (Has busy l → ⊥) → buffer_of k.buffers l ≡ buffer_of h.buffers l
  pub births_else : (l : ℕ) → (Has busy l → ⊥) → slice_index nexts l ≡ slice_index serials l
  pub replies_else : (l : ℕ) → (Has busy l → ⊥) → of_lane after l ≡ of_lane before l
  pub words_else : (d t : ℕ) → d < length holders → ((lane : ℕ) → holder_of holders d ≡ Lane lane → Has busy lane → ⊥) → t < h.roots.slots → root_at k.roots d t ≡ root_at h.roots d t
  pub kept : (i : ℕ) → Has h.roots.noted i → Has k.roots.noted i
  pub written : (i : ℕ) → (slice_index k.roots.words i ≡ slice_index h.roots.words i) ⊎ Has k.roots.noted i
