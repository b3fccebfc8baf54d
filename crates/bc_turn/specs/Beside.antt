-- Lanes that ran side by side in one turn, as if one had run after another.
use Rattle.std.specs.Prelude.{◌≡◌, ◌⊎◌, ◌↔◌, ℕ, ◌+◌, ◌/◌, ◌<◌, ◌≤◌, List, [], ◌++◌, length, take, drop, slice_index, slice_index_or}
use Rattle.bc_bookmarks.specs.Moves.{MovesPages}
use Rattle.bc_bookmarks.specs.Summarised.{IsSummarised}
use Rattle.bc_lane.specs.Doing.{DidAll}
use Rattle.bc_lane.specs.Turns.{LooksRightOn}
use Rattle.bc_model.specs.State.{holder_of}
use Rattle.bc_model.specs.declared.operations.Op.{Op}
use Rattle.bc_model.specs.declared.operations.Reply.{Reply}
use Rattle.bc_model.specs.declared.values.Holder.{Holder}
use Rattle.bc_model.specs.declared.values.Holder.TheVariants.{Frozen}
use Rattle.bc_mutator.specs.Objects.{own_chunk}
use Rattle.bc_mutator.specs.Operations.{NeedsEntry, WantsMore}
use Rattle.bc_nursery.specs.Objects.{left_of}
use Rattle.bc_reach.specs.Distinct.{Has}
use Rattle.bc_superpages.specs.declared.headers.PageState.TheVariants.{Gone, Remembered}
use Rattle.bc_superpages.specs.Layout.{Layout}
use Rattle.bc_superpages.specs.LayoutAt.{IsAllocated, state_at}
use Rattle.bc_whole_heap.specs.Closed.{buffer_of}
use Rattle.bc_whole_heap.specs.Heaps.{HeapView}
use Rattle.bc_word.specs.declared.addresses.Address.{Address}
use Rattle.bc_word.specs.declared.words.Word.TheVariants.{Ref}
use Rattle.bc_word.specs.Words.{word_of_bits}

-- the pages of a space as a closed table gives them back, against what the lanes' operations make of it one after another: the
-- contents are the same, pages may have moved, those that are Remembered are so still and no others, and the space is summarised
pub record LiesBack (s t : Layout) : Type 0 where
  pub same : t ≡ record s { states = t.states; free = t.free; bookmarks = t.bookmarks; incoming = t.incoming; reads = t.reads }
  pub remembered : (p : ℕ) → (state_at s.states p ≡ Remembered) ↔ (state_at t.states p ≡ Remembered)
  pub summarised : IsSummarised t

-- a heap after the turn, against the one that the lanes' operations make: pages may have moved, and a root slot that refers to an
-- object of a chunk is noted
pub record IsLaidBack (h k : HeapView) : Type 0 where
  pub pages : LiesBack h.space k.space
  pub roots : k.roots ≡ record h.roots { noted = k.roots.noted }
  pub noted : (i : ℕ) → (a : Address) → i < length k.roots.words → word_of_bits (slice_index k.roots.words i) ≡ Ref a
      → IsAllocated k.space a.0 ⊎ Has k.roots.noted i
  pub chunks : k.chunks ≡ h.chunks
  pub buffers : k.buffers ≡ h.buffers

-- why a lane's next operation can't be done in this turn, said of the heap that its operations make and of the space after the turn: as
-- on plain data, or it looks at an object in a cell, as the lane may, on a page that is Gone after the turn. When the lane stopped the page was Gone and
-- there was no frame for it, or it was in the hands of a pager or of another lane, who put none back. Or it looks at one on a page of a
-- frozen domain, which any lane may take and puts back: another lane had it in hand, or it was Gone
abbrev pub StopsBeside : List Holder → ℕ → Op → HeapView → Layout → Type 0
StopsBeside holders lane op h t =
    WantsMore holders lane (left_of (own_chunk h lane)) op
    ⊎ (NeedsEntry holders lane h.space h.roots (own_chunk h lane) (buffer_of h.buffers lane) op
    ⊎ (((page : ℕ) × LooksRightOn holders lane h op page × (state_at t.states page ≡ Gone))
    ⊎ ((page : ℕ) × LooksRightOn holders lane h op page × (holder_of holders (slice_index h.space.domains (page / 4)) ≡ Frozen))))

-- all of a lane's operations have replies, or this is true of the next one
abbrev pub IsAtEndOr : List Op → List Reply → (Op → Type 0) → Type 0
IsAtEndOr ops replies P =
    (length ops ≤ length replies)
    ⊎ ((op : Op) × (length replies < length ops) × (op ≡ slice_index_or ops (length replies) op) × P op)

-- pages of a heap moved, and nothing else of it changed
abbrev pub PagesMoved : HeapView → HeapView → Type 0
PagesMoved h k = MovesPages h.space k.space × (k ≡ record h { space = k.space })

-- lanes that ran side by side, as if one had run after another: pages came back first; then lane j found the heap `at j` and left the heap
-- `at (j + 1)`. It gave the replies `new j`. `before` and `serials` are the replies and the births of each lane before the turn, `after` and `nexts` those
-- after it
pub record RanBeside (holders : List Holder) (lanes : List (List Op)) (h : HeapView) (serials : List ℕ) (before : List (List Reply)) (k : HeapView) (nexts : List ℕ) (after : List (List Reply)) : Type 0 where
  pub at : ℕ → HeapView
  pub first : PagesMoved h (at 0)
  pub new : ℕ → List Reply
  pub told : (j : ℕ) → j < length lanes → slice_index_or after j [] ≡ slice_index_or before j [] ++ new j
  pub did : (j : ℕ) → j < length lanes
      → DidAll holders j (take (length (new j)) (drop (length (slice_index_or before j [])) (slice_index_or lanes j []))) (new j) (at j) (slice_index serials j) (at (j + 1)) (slice_index nexts j)
  pub births : (j : ℕ) → j < length lanes → slice_index nexts j ≤ slice_index serials j + length (new j)
  pub stopped : (j : ℕ) → j < length lanes → IsAtEndOr (slice_index_or lanes j []) (slice_index_or after j []) (λ op. StopsBeside holders j op (at (j + 1)) k.space)
  pub back : IsLaidBack (at (length lanes)) k
  pub long : (length nexts ≡ length serials) × (length after ≡ length before)
