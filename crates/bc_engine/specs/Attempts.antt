-- What a lane's next operation does where the lanes run one after another on a heap that is plain data, and one such attempt after another.
use Rattle.std.specs.Prelude.{◌≡◌, ◌≢◌, ◌⊎◌, ℕ, ◌<◌, List, [], ◌∷◌, ◌++◌, length, Vec, slice_index, slice_index_or}
use Prim.Native.Nat.{zero, suc}
use Rattle.std.specs.declared.alloc.Global.{Global}
use Rattle.bc_bookmarks.specs.Moves.{NoPageGoes}
use Rattle.bc_model.specs.Rows.{lists_of}
use Rattle.bc_model.specs.declared.operations.Op.{Op}
use Rattle.bc_model.specs.declared.operations.Reply.{Reply}
use Rattle.bc_mutator.specs.Effects.{IsChangedBy}
use Rattle.bc_mutator.specs.Operations.{NeedsEntry, WantsMore}
use Rattle.bc_nursery.specs.Objects.{left_of}
use Rattle.bc_whole_heap.specs.Closed.{buffer_of}
use Rattle.bc_whole_heap.specs.Heaps.{heap_memory}
use Rattle.bc_whole_heap.specs.LaneChunks.{chunk_of}
use Rattle.bc_engine.specs.Lanes.{of_lane, Does, StoppedBetween, Stops}
use Rattle.bc_running.specs.Running.{RunningView}
use Rattle.bc_running.specs.RunningFacts.{StaysBut, with_space}
use Rattle.bc_running.specs.Touching.{BringsHome, LooksAtGone, RecordsAfter}

-- an operation of a lane was done, and nothing else: the page of the object that it looks at came home, if it was Gone, and no other page
-- moved but one that left for it; it recorded what it does; one object is new, or one field holds another word, or none; and what isn't the
-- lane's stays
pub record DoesAlone (lane : ℕ) (op : Op) (r : RunningView) (reply : Reply) (q : RunningView) : Type 0 where
  pub does : Does lane op r reply q
  pub records : RecordsAfter r.holders lane r.heap.space r.heap.roots (chunk_of r.heap.chunks lane) op reply (buffer_of r.heap.buffers lane) (buffer_of q.heap.buffers lane) q.heap.space
  pub memory : IsChangedBy r.holders lane (slice_index r.serials lane) (heap_memory r.heap.space r.heap.chunks) (heap_memory q.heap.space q.heap.chunks) r.heap.roots op reply
  pub stays : StaysBut lane r q

-- an operation of a lane wasn't done: the object takes more words than are left of the chunk, and nothing changed; or an entry is needed and
-- the write buffer is at capacity, and at most the page came home that it looks at; or it looks at an object on a page that is Gone, no frame
-- is free and no page can leave, and nothing changed
abbrev pub StopsAlone : ℕ → Op → RunningView → RunningView → Type 0
StopsAlone lane op r q =
    (WantsMore r.holders lane (left_of (chunk_of r.heap.chunks lane)) op × (q ≡ r))
    ⊎ ((NeedsEntry r.holders lane r.heap.space r.heap.roots (chunk_of r.heap.chunks lane) (buffer_of r.heap.buffers lane) op
    × BringsHome r.holders lane r.heap.space r.heap.roots op q.heap.space × (q ≡ with_space r q.heap.space))
    ⊎ (LooksAtGone r.holders lane r.heap.space r.heap.roots op × NoPageGoes r.heap.space × (q ≡ r)))

-- the lane has one reply more, after those that it had, and other lanes have those that they had
abbrev pub IsReplied : ℕ → Reply → List (List Reply) → List (List Reply) → Type 0
IsReplied lane reply before after =
    (of_lane after lane ≡ of_lane before lane ++ reply ∷ []) × ((l : ℕ) → l ≢ lane → of_lane after l ≡ of_lane before l)

-- a lane attempted its next operation, the first of those that have no reply yet: it was done and its reply kept, or it wasn't done
pub record Attempted (lanes : List (List Op)) (r : RunningView) (before : List (List Reply)) (q : RunningView) (after : List (List Reply)) : Type 0 where
  pub lane : ℕ
  pub op : Op
  pub less : length (of_lane before lane) < length (of_lane lanes lane)
  pub next : op ≡ slice_index_or (of_lane lanes lane) (length (of_lane before lane)) op
  pub way : ((reply : Reply) × DoesAlone lane op r reply q × IsReplied lane reply before after) ⊎ (StopsAlone lane op r q × (after ≡ before))

-- a number of attempts were made, one after another, of whatever lanes
abbrev pub RanAttempts : List (List Op) → RunningView → List (List Reply) → ℕ → RunningView → List (List Reply) → Type 0
RanAttempts lanes r before zero q after = (q ≡ r) × (after ≡ before)
RanAttempts lanes r before (suc n) q after =
    (mid : RunningView) × (told : List (List Reply)) × RanAttempts lanes r before n mid told × Attempted lanes mid told q after

-- the lanes made attempts, and nothing else was done
abbrev pub RanByAttempts : List (List Op) → RunningView → List (List Reply) → RunningView → List (List Reply) → Type 0
RanByAttempts lanes r before q after = (n : ℕ) × RanAttempts lanes r before n q after

-- a lane stopped somewhere between these two, where the lanes run one after another. The heap at which it stopped is one that attempts
-- led to, and attempts led on from it: no page moved but by them
pub record StoppedAlone (lanes : List (List Op)) (r : RunningView) (before : List (Vec Reply Global)) (q : RunningView) (after : List (Vec Reply Global)) (lane : ℕ) : Type 0 where
  pub stopped : StoppedBetween Stops lanes r before q after lane
  pub to : RanByAttempts lanes r (lists_of before) stopped.at (lists_of stopped.told)
  pub on : RanByAttempts lanes stopped.at (lists_of stopped.told) q (lists_of after)

-- each lane stopped so
abbrev pub EachAlone : List (List Op) → RunningView → List (Vec Reply Global) → RunningView → List (Vec Reply Global) → Type 0
EachAlone lanes r before q after = (j : ℕ) → j < length lanes → StoppedAlone lanes r before q after j
