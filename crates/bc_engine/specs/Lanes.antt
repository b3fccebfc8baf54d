-- What lanes do of a phase: one operation after another, those of each lane in its order.
use Rattle.std.specs.Prelude.{◌≡◌, ◌≢◌, ℕ, ◌+◌, ◌-◌, ◌^◌, ◌<◌, ◌≤◌, ◌⊎◌, List, [], ◌∷◌, ◌++◌, length, take, Vec, slice_index}
use Rattle.std.specs.List.{AllByRecursion}
use Rattle.std.specs.declared.alloc.Global.{Global}
use Rattle.bc_bookmarks.specs.Moves.{NoPageGoes}
use Rattle.bc_whole_heap.specs.Closed.{buffer_of}
use Rattle.bc_whole_heap.specs.LaneChunks.{chunk_of}
use Rattle.bc_model.specs.Interleaving.{LaneOp, after_steps, replies_by, ops_by}
use Rattle.bc_model.specs.Rows.{lists_of}
use Rattle.bc_model.specs.State.{State}
use Rattle.bc_model.specs.Step.{step}
use Rattle.bc_model.specs.WellFormed.{IsOp}
use Rattle.bc_model.specs.declared.operations.Op.{Op}
use Rattle.bc_model.specs.declared.operations.Reply.{Reply}
use Rattle.bc_model.specs.declared.traces.Setup.{Setup}
use Rattle.bc_mutator.specs.Operations.{WantsMore, NeedsEntry}
use Rattle.bc_nursery.specs.Objects.{left_of}
use Rattle.bc_engine.specs.Engines.{EngineView}
use Rattle.bc_engine.specs.EngineFacts.{CanRunLanes}
use Rattle.bc_running.specs.Running.{RunningView, RunningStands}
use Rattle.bc_running.specs.Touching.{LooksAtGone}
use Rattle.bc_superpages.specs.Layout.{Layout}
use Rattle.bc_turn.specs.Beside.{StopsBeside}
pub use Rattle.bc_turn.specs.Begun.{of_lane}
pub use Rattle.bc_turn.specs.Beside.{IsAtEndOr}
use Rattle.bc_turn.specs.Taking.{HasAllReplyRoom}

-- an operation of a lane was done: it is the step of every state that the heap stands for. The lane makes at most one object,
-- and no other lane makes any
pub record Does (lane : ℕ) (op : Op) (r : RunningView) (reply : Reply) (q : RunningView) : Type 0 where
  pub means : (state : State) → RunningStands r state
      → ((step state lane op).1 ≡ reply) × RunningStands q (step state lane op).0
  pub own : slice_index q.serials lane ≤ slice_index r.serials lane + 1
  pub others : (l : ℕ) → l ≢ lane → slice_index q.serials l ≡ slice_index r.serials l
  pub held : q.holders ≡ r.holders

-- the lanes went on with their operations, in whatever order, and so did their replies: `before` are those that there were, `after`
-- those that there are then. What a lane has done is as many of its first operations as it has replies
pub record LanesWentOn (lanes : List (List Op)) (r : RunningView) (before : List (List Reply)) (q : RunningView) (after : List (List Reply)) : Type 0 where
  pub steps : List LaneOp
  pub below : AllByRecursion (λ x. x.lane < length lanes) steps
  pub ops : (j : ℕ) → take (length (of_lane after j)) (of_lane lanes j) ≡ take (length (of_lane before j)) (of_lane lanes j) ++ ops_by j steps
  pub means : (state : State) → RunningStands r state → RunningStands q (after_steps state steps)
  pub replies : (state : State) → RunningStands r state → (j : ℕ) → of_lane after j ≡ of_lane before j ++ replies_by state j steps
  pub more : (j : ℕ) → length (of_lane before j) ≤ length (of_lane after j)

-- every lane can make an object by each operation that it hasn't done yet, all with serials below 2 ^ 32
abbrev pub HasSerialsLeft : List (List Op) → List ℕ → List (List Reply) → Type 0
HasSerialsLeft lanes serials replies =
    (j : ℕ) → slice_index serials j + (length (of_lane lanes j) - length (of_lane replies j)) < 2 ^ 32

-- from one place of a phase to a later one each lane made at most an object by each operation that it did
abbrev pub BirthsWithin : List (List Op) → List ℕ → List (List Reply) → List ℕ → List (List Reply) → Type 0
BirthsWithin lanes serials before next after =
    (j : ℕ) → slice_index next j + (length (of_lane lanes j) - length (of_lane after j))
    ≤ slice_index serials j + (length (of_lane lanes j) - length (of_lane before j))

-- every lane can make an object by each of these operations, and n more, all with serials below 2 ^ 32
abbrev pub HasRoomForOps : EngineView → List (List Op) → ℕ → Type 0
HasRoomForOps e lanes n = (j : ℕ) → slice_index e.running.serials j + length (of_lane lanes j) + n < 2 ^ 32

-- what a phase under way rests on: the lanes can run, their operations fit the setup, and there is room for each reply to come
pub record IsUnderway (setup : Setup) (lanes : List (List Op)) (r : RunningView) (replies : List (Vec Reply Global)) : Type 0 where
  pub ready : CanRunLanes setup r
  pub each : length lanes ≡ setup.lanes
  pub ops : AllByRecursion (AllByRecursion (IsOp setup)) lanes
  pub long : length replies ≡ setup.lanes
  pub room : HasAllReplyRoom lanes replies
  pub births : HasSerialsLeft lanes r.serials (lists_of replies)

-- what each stretch of a phase does: the lanes go on, a phase that was under way still is, and no domain changes hands
pub record LanesRan (lanes : List (List Op)) (r : RunningView) (before : List (Vec Reply Global)) (q : RunningView) (after : List (Vec Reply Global)) : Type 0 where
  pub goes : LanesWentOn lanes r (lists_of before) q (lists_of after)
  pub underway : (setup : Setup) → IsUnderway setup lanes r before → IsUnderway setup lanes q after
  pub births : BirthsWithin lanes r.serials (lists_of before) q.serials (lists_of after)
  pub held : q.holders ≡ r.holders

-- the lane had an operation to do, and one reply more was kept
abbrev pub IsOneMore : List Op → List Reply → List Reply → Type 0
IsOneMore ops before after = (length before < length ops) × (length after ≡ length before + 1)

-- an operation of a lane can't be done yet where the lanes run one after another on a heap that is plain data: the object takes more
-- words than are left of the chunk, or an entry is needed and the write buffer is at capacity, or it looks at an object on a page that
-- is Gone, no frame is free and no page can leave
abbrev pub Stops : ℕ → Op → RunningView → Type 0
Stops lane op r =
    WantsMore r.holders lane (left_of (chunk_of r.heap.chunks lane)) op
    ⊎ (NeedsEntry r.holders lane r.heap.space r.heap.roots (chunk_of r.heap.chunks lane) (buffer_of r.heap.buffers lane) op
    ⊎ (LooksAtGone r.holders lane r.heap.space r.heap.roots op × NoPageGoes r.heap.space))

-- an operation of a lane can't be done yet where the lanes run side by side, in a turn that leaves the space t: the object takes more
-- words than are left of the chunk, or an entry is needed and the write buffer is at capacity, or it looks at an object in a cell on a
-- page that is Gone in t, or on a page of a frozen domain, which another lane may have had in hand or reloaded
abbrev pub StopsInTurn : Layout → ℕ → Op → RunningView → Type 0
StopsInTurn t lane op r = StopsBeside r.holders lane op r.heap t

-- what lanes leave as it is: of the space all but states and contents of pages, free frames, bookmarks, counters and reads, so no cell
-- is freed or moved, and of the root slots all but what they hold
pub record LeavesCells (r q : RunningView) : Type 0 where
  pub space : q.heap.space ≡ record r.heap.space {
    states = q.heap.space.states;
    pages = q.heap.space.pages;
    free = q.heap.space.free;
    bookmarks = q.heap.space.bookmarks;
    incoming = q.heap.space.incoming;
    reads = q.heap.space.reads;
  }
  pub roots : q.heap.roots ≡ record r.heap.roots { words = q.heap.roots.words; noted = q.heap.roots.noted }

-- a lane stopped somewhere between these two: there it was at its end, or its next operation couldn't be done yet for one of these
-- causes, and it did none from there on. Up to there and from there on no cell was freed or moved, and from there on the lane's
-- chunk and write buffer stayed as they were
pub record StoppedBetween (Cause : ℕ → Op → RunningView → Type 0) (lanes : List (List Op)) (r : RunningView) (before : List (Vec Reply Global)) (q : RunningView) (after : List (Vec Reply Global)) (lane : ℕ) : Type 0 where
  pub at : RunningView
  pub told : List (Vec Reply Global)
  pub first : LanesRan lanes r before at told
  pub later : LanesRan lanes at told q after
  pub leaves : LeavesCells r at
  pub keeps : LeavesCells at q
  pub chunk : chunk_of q.heap.chunks lane ≡ chunk_of at.heap.chunks lane
  pub buffer : buffer_of q.heap.buffers lane ≡ buffer_of at.heap.buffers lane
  pub same : of_lane (lists_of after) lane ≡ of_lane (lists_of told) lane
  pub why : IsAtEndOr (of_lane lanes lane) (of_lane (lists_of told) lane) (λ op. Cause lane op at)

-- each lane stopped somewhere between these two, for one of these causes
abbrev pub EachStopped : (ℕ → Op → RunningView → Type 0) → List (List Op) → RunningView → List (Vec Reply Global) → RunningView → List (Vec Reply Global) → Type 0
EachStopped Cause lanes r before q after = (j : ℕ) → j < length lanes → StoppedBetween Cause lanes r before q after j

-- what isn't the lane's stays: the chunks, write buffers and replies of others, and who holds which domain
pub record LeavesOthers (lane : ℕ) (r : RunningView) (before : List (List Reply)) (q : RunningView) (after : List (List Reply)) : Type 0 where
  pub chunk : (l : ℕ) → l ≢ lane → chunk_of q.heap.chunks l ≡ chunk_of r.heap.chunks l
  pub buffer : (l : ℕ) → l ≢ lane → buffer_of q.heap.buffers l ≡ buffer_of r.heap.buffers l
  pub replies : (l : ℕ) → l ≢ lane → of_lane after l ≡ of_lane before l
  pub held : q.holders ≡ r.holders

-- each of the first n lanes that wasn't at its end has one reply more
abbrev pub EachFurther : ℕ → List (List Op) → List (List Reply) → List (List Reply) → Type 0
EachFurther n lanes before after =
    (j : ℕ) → j < n → length (of_lane before j) < length (of_lane lanes j) → length (of_lane after j) ≡ length (of_lane before j) + 1

-- every lane is at its end
abbrev pub AreDone : List (List Op) → List (List Reply) → Type 0
AreDone lanes replies = (j : ℕ) → length (of_lane lanes j) ≤ length (of_lane replies j)

-- some lane has operations left
abbrev pub HasMore : List (List Op) → List (List Reply) → Type 0
HasMore lanes replies = (j : ℕ) × (j < length lanes) × (length (of_lane replies j) < length (of_lane lanes j))

-- how many operations are to come
abbrev pub left : List (List Op) → List (List Reply) → ℕ
left [] replies = 0
left (ops ∷ lanes) [] = length ops + left lanes []
left (ops ∷ lanes) (rs ∷ replies) = (length ops - length rs) + left lanes replies
