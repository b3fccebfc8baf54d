-- In the theorem.
-- How the replay of a trace ends: what is written of it, and what the heap stands for that it hands back.
use Rattle.std.specs.Prelude.{◌≡◌, ◌⊎◌, ℕ, ◌+◌, ◌<◌, ◌≤◌, List, ◌++◌, length, Option, None, Some, IsSomeAnd}
use Rattle.bc_engine.specs.Engines.{EngineView, EngineStands, HasEmptyChunks}
use Rattle.bc_engine.specs.declared.engines.Ended.{Ended}
use Rattle.bc_engine.specs.declared.engines.Ended.TheVariants.{OutOfHeap}
use Rattle.bc_io.specs.Told.{HeldGrows, HasRoom, IsPrefix}
use Rattle.bc_model.specs.Lists.{TraceLists}
use Rattle.bc_model.specs.Need.{IsNeed}
use Rattle.bc_model.specs.declared.traces.Setup.{Setup}
use Rattle.bc_model.specs.State.{State}
use Rattle.bc_trace.specs.Replies.{done_text, out_of_heap_text}
use Rattle.bc_replay.specs.Courses.{Course, before, after_cut, final_state, whole_course}
use Rattle.bc_replay.specs.Output.{texts_before, all_texts, whole_text, text_at, need_text, cut_text}

-- The heap has the trace's setup, it ended so, or hasn't ended, and it stands for this state.
pub record IsLeftAt (given : Setup) (how : Option Ended) (s : State) (e : EngineView) : Type 0 where
  pub setup : e.setup ≡ given
  pub ended : e.ended ≡ how
  pub stands : EngineStands e s

-- a heap that was left so is handed back
abbrev pub HandsBack : Option EngineView → Setup → Option Ended → State → Type 0
HandsBack heap setup how s = IsSomeAnd heap (IsLeftAt setup how s)

-- The state has a need, which is no more superpages than the setup has.
abbrev pub NeedFits : Course → State → Type 0
NeedFits c s = (n : ℕ) × IsNeed s n × (n ≤ c.setup.superpages)

-- After each of the first phases the state has a need, which is no more superpages than the setup has.
abbrev pub NeedsFit : Course → ℕ → Type 0
NeedsFit c phases = (k : ℕ) → k < phases → NeedFits c (before c (k + 1))

-- Wherever lanes may stand in one of the first phases, so many, the state needs no more superpages than the setup has.
abbrev pub FirstFit : Course → ℕ → Type 0
FirstFit c phases = (k n : ℕ) → (cut : List ℕ) → k < phases → IsNeed (after_cut c k cut) n → n ≤ c.setup.superpages

-- Wherever lanes may stand in a phase, the state needs no more superpages than the setup has.
abbrev pub CourseFits : Course → Type 0
CourseFits c = FirstFit c (length c.phases)

-- so in a whole run of a trace: wherever lanes may stand in a phase, the state needs no more superpages than the trace has
abbrev pub FitsThroughout : TraceLists → Type 0
FitsThroughout t = CourseFits (whole_course t)

-- After this cut of phase k the state needs so many superpages, which is more than the setup has.
pub record NeedsMore (c : Course) (k : ℕ) (cut : List ℕ) (need : ℕ) : Type 0 where
  pub within : k < length c.phases
  pub counted : IsNeed (after_cut c k cut) need
  pub above : c.setup.superpages < need

-- a prefix of these bytes is written, and not all of them
pub record WritesFront (held held' : Option (List ℕ)) (whole : List ℕ) : Type 0 where
  pub front : List ℕ
  pub is_front : IsPrefix front whole
  pub not_all : length front < length whole
  pub written : HeldGrows held held' front

-- bytes are written, and after them a prefix of the next ones, and not all of these
pub record WritesFrontAfter (held held' : Option (List ℕ)) (first next : List ℕ) : Type 0 where
  pub front : List ℕ
  pub is_front : IsPrefix front next
  pub not_all : length front < length next
  pub written : HeldGrows held held' (first ++ front)

-- All is written. The heap stands for the state at the end, and its chunks are empty.
pub record EndsDone (c : Course) (held held' : Option (List ℕ)) (heap : Option EngineView) : Type 0 where
  pub written : HeldGrows held held' (whole_text c)
  pub handed : HandsBack heap c.setup None (final_state c)
  pub empty : IsSomeAnd heap (λ e. HasEmptyChunks e.running.heap)
  pub fits : NeedsFit c (length c.phases)

-- a phase ended at a cut since the heap is too small: its replies up to there are written, and the line of the need. The heap
-- stands for the state there
pub record EndsOutOfHeap (c : Course) (held held' : Option (List ℕ)) (heap : Option EngineView) (need : ℕ) : Type 0 where
  pub phase : ℕ
  pub cut : List ℕ
  pub needs : NeedsMore c phase cut need
  pub written : HeldGrows held held' (cut_text c phase cut ++ out_of_heap_text need)
  pub handed : HandsBack heap c.setup (Some (OutOfHeap need)) (after_cut c phase cut)

-- A write failed while the text of a phase that is done was written.
pub record FailsInPhase (c : Course) (held held' : Option (List ℕ)) (heap : Option EngineView) : Type 0 where
  pub phase : ℕ
  pub within : phase < length c.phases
  pub written : WritesFrontAfter held held' (texts_before c phase) (text_at c phase)
  pub handed : HandsBack heap c.setup None (before c (phase + 1))

-- A write failed while the last line was written.
pub record FailsAtDone (c : Course) (held held' : Option (List ℕ)) (heap : Option EngineView) : Type 0 where
  pub written : WritesFrontAfter held held' (all_texts c) done_text
  pub handed : HandsBack heap c.setup None (final_state c)

-- A write failed while the replies of a phase that ended at a cut were written, or the line of the need.
pub record FailsAtNeed (c : Course) (held held' : Option (List ℕ)) (heap : Option EngineView) : Type 0 where
  pub phase : ℕ
  pub cut : List ℕ
  pub need : ℕ
  pub needs : NeedsMore c phase cut need
  pub written : WritesFrontAfter held held' (texts_before c phase) (need_text c phase cut need)
  pub handed : HandsBack heap c.setup (Some (OutOfHeap need)) (after_cut c phase cut)

-- a replay ended at a failed write: in a phase's text, in the last line, or in what is written when the heap is too small
abbrev pub EndsInFault : Course → Option (List ℕ) → Option (List ℕ) → Option EngineView → Type 0
EndsInFault c held held' heap =
    FailsInPhase c held held' heap ⊎ (FailsAtDone c held held' heap ⊎ FailsAtNeed c held held' heap)

-- Memory ran out in a phase: the texts of those before it are written.
pub record StopsBefore (c : Course) (held held' : Option (List ℕ)) : Type 0 where
  pub phase : ℕ
  pub within : phase < length c.phases
  pub written : HeldGrows held held' (texts_before c phase)

-- what a replay of the trace may write fits the room: its whole output, and each one that ends by the need of a cut. All else
-- that it may write is a prefix of one of these
pub record HasRunRoom (room : Option ℕ) (c : Course) : Type 0 where
  pub whole : HasRoom room (length (whole_text c))
  pub cut_short : (k : ℕ) → (cut : List ℕ) → (need : ℕ) → NeedsMore c k cut need
      → HasRoom room (length (cut_text c k cut ++ out_of_heap_text need))
