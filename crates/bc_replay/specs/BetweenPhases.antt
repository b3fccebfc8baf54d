-- A replay between its phases.
use Rattle.std.specs.Prelude.{◌≡◌, ◌⊎◌, ℕ, ◌<◌, List, length, drop, sum_by, Option, None, Some}
use Rattle.bc_engine.specs.Engines.{EngineView, EngineStands, HasEmptyChunks}
use Rattle.bc_engine.specs.EngineFacts.{HasRoomForBirths}
use Rattle.bc_engine.specs.Lanes.{HasRoomForOps}
use Rattle.bc_engine.specs.Phases.{DidPhase, CutPhase}
use Rattle.bc_engine.specs.declared.engines.Ended.TheVariants.{NoMemory}
use Rattle.bc_io.specs.Told.{HasRoom}
use Rattle.bc_model.specs.Lists.{PhaseLists}
use Rattle.bc_model.specs.RunLengths.{ops_of}
use Rattle.bc_model.specs.declared.operations.Reply.{Reply}
use Rattle.bc_replay.specs.Courses.{Course, before, phase_at}
use Rattle.bc_replay.specs.Output.{text_at, need_text}
use Rattle.bc_replay.specs.Endings.{NeedsFit, NeedsMore, StopsBefore}

-- a phase was run on the engine: it is done, or it ended at a cut since the heap is too small, by this need
abbrev pub PhaseEnded : EngineView → PhaseLists → EngineView → List (List Reply) → Option ℕ → Type 0
PhaseEnded e p f replies None = DidPhase e p f replies
PhaseEnded e p f replies (Some need) = CutPhase e p f replies need

-- The engine has run the first k phases of the course, and can run the others.
pub record HasRun (c : Course) (k : ℕ) (engine : EngineView) : Type 0 where
  pub setup : engine.setup ≡ c.setup
  pub going : engine.ended ≡ None
  pub empty : HasEmptyChunks engine.running.heap
  pub stands : EngineStands engine (before c k)
  pub births : HasRoomForBirths engine (sum_by ops_of (drop k c.phases))
  pub fits : NeedsFit c k

-- The engine has run the first k phases of the course, and then phase k, which ended so.
pub record Ran (c : Course) (k : ℕ) (e f : EngineView) (replies : List (List Reply)) (need : Option ℕ) : Type 0 where
  pub within : k < length c.phases
  pub before : HasRun c k e
  pub ended : PhaseEnded e (phase_at c k) f replies need
  pub setup : f.setup ≡ e.setup
  pub births : (n : ℕ) → HasRoomForOps e (phase_at c k).lanes n → HasRoomForBirths f n

-- What phase k may write fits the room.
pub record HasPhaseRoom (room : Option ℕ) (c : Course) (k : ℕ) : Type 0 where
  pub whole : HasRoom room (length (text_at c k))
  pub cut_short : (cut : List ℕ) → (need : ℕ) → NeedsMore c k cut need → HasRoom room (length (need_text c k cut need))

-- Memory ran out in a phase: the texts of those before it are written. The engine has run these and nothing more, or has run out of
-- memory itself.
pub record RunsOut (c : Course) (held held' : Option (List ℕ)) (engine : EngineView) : Type 0 where
  pub stops : StopsBefore c held held'
  pub left : HasRun c stops.phase engine ⊎ (engine.ended ≡ Some NoMemory)
