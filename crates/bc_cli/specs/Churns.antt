-- In the theorem.
-- What `churn` prints. How the replay of a workload that was drawn ends: what is written of its summary, and what the heap stands for that it
-- hands back.
use Rattle.std.specs.Prelude.{ℕ, List, Option, None, IsSomeAnd}
use Rattle.bc_engine.specs.Engines.{EngineView, HasEmptyChunks}
use Rattle.bc_io.specs.Told.{HeldGrows}
use Rattle.bc_model.specs.Run.{final_state, replies_of}
use Rattle.bc_churn.specs.Churn.{churn_trace}
use Rattle.bc_churn.specs.Counts.{churn_text, run_counts}
use Rattle.bc_replay.specs.Endings.{HandsBack, WritesFront}
use Rattle.bc_replay.specs.declared.status.Status.{Status}
use Rattle.bc_replay.specs.declared.status.Status.TheVariants.{Done, WriteFault, NoMemory}

-- the whole output of `churn`: its line, how many replies of each kind the plain heap gives to its trace, and the last line
abbrev pub summary : ℕ → ℕ → List ℕ
summary start ops = churn_text start ops (run_counts (replies_of (churn_trace start ops)))

-- how a run of a workload that was drawn can end
abbrev pub IsChurnEnding : Status → Type 0
IsChurnEnding Done = Unit {0}
IsChurnEnding WriteFault = Unit {0}
IsChurnEnding NoMemory = Unit {0}
IsChurnEnding _ = ⊥

-- The whole trace was run. The heap that is handed back stands for the state at the end, and its chunks are empty.
pub record HasChurned (start ops : ℕ) (heap : Option EngineView) : Type 0 where
  pub handed : HandsBack heap (churn_trace start ops).setup None (final_state (churn_trace start ops))
  pub empty : IsSomeAnd heap (λ e. HasEmptyChunks e.running.heap)

-- The whole summary is written.
pub record ChurnsDone (start ops : ℕ) (held held' : Option (List ℕ)) (heap : Option EngineView) : Type 0 where
  pub written : HeldGrows held held' (summary start ops)
  pub churned : HasChurned start ops heap

-- a write failed: a prefix of the summary is written, and not all of it
pub record ChurnsInFault (start ops : ℕ) (held held' : Option (List ℕ)) (heap : Option EngineView) : Type 0 where
  pub written : WritesFront held held' (summary start ops)
  pub churned : HasChurned start ops heap
