-- In the theorem.
-- An engine: a heap that lanes run on, and what phases rest on.
use Rattle.std.specs.Prelude.{ℕ, List, Option}
use Rattle.bc_model.specs.State.{State}
use Rattle.bc_model.specs.declared.traces.Setup.{Setup}
use Rattle.bc_engine.specs.declared.counters.Counters.{Counters}
use Rattle.bc_engine.specs.declared.engines.Ended.{Ended}
use Rattle.bc_engine.specs.declared.opened.Opened.{Opened}
use Rattle.bc_pager.specs.declared.answers.Answer.{Answer}
use Rattle.bc_running.specs.Running.{RunningView, RunningStands}
pub use Rattle.bc_running.specs.Running.{HasEmptyChunks}

-- what contracts see of an engine: its heap, who holds each domain, how many births each lane made, the setup, how it ended, and what it counted
pub record EngineView : Type 0 where
  pub running : RunningView
  pub setup : Setup
  -- how many threads may mark
  pub workers : ℕ
  -- how it ended, once it has
  pub ended : Option Ended
  -- what became of the notices of the latest phase
  pub answers : List Answer
  -- the turns of the latest phase: those of the lanes, each with the mark turns after it
  pub opened : List Opened
  -- what became of the notices that its live pagers took in the latest phase
  pub live : List Answer
  -- what it did since it was opened
  pub counters : Counters

-- the engine stands for the state
abbrev pub EngineStands : EngineView → State → Type 0
EngineStands e state = RunningStands e.running state
