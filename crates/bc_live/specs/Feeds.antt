-- The hints that a run took, and its answers.
use Rattle.std.specs.Prelude.{◌≡◌, ℕ, List, [], Option, Some, IfSome}
use Rattle.bc_engine.specs.EngineFacts.{new_engine}
use Rattle.bc_engine.specs.Engines.{EngineView}
use Rattle.bc_model.specs.Lists.{TraceLists}
use Rattle.bc_pager.specs.Serving.{numbered}
use Rattle.bc_pager.specs.declared.answers.Answer.{Answer}
use Rattle.bc_pager.specs.declared.notices.Notice.{Notice}
use Rattle.bc_replay.specs.Feeding.{FedRun}
use Rattle.bc_replay.specs.Outcomes.{ReadAsTrace}

-- Phases of the trace were run on a new heap with so many workers, and notices were taken and answered in them. A heap that is handed back
-- is the one that they left.
pub record RunsFed (t : TraceLists) (workers : ℕ) (taken more : Option (List Notice)) (kept answers : List Answer) (heap : Option EngineView) : Type 0 where
  pub last : EngineView
  pub fed : FedRun t.phases (new_engine t.setup workers) last taken more kept answers
  pub heap_is : IfSome heap (λ e. e ≡ last)

-- so these hints were taken and answered, numbered in this order, and no others
abbrev pub FedTrace : TraceLists → ℕ → List ℕ → List Answer → Option EngineView → Type 0
FedTrace t workers taken answers heap = RunsFed t workers (Some []) (Some (numbered 0 taken)) [] answers heap

-- a trace was read, and its replay took these hints and gave these answers
pub record FedLive (left left' : Option (List ℕ)) (workers : ℕ) (taken : List ℕ) (answers : List Answer) (heap : Option EngineView) : Type 0 where
  pub trace : TraceLists
  pub read : ReadAsTrace left left' trace
  pub fed : FedTrace trace workers taken answers heap
