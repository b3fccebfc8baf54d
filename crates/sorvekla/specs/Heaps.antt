-- A heap that a runtime has open, and the plain heap's state that it stands for.
use Rattle.std.specs.Prelude.{◌≡◌, ℕ, ◌*◌, ◌+◌, ◌≤◌, Bool, List, false, length, min, replicate}
use Rattle.bc_engine.specs.EngineFacts.{CanRunLanes}
use Rattle.bc_model.specs.State.{State}
use Rattle.bc_model.specs.declared.traces.Setup.{Setup}
use Rattle.bc_pager.specs.declared.answers.Answer.{Answer}
use Rattle.bc_pager.specs.declared.answers.Answer.TheVariants as answer
use Rattle.bc_running.specs.Running.{RunningView, RunningStands}

-- how often the nurseries were emptied, how many bookmark collections and how many fail-safe collections calls asked for, and how many
-- pages left for hints. Each number stays at its type's end
pub record CallCounts : Type 0 where
  pub minor : ℕ
  pub by_hand : ℕ
  pub failsafe : ℕ
  pub hinted : ℕ

-- nothing was counted
abbrev pub no_calls : CallCounts
no_calls = record { minor = 0; by_hand = 0; failsafe = 0; hinted = 0 }

-- the heap that lanes run on, the size of it, which root slots are handed out (domain after domain), and what was counted
pub record OpenHeap : Type 0 where
  pub running : RunningView
  pub setup : Setup
  pub taken : List Bool
  pub counts : CallCounts

-- the heap stands for this state of the plain heap, which never frees, moves or pages
abbrev pub HeapStands : OpenHeap → State → Type 0
HeapStands h state = RunningStands h.running state

-- what is true between calls: lanes can run on the heap, and it stands for a state; and there is a mark for each root slot
pub record IsOpen (h : OpenHeap) : Type 0 where
  pub ready : CanRunLanes h.setup h.running
  pub taken : length h.taken ≡ h.setup.domains * h.setup.slots

-- no root slot is handed out
abbrev pub none_taken : Setup → List Bool
none_taken setup = replicate (setup.domains * setup.slots) false

-- a count that stays at its type's end
abbrev pub one_more : ℕ → ℕ
one_more n = min (n + 1) 18446744073709551615

-- the nurseries were emptied once more
abbrev pub one_minor : CallCounts → CallCounts
one_minor c = record c { minor = one_more c.minor }

-- a call asked for one more bookmark collection
abbrev pub one_by_hand : CallCounts → CallCounts
one_by_hand c = record c { by_hand = one_more c.by_hand }

-- a call asked for one more fail-safe collection
abbrev pub one_failsafe : CallCounts → CallCounts
one_failsafe c = record c { failsafe = one_more c.failsafe }

-- a hint was answered: one more page left for it, unless the answer is that none could
abbrev pub one_answer : Answer → CallCounts → CallCounts
one_answer answer.Declined c = c
one_answer _ c = record c { hinted = one_more c.hinted }
