-- In the theorem.
-- Phases and traces as plain lists: what contracts see of them.
use Rattle.std.specs.Prelude.{ℕ, List}
use Rattle.bc_model.specs.declared.operations.Op.{Op}
use Rattle.bc_model.specs.declared.traces.Change.{Change}
use Rattle.bc_model.specs.declared.traces.Setup.{Setup}

-- a turn line: how many frames are withheld in its turn, and its hints
pub record TurnLists : Type 0 where
  pub withheld : ℕ
  pub hints : List ℕ

-- the turn lines, the operations of each lane, and the domains that change hands or are frozen at the end
pub record PhaseLists : Type 0 where
  pub turns : List TurnLists
  pub lanes : List (List Op)
  pub gives : List Change

-- a trace: the version of the language that it is written in, its setup and its phases
pub record TraceLists : Type 0 where
  pub version : ℕ
  pub setup : Setup
  pub phases : List PhaseLists
