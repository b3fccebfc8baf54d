-- Frames that are withheld: how many no page may use in each turn of a phase, and that they are returned at its end.
use Rattle.std.specs.Prelude.{◌≡◌, ℕ, ◌+◌, ◌-◌, ◌*◌, List, [], ◌∷◌, map}
use Prim.Native.Nat.{suc}
use Rattle.bc_marking.specs.Lines.{counted_after, line_behind}
use Rattle.bc_model.specs.Lists.{TurnLists}
use Rattle.bc_model.specs.TurnLines.{budget_at, hints_in}
use Rattle.bc_model.specs.declared.traces.Setup.{Setup}
use Rattle.bc_running.specs.Running.{RunningView}
use Rattle.bc_running.specs.RunningFacts.{with_space}
use Rattle.bc_superpages.specs.Calls.{with_unused}
use Rattle.bc_engine.specs.Turns.{line_of}
use Rattle.bc_engine.specs.declared.opened.Opened.{Opened}

-- how many frames no page may use in a turn of the lanes that uses this line, and in the mark turns after it: those of the nurseries, and as many
-- as the line says
abbrev pub unused_in : Setup → List TurnLists → ℕ → ℕ
unused_in setup lines line = setup.lanes * setup.nursery + budget_at lines line

-- how many frames are withheld in the turn of this number, counted from 0, if it is one of the lanes
abbrev pub budget_of : List TurnLists → ℕ → ℕ
budget_of lines turn = budget_at lines (line_of lines turn)

-- in each of these turns of the lanes as many frames were withheld as its line says, and so many mark turns came after each, where so many turns
-- came before the first of them
abbrev pub HaveBudgets : List TurnLists → ℕ → List ℕ → List Opened → Type 0
HaveBudgets lines turn [] [] = Unit {0}
HaveBudgets lines turn [] (o ∷ opened) = ⊥
HaveBudgets lines turn (m ∷ marks) [] = ⊥
HaveBudgets lines turn (m ∷ marks) (o ∷ opened) =
    (o.withheld ≡ budget_of lines turn) × (o.marks ≡ counted_after 0 m) × HaveBudgets lines (turn + suc m) marks opened

-- how many turns these are: those of the lanes, and so many mark turns after each
abbrev pub turns_with : List ℕ → ℕ
turns_with [] = 0
turns_with (m ∷ marks) = suc m + turns_with marks

-- how many mark turns the items say
abbrev pub marks_in : List Opened → List ℕ
marks_in opened = map (λ (o : Opened). o.marks) opened

-- the items are so many turns of a phase, from its first one on: turns of the lanes, and mark turns after each
pub record AreTurns (lines : List TurnLists) (turns : ℕ) (opened : List Opened) : Type 0 where
  pub marks : List ℕ
  pub budgets : HaveBudgets lines 0 marks opened
  pub all : turns ≡ turns_with marks

-- how many frames are wanted after a turn that uses this line: as many as the nurseries have pages, and those that the line after it withholds
-- beyond this one's
abbrev pub wanted_behind : Setup → List TurnLists → ℕ → ℕ
wanted_behind setup lines line = setup.lanes * setup.nursery + (budget_at lines (line_behind (hints_in lines) line) - budget_at lines line)

-- so many frames are those that no page may use, and nothing else is another
abbrev pub ReturnsFrames : ℕ → RunningView → RunningView → Type 0
ReturnsFrames unused r q = q ≡ with_space r (with_unused r.heap.space unused)

-- so many frames no page may use where the turn of the lanes begins and where it ends, after the bookmark collection that may come, and when the
-- nurseries were emptied or couldn't be. So the mark turns of a round have the number of its lanes' turn
pub record HasBudget (unused : ℕ) (began turned collected emptied : RunningView) : Type 0 where
  pub first : began.heap.space.nursery ≡ unused
  pub lanes : turned.heap.space.nursery ≡ unused
  pub early : collected.heap.space.nursery ≡ unused
  pub late : emptied.heap.space.nursery ≡ unused
