-- The turns of a phase: lanes run, and the notices of the turn's line are answered.
use Rattle.std.specs.Prelude.{◌≡◌, ◌⊎◌, ℕ, List, [], Vec}
use Rattle.std.specs.declared.alloc.Global.{Global}
use Rattle.bc_bookmarks.specs.Changes.{Settled}
use Rattle.bc_marking.specs.Lines.{hints_at, line_along}
use Rattle.bc_model.specs.Lists.{TurnLists}
use Rattle.bc_model.specs.Rows.{lists_of}
use Rattle.bc_model.specs.TurnLines.{hints_in}
use Rattle.bc_model.specs.declared.operations.Op.{Op}
use Rattle.bc_model.specs.declared.operations.Reply.{Reply}
use Rattle.bc_pager.specs.Alone.{AnsweredAlone}
use Rattle.bc_pager.specs.declared.answers.Answer.{Answer}
use Rattle.bc_pager.specs.declared.notices.Notice.{Notice}
use Rattle.bc_running.specs.Running.{RunningView}
use Rattle.bc_running.specs.RunningFacts.{with_space}
use Rattle.bc_superpages.specs.Layout.{Layout}
use Rattle.bc_turn.specs.Answered.{AnsweredBeside}
use Rattle.bc_turn.specs.Beside.{RanBeside}
use Rattle.bc_turn.specs.Looked.{HadInTurn, IsLookedAtInTurn, tried_in_turn}
use Rattle.bc_engine.specs.Attempts.{EachAlone, RanByAttempts}
use Rattle.bc_engine.specs.Lanes.{EachStopped, LanesRan, LeavesCells, StopsInTurn}

-- the line of the turn of this number, counted from 0: lines are used in order, one for each turn, and from the first one again when they
-- are used up
abbrev pub line_of : List TurnLists → ℕ → ℕ
line_of lines turn = line_along (hints_in lines) 0 turn

-- the hints of the turn of this number
abbrev pub hints_of : List TurnLists → ℕ → List ℕ
hints_of lines turn = hints_at (hints_in lines) (line_of lines turn)

-- the lanes ran side by side, as if one had run after another, and beside them pagers answered the notices with these hints, and the live
-- pager those that it took (`fed`). Its answers came after those that there were (`lived`, `live`). For each operation that a lane tried at
-- most one page came back. Each stop has a cause of that way. Then the heap was settled
pub record RanTogether (lanes : List (List Op)) (r : RunningView) (before : List (Vec Reply Global)) (kept : List Answer) (hints : List ℕ) (mid q : RunningView) (after : List (Vec Reply Global)) (told lived : List Answer) (fed : List Notice) (live : List Answer) : Type 0 where
  pub beside : RanBeside r.holders lanes r.heap r.serials (lists_of before) mid.heap mid.serials (lists_of after)
  pub stopped : EachStopped (StopsInTurn mid.heap.space) lanes r before mid after
  pub answered : AnsweredBeside (IsLookedAtInTurn r.holders lanes r.heap r.serials (lists_of before) (lists_of after)) (HadInTurn r.holders lanes r.heap r.serials (lists_of before) (lists_of after))
      (tried_in_turn lanes (lists_of before) (lists_of after)) r.heap.space hints kept told mid.heap.space lived fed live
  pub settled : Settled mid.heap.space q.heap.space

-- the lanes ran one after another, by attempts alone, and then the notices were answered where nobody worked beside. Then the heap was settled.
-- No live pager took any
abbrev pub RanAlone : List (List Op) → RunningView → List (Vec Reply Global) → List Answer → List ℕ → RunningView → RunningView → List (Vec Reply Global) → List Answer → List Answer → List Notice → List Answer → Type 0
RanAlone lanes r before kept hints mid q after told lived fed live =
    RanByAttempts lanes r (lists_of before) mid (lists_of after)
    × EachAlone lanes r before mid after
    × ((u : Layout) × AnsweredAlone mid.heap.space hints kept told u × Settled u q.heap.space)
    × (fed ≡ [])
    × (live ≡ lived)

-- the lanes ran until each was at its end or stopped, the notices with these hints were answered, each once, after the answers
-- that were kept before, and the heap was settled: side by side, lanes and pagers, or one lane after another, and then the
-- notices. Side by side the live pager answered those that it took too
pub record RanTurn (lanes : List (List Op)) (r : RunningView) (before : List (Vec Reply Global)) (kept : List Answer) (hints : List ℕ) (q : RunningView) (after : List (Vec Reply Global)) (told lived : List Answer) (fed : List Notice) (live : List Answer) : Type 0 where
  pub mid : RunningView
  pub ran : LanesRan lanes r before mid after
  pub leaves : LeavesCells r mid
  pub way : RanTogether lanes r before kept hints mid q after told lived fed live ⊎ RanAlone lanes r before kept hints mid q after told lived fed live
  pub rest : q ≡ with_space mid q.heap.space
