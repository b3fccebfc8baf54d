-- The turns of a phase, from its beginning to its end, to its cut or to a turn for whose answers there is no room.
use Rattle.std.specs.Prelude.{◌≡◌, ℕ, Bool, List, [], Some, Vec}
use Rattle.std.specs.declared.alloc.Global.{Global}
use Rattle.bc_marking.specs.Lines.{hints_along, hints_at}
use Rattle.bc_model.specs.Lists.{PhaseLists, TurnLists}
use Rattle.bc_model.specs.Rows.{lists_of}
use Rattle.bc_model.specs.TurnLines.{hints_in}
use Rattle.bc_model.specs.declared.operations.Reply.{Reply}
use Rattle.bc_pager.specs.declared.answers.Answer.{Answer}
use Rattle.bc_pager.specs.declared.notices.Notice.{Notice}
use Rattle.bc_engine.specs.EngineFacts.{with_holders, without_turns}
use Rattle.bc_engine.specs.Engines.{EngineView}
use Rattle.bc_engine.specs.Rounds.{IsRoomFor, RanAll, RanToCut, RanToWant}
use Rattle.bc_engine.specs.declared.engines.Ended.TheVariants.{NoMemory}

-- room for the replies was taken, the rounds of the phase were run with its lines, and then domains changed hands or were frozen. There was no answer and no
-- turn before the first round, and those after the last are the engine's. Live pagers took these notices
pub record HadTurns (e : EngineView) (p : PhaseLists) (f : EngineView) (replies : List (List Reply)) (fed : List Notice) : Type 0 where
  pub room : List (Vec Reply Global)
  pub begun : IsRoomFor p.lanes room
  pub last : EngineView
  pub told : List (Vec Reply Global)
  -- how many turns the phase had, of lanes and of marks
  pub turns : ℕ
  pub rounds : RanAll p.lanes p.turns (without_turns e) room turns last told fed
  pub given : f ≡ with_holders last f.running.holders
  pub replied : replies ≡ lists_of told

-- room for the replies was taken, and the rounds were run up to the one in which the phase was cut
pub record HadTurnsToCut (e : EngineView) (p : PhaseLists) (f : EngineView) (replies : List (List Reply)) (fed : List Notice) : Type 0 where
  pub room : List (Vec Reply Global)
  pub begun : IsRoomFor p.lanes room
  pub told : List (Vec Reply Global)
  pub turns : ℕ
  pub rounds : RanToCut p.lanes p.turns (without_turns e) room turns f told fed
  pub replied : replies ≡ lists_of told

-- room for the replies was taken, and the rounds were run up to a turn for whose answers there was no memory: to the notices of lines, or,
-- where one more may come from the feed, to those of its live pager
pub record HadTurnsToWant (e : EngineView) (p : PhaseLists) (f : EngineView) (fed : List Notice) (coming : Bool) : Type 0 where
  pub room : List (Vec Reply Global)
  pub begun : IsRoomFor p.lanes room
  pub last : EngineView
  pub told : List (Vec Reply Global)
  pub kept : Vec Answer Global
  pub answers : kept.items ≡ f.answers
  pub lived : Vec Answer Global
  pub live : lived.items ≡ f.live
  pub rounds : RanToWant p.lanes p.turns (without_turns e) room last told kept fed lived coming
  pub wants : f ≡ record last { ended = Some NoMemory }

-- no turn has a notice: no line has a hint
abbrev pub HasNoHints : List TurnLists → Type 0
HasNoHints lines = (n : ℕ) → hints_at (hints_in lines) n ≡ []

-- how many notices the first n turns of a phase have
abbrev pub hints_before : List TurnLists → ℕ → ℕ
hints_before lines n = hints_along (hints_in lines) 0 n
