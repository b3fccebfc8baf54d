-- The rounds of a phase: the lanes go on until each is at its end or stops, and then the nurseries are emptied.
use Rattle.std.specs.Prelude.{◌≡◌, ◌⊎◌, ℕ, ◌+◌, ◌*◌, ◌<◌, ◌≤◌, Bool, true, false, List, [], ◌∷◌, ◌++◌, length, max, Some, None, Vec, vec_capacity, slice_index_or}
use Prim.Native.Nat.{zero, suc}
use Rattle.std.specs.declared.alloc.Global.{Global}
use Rattle.bc_bookmarks.specs.Withholding.{Withheld}
use Rattle.bc_cycle.specs.Collecting.{EmptiesBeside, HadMarking, IsCollectedHeap, StaysBeside}
use Rattle.bc_cycle.specs.Emptying.{IsEmptied, KeepsMeaning, LeavesPages, StayInPlace, SurvivorsFit}
use Rattle.bc_cycle.specs.declared.emptying.EmptyingKind.{EmptyingKind}
use Rattle.bc_cycle.specs.declared.emptying.EmptyingKind.TheVariants.{Failsafe}
use Rattle.bc_failsafe.specs.Packing.{NeedOfHeap}
use Rattle.bc_marking.specs.Lines.{HasTold, cursor_at, hints_at, line_behind}
use Rattle.bc_marking.specs.declared.lines.Cursor.{Cursor}
use Rattle.bc_model.specs.Lists.{TurnLists}
use Rattle.bc_model.specs.Rows.{lists_of}
use Rattle.bc_model.specs.TurnLines.{budget_at, hints_in}
use Rattle.bc_model.specs.declared.operations.Op.{Op}
use Rattle.bc_model.specs.declared.operations.Reply.{Reply}
use Rattle.bc_pager.specs.Feeding.{live_room}
use Rattle.bc_pager.specs.declared.answers.Answer.{Answer}
use Rattle.bc_pager.specs.declared.notices.Notice.{Notice}
use Rattle.bc_superpages.specs.Layout.{superpages}
use Rattle.bc_engine.specs.Attempts.{RanByAttempts}
use Rattle.bc_engine.specs.Budgets.{ReturnsFrames, unused_in, wanted_behind}
use Rattle.bc_engine.specs.Counting.{CountsAlone, CountsEarly, CountsEmptying, CountsTurn, left_since}
use Rattle.bc_engine.specs.Engines.{EngineView, HasEmptyChunks}
use Rattle.bc_engine.specs.Lanes.{of_lane, AreDone, EachFurther, HasMore, LanesWentOn, LeavesCells, IsUnderway, LanesRan}
use Rattle.bc_engine.specs.Turns.{RanTurn, hints_of, line_of}
use Rattle.bc_engine.specs.declared.counters.Counters.{Counters}
use Rattle.bc_engine.specs.declared.engines.Ended.TheVariants.{OutOfHeap}
use Rattle.bc_running.specs.Frames.{IsShortOfFrames}
use Rattle.bc_running.specs.Running.{RunningView}
use Rattle.bc_running.specs.RunningFacts.{IsSound, with_space}

-- a phase is under way on the engine
abbrev pub IsUnderwayOn : EngineView → List (List Op) → List (Vec Reply Global) → Type 0
IsUnderwayOn e lanes replies = IsUnderway e.setup lanes e.running replies

-- room for the replies, and none yet
abbrev pub IsRoomFor : List (List Op) → List (Vec Reply Global) → Type 0
IsRoomFor lanes replies =
    (j : ℕ) → (v : Vec Reply Global) → j < length replies → v ≡ slice_index_or replies j v
    → (v.items ≡ []) × (length (of_lane lanes j) ≤ vec_capacity v)

-- the engine goes on: the lanes went on, nothing else changed, and the engine hasn't ended
pub record RoundsWentOn (lanes : List (List Op)) (e : EngineView) (before : List (Vec Reply Global)) (f : EngineView) (after : List (Vec Reply Global)) : Type 0 where
  pub going : f.ended ≡ None
  pub runs : LanesRan lanes e.running before f.running after

-- all lanes are at their ends, and the nurseries are empty
pub record IsThrough (lanes : List (List Op)) (f : EngineView) (after : List (Vec Reply Global)) : Type 0 where
  pub done : AreDone lanes (lists_of after)
  pub empty : HasEmptyChunks f.running.heap

-- the lanes went on, and the engine ended there, since what it stands for needs so many superpages, which is more than there are
pub record IsTooSmall (lanes : List (List Op)) (e : EngineView) (before : List (Vec Reply Global)) (f : EngineView) (after : List (Vec Reply Global)) (need : ℕ) : Type 0 where
  pub cause : f.ended ≡ Some (OutOfHeap need)
  pub goes : LanesWentOn lanes e.running (lists_of before) f.running (lists_of after)
  pub needs : NeedOfHeap f.running.heap.space f.running.heap.roots f.running.heap.chunks need
  pub above : superpages f.running.heap.space < need

-- the heap is another one, and holders and births are the same
abbrev pub SameLanes : RunningView → RunningView → Type 0
SameLanes r q = (q.holders ≡ r.holders) × (q.serials ≡ r.serials)

-- between a turn and its minor collection: nothing, or, where frames were short of those that are wanted, a bookmark collection. That keeps
-- what the heap stands for, no page is read by it, and it is counted. The answers of its mark turns came after those that there were, from one
-- line on, and the pages left that they name
pub record MayCollect (wanted : ℕ) (lines : List (List ℕ)) (r : RunningView) (from : Cursor) (before : List Answer) (q : RunningView) (to : Cursor) (after : List Answer) (c d : Counters) : Type 0 where
  pub turns : ℕ
  pub told : List Answer
  pub uses : HasTold lines from before turns to after told
  pub way : ((q ≡ r) × (turns ≡ 0) × CountsEarly c false 0 d)
      ⊎ (IsShortOfFrames r.heap.space wanted × IsCollectedHeap r.heap told q.heap × CountsEarly c true (left_since (length before) after) d
      × (m : HadMarking lines from.line r.heap turns told) × (m.begun ≡ m.settled))
  pub lanes : SameLanes r q
  pub sound : IsSound q

-- the nurseries were emptied (a minor collection): nothing was freed, moved or read back where the survivors fit, and no page was
-- read back where they fit what a bookmark collection keeps. Which of these it was is counted. The answers of its mark turns came after those
-- that there were
pub record EmptiesNurseries (lines : List (List ℕ)) (r : RunningView) (from : Cursor) (before : List Answer) (q : RunningView) (to : Cursor) (after : List Answer) (c d : Counters) : Type 0 where
  pub emptied : IsEmptied r.heap q.heap
  pub in_place : SurvivorsFit r.heap → StayInPlace r.heap q.heap
  pub pages : SurvivorsFit r.heap → LeavesPages r.heap.space q.heap.space
  pub kind : EmptyingKind
  pub beside : EmptiesBeside kind lines r.heap from before q.heap to after
  pub lanes : SameLanes r q
  pub counts : CountsEmptying kind c r.heap.space.reads q.heap.space.reads (left_since (length before) after) d

-- the nurseries couldn't be emptied, which left each page where it was, but for those that the answers of its mark turns name. The fail-safe found
-- so, and that it did is counted
pub record LeavesNurseries (lines : List (List ℕ)) (r : RunningView) (from : Cursor) (before : List Answer) (q : RunningView) (to : Cursor) (after : List Answer) (c d : Counters) : Type 0 where
  pub meaning : KeepsMeaning r.heap q.heap
  pub stays : StaysBeside lines r.heap from before q.heap to after
  pub lanes : SameLanes r q
  pub counts : CountsEmptying Failsafe c r.heap.space.reads q.heap.space.reads (left_since (length before) after) d

-- after a turn a bookmark collection may have come, and then this, with lines and answers behind those of its mark turns
pub record CollectsAnd (Then : List (List ℕ) → RunningView → Cursor → List Answer → RunningView → Cursor → List Answer → Counters → Counters → Type 0) (wanted : ℕ) (lines : List (List ℕ)) (r : RunningView) (from : Cursor) (before : List Answer) (q : RunningView) (to : Cursor) (after : List Answer) (c d : Counters) : Type 0 where
  pub collected : RunningView
  pub mid : Cursor
  pub answers : List Answer
  pub begun : Counters
  pub collects : MayCollect wanted lines r from before collected mid answers c begun
  pub next : Then lines collected mid answers q to after begun d

-- the turn of a round. So many frames were kept from pages before it, for which pages were given up where frames were wanting, and nothing else
-- changed. From there on the lanes ran, and the notices with these hints were answered, and those that the live pager took. What was counted is of
-- all of it
pub record HadTurn (lanes : List (List Op)) (unused : ℕ) (r : RunningView) (before : List (Vec Reply Global)) (asked : List Answer) (hints : List ℕ) (q : RunningView) (after : List (Vec Reply Global)) (answers : List Answer) (c d : Counters) (lived : List Answer) (fed : List Notice) (live : List Answer) : Type 0 where
  pub began : RunningView
  pub withheld : Withheld unused r.heap.space began.heap.space
  pub rest : began ≡ with_space r began.heap.space
  pub turn : RanTurn lanes began before asked hints q after answers lived fed live
  pub counts : CountsTurn c r.heap.space.reads q.heap.space.reads (left_since (length asked) answers + left_since (length lived) live) d

-- each lane that wasn't at its end did one operation more, and nothing else was done. Its reads are counted
pub record HadSteps (lanes : List (List Op)) (r : RunningView) (before : List (Vec Reply Global)) (q : RunningView) (after : List (Vec Reply Global)) (c d : Counters) : Type 0 where
  pub steps : LanesRan lanes r before q after
  pub attempts : RanByAttempts lanes r (lists_of before) q (lists_of after)
  pub leaves : LeavesCells r q
  pub each : EachFurther (length lanes) lanes (lists_of before) (lists_of after)
  pub counts : CountsAlone c r.heap.space.reads q.heap.space.reads d

-- a round: the lanes had their turn, in which as many frames were withheld as this line says and its notices were answered, a bookmark collection
-- may have come, and the nurseries were emptied. Some lane wasn't at its end, and each such lane did one operation more. Each turn of the round, that of the lanes and those of
-- marks, used one line. The answers to their notices, one to each, in the order of the turns, came after those that there were, and so did those
-- to the notices that the live pager took. The answers and the counts are the engine's
pub record RanRound (lanes : List (List Op)) (lines : List TurnLists) (e : EngineView) (before : List (Vec Reply Global)) (line : ℕ) (f : EngineView) (after : List (Vec Reply Global)) (next : ℕ) (fed : List Notice) : Type 0 where
  pub turned : RunningView
  pub told : List (Vec Reply Global)
  pub answers : List Answer
  pub counted : Counters
  pub turn : HadTurn lanes (unused_in e.setup lines line) e.running before e.answers (hints_at (hints_in lines) line) turned told answers e.counters counted e.live fed f.live
  pub emptied : RunningView
  pub begun : Counters
  pub marks : ℕ
  pub empties : CollectsAnd EmptiesNurseries (wanted_behind e.setup lines line) (hints_in lines) turned (cursor_at (line_behind (hints_in lines) line)) answers emptied (record { line = next; turns = marks }) f.answers counted begun
  pub more : HasMore lanes (lists_of told)
  pub steps : HadSteps lanes emptied told f.running after begun f.counters
  pub noted : f.opened ≡ e.opened ++ record { withheld = budget_at lines line; marks = marks } ∷ []
  pub rest : f ≡ record e { running = f.running; answers = f.answers; opened = f.opened; live = f.live; counters = f.counters }

-- how many turns a round had: that of the lanes, and mark turns
abbrev pub turns_of_round : {lanes : List (List Op)} {lines : List TurnLists} {e f : EngineView} {before after : List (Vec Reply Global)} {line next : ℕ} {fed : List Notice} → RanRound lanes lines e before line f after next fed → ℕ
turns_of_round r = suc (r.empties.collects.turns + r.empties.next.beside.turns)

-- the last round: in their turn all lanes came to their ends, a bookmark collection may have come, and the nurseries were emptied. Then the frames
-- that were withheld were returned
pub record LastRound (lanes : List (List Op)) (lines : List TurnLists) (e : EngineView) (before : List (Vec Reply Global)) (line : ℕ) (f : EngineView) (after : List (Vec Reply Global)) (fed : List Notice) : Type 0 where
  pub turned : RunningView
  pub answers : List Answer
  pub counted : Counters
  pub turn : HadTurn lanes (unused_in e.setup lines line) e.running before e.answers (hints_at (hints_in lines) line) turned after answers e.counters counted e.live fed f.live
  pub done : AreDone lanes (lists_of after)
  pub emptied : RunningView
  pub next : ℕ
  pub marks : ℕ
  pub empties : CollectsAnd EmptiesNurseries (wanted_behind e.setup lines line) (hints_in lines) turned (cursor_at (line_behind (hints_in lines) line)) answers emptied (record { line = next; turns = marks }) f.answers counted f.counters
  pub returned : ReturnsFrames (e.setup.lanes * e.setup.nursery) emptied f.running
  pub noted : f.opened ≡ e.opened ++ record { withheld = budget_at lines line; marks = marks } ∷ []
  pub rest : f ≡ record e { running = f.running; answers = f.answers; opened = f.opened; live = f.live; counters = f.counters }

-- how many turns the last round had
abbrev pub turns_of_last : {lanes : List (List Op)} {lines : List TurnLists} {e f : EngineView} {before after : List (Vec Reply Global)} {line : ℕ} {fed : List Notice} → LastRound lanes lines e before line f after fed → ℕ
turns_of_last r = suc (r.empties.collects.turns + r.empties.next.beside.turns)

-- a round that was cut: the lanes had their turn, a bookmark collection may have come, and the nurseries couldn't be emptied. The frames stay
-- withheld
pub record CutRound (lanes : List (List Op)) (lines : List TurnLists) (e : EngineView) (before : List (Vec Reply Global)) (line : ℕ) (f : EngineView) (after : List (Vec Reply Global)) (fed : List Notice) : Type 0 where
  pub turned : RunningView
  pub answers : List Answer
  pub counted : Counters
  pub turn : HadTurn lanes (unused_in e.setup lines line) e.running before e.answers (hints_at (hints_in lines) line) turned after answers e.counters counted e.live fed f.live
  pub next : ℕ
  pub marks : ℕ
  pub leaves : CollectsAnd LeavesNurseries (wanted_behind e.setup lines line) (hints_in lines) turned (cursor_at (line_behind (hints_in lines) line)) answers f.running (record { line = next; turns = marks }) f.answers counted f.counters
  pub noted : f.opened ≡ e.opened ++ record { withheld = budget_at lines line; marks = marks } ∷ []
  pub rest : f ≡ record e { running = f.running; ended = f.ended; answers = f.answers; opened = f.opened; live = f.live; counters = f.counters }

-- how many turns a round had that was cut
abbrev pub turns_of_cut : {lanes : List (List Op)} {lines : List TurnLists} {e f : EngineView} {before after : List (Vec Reply Global)} {line : ℕ} {fed : List Notice} → CutRound lanes lines e before line f after fed → ℕ
turns_of_cut r = suc (r.leaves.collects.turns + r.leaves.next.stays.turns)

-- a number of rounds with others to come were run, one after another, in this many turns. Each turn of the phase uses its line. Live pagers
-- took these notices
abbrev pub RanRounds : List (List Op) → List TurnLists → EngineView → List (Vec Reply Global) → ℕ → ℕ → EngineView → List (Vec Reply Global) → List Notice → Type 0
RanRounds lanes lines e before zero turns f after fed = (f ≡ e) × (after ≡ before) × (turns ≡ 0) × (fed ≡ [])
RanRounds lanes lines e before (suc n) turns f after fed =
    (mid : EngineView) × (told : List (Vec Reply Global)) × (used : ℕ) × (next : ℕ) × (first more : List Notice) × RanRounds lanes lines e before n used mid told first
    × (r : RanRound lanes lines mid told (line_of lines used) f after next more) × (turns ≡ used + turns_of_round r) × (fed ≡ first ++ more)

-- the rounds of a phase from its first turn on, in this many turns: so many as have others to come, and the last one
abbrev pub RanAll : List (List Op) → List TurnLists → EngineView → List (Vec Reply Global) → ℕ → EngineView → List (Vec Reply Global) → List Notice → Type 0
RanAll lanes lines e before turns f after fed =
    (n : ℕ) × (used : ℕ) × (mid : EngineView) × (told : List (Vec Reply Global)) × (first more : List Notice) × RanRounds lanes lines e before n used mid told first
    × (r : LastRound lanes lines mid told (line_of lines used) f after more) × (turns ≡ used + turns_of_last r) × (fed ≡ first ++ more)

-- the rounds of a phase from its first turn on, in this many turns, up to one that was cut
abbrev pub RanToCut : List (List Op) → List TurnLists → EngineView → List (Vec Reply Global) → ℕ → EngineView → List (Vec Reply Global) → List Notice → Type 0
RanToCut lanes lines e before turns f after fed =
    (n : ℕ) × (used : ℕ) × (mid : EngineView) × (told : List (Vec Reply Global)) × (first more : List Notice) × RanRounds lanes lines e before n used mid told first
    × (r : CutRound lanes lines mid told (line_of lines used) f after more) × (turns ≡ used + turns_of_cut r) × (fed ≡ first ++ more)

-- how many notices the longest line has
abbrev pub longest_of : List (List ℕ) → ℕ
longest_of [] = 0
longest_of (line ∷ lines) = max (length line) (longest_of lines)

-- the list has no room for so many answers more
abbrev pub HasNoRoomFor : Vec Answer Global → ℕ → Type 0
HasNoRoomFor kept more = vec_capacity kept < length kept.items + more

-- the list has no room for so many answers more; or one notice more may come from the feed, and the other list has none for those of a turn
abbrev pub WantsRoom : Vec Answer Global → ℕ → Vec Answer Global → Bool → Type 0
WantsRoom kept more lived coming = HasNoRoomFor kept more ⊎ ((coming ≡ true) × HasNoRoomFor lived live_room)

-- the rounds of a phase from its first turn on, up to one for whose answers a list has no room: those of its lanes' line, and of as many as
-- the longest line has, twice; or, where one notice more may come from the feed, those of its live pager
abbrev pub RanToWant : List (List Op) → List TurnLists → EngineView → List (Vec Reply Global) → EngineView → List (Vec Reply Global) → Vec Answer Global → List Notice → Vec Answer Global → Bool → Type 0
RanToWant lanes lines e before f after kept fed lived coming =
    (n : ℕ) × (used : ℕ) × RanRounds lanes lines e before n used f after fed × WantsRoom kept (length (hints_of lines used) + 2 * longest_of (hints_in lines)) lived coming
