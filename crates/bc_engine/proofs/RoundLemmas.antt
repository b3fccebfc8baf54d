-- A round: the lanes run, the nurseries are emptied, and the lanes that aren't at their ends do one operation more.
use Rattle.std.proofs.Common.{Vec, Global, vec_capacity, ◌≡◌, ◌≢◌, ℕ, ◌+◌, ◌-◌, ◌*◌, ◌<◌, ◌≤◌, List, [], ◌∷◌, ◌++◌, length, Option, Some, None, Err, refl, sym, ap, subst, ◌∙◌, arith}
use Rattle.std.proofs.lemmas.List.{length_push}
use Rattle.bc_cycle.specs.Causes.{IfOutOfHeap}
use Rattle.bc_cycle.specs.Emptying.{KeepsMeaning}
use Rattle.bc_cycle.specs.declared.emptying.CycleError.{CycleError}
use Rattle.bc_cycle.specs.declared.emptying.CycleError.TheVariants as cycle
use Rattle.bc_failsafe.specs.Packing.{NeedOfHeap}
use Rattle.bc_marking.specs.Lines.{line_behind}
use Rattle.bc_marking.specs.declared.lines.Cursor.{Cursor}
use Rattle.bc_model.specs.Lists.{TurnLists}
use Rattle.bc_model.specs.Rows.{lists_of}
use Rattle.bc_model.specs.TurnLines.{budget_at, hints_in}
use Rattle.bc_model.specs.declared.traces.Setup.{Setup}
use Rattle.bc_model.specs.declared.operations.Op.{Op}
use Rattle.bc_model.specs.declared.operations.Reply.{Reply}
use Rattle.bc_pager.specs.declared.answers.Answer.{Answer}
use Rattle.bc_pager.specs.declared.notices.Notice.{Notice}
use Rattle.bc_superpages.specs.Layout.{superpages}
use Rattle.bc_engine.specs.Answers.{IfNoRoom, IfTooSmall}
use Rattle.bc_engine.specs.Budgets.{wanted_behind}
use Rattle.bc_engine.specs.Engines.{EngineView}
use Rattle.bc_engine.specs.Inside.{engine_of, played, with_log}
use Rattle.bc_engine.specs.Lanes.{of_lane, EachFurther, HasMore, IsUnderway, LanesRan, left}
use Rattle.bc_engine.specs.Rounds.{CollectsAnd, HadTurn, SameLanes, IsTooSmall, IsUnderwayOn}
use Rattle.bc_engine.specs.declared.counters.Counters.{Counters}
use Rattle.bc_engine.specs.declared.engines.Ended.{Ended}
use Rattle.bc_engine.specs.declared.engines.Engine.TheInside.{Inside}
use Rattle.bc_engine.specs.declared.engines.Ended.TheVariants.{OutOfHeap, NoMemory}
use Rattle.bc_engine.specs.declared.opened.Opened.{Opened}
use Rattle.bc_engine.specs.declared.opened.TurnLog.{TurnLog}
use Rattle.bc_engine.specs.declared.rounds.RoundsError.{RoundsError}
use Rattle.bc_engine.specs.declared.rounds.RoundsError.TheVariants.{TooSmall, NoRoom}
use Rattle.bc_engine.proofs.EmptyingLemmas.{goes-refused}
use Rattle.bc_engine.proofs.GoingLemmas.{goes-then}
use Rattle.bc_engine.proofs.RunLemmas.{runs-then, left-le, left-less}
use Rattle.bc_running.specs.Running.{RunningView}

-- an engine that hasn't ended hasn't run out of memory
pub goes-on : (ended : Option Ended) → ended ≡ None → ended ≢ Some NoMemory
goes-on ended going gone = cc

-- where a round is: what the lanes did so far, and what a phase rests on
pub record IsAt (lanes : List (List Op)) (e : EngineView) (told : List (Vec Reply Global)) (r : RunningView) (replies : List (Vec Reply Global)) : Type 0 where
  pub runs : LanesRan lanes e.running told r replies
  pub underway : IsUnderway e.setup lanes r replies

pub ran : {lanes : List (List Op)} {e : EngineView} {r : RunningView} {told replies : List (Vec Reply Global)} → IsUnderwayOn e lanes told → LanesRan lanes e.running told r replies → IsAt lanes e told r replies
ran {lanes} {e} underway runs = record { runs = runs; underway = runs.underway e.setup underway }

pub ran-more : {lanes : List (List Op)} {e : EngineView} {r q : RunningView} {told mid replies : List (Vec Reply Global)} → LanesRan lanes r mid q replies → IsAt lanes e told r mid → IsAt lanes e told q replies
ran-more {lanes} {e} runs at = record { runs = runs-then at.runs runs; underway = runs.underway e.setup at.underway }

-- what is said of a heap that is too small, where it needs so many superpages
pub refused-at : (T : Type 0) (cause : CycleError) (need : ℕ) (P : ℕ → Type 0) → cause ≡ cycle.OutOfHeap need → IfOutOfHeap {T = T} (Err cause) P → P need
refused-at T cause need P is told = subst (λ (x : CycleError). IfOutOfHeap {T = T} (Err x) P) is told

-- what is said of rounds that ended out of heap, or without room for answers
pub small-at : (T : Type 0) (stop : RoundsError) (need : ℕ) (P : ℕ → Type 0) → stop ≡ TooSmall need → IfTooSmall {T = T} (Err stop) P → P need
small-at T stop need P is told = subst (λ (x : RoundsError). IfTooSmall {T = T} (Err x) P) is told

pub room-at : {other : RoundsError} (T : Type 0) (stop : RoundsError) (P : Type 0) → stop ≡ other → IfNoRoom {T = T} (Err stop) P → IfNoRoom {T = T} (Err other) P
room-at T stop P is told = subst (λ (x : RoundsError). IfNoRoom {T = T} (Err x) P) is told

-- of the same end of a longer stretch of rounds
pub small-weaker : (T U : Type 0) (stop : RoundsError) (P Q : ℕ → Type 0) → ((need : ℕ) → P need → Q need) → IfTooSmall {T = T} (Err stop) P → IfTooSmall {T = U} (Err stop) Q
small-weaker T U (TooSmall need) P Q f told = f need told
small-weaker T U (NoRoom error) P Q f told = tt

pub room-both : (T U : Type 0) (stop : RoundsError) (P Q R : Type 0) → (P → Q → R) → IfNoRoom {T = T} (Err stop) P → IfNoRoom {T = T} (Err stop) Q → IfNoRoom {T = U} (Err stop) R
room-both T U (TooSmall need) P Q R f told more = tt
room-both T U (NoRoom error) P Q R f told more = f told more

-- an end out of heap is what the phase is cut by
pub too-small : {lanes : List (List Op)} {e : EngineView} (f : EngineView) {r : RunningView} {told replies : List (Vec Reply Global)} (need : ℕ) → KeepsMeaning r.heap f.running.heap → NeedOfHeap f.running.heap.space f.running.heap.roots f.running.heap.chunks need × (superpages f.running.heap.space < need) → f.running.holders ≡ r.holders → f.running.serials ≡ r.serials → f.ended ≡ Some (OutOfHeap need) → IsAt lanes e told r replies → IsTooSmall lanes e told f replies need
too-small {lanes} {e} f {r} {told} {replies} need meaning needs held same end at = record {
  cause = end;
  goes = goes-then at.runs.goes (goes-refused lanes (lists_of replies) held same meaning);
  needs = needs.0;
  above = needs.1;
}

-- where some lane wasn't at its end, and each such lane has done an operation more, less is to come
pub fewer-left : (lanes : List (List Op)) (told mid replies : List (List Reply)) (n : ℕ) → n ≡ length lanes → ((j : ℕ) → length (of_lane told j) ≤ length (of_lane mid j)) → ((j : ℕ) → length (of_lane mid j) ≤ length (of_lane replies j)) → HasMore lanes mid → EachFurther n lanes mid replies → left lanes replies < left lanes told
fewer-left lanes told mid replies n long first second some each =
    let more = each some.0 (omega (arith, some.1, long)) some.2 in
    let less = left-less lanes mid replies some.0 second some.1 some.2 (omega (arith, more)) in
    omega (arith, less, left-le lanes told mid first)

-- rounds that are cut after others are cut
pub small-then : {lanes : List (List Op)} {e f : EngineView} (g : EngineView) {told mid : List (Vec Reply Global)} (replies : List (Vec Reply Global)) (need : ℕ) → LanesRan lanes e.running told f.running mid → IsTooSmall lanes f mid g replies need → IsTooSmall lanes e told g replies need
small-then g replies need first small = record { cause = small.cause; goes = goes-then first.goes small.goes; needs = small.needs; above = small.above }

-- nobody's domain changes hands, and no lane makes an object, in one stretch after another
pub lanes-then : (r q x : RunningView) → SameLanes r q → SameLanes q x → SameLanes r x
lanes-then r q x first second = (second.0 ∙ first.0, second.1 ∙ first.1)

-- a turn, of the answers that there were, and of the hints and the frames of its line
pub had-hints : {lanes : List (List Op)} {few unused : ℕ} {r q : RunningView} {told replies : List (Vec Reply Global)} {asked kept answers lived before live : List Answer} {hints line : List ℕ} {c d : Counters} {fed : List Notice} → few ≡ unused → kept ≡ asked → hints ≡ line → before ≡ lived → HadTurn lanes few r told kept hints q replies answers c d before fed live → HadTurn lanes unused r told asked line q replies answers c d lived fed live
had-hints {lanes} {few} {unused} {r} {q} {told} {replies} {asked} {kept} {answers} {lived} {before} {live} {hints} {line} {c} {d} {fed} frames list same there had =
    subst (λ (n : ℕ). HadTurn lanes n r told asked line q replies answers c d lived fed live) frames
    (subst (λ (hs : List ℕ). HadTurn lanes few r told asked hs q replies answers c d lived fed live) same
    (subst (λ (xs : List Answer). HadTurn lanes few r told xs hints q replies answers c d lived fed live) list
    (subst (λ (xs : List Answer). HadTurn lanes few r told kept hints q replies answers c d xs fed live) there had)))

-- as many frames are wanted then, on a heap of the same setup
pub wanted-is : (s t : Setup) (lines : List TurnLists) (line from now more : ℕ) → t ≡ s → from ≡ line_behind (hints_in lines) line → now ≡ budget_at lines line → more ≡ budget_at lines from - now → t.lanes * t.nursery + more ≡ wanted_behind s lines line
wanted-is s t lines line from now more same at withheld is =
    ap (λ (x : Setup). x.lanes * x.nursery + more) same
    ∙ ap (λ (n : ℕ). s.lanes * s.nursery + n)
    (is ∙ ap (λ (n : ℕ). budget_at lines from - n) withheld ∙ ap (λ (n : ℕ). budget_at lines n - budget_at lines line) at)

-- what came then, from the line behind it
pub minor-from : {Then : List (List ℕ) → RunningView → Cursor → List Answer → RunningView → Cursor → List Answer → Counters → Counters → Type 0} {few wanted : ℕ} {lines : List (List ℕ)} {r q : RunningView} {from line to : Cursor} {before after : List Answer} {c d : Counters} → few ≡ wanted → from ≡ line → CollectsAnd Then few lines r from before q to after c d → CollectsAnd Then wanted lines r line before q to after c d
minor-from {Then} {few} {wanted} {lines} {r} {q} {from} {line} {to} {before} {after} {c} {d} same at minor =
    subst (λ (x : ℕ). CollectsAnd Then x lines r line before q to after c d) same
    (subst (λ (n : Cursor). CollectsAnd Then few lines r n before q to after c d) at minor)

-- the engine that plays, as contracts see it, where it hasn't ended
pub played-at : (i : Inside) (log : TurnLog) → i.ended ≡ None → played i.player log ≡ with_log (engine_of i) log
played-at i log going =
    ap (λ (x : Option Ended). record { running = i.player.running; setup = i.player.setup; workers = i.player.workers; ended = x; answers = log.answers.items; opened = log.opened.items; live = log.live.items; counters = i.player.counters }) (sym going)

-- engines that are alike in each part
alike : (r : RunningView) (s t : Setup) (v w : ℕ) (x y : Option Ended) (answers : List Answer) (opened : List Opened) (live : List Answer) (c : Counters) → s ≡ t → v ≡ w → x ≡ y
    → let e : EngineView = record { running = r; setup = s; workers = v; ended = x; answers = answers; opened = opened; live = live; counters = c } in
    let f : EngineView = record { running = r; setup = t; workers = w; ended = y; answers = answers; opened = opened; live = live; counters = c } in e ≡ f
alike r s t v w x y answers opened live c setup workers ended = cc

-- an engine of which only the heap, the answers and the counts are others, or besides how it ended
pub rest-of : (e f : EngineView) → f.setup ≡ e.setup → f.workers ≡ e.workers → f.ended ≡ e.ended → f ≡ record e { running = f.running; answers = f.answers; opened = f.opened; live = f.live; counters = f.counters }
rest-of e f setup workers ended = alike f.running f.setup e.setup f.workers e.workers f.ended e.ended f.answers f.opened f.live f.counters setup workers ended

pub left-from : (e f : EngineView) → f.setup ≡ e.setup → f.workers ≡ e.workers → f ≡ record e { running = f.running; ended = f.ended; answers = f.answers; opened = f.opened; live = f.live; counters = f.counters }
left-from e f setup workers = alike f.running f.setup e.setup f.workers e.workers f.ended f.ended f.answers f.opened f.live f.counters setup workers refl

-- the item of a turn says what its line does
pub noted-as : (lines : List TurnLists) (line marks : ℕ) (before : List Opened) {withheld : ℕ} {after : List Opened} → after ≡ before ++ record { withheld = withheld; marks = marks } ∷ [] → withheld ≡ budget_at lines line → after ≡ before ++ record { withheld = budget_at lines line; marks = marks } ∷ []
noted-as lines line marks before noted same =
    noted ∙ ap (λ (n : ℕ). before ++ record { withheld = n; marks = marks } ∷ []) same

-- where operations were done there is room for one item more
pub room-left : (lanes : List (List Op)) (told replies : List (Vec Reply Global)) (opened noted : Vec Opened Global) (item : Opened) → length opened.items + left lanes (lists_of told) + 1 ≤ vec_capacity opened → left lanes (lists_of replies) < left lanes (lists_of told)
    → noted.items ≡ opened.items ++ item ∷ [] → vec_capacity noted ≡ vec_capacity opened → length noted.items + left lanes (lists_of replies) + 1 ≤ vec_capacity noted
room-left lanes told replies opened noted item room fewer more same =
    omega (arith, room, fewer, same, ap length more, length_push opened.items item)
