-- There is an answer to each notice.
use Rattle.std.proofs.Common.{Vec, Global, ◌≡◌, ℕ, ◌+◌, Bool, List, [], ◌∷◌, ◌++◌, length, inl, inr, refl, ap, sym, subst, ◌∙◌, arith}
use Prim.Native.Nat.{zero, suc}
use Rattle.std.proofs.lemmas.List.{append-nil, length-append, length-map}
use Rattle.bc_model.specs.Lists.{PhaseLists, TurnLists}
use Rattle.bc_model.specs.TurnLines.{hints_in}
use Rattle.bc_model.specs.declared.operations.Op.{Op}
use Rattle.bc_model.specs.declared.operations.Reply.{Reply}
use Rattle.bc_marking.proofs.LineLemmas.{told-one, told-then}
use Rattle.bc_marking.specs.Lines.{HasTold, cursor_along, cursor_at, hints_along, hints_at, line_along, line_behind}
use Rattle.bc_marking.specs.declared.lines.Cursor.{Cursor}
use Rattle.bc_pager.proofs.ToldLemmas.{answered-even}
use Rattle.bc_pager.specs.Alone.{ArePlainAnswers}
use Rattle.bc_pager.specs.Claiming.{hints_of}
use Rattle.bc_pager.specs.declared.answers.Answer.{Answer}
use Rattle.bc_pager.specs.declared.notices.Notice.{Notice}
use Rattle.bc_running.specs.Running.{RunningView}
use Rattle.bc_superpages.specs.Layout.{Layout}
use Rattle.bc_engine.specs.EngineFacts.{without_turns}
use Rattle.bc_engine.specs.Engines.{EngineView}
use Rattle.bc_engine.specs.PhaseTurns.{HadTurns, HadTurnsToCut, HadTurnsToWant, hints_before}
use Rattle.bc_engine.specs.Rounds.{CutRound, LastRound, RanRound, RanRounds, turns_of_cut, turns_of_last, turns_of_round}
use Rattle.bc_engine.specs.Turns.{RanTurn, line_of}

-- so many turns from a cursor on, and their answers
abbrev TellsAlong : List (List ℕ) → Cursor → List Answer → ℕ → List Answer → List Answer → Type 0
TellsAlong lines from before turns after told = HasTold lines from before turns (cursor_along lines from turns) after told

-- of as many turns, counted otherwise
told-turns : (lines : List (List ℕ)) (from : Cursor) (before after told : List Answer) {n m : ℕ} → n ≡ m → TellsAlong lines from before n after told → TellsAlong lines from before m after told
told-turns lines from before after told same t = subst (λ (x : ℕ). TellsAlong lines from before x after told) same t

-- counted from another cursor on with the same line
told-anew : (lines : List (List ℕ)) (at from : Cursor) (before : List Answer) (n : ℕ) (to : Cursor) (after told : List Answer) → at.line ≡ from.line → HasTold lines from before n to after told → TellsAlong lines at before n after told
told-anew lines at from before n to after told same t = record {
  answers = t.answers;
  next = refl;
  long = t.long ∙ ap (λ (line : ℕ). hints_along lines line n) (sym same);
}

-- turns after others, counted anew
along-then : (lines : List (List ℕ)) (from : Cursor) (n : ℕ) (at : Cursor) (m : ℕ) (to : Cursor) (before mid after told more : List Answer) → at.line ≡ line_along lines (from.line) n → TellsAlong lines from before n mid told → HasTold lines at mid m to after more
    → TellsAlong lines from before (n + m) after (told ++ more)
along-then lines from n at m to before mid after told more same first second =
    let here : Cursor = cursor_along lines from n in
    let there : Cursor = cursor_along lines here m in
    told-anew lines from from before (n + m) there after (told ++ more) refl
    (told-then lines from n here m there before mid after told more first (told-anew lines here at mid m to after more (sym same) second))

-- where nobody works beside
plain-long : (s t : Layout) (hints : List ℕ) (answers : List Answer) → ArePlainAnswers s hints answers t → length answers ≡ length hints
plain-long s t [] [] told = refl
plain-long s t [] (answer ∷ answers) told = absurd told
plain-long s t (hint ∷ hints) [] told = absurd told
plain-long s t (hint ∷ hints) (answer ∷ answers) told = omega (arith, plain-long told.0 t hints answers told.2)

-- a turn of lanes has an answer to each notice of its line, after those that there were
turn-told : (lines : List (List ℕ)) (line : ℕ) {lanes : List (List Op)} {r q : RunningView} {before after : List (Vec Reply Global)} {asked answers lived live : List Answer} {fed : List Notice} → RanTurn lanes r before asked (hints_at lines line) q after answers lived fed live
    → (told : List Answer) × TellsAlong lines (cursor_at line) asked 1 answers told
turn-told lines line {lanes} {r} {q} {before} {after} {asked} {answers} turn = elim turn.way [
  | inl beside ↦
      let b = beside.answered in
      (b.told, told-one lines (cursor_at line) (cursor_along lines (cursor_at line) 1) asked answers b.told b.kept refl b.shared.long)
  | inr alone ↦
      let a = alone.2.1 in
      (a.0, told-one lines (cursor_at line) (cursor_along lines (cursor_at line) 1) asked answers a.0 a.1 refl (plain-long _ alone.2.0 (hints_at lines line) a.0 a.2))
]

-- so there are as many answers more as the line has notices
pub turn-long : (lines : List (List ℕ)) (line : ℕ) {lanes : List (List Op)} {r q : RunningView} {before after : List (Vec Reply Global)} {asked answers lived live : List Answer} {fed : List Notice} → RanTurn lanes r before asked (hints_at lines line) q after answers lived fed live
    → length answers ≡ length asked + length (hints_at lines line)
turn-long lines line {asked = asked} turn =
    let t = turn-told lines line turn in
    omega (arith, ap length t.1.answers, length-append asked t.0, t.1.long)

-- the mark turns of a round: those of what may have come first, and of what came then
module _ {lanes : List (List Op)} {lines : List TurnLists} {before after : List (Vec Reply Global)} {line next : ℕ} {fed : List Notice} where
  pub round-marks : {e f : EngineView} (r : RanRound lanes lines e before line f after next fed)
      → (told : List Answer) × HasTold (hints_in lines) (cursor_at (line_behind (hints_in lines) line)) r.answers (r.empties.collects.turns + r.empties.next.beside.turns) (record { line = next; turns = r.marks }) f.answers told
  round-marks {e} {f} r =
      let c = r.empties.collects in
      let b = r.empties.next.beside in
      (c.told ++ b.told, told-then (hints_in lines) (cursor_at (line_behind (hints_in lines) line)) c.turns r.empties.mid b.turns (record { line = next; turns = r.marks }) r.answers r.empties.answers f.answers c.told b.told c.uses b.uses)

module _ {lanes : List (List Op)} {lines : List TurnLists} {e f : EngineView} {before after : List (Vec Reply Global)} {line : ℕ} {fed : List Notice} where
  pub last-marks : (r : LastRound lanes lines e before line f after fed)
      → (told : List Answer) × HasTold (hints_in lines) (cursor_at (line_behind (hints_in lines) line)) r.answers (r.empties.collects.turns + r.empties.next.beside.turns) (record { line = r.next; turns = r.marks }) f.answers told
  last-marks r =
      let c = r.empties.collects in
      let b = r.empties.next.beside in
      (c.told ++ b.told, told-then (hints_in lines) (cursor_at (line_behind (hints_in lines) line)) c.turns r.empties.mid b.turns (record { line = r.next; turns = r.marks }) r.answers r.empties.answers f.answers c.told b.told c.uses b.uses)

  pub cut-marks : (r : CutRound lanes lines e before line f after fed)
      → (told : List Answer) × HasTold (hints_in lines) (cursor_at (line_behind (hints_in lines) line)) r.answers (r.leaves.collects.turns + r.leaves.next.stays.turns) (record { line = r.next; turns = r.marks }) f.answers told
  cut-marks r =
      let c = r.leaves.collects in
      let b = r.leaves.next.stays in
      (c.told ++ b.told, told-then (hints_in lines) (cursor_at (line_behind (hints_in lines) line)) c.turns r.leaves.mid b.turns (record { line = r.next; turns = r.marks }) r.answers r.leaves.answers f.answers c.told b.told c.uses b.uses)

-- with the turn of the lanes before them
with-marks : (lines : List (List ℕ)) (line n : ℕ) (to : Cursor) (asked mid last told more : List Answer) → TellsAlong lines (cursor_at line) asked 1 mid told → HasTold lines (cursor_at (line_behind lines line)) mid n to last more → TellsAlong lines (cursor_at line) asked (suc n) last (told ++ more)
with-marks lines line n to asked mid last told more turn marks =
    let same : 1 + n ≡ suc n = omega arith in
    told-turns lines (cursor_at line) asked last (told ++ more) same (along-then lines (cursor_at line) 1 (cursor_at (line_behind lines line)) n to asked mid last told more refl turn marks)

-- so has a round an answer to each notice of the lines of all its turns
module _ {lanes : List (List Op)} {lines : List TurnLists} {before after : List (Vec Reply Global)} {line next : ℕ} {fed : List Notice} where
  round-told : {e f : EngineView} (r : RanRound lanes lines e before line f after next fed) → (told : List Answer) × TellsAlong (hints_in lines) (cursor_at line) e.answers (turns_of_round r) f.answers told
  round-told {e} {f} r =
      let first = turn-told (hints_in lines) line r.turn.turn in
      let marks = round-marks r in
      (first.0 ++ marks.0, with-marks (hints_in lines) line _ _ e.answers r.answers f.answers first.0 marks.0 first.1 marks.1)

module _ {lanes : List (List Op)} {lines : List TurnLists} {e f : EngineView} {before after : List (Vec Reply Global)} {line : ℕ} {fed : List Notice} where
  last-told : (r : LastRound lanes lines e before line f after fed) → (told : List Answer) × TellsAlong (hints_in lines) (cursor_at line) e.answers (turns_of_last r) f.answers told
  last-told r =
      let first = turn-told (hints_in lines) line r.turn.turn in
      let marks = last-marks r in
      (first.0 ++ marks.0, with-marks (hints_in lines) line _ _ e.answers r.answers f.answers first.0 marks.0 first.1 marks.1)

  cut-told : (r : CutRound lanes lines e before line f after fed) → (told : List Answer) × TellsAlong (hints_in lines) (cursor_at line) e.answers (turns_of_cut r) f.answers told
  cut-told r =
      let first = turn-told (hints_in lines) line r.turn.turn in
      let marks = cut-marks r in
      (first.0 ++ marks.0, with-marks (hints_in lines) line _ _ e.answers r.answers f.answers first.0 marks.0 first.1 marks.1)

-- rounds, one after another, begin with the first line
rounds-told : (lanes : List (List Op)) (lines : List TurnLists) (e : EngineView) (before : List (Vec Reply Global)) (n turns : ℕ) (f : EngineView) (after : List (Vec Reply Global)) (fed : List Notice) → RanRounds lanes lines e before n turns f after fed
    → (told : List Answer) × TellsAlong (hints_in lines) (cursor_at 0) e.answers turns f.answers told
rounds-told lanes lines e before zero turns f after fed ran = (
  [],
  record {
    answers = ap (λ (x : EngineView). x.answers) ran.0 ∙ sym (append-nil e.answers);
    next = refl;
    long = sym (ap (hints_along (hints_in lines) 0) ran.2);
  },
)
rounds-told lanes lines e before (suc n) turns f after fed ran =
    let first = rounds-told lanes lines e before n ran.2 ran.0 ran.1 ran.4 ran.6 in
    let last = round-told ran.7 in
    let same : ran.2 + turns_of_round ran.7 ≡ turns = sym ran.8 in (
      first.0 ++ last.0,
      told-turns (hints_in lines) (cursor_at 0) e.answers f.answers (first.0 ++ last.0) same
          (along-then (hints_in lines) (cursor_at 0) ran.2 (cursor_at (line_of lines ran.2)) (turns_of_round ran.7) _ e.answers ran.0.answers f.answers first.0 last.0 refl first.1 last.1),
    )

-- so has a phase
pub done-answered : (e f : EngineView) (p : PhaseLists) (replies : List (List Reply)) (fed : List Notice) (had : HadTurns e p f replies fed) → length f.answers ≡ hints_before p.turns had.turns
done-answered e f p replies fed had =
    let all = had.rounds in
    let first = rounds-told p.lanes p.turns (without_turns e) had.room all.0 all.1 all.2 all.3 all.4 all.6 in
    let last = last-told all.7 in
    let both = along-then (hints_in p.turns) (cursor_at 0) all.1 (cursor_at (line_of p.turns all.1)) (turns_of_last all.7) _ [] all.2.answers had.last.answers first.0 last.0 refl first.1 last.1 in
    let same : all.1 + turns_of_last all.7 ≡ had.turns = sym all.8 in
    ap (λ (x : EngineView). length x.answers) had.given ∙ ap length both.answers ∙ (told-turns (hints_in p.turns) (cursor_at 0) [] had.last.answers (first.0 ++ last.0) same both).long

pub cut-answered : (e f : EngineView) (p : PhaseLists) (replies : List (List Reply)) (fed : List Notice) (had : HadTurnsToCut e p f replies fed) → length f.answers ≡ hints_before p.turns had.turns
cut-answered e f p replies fed had =
    let all = had.rounds in
    let first = rounds-told p.lanes p.turns (without_turns e) had.room all.0 all.1 all.2 all.3 all.4 all.6 in
    let last = cut-told all.7 in
    let both = along-then (hints_in p.turns) (cursor_at 0) all.1 (cursor_at (line_of p.turns all.1)) (turns_of_cut all.7) _ [] all.2.answers f.answers first.0 last.0 refl first.1 last.1 in
    let same : all.1 + turns_of_cut all.7 ≡ had.turns = sym all.8 in
    ap length both.answers ∙ (told-turns (hints_in p.turns) (cursor_at 0) [] f.answers (first.0 ++ last.0) same both).long

-- the live pager of a turn has an answer to each notice that it took, after those that there were
turn-fed : {lanes : List (List Op)} {r q : RunningView} {before after : List (Vec Reply Global)} {asked answers lived live : List Answer} {fed : List Notice} (hints : List ℕ) → RanTurn lanes r before asked hints q after answers lived fed live → length live ≡ length lived + length fed
turn-fed {lived = lived} {live = live} {fed = fed} hints turn = elim turn.way [
  | inl beside ↦
      let b = beside.answered in
      let even : length (hints_of fed) ≡ length b.live_told = answered-even b.key (hints_of fed) b.live_told _ b.live_pager.end b.live_pager.each in
      let long : length (hints_of fed) ≡ length fed = length-map fed (λ (x : Notice). x.hint) in
      omega (arith, ap length b.live_kept, length-append lived b.live_told, even, long)
  | inr alone ↦ omega (arith, ap length alone.3, ap length alone.4)
]

-- one number after another
fed-then : (from mid to : ℕ) (fed first more : List Notice) → mid ≡ from + length first → to ≡ mid + length more → fed ≡ first ++ more → to ≡ from + length fed
fed-then from mid to fed first more here there all = omega (arith, here, there, ap length all, length-append first more)

rounds-fed : (lanes : List (List Op)) (lines : List TurnLists) (e : EngineView) (before : List (Vec Reply Global)) (n turns : ℕ) (f : EngineView) (after : List (Vec Reply Global)) (fed : List Notice) → RanRounds lanes lines e before n turns f after fed → length f.live ≡ length e.live + length fed
rounds-fed lanes lines e before zero turns f after fed ran = omega (arith, ap (λ (x : EngineView). length x.live) ran.0, ap length ran.3)
rounds-fed lanes lines e before (suc n) turns f after fed ran =
    let first = rounds-fed lanes lines e before n ran.2 ran.0 ran.1 ran.4 ran.6 in
    fed-then (length e.live) (length ran.0.live) (length f.live) fed ran.4 ran.5 first (turn-fed _ ran.7.turn.turn) ran.9

-- so the engine has an answer to each notice that live pagers took in a phase
pub done-fed : (e f : EngineView) (p : PhaseLists) (replies : List (List Reply)) (fed : List Notice) → HadTurns e p f replies fed → length f.live ≡ length fed
done-fed e f p replies fed had =
    let all = had.rounds in
    let first = rounds-fed p.lanes p.turns (without_turns e) had.room all.0 all.1 all.2 all.3 all.4 all.6 in
    let whole = fed-then 0 (length all.2.live) (length had.last.live) fed all.4 all.5 first (turn-fed _ all.7.turn.turn) all.9 in
    omega (arith, whole, ap (λ (x : EngineView). length x.live) had.given)

pub cut-fed : (e f : EngineView) (p : PhaseLists) (replies : List (List Reply)) (fed : List Notice) → HadTurnsToCut e p f replies fed → length f.live ≡ length fed
cut-fed e f p replies fed had =
    let all = had.rounds in
    let first = rounds-fed p.lanes p.turns (without_turns e) had.room all.0 all.1 all.2 all.3 all.4 all.6 in
    let whole = fed-then 0 (length all.2.live) (length f.live) fed all.4 all.5 first (turn-fed _ all.7.turn.turn) all.9 in
    omega (arith, whole)

pub want-fed : (e f : EngineView) (p : PhaseLists) (fed : List Notice) (coming : Bool) → HadTurnsToWant e p f fed coming → length f.live ≡ length fed
want-fed e f p fed coming had =
    let all = rounds-fed p.lanes p.turns (without_turns e) had.room had.rounds.0 had.rounds.1 had.last had.told fed had.rounds.2 in
    omega (arith, all, ap (λ (x : EngineView). length x.live) had.wants)
