-- A turn: the lanes run, and the notices of its line are answered.
use Rattle.std.proofs.Common.{Vec, Global, ◌≡◌, ℕ, ◌+◌, ◌*◌, ◌%◌, ◌<◌, ◌≤◌, Bool, true, false, if◌then◌else◌, inl, inr, Option, Some, List, [], ◌∷◌, ◌++◌, length, max, get_or, drop, nat_lt, refl, sym, ap, subst, ◌∙◌, arith, tests}
use Prim.Native.Nat.{zero, suc}
use Rattle.std.proofs.Math.Nat.{mod-eq_of_lt, mod-lt, mod_self, suc-mod, zero-mod}
use Rattle.std.proofs.lemmas.Bool.{cases_lt}
use Rattle.std.proofs.lemmas.List.{at_drop_all, drop_more, get_or-map, length-map}
use Rattle.bc_engine.specs.Engines.{EngineView}
use Rattle.bc_engine.specs.EngineFacts.{with_holders, with_turns, without_turns}
use Rattle.bc_engine.specs.Inside.{with_log}
use Rattle.bc_engine.specs.declared.engines.Ended.TheVariants.{NoMemory}
use Rattle.bc_engine.specs.declared.opened.Opened.{Opened}
use Rattle.bc_engine.specs.declared.opened.TurnLog.{TurnLog}
use Rattle.bc_engine.specs.PhaseTurns.{HadTurns, HadTurnsToCut, HadTurnsToWant, HasNoHints}
use Rattle.bc_engine.specs.declared.counters.Counters.{Counters}
use Rattle.bc_engine.specs.Rounds.{CutRound, HadTurn, IsRoomFor, LastRound, RanAll, RanRound, RanRounds, RanToCut, RanToWant, WantsRoom, longest_of, turns_of_cut, turns_of_last, turns_of_round}
use Rattle.bc_bookmarks.specs.Changes.{Settled}
use Rattle.bc_model.specs.Lists.{PhaseLists, TurnLists}
use Rattle.bc_model.specs.TurnLines.{hints_in}
use Rattle.bc_model.specs.Rows.{lists_of}
use Rattle.bc_model.specs.declared.operations.Op.{Op}
use Rattle.bc_model.specs.declared.operations.Reply.{Reply}
use Rattle.bc_model.specs.declared.values.Holder.{Holder}
use Rattle.bc_marking.proofs.LineLemmas.{along-more}
use Rattle.bc_marking.specs.Lines.{hints_at, line_along, line_behind}
use Rattle.bc_marking.specs.declared.lines.Cursor.{Cursor}
use Rattle.bc_pager.proofs.ServeLemmas.{told-more, told-none}
use Rattle.bc_pager.specs.Alone.{AnsweredAlone}
use Rattle.bc_pager.specs.Serving.{HintList, given_of, told_with}
use Rattle.bc_pager.specs.declared.answers.Answer.{Answer}
use Rattle.bc_pager.specs.declared.notices.Notice.{Notice}
use Rattle.bc_running.specs.Running.{RunningView}
use Rattle.bc_running.specs.RunningFacts.{with_space}
use Rattle.bc_superpages.specs.RootWords.{RootWords}
use Rattle.bc_turn.specs.Answered.{AnsweredBeside}
use Rattle.bc_turn.specs.Beside.{RanBeside}
use Rattle.bc_turn.specs.Looked.{HadInTurn, IsLookedAtInTurn, tried_in_turn}
use Rattle.bc_turn.specs.Taking.{IsRoomKept}
use Rattle.bc_turn.specs.declared.rooms.TurnRoom.{TurnRoom}
use Rattle.bc_turn.proofs.RoomLemmas.{room-kept}
use Rattle.bc_engine.proofs.AnswerLemmas.{round-marks}
use Rattle.bc_engine.specs.Attempts.{EachAlone, RanByAttempts, StoppedAlone}
use Rattle.bc_engine.specs.Lanes.{of_lane, EachStopped, LanesRan, LeavesCells, StopsInTurn}
use Rattle.bc_engine.specs.Turns.{RanTurn, hints_of, line_of}

-- the lanes ran side by side, beside them notices were answered, and then the heap was settled
pub turn-together : {lanes : List (List Op)} {r q x : RunningView} {told replies : List (Vec Reply Global)} {asked answers lived live : List Answer} {hints : List ℕ} {fed : List Notice} → LanesRan lanes r told q replies → LeavesCells r q → RanBeside r.holders lanes r.heap r.serials (lists_of told) q.heap q.serials (lists_of replies) → EachStopped (StopsInTurn q.heap.space) lanes r told q replies → AnsweredBeside (IsLookedAtInTurn r.holders lanes r.heap r.serials (lists_of told) (lists_of replies)) (HadInTurn r.holders lanes r.heap r.serials (lists_of told) (lists_of replies)) (tried_in_turn lanes (lists_of told) (lists_of replies)) r.heap.space hints asked answers q.heap.space lived fed live → Settled q.heap.space x.heap.space → x ≡ with_space q x.heap.space → RanTurn lanes r told asked hints x replies answers lived fed live
turn-together {lanes} {r} {q} {x} ran leaves beside stopped answered settled rest =
    record { mid = q; ran = ran; leaves = leaves; way = inl (record { beside = beside; stopped = stopped; answered = answered; settled = settled }); rest = rest }

-- or one after another, and then notices were answered
pub turn-alone : {lanes : List (List Op)} {r q x y : RunningView} {told replies : List (Vec Reply Global)} {asked answers : List Answer} {hints : List ℕ} (lived : List Answer) → LanesRan lanes r told q replies → LeavesCells r q → RanByAttempts lanes r (lists_of told) q (lists_of replies) → EachAlone lanes r told q replies → AnsweredAlone q.heap.space hints asked answers x.heap.space → x ≡ with_space q x.heap.space → Settled x.heap.space y.heap.space → y ≡ with_space x y.heap.space → RanTurn lanes r told asked hints y replies answers lived [] lived
turn-alone {lanes} {r} {q} {x} {y} lived ran leaves attempts stopped answered moved settled rest =
    record { mid = q; ran = ran; leaves = leaves; way = inr (attempts, stopped, (x.heap.space, answered, settled), refl, refl); rest = rest ∙ ap (λ (z : RunningView). with_space z y.heap.space) moved }

-- of what was there before, said otherwise
pub turn-same : {lanes : List (List Op)} {r q x : RunningView} {told mid replies : List (Vec Reply Global)} {asked kept answers lived live : List Answer} {hints : List ℕ} {fed : List Notice} → q ≡ r → mid ≡ told → kept ≡ asked → RanTurn lanes q mid kept hints x replies answers lived fed live → RanTurn lanes r told asked hints x replies answers lived fed live
turn-same {lanes} {r} {q} {x} {told} {mid} {replies} {asked} {kept} {answers} {lived} {live} {hints} {fed} same back list turn =
    subst (λ (y : RunningView). RanTurn lanes y told asked hints x replies answers lived fed live) same
    (subst (λ (vs : List (Vec Reply Global)). RanTurn lanes q vs asked hints x replies answers lived fed live) back
    (subst (λ (xs : List Answer). RanTurn lanes q mid xs hints x replies answers lived fed live) list turn))

-- no live pager took any, and the list of its answers is as it was
pub turn-unfed : {lanes : List (List Op)} {r x : RunningView} {told replies : List (Vec Reply Global)} {asked answers lived live : List Answer} {hints : List ℕ} {taken now : Option (List Notice)} → now ≡ taken → live ≡ lived → RanTurn lanes r told asked hints x replies answers lived [] lived
    → (fed : List Notice) × (now ≡ told_with taken fed) × RanTurn lanes r told asked hints x replies answers lived fed live
turn-unfed {lanes} {r} {x} {told} {replies} {asked} {answers} {lived} {live} {hints} {taken} {now} same list turn =
    ([], same ∙ told-none taken, subst (λ (xs : List Answer). RanTurn lanes r told asked hints x replies answers lived [] xs) (sym list) turn)

-- no line is longer than the longest
pub hints-short : (lines : List (List ℕ)) (n : ℕ) → length (hints_at lines n) ≤ longest_of lines
hints-short [] n = omega arith
hints-short (line ∷ lines) zero = omega arith
hints-short (line ∷ lines) (suc n) = omega (arith, hints-short lines n)

-- the longest line is that of the lines from one on, and of those before it
pub longest-more : (lines : List TurnLists) (i most more : ℕ) (line : TurnLists) → i < length lines → line ≡ get_or lines i line → more ≡ max most (length line.hints) → max most (longest_of (drop i (hints_in lines))) ≡ longest_of (hints_in lines)
    → max more (longest_of (drop (i + 1) (hints_in lines))) ≡ longest_of (hints_in lines)
longest-more lines i most more line lt is up before =
    let long : length (hints_in lines) ≡ length lines = length-map lines (λ (x : TurnLists). x.hints) in
    let here : get_or (hints_in lines) i [] ≡ line.hints = get_or-map (λ (x : TurnLists). x.hints) lines i line [] lt ∙ ap (λ (x : TurnLists). x.hints) (sym is) in
    let next : longest_of (drop i (hints_in lines)) ≡ max (length (get_or (hints_in lines) i [])) (longest_of (drop (i + 1) (hints_in lines))) =
    ap longest_of (drop_more (hints_in lines) i [] (omega (arith, lt, long))) in
    omega (arith, before, next, up, ap length here)

pub longest-all : (lines : List TurnLists) (i most : ℕ) → length lines ≤ i → max most (longest_of (drop i (hints_in lines))) ≡ longest_of (hints_in lines) → most ≡ longest_of (hints_in lines)
longest-all lines i most past before =
    let none : longest_of (drop i (hints_in lines)) ≡ 0 = at_drop_all longest_of (hints_in lines) i (omega (arith, past, length-map lines (λ (x : TurnLists). x.hints))) in
    omega (arith, before, none)

-- a turn leaves the number of slots
pub slots-left : {r q : RunningView} → LeavesCells r q → q.heap.roots.slots ≡ r.heap.roots.slots
slots-left leaves = ap (λ (x : RootWords). x.slots) leaves.roots

pub slots-turned : {lanes : List (List Op)} {r q : RunningView} {told replies : List (Vec Reply Global)} {asked answers lived live : List Answer} {hints : List ℕ} {fed : List Notice} → RanTurn lanes r told asked hints q replies answers lived fed live → q.heap.roots.slots ≡ r.heap.roots.slots
slots-turned turn = ap (λ (x : RunningView). x.heap.roots.slots) turn.rest ∙ slots-left turn.leaves

pub slots-had : {lanes : List (List Op)} {unused : ℕ} {r q : RunningView} {told replies : List (Vec Reply Global)} {asked answers lived live : List Answer} {hints : List ℕ} {c d : Counters} {fed : List Notice} → HadTurn lanes unused r told asked hints q replies answers c d lived fed live → q.heap.roots.slots ≡ r.heap.roots.slots
slots-had had = slots-turned had.turn ∙ ap (λ (x : RunningView). x.heap.roots.slots) had.rest

-- room that is kept serves later on
pub kept-later : {hs ks : List Holder} {m n : ℕ} (lanes : List (List Op)) (told answers : List (List Reply)) (room : TurnRoom) → ks ≡ hs → n ≡ m → ((j : ℕ) → length (of_lane told j) ≤ length (of_lane answers j)) → IsRoomKept hs m lanes told room → IsRoomKept ks n lanes answers room
kept-later {hs} {ks} {m} {n} lanes told answers room held slots more kept =
    subst (λ (xs : List Holder). IsRoomKept xs n lanes answers room) (sym held)
    (subst (λ (x : ℕ). IsRoomKept hs x lanes answers room) (sym slots) (room-kept hs m lanes told answers room more kept))

-- each of them stopped, counted as the code counts them
pub each-stopped : (vs : List (Vec Op Global)) {r q : RunningView} {told answers : List (Vec Reply Global)} → ((j : ℕ) → j < length vs → StoppedAlone (lists_of vs) r told q answers j) → EachAlone (lists_of vs) r told q answers
each-stopped vs stopped = λ j lt. stopped j (omega (arith, lt, length-map vs (λ (v : Vec Op Global). v.items)))

-- the line after that of a turn is that of the next turn
behind : (length turn : ℕ) → 0 < length → (if nat_lt (turn % length + 1) length then turn % length + 1 else 0) ≡ suc turn % length
behind length turn some =
    let place : ℕ = turn % length in
    let within : place < length = mod-lt turn some in
    let next : suc turn % length ≡ suc place % length = suc-mod turn length in
    elim (cases_lt (place + 1) length) [
      | inl less ↦
          let same : suc place % length ≡ suc place = mod-eq_of_lt (let e : suc place ≡ place + 1 = omega arith in omega (arith, less, e)) in
          let add : place + 1 ≡ suc place = omega arith in
          ap (λ (b : Bool). if b then place + 1 else 0) (lt-yes (place + 1) length less) ∙ add ∙ sym same ∙ sym next
      | inr past ↦
          let all : suc place ≡ length = omega (arith, within, past) in
          ap (λ (b : Bool). if b then place + 1 else 0) (lt-no (place + 1) length past) ∙ sym (ap (λ (n : ℕ). n % length) all ∙ mod_self length) ∙ sym next
    ]
  where
    lt-yes : (a b : ℕ) → a < b → nat_lt a b ≡ true
    lt-yes a b lt = grind (arith, tests)

    lt-no : (a b : ℕ) → b ≤ a → nat_lt a b ≡ false
    lt-no a b le = grind (arith, tests)

-- so the line of a turn is that of its number, modulo how many lines there are
number-along : (lines : List (List ℕ)) (turn : ℕ) → 0 < length lines → line_along lines 0 turn ≡ turn % length lines
number-along lines zero some = sym (zero-mod (length lines))
number-along lines (suc turn) some = ap (line_behind lines) (number-along lines turn some) ∙ behind (length lines) turn some

pub line-number : (lines : List TurnLists) (turn : ℕ) → 0 < length lines → line_of lines turn ≡ turn % length lines
line-number lines turn some =
    let long : length (hints_in lines) ≡ length lines = length-map lines (λ (x : TurnLists). x.hints) in
    number-along (hints_in lines) turn (omega (arith, some, long)) ∙ ap (λ (n : ℕ). turn % n) long

-- this many rounds were run, in so many turns, this is the line of the next turn, and live pagers took these notices
pub record IsAtTurn (lanes : List (List Op)) (lines : List TurnLists) (e : EngineView) (told : List (Vec Reply Global)) (f : EngineView) (replies : List (Vec Reply Global)) (next : ℕ) (taken now : Option (List Notice)) : Type 0 where
  pub count : ℕ
  pub used : ℕ
  pub fed : List Notice
  pub rounds : RanRounds lanes lines e told count used f replies fed
  pub line : next ≡ line_of lines used
  pub took : now ≡ told_with taken fed

pub turns-begun : (lanes : List (List Op)) (lines : List TurnLists) (e : EngineView) (told : List (Vec Reply Global)) (taken : Option (List Notice)) → IsAtTurn lanes lines e told e told 0 taken taken
turns-begun lanes lines e told taken = record { count = 0; used = 0; fed = []; rounds = (refl, refl, refl, refl); line = refl; took = told-none taken }

-- the line after those of a round
round-line : {lanes : List (List Op)} {lines : List TurnLists} {f g : EngineView} {mid replies : List (Vec Reply Global)} (used : ℕ) {next : ℕ} {fed : List Notice} (r : RanRound lanes lines f mid (line_of lines used) g replies next fed) → next ≡ line_of lines (used + turns_of_round r)
round-line {lines = lines} used {next} r =
    let marks : ℕ = r.empties.collects.turns + r.empties.next.beside.turns in
    let count : suc used + marks ≡ used + suc marks = omega arith in
    ap (λ (x : Cursor). x.line) (round-marks r).1.next ∙ sym (along-more (hints_in lines) 0 (suc used) marks) ∙ ap (line_along (hints_in lines) 0) count

-- what was taken so far, and then more
took-then : (taken now more : Option (List Notice)) (first next : List Notice) → now ≡ told_with taken first → more ≡ told_with now next → more ≡ told_with taken (first ++ next)
took-then taken now more first next before after = after ∙ ap (λ (x : Option (List Notice)). told_with x next) before ∙ told-more taken first next

-- one round more
pub turns-more : {lanes : List (List Op)} {lines : List TurnLists} {e f : EngineView} {told mid : List (Vec Reply Global)} {next : ℕ} {taken now : Option (List Notice)} (g : EngineView) (replies : List (Vec Reply Global)) (behind_it : ℕ) (more : Option (List Notice)) → IsAtTurn lanes lines e told f mid next taken now
    → ((fed : List Notice) × (more ≡ told_with now fed) × RanRound lanes lines f mid next g replies behind_it fed) → IsAtTurn lanes lines e told g replies behind_it taken more
turns-more {lanes} {lines} {e} {f} {told} {mid} {next} {taken} {now} g replies behind_it more at round =
    let r : RanRound lanes lines f mid (line_of lines at.used) g replies behind_it round.0 = subst (λ (n : ℕ). RanRound lanes lines f mid n g replies behind_it round.0) at.line round.2 in
    record {
      count = suc at.count;
      used = at.used + turns_of_round r;
      fed = at.fed ++ round.0;
      rounds = (f, mid, at.used, behind_it, at.fed, round.0, at.rounds, r, refl, refl);
      line = round-line at.used r;
      took = took-then taken now more at.fed round.0 at.took round.1;
    }

pub turns-all : {lanes : List (List Op)} {lines : List TurnLists} {e f : EngineView} {told mid : List (Vec Reply Global)} {next : ℕ} {taken now : Option (List Notice)} (g : EngineView) (replies : List (Vec Reply Global)) (more : Option (List Notice)) → IsAtTurn lanes lines e told f mid next taken now
    → ((fed : List Notice) × (more ≡ told_with now fed) × LastRound lanes lines f mid next g replies fed) → (fed : List Notice) × (more ≡ told_with taken fed) × (turns : ℕ) × RanAll lanes lines e told turns g replies fed
turns-all {lanes} {lines} {e} {f} {told} {mid} {next} {taken} {now} g replies more at last =
    let r : LastRound lanes lines f mid (line_of lines at.used) g replies last.0 = subst (λ (n : ℕ). LastRound lanes lines f mid n g replies last.0) at.line last.2 in
    (at.fed ++ last.0, took-then taken now more at.fed last.0 at.took last.1, at.used + turns_of_last r, (at.count, at.used, f, mid, at.fed, last.0, at.rounds, r, refl, refl))

pub turns-cut : {lanes : List (List Op)} {lines : List TurnLists} {e f : EngineView} {told mid : List (Vec Reply Global)} {next : ℕ} {taken now : Option (List Notice)} (g : EngineView) (replies : List (Vec Reply Global)) (more : Option (List Notice)) → IsAtTurn lanes lines e told f mid next taken now
    → ((fed : List Notice) × (more ≡ told_with now fed) × CutRound lanes lines f mid next g replies fed) → (fed : List Notice) × (more ≡ told_with taken fed) × (turns : ℕ) × RanToCut lanes lines e told turns g replies fed
turns-cut {lanes} {lines} {e} {f} {told} {mid} {next} {taken} {now} g replies more at cut =
    let r : CutRound lanes lines f mid (line_of lines at.used) g replies cut.0 = subst (λ (n : ℕ). CutRound lanes lines f mid n g replies cut.0) at.line cut.2 in
    (at.fed ++ cut.0, took-then taken now more at.fed cut.0 at.took cut.1, at.used + turns_of_cut r, (at.count, at.used, f, mid, at.fed, cut.0, at.rounds, r, refl, refl))

pub turns-want : {lanes : List (List Op)} {lines : List TurnLists} {e f : EngineView} {told mid : List (Vec Reply Global)} {next : ℕ} {taken now : Option (List Notice)} (g : EngineView) (replies : List (Vec Reply Global)) (kept lived : Vec Answer Global) (coming : Bool) (more : Option (List Notice)) → IsAtTurn lanes lines e told f mid next taken now → g ≡ f → replies ≡ mid → more ≡ now
    → WantsRoom kept (length (hints_at (hints_in lines) next) + 2 * longest_of (hints_in lines)) lived coming → (fed : List Notice) × (more ≡ told_with taken fed) × RanToWant lanes lines e told g replies kept fed lived coming
turns-want {lanes} {lines} {e} {f} {told} {mid} {next} g replies kept lived coming more at same back still wants = (
  at.fed,
  still ∙ at.took,
  (
    at.count,
    at.used,
    subst (λ (x : EngineView). RanRounds lanes lines e told at.count at.used x replies at.fed) (sym same)
        (subst (λ (vs : List (Vec Reply Global)). RanRounds lanes lines e told at.count at.used f vs at.fed) (sym back) at.rounds),
    subst (λ (n : ℕ). WantsRoom kept (length (hints_at (hints_in lines) n) + 2 * longest_of (hints_in lines)) lived coming) at.line wants,
  ),
)

-- nothing is noted in the log
abbrev IsEmptyLog : TurnLog → Type 0
IsEmptyLog log = (log.answers.items ≡ []) × (log.opened.items ≡ []) × (log.live.items ≡ [])

-- nothing was noted before
begun-lent : (e : EngineView) (asked : TurnLog) (P : EngineView → Type 0) → IsEmptyLog asked → P (with_log e asked) → P (without_turns e)
begun-lent e asked P none p =
    subst (λ (x : List Answer). P (with_turns e x [] [])) none.0
    (subst (λ (x : List Opened). P (with_turns e asked.answers.items x [])) none.1
    (subst (λ (x : List Answer). P (with_turns e asked.answers.items asked.opened.items x)) none.2 p))

-- the phase as the code has it: `os` and `ls` are its operations and lines as they were lent to the rounds, `us` the lists for replies, `asked`
-- and `answers` the logs, `taken` and `now` what was taken
pub had-lent : (e f g : EngineView) (p : PhaseLists) (asked answers : TurnLog) (os : List (List Op)) (ls : List TurnLists) (us vs ws xs : List (Vec Reply Global)) (taken now : Option (List Notice)) → IsEmptyLog asked → IsRoomFor p.lanes vs → os ≡ p.lanes → ls ≡ p.turns → us ≡ vs → xs ≡ ws
    → (all : (fed : List Notice) × (now ≡ told_with taken fed) × (turns : ℕ) × RanAll os ls (with_log e asked) us turns (with_log f answers) ws fed) → g ≡ with_holders f g.running.holders → (fed : List Notice) × (now ≡ told_with taken fed) × HadTurns e p (with_log g answers) (lists_of xs) fed
had-lent e f g p asked answers os ls us vs ws xs taken now none room lanes lines lent back all given =
    let last = with_log f answers in (
      all.0,
      all.1,
      record {
        room = vs;
        begun = room;
        last = last;
        told = ws;
        turns = all.2;
        rounds =
            begun-lent e asked (λ (x : EngineView). RanAll p.lanes p.turns x vs all.2 last ws all.0) none
            (subst (λ (x : List (List Op)). RanAll x p.turns (with_log e asked) vs all.2 last ws all.0) lanes
            (subst (λ (x : List TurnLists). RanAll os x (with_log e asked) vs all.2 last ws all.0) lines (subst (λ (x : List (Vec Reply Global)). RanAll os ls (with_log e asked) x all.2 last ws all.0) lent all.3)));
        given = ap (λ (x : EngineView). with_log x answers) given;
        replied = ap lists_of back;
      },
    )

pub cut-turns-lent : (e f : EngineView) (p : PhaseLists) (asked answers : TurnLog) (os : List (List Op)) (ls : List TurnLists) (us vs ws xs : List (Vec Reply Global)) (taken now : Option (List Notice)) → IsEmptyLog asked → IsRoomFor p.lanes vs → os ≡ p.lanes → ls ≡ p.turns → us ≡ vs → xs ≡ ws
    → (all : (fed : List Notice) × (now ≡ told_with taken fed) × (turns : ℕ) × RanToCut os ls (with_log e asked) us turns (with_log f answers) ws fed) → (fed : List Notice) × (now ≡ told_with taken fed) × HadTurnsToCut e p (with_log f answers) (lists_of xs) fed
cut-turns-lent e f p asked answers os ls us vs ws xs taken now none room lanes lines lent back all =
    let last = with_log f answers in (
      all.0,
      all.1,
      record {
        room = vs;
        begun = room;
        told = ws;
        turns = all.2;
        rounds =
            begun-lent e asked (λ (x : EngineView). RanToCut p.lanes p.turns x vs all.2 last ws all.0) none
            (subst (λ (x : List (List Op)). RanToCut x p.turns (with_log e asked) vs all.2 last ws all.0) lanes
            (subst (λ (x : List TurnLists). RanToCut os x (with_log e asked) vs all.2 last ws all.0) lines (subst (λ (x : List (Vec Reply Global)). RanToCut os ls (with_log e asked) x all.2 last ws all.0) lent all.3)));
        replied = ap lists_of back;
      },
    )

pub want-lent : (e g : EngineView) (p : PhaseLists) (asked kept : TurnLog) (os : List (List Op)) (ls : List TurnLists) (us vs ws : List (Vec Reply Global)) (coming : Bool) (taken now : Option (List Notice)) → IsEmptyLog asked → IsRoomFor p.lanes vs → os ≡ p.lanes → ls ≡ p.turns → us ≡ vs
    → (wants : (fed : List Notice) × (now ≡ told_with taken fed) × (last : EngineView) × RanToWant os ls (with_log e asked) us last ws kept.answers fed kept.live coming × (with_log g kept ≡ record last { ended = Some NoMemory })) → (fed : List Notice) × (now ≡ told_with taken fed) × HadTurnsToWant e p (with_log g kept) fed coming
want-lent e g p asked kept os ls us vs ws coming taken now none room lanes lines lent wants =
    let fed : List Notice = wants.0 in
    let last = wants.2 in (
      fed,
      wants.1,
      record {
        room = vs;
        begun = room;
        last = last;
        told = ws;
        kept = kept.answers;
        answers = refl;
        lived = kept.live;
        live = refl;
        rounds =
            begun-lent e asked (λ (x : EngineView). RanToWant p.lanes p.turns x vs last ws kept.answers fed kept.live coming) none
            (subst (λ (x : List (List Op)). RanToWant x p.turns (with_log e asked) vs last ws kept.answers fed kept.live coming) lanes
            (subst (λ (x : List TurnLists). RanToWant os x (with_log e asked) vs last ws kept.answers fed kept.live coming) lines
            (subst (λ (x : List (Vec Reply Global)). RanToWant os ls (with_log e asked) x last ws kept.answers fed kept.live coming) lent wants.3)));
        wants = wants.4;
      },
    )

-- of engines that differ in their lists of turns and answers alone, to the same end
pub had-again : {e x f g : EngineView} {p : PhaseLists} {replies : List (List Reply)} (taken now : Option (List Notice)) → without_turns x ≡ without_turns e → f ≡ g → ((fed : List Notice) × (now ≡ told_with taken fed) × HadTurns x p g replies fed) → (fed : List Notice) × (now ≡ told_with taken fed) × HadTurns e p f replies fed
had-again {e} {x} {f} {g} {p} {replies} taken now before same all =
    let fed : List Notice = all.0 in
    let had : HadTurns x p f replies fed = subst (λ (z : EngineView). HadTurns x p z replies fed) (sym same) all.2 in (
      fed,
      all.1,
      record {
        room = had.room;
        begun = had.begun;
        last = had.last;
        told = had.told;
        turns = had.turns;
        rounds = subst (λ (z : EngineView). RanAll p.lanes p.turns z had.room had.turns had.last had.told fed) before had.rounds;
        given = had.given;
        replied = had.replied;
      },
    )

pub cut-turns-again : {e x f g : EngineView} {p : PhaseLists} {replies : List (List Reply)} (taken now : Option (List Notice)) → without_turns x ≡ without_turns e → f ≡ g → ((fed : List Notice) × (now ≡ told_with taken fed) × HadTurnsToCut x p g replies fed) → (fed : List Notice) × (now ≡ told_with taken fed) × HadTurnsToCut e p f replies fed
cut-turns-again {e} {x} {f} {g} {p} {replies} taken now before same all =
    let fed : List Notice = all.0 in
    let had : HadTurnsToCut x p f replies fed = subst (λ (z : EngineView). HadTurnsToCut x p z replies fed) (sym same) all.2 in (
      fed,
      all.1,
      record {
        room = had.room;
        begun = had.begun;
        told = had.told;
        turns = had.turns;
        rounds = subst (λ (z : EngineView). RanToCut p.lanes p.turns z had.room had.turns f had.told fed) before had.rounds;
        replied = had.replied;
      },
    )

pub want-again : {e x f g : EngineView} {p : PhaseLists} {coming : Bool} (taken now : Option (List Notice)) → without_turns x ≡ without_turns e → f ≡ g → ((fed : List Notice) × (now ≡ told_with taken fed) × HadTurnsToWant x p g fed coming) → (fed : List Notice) × (now ≡ told_with taken fed) × HadTurnsToWant e p f fed coming
want-again {e} {x} {f} {g} {p} {coming} taken now before same all =
    let fed : List Notice = all.0 in
    let had : HadTurnsToWant x p f fed coming = subst (λ (z : EngineView). HadTurnsToWant x p z fed coming) (sym same) all.2 in (
      fed,
      all.1,
      record {
        room = had.room;
        begun = had.begun;
        last = had.last;
        told = had.told;
        kept = had.kept;
        answers = had.answers;
        lived = had.lived;
        live = had.live;
        rounds = subst (λ (z : EngineView). RanToWant p.lanes p.turns z had.room had.last had.told had.kept fed had.lived coming) before had.rounds;
        wants = had.wants;
      },
    )

-- from no notices none is taken
pub none-fed : (P : List Notice → Type 0) (old new : HintList) → old ≡ record { hints = []; given = 0; ends = 0 } → new ≡ old → ((fed : List Notice) × (Some (given_of new) ≡ told_with (Some (given_of old)) fed) × P fed) → P []
none-fed P old new is still all =
    let none : HintList = record { hints = []; given = 0; ends = 0 } in
    let took : Some (given_of none) ≡ told_with (Some (given_of none)) all.0 = subst (λ (x : HintList). Some (given_of x) ≡ told_with (Some (given_of none)) all.0) (still ∙ is) (subst (λ (x : HintList). Some (given_of new) ≡ told_with (Some (given_of x)) all.0) is all.1) in
    subst P (nothing all.0 took) all.2
  where
    nothing : (fed : List Notice) → Some [] ≡ Some fed → fed ≡ []
    nothing fed took = cc

-- where no turn has a notice, the longest line has none
longest-none : (lines : List TurnLists) → HasNoHints lines → longest_of (hints_in lines) ≡ 0
longest-none [] none = refl
longest-none (line ∷ lines) none = omega (arith, ap length (none 0), longest-none lines (λ n. none (suc n)))

-- and there is always room for answers, unless one notice more may come from the feed
pub never-wants : {e f : EngineView} {p : PhaseLists} {fed : List Notice} {coming : Bool} → HadTurnsToWant e p f fed coming → coming ≡ false → HasNoHints p.turns → ⊥
never-wants {e} {f} {p} {fed} {coming} had idle none =
    let used : ℕ = had.rounds.1 in
    let long : length (hints_of p.turns used) ≡ 0 = ap length (none (line_of p.turns used)) in
    elim had.rounds.3 [
      | inl wants ↦ omega (arith, wants, had.kept.ok.0, had.kept.ok.1, long, longest-none p.turns none)
      | inr wants ↦ true_not_false coming wants.0 idle
    ]
  where
    true_not_false : (b : Bool) → b ≡ true → b ≡ false → ⊥
    true_not_false b first second = cc
