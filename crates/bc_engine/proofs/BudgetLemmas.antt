-- Frames that are withheld: lanes can run on, and the mark turns of a round have the number of its lanes' turn.
use Rattle.std.proofs.Common.{Vec, Global, ◌≡◌, ℕ, ◌+◌, ◌-◌, ◌*◌, ◌^◌, ◌≤◌, List, [], ◌∷◌, length, min, sym, ap, subst, ◌∙◌, inl, inr, arith}
use Prim.Native.Nat.{zero, suc}
use Rattle.std.proofs.lemmas.Nat.{mul-le}
use Rattle.std.specs.List.{AllByRecursion}
use Rattle.bc_bookmarks.specs.Withholding.{Withheld}
use Rattle.bc_bookmarks.proofs.WithholdingLemmas.{withheld-enough, withheld-same}
use Rattle.bc_marking.specs.declared.lines.Cursor.{Cursor}
use Rattle.bc_model.specs.Lists.{PhaseLists, TurnLists}
use Rattle.bc_model.specs.State.{State}
use Rattle.bc_model.specs.TurnLines.{budget_at}
use Rattle.bc_model.specs.WellFormed.{FitsFrames, IsSetup}
use Rattle.bc_model.specs.declared.operations.Op.{Op}
use Rattle.bc_model.specs.declared.operations.Reply.{Reply}
use Rattle.bc_model.specs.declared.traces.Setup.{Setup}
use Rattle.bc_pager.specs.Alone.{ArePlainAnswers, IsPlainAnswer}
use Rattle.bc_pager.specs.declared.answers.Answer.{Answer}
use Rattle.bc_pager.specs.declared.answers.Answer.TheVariants.{Declined, Discarded, Evicted}
use Rattle.bc_pager.specs.declared.notices.Notice.{Notice}
use Rattle.bc_promotion.specs.Promises.{HasDomainsBelow}
use Rattle.bc_running.specs.Running.{HasEmptyChunks, RunningStands, RunningView}
use Rattle.bc_running.specs.RunningFacts.{IsSound, with_space}
use Rattle.bc_superpages.specs.Layout.{Layout, superpages}
use Rattle.bc_whole_heap.specs.Heaps.{HeapView}
use Rattle.bc_whole_heap.specs.LaneChunks.{chunk_of}
use Rattle.bc_engine.specs.Budgets.{HasBudget, ReturnsFrames, unused_in}
use Rattle.bc_engine.specs.EngineFacts.{CanRunLanes, HasSetup, IsUnrecorded, NoneWithheld}
use Rattle.bc_engine.specs.Engines.{EngineView}
use Rattle.bc_engine.specs.Lanes.{LanesRan}
use Rattle.bc_engine.specs.PhaseTurns.{HadTurns, HadTurnsToCut}
use Rattle.bc_engine.specs.Rounds.{CutRound, HadTurn, LastRound, MayCollect, RanRound, RanRounds}
use Rattle.bc_engine.specs.Turns.{RanTurn, line_of}
use Rattle.bc_engine.specs.declared.counters.Counters.{Counters}
use Rattle.bc_engine.proofs.RunLemmas.{runs-none}

-- ---- what withholding leaves as it was

-- so many no page may use
pub withheld-unused : (unused : ℕ) (s t : Layout) → Withheld unused s t → t.nursery ≡ unused
withheld-unused unused s t withheld = ap (λ (l : Layout). l.nursery) withheld.kept

pub withheld-reads : (unused : ℕ) (s t : Layout) → Withheld unused s t → t.reads ≡ s.reads
withheld-reads unused s t withheld = ap (λ (l : Layout). l.reads) (withheld-same unused s t withheld)

-- ---- lanes can run on

fits-withheld : (setup : Setup) (unused : ℕ) (h : HeapView) (t : Layout) → Withheld unused h.space t → setup.lanes * setup.nursery ≤ unused → unused + 2 ≤ h.space.frames → HasSetup h setup → HasSetup (record h { space = t }) setup
fits-withheld setup unused h t withheld some few fits =
    let same = withheld-same unused h.space t withheld in
    let nursery : t.nursery ≡ unused = withheld-unused unused h.space t withheld in
    let frames : t.frames ≡ h.space.frames = ap (λ (s : Layout). s.frames) same in
    record {
      supers = ap (λ (s : Layout). superpages s) same ∙ fits.supers;
      domains = fits.domains;
      slots = fits.slots;
      lanes = fits.lanes;
      words = fits.words;
      entries = fits.entries;
      nursery = subst (λ (n : ℕ). setup.lanes * setup.nursery ≤ n) (sym nursery) some;
      two = omega (arith, nursery, frames, few);
      frames = frames ∙ fits.frames;
      used = subst (λ (s : Layout). HasDomainsBelow s setup.domains) (sym same) fits.used;
    }

-- two setups that a heap has are alike in what their nurseries take
same-nurseries : (s t : Setup) (h : HeapView) → IsSetup s → IsSetup t → HasSetup h s → HasSetup h t → s.lanes * s.nursery ≡ t.lanes * t.nursery
same-nurseries s t h one other a b =
    let lanes : s.lanes ≡ t.lanes = sym a.lanes ∙ b.lanes in
    let first : (chunk_of h.chunks 0).words ≡ 512 * s.nursery = a.words 0 (omega (arith, one.lanes.0)) in
    let again : (chunk_of h.chunks 0).words ≡ 512 * t.nursery = b.words 0 (omega (arith, other.lanes.0)) in
    let pages : s.nursery ≡ t.nursery = omega (arith, first, again) in
    ap (λ (n : ℕ). n * s.nursery) lanes ∙ ap (λ (n : ℕ). t.lanes * n) pages

pub runs-withheld : {setup : Setup} {r q : RunningView} (unused : ℕ) → CanRunLanes setup r → setup.lanes * setup.nursery ≤ unused → unused + 2 ≤ r.heap.space.frames → Withheld unused r.heap.space q.heap.space → q ≡ with_space r q.heap.space → IsSound q
    → ((state : State) → RunningStands r state → RunningStands q state) → (lanes : List (List Op)) (told : List (Vec Reply Global)) → LanesRan lanes r told q told
runs-withheld {setup} {r} {q} unused ready some few withheld rest sound stands lanes told =
    runs-none lanes r q told (ap (λ (x : RunningView). x.holders) rest) (ap (λ (x : RunningView). x.serials) rest) stands
    (λ other can. record {
      range = can.range;
      order = sound.running;
      fits = subst (λ (x : RunningView). HasSetup x.heap other) (sym rest)
          (fits-withheld other unused r.heap q.heap.space withheld
          (subst (λ (n : ℕ). n ≤ unused) (same-nurseries setup other r.heap ready.range can.range ready.fits can.fits) some) few can.fits);
      lanes = ap (λ (x : RunningView). length x.serials) rest ∙ can.lanes;
      meant = (can.meant.0, stands can.meant.0 can.meant.1);
    })

-- the number of each line of a phase can be withheld, and so can none where there is no line
pub budget-fits : (setup : Setup) (lines : List TurnLists) (n : ℕ) → IsSetup setup → AllByRecursion (FitsFrames setup) lines → setup.lanes * setup.nursery + 2 + budget_at lines n ≤ setup.frames
budget-fits setup [] n range fits = omega (arith, range.frames.0)
budget-fits setup (line ∷ lines) zero range fits = fits.0
budget-fits setup (line ∷ lines) (suc n) range fits = budget-fits setup lines n range fits.1

-- how many pages the nurseries of all lanes have
pub nursery-pages : (setup : Setup) (n : ℕ) → IsSetup setup → n ≡ min (setup.lanes * setup.nursery) (2 ^ 32 - 1) → n ≡ setup.lanes * setup.nursery
nursery-pages setup n range is =
    let few : setup.lanes * setup.nursery ≤ 256 = mul-le setup.lanes setup.nursery 16 16 range.lanes.1 range.nursery.1 in
    omega (arith, is, few)

-- ---- frames are returned

pub returns-frames : {r q : RunningView} (nurseries unused : ℕ) → unused ≡ nurseries → nurseries ≤ r.heap.space.nursery → Withheld unused r.heap.space q.heap.space → q ≡ with_space r q.heap.space → ReturnsFrames nurseries r q
returns-frames {r} {q} nurseries unused same within withheld rest =
    let withheld : Withheld nurseries r.heap.space q.heap.space = subst (λ (n : ℕ). Withheld n r.heap.space q.heap.space) same withheld in
    rest ∙ ap (λ (s : Layout). with_space r s) (withheld-enough nurseries r.heap.space q.heap.space (omega (arith, within)) withheld)

pub unrecorded-returned : {r q : RunningView} (nurseries : ℕ) → ReturnsFrames nurseries r q → IsUnrecorded r.heap → IsUnrecorded q.heap
unrecorded-returned {r} nurseries returned none = subst (λ (x : RunningView). IsUnrecorded x.heap) (sym returned) (record { entries = none.entries; remembered = none.remembered })

pub empty-returned : (r q : RunningView) (nurseries : ℕ) → ReturnsFrames nurseries r q → HasEmptyChunks r.heap → HasEmptyChunks q.heap
empty-returned r q nurseries returned none = subst (λ (x : RunningView). HasEmptyChunks x.heap) (sym returned) none

pub none-returned : (setup : Setup) (r q : RunningView) → ReturnsFrames (setup.lanes * setup.nursery) r q → NoneWithheld setup q.heap
none-returned setup r q returned = ap (λ (x : RunningView). x.heap.space.nursery) returned

-- ---- mark turns have the number of the lanes' turn before them

plain-unused : (s t : Layout) (hint : ℕ) (answer : Answer) → IsPlainAnswer s hint answer t → t.nursery ≡ s.nursery
plain-unused s t hint (Discarded page) told = ap (λ (l : Layout). l.nursery) told.2.same
plain-unused s t hint (Evicted page) told = ap (λ (l : Layout). l.nursery) told.3.same
plain-unused s t hint Declined told = ap (λ (l : Layout). l.nursery) told.1

answers-unused : (s t : Layout) (hints : List ℕ) (answers : List Answer) → ArePlainAnswers s hints answers t → t.nursery ≡ s.nursery
answers-unused s t [] [] told = ap (λ (l : Layout). l.nursery) told
answers-unused s t [] (answer ∷ answers) told = absurd told
answers-unused s t (hint ∷ hints) [] told = absurd told
answers-unused s t (hint ∷ hints) (answer ∷ answers) told = answers-unused told.0 t hints answers told.2 ∙ plain-unused s told.0 hint answer told.1

turn-unused : {lanes : List (List Op)} {r q : RunningView} {before after : List (Vec Reply Global)} {asked answers lived live : List Answer} {fed : List Notice} (hints : List ℕ) → RanTurn lanes r before asked hints q after answers lived fed live → q.heap.space.nursery ≡ r.heap.space.nursery
turn-unused {r = r} {q = q} hints turn =
    let left : turn.mid.heap.space.nursery ≡ r.heap.space.nursery = ap (λ (l : Layout). l.nursery) turn.leaves.space in
    elim turn.way [
      | inl beside ↦ ap (λ (l : Layout). l.nursery) beside.settled.same ∙ left
      | inr alone ↦
          let a = alone.2.1 in
          ap (λ (l : Layout). l.nursery) alone.2.2.same ∙ answers-unused turn.mid.heap.space alone.2.0 hints a.0 a.2 ∙ left
    ]

had-unused : {lanes : List (List Op)} {unused : ℕ} {r q : RunningView} {before after : List (Vec Reply Global)} {asked answers lived live : List Answer} {fed : List Notice} (hints : List ℕ) {c d : Counters} → (t : HadTurn lanes unused r before asked hints q after answers c d lived fed live)
    → (t.began.heap.space.nursery ≡ unused) × (q.heap.space.nursery ≡ unused)
had-unused {unused = unused} {r = r} hints t =
    let first : t.began.heap.space.nursery ≡ unused = withheld-unused unused r.heap.space t.began.heap.space t.withheld in
    (first, turn-unused hints t.turn ∙ first)

collects-unused : {wanted : ℕ} {from to : Cursor} {lines : List (List ℕ)} {before after : List Answer} {r q : RunningView} {c d : Counters} → MayCollect wanted lines r from before q to after c d → q.heap.space.nursery ≡ r.heap.space.nursery
collects-unused collects = elim collects.way [
  | inl same ↦ ap (λ (x : RunningView). x.heap.space.nursery) same.0
  | inr collected ↦ collected.1.meaning.sizes.nursery
]

-- so has each round its number
module _ (lanes : List (List Op)) (lines : List TurnLists) (e f : EngineView) (before after : List (Vec Reply Global)) (line : ℕ) where
  pub round-budget : (next : ℕ) → (fed : List Notice) → (r : RanRound lanes lines e before line f after next fed) → HasBudget (unused_in e.setup lines line) r.turn.began r.turned r.empties.collected r.emptied
  round-budget next fed r =
      let had = had-unused _ r.turn in
      let early = collects-unused r.empties.collects ∙ had.1 in
      record { first = had.0; lanes = had.1; early = early; late = r.empties.next.emptied.sizes.nursery ∙ early }

  pub last-budget : (fed : List Notice) → (r : LastRound lanes lines e before line f after fed) → HasBudget (unused_in e.setup lines line) r.turn.began r.turned r.empties.collected r.emptied
  last-budget fed r =
      let had = had-unused _ r.turn in
      let early = collects-unused r.empties.collects ∙ had.1 in
      record { first = had.0; lanes = had.1; early = early; late = r.empties.next.emptied.sizes.nursery ∙ early }

  pub cut-budget : (fed : List Notice) → (r : CutRound lanes lines e before line f after fed) → HasBudget (unused_in e.setup lines line) r.turn.began r.turned r.leaves.collected f.running
  cut-budget fed r =
      let had = had-unused _ r.turn in
      let early = collects-unused r.leaves.collects ∙ had.1 in
      record { first = had.0; lanes = had.1; early = early; late = r.leaves.next.meaning.sizes.nursery ∙ early }

-- rounds leave the setup
rounds-setup : (lanes : List (List Op)) (lines : List TurnLists) (e : EngineView) (before : List (Vec Reply Global)) (n turns : ℕ) (f : EngineView) (after : List (Vec Reply Global)) (fed : List Notice) → RanRounds lanes lines e before n turns f after fed → f.setup ≡ e.setup
rounds-setup lanes lines e before zero turns f after fed ran = ap (λ (x : EngineView). x.setup) ran.0
rounds-setup lanes lines e before (suc n) turns f after fed ran =
    ap (λ (x : EngineView). x.setup) ran.7.rest ∙ rounds-setup lanes lines e before n ran.2 ran.0 ran.1 ran.4 ran.6

-- after a phase that was done no frame is withheld
pub done-returned : (e f : EngineView) (p : PhaseLists) (replies : List (List Reply)) (fed : List Notice) → HadTurns e p f replies fed → NoneWithheld e.setup f.running.heap
done-returned e f p replies fed had =
    let all = had.rounds in
    let mid : EngineView = all.2 in
    let setup : mid.setup ≡ e.setup = rounds-setup p.lanes p.turns _ had.room all.0 all.1 mid all.3 all.4 all.6 in
    ap (λ (x : EngineView). x.running.heap.space.nursery) had.given ∙ ap (λ (x : RunningView). x.heap.space.nursery) all.7.returned ∙ ap (λ (s : Setup). s.lanes * s.nursery) setup

-- after one that was cut as many are withheld as the line of its latest turn of the lanes says
pub cut-kept : (e f : EngineView) (p : PhaseLists) (replies : List (List Reply)) (fed : List Notice) → (had : HadTurnsToCut e p f replies fed) → f.running.heap.space.nursery ≡ unused_in e.setup p.turns (line_of p.turns had.rounds.1)
cut-kept e f p replies fed had =
    let all = had.rounds in
    let mid : EngineView = all.2 in
    let setup : mid.setup ≡ e.setup = rounds-setup p.lanes p.turns _ had.room all.0 all.1 mid all.3 all.4 all.6 in
    (cut-budget p.lanes p.turns mid f all.3 had.told (line_of p.turns all.1) all.5 all.7).late ∙ ap (λ (s : Setup). unused_in s p.turns (line_of p.turns all.1)) setup
