-- A phase: what its rounds and changes of holders do to the states that the engine stands for.
use Rattle.std.proofs.Common.{Vec, Global, vec_capacity, ◌≡◌, ℕ, ◌+◌, ◌<◌, ◌≤◌, List, [], ◌∷◌, ◌++◌, length, take, map, sum_by, get_or, None, Result, Ok, Err, refl, sym, ap, subst, ◌∙◌, inl, inr, arith}
use Prim.Native.Nat.{zero, suc}
use Rattle.std.proofs.lemmas.Bool.{cases_lt}
use Rattle.std.proofs.lemmas.List.{get_or_append_left, get_or_push, length-map, length_push}
use Rattle.std.proofs.lemmas.List.Sums.{sum_by-cons}
use Rattle.std.specs.List.{AllByRecursion}
use Rattle.bc_whole_heap.specs.LaneChunks.{chunk_of}
use Rattle.bc_whole_heap.specs.Heaps.{heap_memory, object_in, root_words}
use Rattle.bc_running.specs.Running.{RunningView, RunningStands}
use Rattle.bc_model.specs.StateSizes.{sizes_of}
use Rattle.bc_model.specs.Interleaving.{replies_by, ops_by}
use Rattle.bc_model.specs.Lists.{PhaseLists}
use Rattle.bc_model.specs.Rows.{lists_of}
use Rattle.bc_model.specs.Need.{IsNeed}
use Rattle.bc_model.specs.Run.{after_changes, after_lanes, cut_lanes, replies_to_lanes}
use Rattle.bc_model.specs.State.{State}
use Rattle.bc_model.specs.WellFormed.{IsOp, IsPhase}
use Rattle.bc_model.specs.declared.operations.Op.{Op}
use Rattle.bc_model.specs.declared.operations.Reply.{Reply}
use Rattle.bc_model.specs.declared.values.Holder.{Holder}
use Rattle.bc_nursery.specs.Nurseries.{Nursery}
use Rattle.bc_standing.specs.Standing.{StandsFor}
use Rattle.bc_superpages.specs.Kept.{IsLayout}
use Rattle.bc_superpages.specs.Layout.{Layout, superpages}
use Rattle.bc_word.specs.declared.words.Word.{Word}
use Rattle.bc_engine.specs.Answers.{IfPhaseOutOfHeap}
use Rattle.bc_engine.specs.Engines.{EngineView, EngineStands, HasEmptyChunks}
use Rattle.bc_engine.specs.EngineFacts.{with_holders, without_turns, CanRunLanes, HasRoomForBirths, IsEngine}
use Rattle.bc_engine.specs.Lanes.{of_lane, AreDone, BirthsWithin, LanesWentOn, HasSerialsLeft, HasRoomForOps, left}
use Rattle.bc_engine.specs.Phases.{CutPhase, DidPhase}
use Rattle.bc_engine.specs.declared.opened.Opened.{Opened}
use Rattle.bc_engine.specs.declared.phases.PhaseError.{PhaseError}
use Rattle.bc_engine.specs.declared.phases.PhaseError.TheVariants.{OutOfHeap, NoMemory}
use Rattle.bc_engine.specs.Rounds.{RoundsWentOn, IsRoomFor, IsThrough, IsTooSmall, IsUnderwayOn}
use Rattle.bc_model.proofs.NeedFound.{need-found}
use Rattle.bc_model.proofs.RunStates.{length-cut_lanes}
use Rattle.bc_engine.proofs.CutLemmas.{mixed-cut, mixed-whole, run-lanes}
use Rattle.bc_engine.proofs.Sizes.{no-object, op-of_heap}
use Rattle.bc_lane.proofs.WholeLemmas.{op-fits}

-- room for a birth by each operation of the phase
fits-births : (e : EngineView) (p : PhaseLists) (told : List (List Reply)) → HasRoomForOps e p.lanes 0 → HasSerialsLeft p.lanes e.running.serials told
fits-births e p told fits j = omega (arith, fits j)

-- and at most so many births leave room for others
pub fits-later : (e f : EngineView) (lanes : List (List Op)) → ((j : ℕ) → get_or f.running.serials j 0 ≤ get_or e.running.serials j 0 + length (of_lane lanes j)) → (n : ℕ) → HasRoomForOps e lanes n → HasRoomForBirths f n
fits-later e f lanes births n fits j = omega (arith, births j, fits j)

pub underway-begun : (e : EngineView) (p : PhaseLists) (vs : List (Vec Reply Global)) → IsEngine e → e.ended ≡ None → IsPhase e.setup p → HasRoomForOps e p.lanes 0 → length vs ≡ length p.lanes → IsRoomFor p.lanes vs → IsUnderwayOn e p.lanes vs
underway-begun e p vs engine going phase fits long room = record {
  ready = engine.ready;
  each = phase.lanes;
  ops = phase.ops;
  long = long ∙ phase.lanes;
  room = λ j v lt is. (room j v lt is).1;
  births = fits-births e p (lists_of vs) fits;
}

-- there is no reply yet
none-told : (vs : List (Vec Reply Global)) → ((j : ℕ) (v : Vec Reply Global) → j < length vs → v ≡ get_or vs j v → v.items ≡ []) → (j : ℕ) → of_lane (lists_of vs) j ≡ []
none-told [] none j = refl
none-told (v ∷ vs) none zero = none 0 v (omega arith) refl
none-told (v ∷ vs) none (suc j) = none-told vs (λ i x lt is. none (suc i) x (omega arith) is) j

pub none-yet : (lanes : List (List Op)) (vs : List (Vec Reply Global)) → IsRoomFor lanes vs → (j : ℕ) → of_lane (lists_of vs) j ≡ []
none-yet lanes vs room j = none-told vs (λ i v lt is. (room i v lt is).0) j

-- what lanes did that had no reply before
ops-begun : {lanes : List (List Op)} {r q : RunningView} {told answers : List (List Reply)} (g : LanesWentOn lanes r told q answers) → ((j : ℕ) → of_lane told j ≡ []) → (j : ℕ) → ops_by j g.steps ≡ take (length (of_lane answers j)) (of_lane lanes j)
ops-begun {lanes} g none j =
    sym (g.ops j ∙ ap (λ (rs : List Reply). take (length rs) (of_lane lanes j) ++ ops_by j g.steps) (none j))

replies-begun : {lanes : List (List Op)} {r q : RunningView} {told answers : List (List Reply)} (g : LanesWentOn lanes r told q answers) → ((j : ℕ) → of_lane told j ≡ []) → (s : State) → RunningStands r s → (j : ℕ) → of_lane answers j ≡ replies_by s j g.steps
replies-begun g none s st j =
    g.replies s st j ∙ ap (λ (rs : List Reply). rs ++ replies_by s j g.steps) (none j)

-- the operations of a phase fit each state that the heap stands for
all-weaker : {X : Type 0} (P Q : X → Type 0) → ((x : X) → P x → Q x) → (xs : List X) → AllByRecursion P xs → AllByRecursion Q xs
all-weaker P Q f [] h = tt
all-weaker P Q f (x ∷ xs) h = (f x h.0, all-weaker P Q f xs h.1)

ops-fit : (e : EngineView) (lanes : List (List Op)) (s : State) → CanRunLanes e.setup e.running → EngineStands e s → AllByRecursion (AllByRecursion (IsOp e.setup)) lanes → AllByRecursion (AllByRecursion (IsOp (sizes_of s))) lanes
ops-fit e lanes s ready st ops =
    all-weaker (AllByRecursion (IsOp e.setup)) (AllByRecursion (IsOp (sizes_of s)))
    (λ os fits. all-weaker (IsOp e.setup) (IsOp (sizes_of s)) (λ o fit. op-fits e.running.heap e.running.holders e.running.serials s o st (op-of_heap e.setup e.running.heap o ready.fits fit)) os fits) lanes ops

-- what the lanes of a phase did, up to a cut
pub record IsCutOf (lanes : List (List Op)) (q : RunningView) (answers : List (List Reply)) (s : State) : Type 0 where
  pub replies : answers ≡ replies_to_lanes s 0 (cut_lanes (map length answers) lanes)
  pub stands : RunningStands q (after_lanes s 0 (cut_lanes (map length answers) lanes))

each-lane : (e : EngineView) (p : PhaseLists) (s : State) → CanRunLanes e.setup e.running → IsPhase e.setup p → EngineStands e s → length p.lanes ≡ length s.made
each-lane e p s ready phase st = phase.lanes ∙ sym ready.fits.lanes ∙ st.lanes

cut-run : (e : EngineView) {p : PhaseLists} {q : RunningView} {told answers : List (List Reply)} → CanRunLanes e.setup e.running → IsPhase e.setup p → ((j : ℕ) → of_lane told j ≡ []) → length answers ≡ length p.lanes → LanesWentOn p.lanes e.running told q answers → (s : State) → EngineStands e s → IsCutOf p.lanes q answers s
cut-run e {p} {q} {told} {answers} ready phase none long goes s st =
    let cut = map length answers in
    let mixed = mixed-cut s p.lanes answers goes.steps (each-lane e p s ready phase st) (ops-fit e p.lanes s ready st phase.ops) goes.below (ops-begun goes none) in
    let run = run-lanes s (cut_lanes cut p.lanes) answers goes.steps st.consistent mixed (long ∙ sym (length-cut_lanes cut p.lanes)) (replies-begun goes none s st) in
    record { replies = run.replies; stands = subst (RunningStands q) run.state (goes.means s st) }

-- or to their ends
pub record IsWhole (lanes : List (List Op)) (q : RunningView) (answers : List (List Reply)) (s : State) : Type 0 where
  pub replies : answers ≡ replies_to_lanes s 0 lanes
  pub stands : RunningStands q (after_lanes s 0 lanes)

whole-run : (e : EngineView) {p : PhaseLists} {q : RunningView} {told answers : List (List Reply)} → CanRunLanes e.setup e.running → IsPhase e.setup p → ((j : ℕ) → of_lane told j ≡ []) → length answers ≡ length p.lanes → AreDone p.lanes answers → LanesWentOn p.lanes e.running told q answers → (s : State) → EngineStands e s → IsWhole p.lanes q answers s
whole-run e {p} {q} {told} {answers} ready phase none long done goes s st =
    let mixed = mixed-whole s p.lanes answers goes.steps (each-lane e p s ready phase st) (ops-fit e p.lanes s ready st phase.ops) goes.below done (ops-begun goes none) in
    let run = run-lanes s p.lanes answers goes.steps st.consistent mixed long (replies-begun goes none s st) in
    record { replies = run.replies; stands = subst (RunningStands q) run.state (goes.means s st) }

-- what a phase begins with: an engine in order that hasn't ended, and room for replies, of which there are none
pub record HasBegun (e : EngineView) (p : PhaseLists) (vs : List (Vec Reply Global)) : Type 0 where
  pub engine : IsEngine e
  pub going : e.ended ≡ None
  pub phase : IsPhase e.setup p
  pub room : IsRoomFor p.lanes vs

-- rounds that end out of heap cut the phase
pub cut-by : (e f : EngineView) (p : PhaseLists) (vs ws : List (Vec Reply Global)) (need : ℕ) → HasBegun e p vs → IsEngine f → length ws ≡ length p.lanes → IsTooSmall p.lanes e vs f ws need → CutPhase e p f (lists_of ws) need
cut-by e f p vs ws need begun engine long small =
    let answers = lists_of ws in
    let cut = map length answers in
    let run : (s : State) → EngineStands e s → IsCutOf p.lanes f.running answers s = λ s st.
    cut-run e begun.engine.ready begun.phase (none-yet p.lanes vs begun.room) (length-map ws (λ (v : Vec Reply Global). v.items) ∙ long) small.goes s st in
    record {
      cause = small.cause;
      stands = λ s st. (
        cut,
        (run s st).replies,
        (run s st).stands,
        small.needs (after_lanes s 0 (cut_lanes cut p.lanes)) (run s st).stands.stands (sym (run s st).stands.domains),
      );
      above = omega (arith, small.above, engine.ready.fits.supers);
    }

-- rounds that end with all lanes at their ends, and then the changes of holders, do it
pub did-by : (e f g : EngineView) (p : PhaseLists) (vs ws : List (Vec Reply Global)) → HasBegun e p vs → length ws ≡ length p.lanes → RoundsWentOn p.lanes e vs f ws → IsThrough p.lanes f ws → ((s : State) → EngineStands f s → EngineStands g (after_changes s p.gives)) → g ≡ with_holders f g.running.holders → ((s : State) → EngineStands g s → (n : ℕ) × IsNeed s n × (n ≤ g.setup.superpages)) → DidPhase e p g (lists_of ws)
did-by e f g p vs ws begun long on through gave same room =
    let run : (s : State) → EngineStands e s → IsWhole p.lanes f.running (lists_of ws) s = λ s st.
    whole-run e begun.engine.ready begun.phase (none-yet p.lanes vs begun.room) (length-map ws (λ (v : Vec Reply Global). v.items) ∙ long) through.done on.runs.goes s st in
    record {
      going = ap (λ (x : EngineView). x.ended) same ∙ on.going;
      empty = λ l. ap (λ (x : EngineView). (chunk_of x.running.heap.chunks l).objects) same ∙ through.empty l;
      stands = λ s st. (
        (run s st).replies,
        gave (after_lanes s 0 p.lanes) (run s st).stands,
      );
      need = room;
    }

-- a list with room for the next lane's replies
pub room-push : (lanes : List (List Op)) (vs : List (Vec Reply Global)) (w : Vec Reply Global) (i : ℕ) → length vs ≡ i → IsRoomFor lanes vs → w.items ≡ [] → length (of_lane lanes i) ≤ vec_capacity w → IsRoomFor lanes (vs ++ w ∷ [])
room-push lanes vs w i long room none wide j v lt is = elim (cases_lt j (length vs)) [
  | inl below ↦ room j v below (is ∙ get_or_append_left vs (w ∷ []) v j below)
  | inr past ↦
      let same : i ≡ j = omega (arith, lt, length_push vs w, past, long) in
      let at : v ≡ w = is ∙ get_or_push vs w v j (long ∙ same) in
      (ap (λ (x : Vec Reply Global). x.items) at ∙ none, omega (arith, wide, ap vec_capacity at, ap (λ (n : ℕ). length (of_lane lanes n)) same))
]

-- one change after another changes the holders alone
pub holders-then : (e f g : EngineView) (hs : List Holder) → f ≡ with_holders e f.running.holders → g ≡ with_holders f hs → g ≡ with_holders e g.running.holders
holders-then e f g hs first second =
    second ∙ ap (λ (x : EngineView). with_holders x hs) first ∙ ap (with_holders e) (sym (ap (λ (x : EngineView). x.running.holders) second))

-- with empty chunks there is room for what the engine stands for
pub has-room : (e : EngineView) → ((s : Layout) → (chunks : List Nursery) → (roots : List Word) → (state : State) → (n : ℕ) → IsLayout s → ((a : ℕ) → object_in chunks a ≡ None) → StandsFor (heap_memory s chunks) roots state → IsNeed state n → n ≤ superpages s) → IsLayout e.running.heap.space → IsEngine e → HasEmptyChunks e.running.heap → (s : State) → EngineStands e s → (n : ℕ) × IsNeed s n × (n ≤ e.setup.superpages)
has-room e law layout engine none s st =
    let need = need-found s st.consistent in
    let within = law e.running.heap.space e.running.heap.chunks (root_words e.running.heap.roots) s need.0 layout (no-object e.running.heap.chunks none) st.stands need.1 in
    (need.0, need.1, omega (arith, within, engine.ready.fits.supers))

-- the phase as the code has it: `os` are its operations as they were lent to the rounds, `us` the lists for replies
pub did-lent : (e f g : EngineView) (p : PhaseLists) (os : List (List Op)) (us vs ws xs : List (Vec Reply Global)) → HasBegun e p vs → os ≡ p.lanes → us ≡ vs → xs ≡ ws → length ws ≡ length p.lanes → RoundsWentOn os e us f ws → IsThrough os f ws → ((s : State) → EngineStands f s → EngineStands g (after_changes s p.gives)) → g ≡ with_holders f g.running.holders → ((s : State) → EngineStands g s → (n : ℕ) × IsNeed s n × (n ≤ g.setup.superpages)) → DidPhase e p g (lists_of xs)
did-lent e f g p os us vs ws xs begun lanes lent back long on through gave same room =
    subst (λ (ys : List (Vec Reply Global)). DidPhase e p g (lists_of ys)) (sym back)
    (did-by e f g p vs ws begun long
    (subst (λ (ls : List (List Op)). RoundsWentOn ls e vs f ws) lanes (subst (λ (ys : List (Vec Reply Global)). RoundsWentOn os e ys f ws) lent on))
    (subst (λ (ls : List (List Op)). IsThrough ls f ws) lanes through) gave same room)

pub cut-lent : (e f : EngineView) (p : PhaseLists) (os : List (List Op)) (us vs ws xs : List (Vec Reply Global)) (need : ℕ) → HasBegun e p vs → IsEngine f → os ≡ p.lanes → us ≡ vs → xs ≡ ws → length ws ≡ length p.lanes → IsTooSmall os e us f ws need → CutPhase e p f (lists_of xs) need
cut-lent e f p os us vs ws xs need begun engine lanes lent back long small =
    subst (λ (ys : List (Vec Reply Global)). CutPhase e p f (lists_of ys) need) (sym back)
    (cut-by e f p vs ws need begun engine long
    (subst (λ (ls : List (List Op)). IsTooSmall ls e vs f ws need) lanes (subst (λ (ys : List (Vec Reply Global)). IsTooSmall os e ys f ws need) lent small)))

pub underway-lent : (e : EngineView) (p : PhaseLists) (os : List (List Op)) (us vs : List (Vec Reply Global)) → HasBegun e p vs → HasRoomForOps e p.lanes 0 → length vs ≡ length p.lanes → os ≡ p.lanes → us ≡ vs → IsUnderwayOn e os us
underway-lent e p os us vs begun fits long lanes lent =
    subst (λ (ls : List (List Op)). IsUnderwayOn e ls us) (sym lanes)
    (subst (λ (ys : List (Vec Reply Global)). IsUnderwayOn e p.lanes ys) (sym lent)
    (underway-begun e p vs begun.engine begun.going begun.phase fits long begun.room))

pub births-lent : (e f : EngineView) (p : PhaseLists) (os : List (List Op)) (us ws : List (Vec Reply Global)) → os ≡ p.lanes → BirthsWithin os e.running.serials (lists_of us) f.running.serials (lists_of ws) → (j : ℕ) → get_or f.running.serials j 0 ≤ get_or e.running.serials j 0 + length (of_lane p.lanes j)
births-lent e f p os us ws lanes births j =
    omega (arith, births j, ap (λ (ls : List (List Op)). length (of_lane ls j)) lanes)

-- of engines that differ in their lists of turns and answers alone
pub did-again : {e x f g : EngineView} {p : PhaseLists} {replies : List (List Reply)} → without_turns x ≡ without_turns e → without_turns f ≡ without_turns g → DidPhase x p g replies → DidPhase e p f replies
did-again {e} {x} {f} {g} {p} {replies} before after did =
    let bare : DidPhase (without_turns x) p (without_turns g) replies = record { going = did.going; empty = did.empty; stands = did.stands; need = did.need } in
    let had : DidPhase (without_turns e) p (without_turns f) replies = subst (λ (z : EngineView). DidPhase (without_turns e) p z replies) (sym after) (subst (λ (z : EngineView). DidPhase z p (without_turns g) replies) before bare) in
    record { going = had.going; empty = had.empty; stands = had.stands; need = had.need }

pub cut-again : {e x f g : EngineView} {p : PhaseLists} → without_turns x ≡ without_turns e → without_turns f ≡ without_turns g → (replies : List (List Reply)) (need : ℕ) → CutPhase x p g replies need → CutPhase e p f replies need
cut-again {e} {x} {f} {g} {p} before after replies need cut =
    let bare : CutPhase (without_turns x) p (without_turns g) replies need = record { cause = cut.cause; stands = cut.stands; above = cut.above } in
    let had : CutPhase (without_turns e) p (without_turns f) replies need = subst (λ (z : EngineView). CutPhase (without_turns e) p z replies need) (sym after) (subst (λ (z : EngineView). CutPhase z p (without_turns g) replies need) before bare) in
    record { cause = had.cause; stands = had.stands; above = had.above }

-- what is said of a phase that ended in the middle
pub ended-weaker : {T : Type 0} (x : Result T PhaseError) (P Q : List (List Reply) → ℕ → Type 0) → ((replies : List (List Reply)) (need : ℕ) → P replies need → Q replies need) → IfPhaseOutOfHeap x P → IfPhaseOutOfHeap x Q
ended-weaker (Ok y) P Q f told = tt
ended-weaker (Err (OutOfHeap replies need)) P Q f told = f replies need told
ended-weaker (Err NoMemory) P Q f told = tt

-- before anything is done all operations of the phase are to come
left-none : (lanes : List (List Op)) (told : List (List Reply)) → ((j : ℕ) → of_lane told j ≡ []) → left lanes told ≡ sum_by length lanes
left-none [] told none = refl
left-none (ops ∷ lanes) [] none =
    ap (λ (n : ℕ). length ops + n) (left-none lanes [] (λ j. refl)) ∙ sym (sum_by-cons length ops lanes)
left-none (ops ∷ lanes) (rs ∷ told) none =
    omega (arith, ap length (none 0), left-none lanes told (λ j. none (suc j)), sum_by-cons length ops lanes)

-- so there is room to note all turns
pub turns-lent : (p : PhaseLists) (os : List (List Op)) (us vs : List (Vec Reply Global)) (room : ℕ) (opened : List Opened) → IsRoomFor p.lanes vs → os ≡ p.lanes → us ≡ vs → opened ≡ [] → sum_by length p.lanes + 1 ≤ room → length opened + left os (lists_of us) + 1 ≤ room
turns-lent p os us vs room opened begun lanes lent none wide =
    let all : left p.lanes (lists_of vs) ≡ sum_by length p.lanes = left-none p.lanes (lists_of vs) (none-yet p.lanes vs begun) in
    omega (arith, all, wide, ap length none, ap (λ (ls : List (List Op)). left ls (lists_of us)) lanes, ap (λ (xs : List (Vec Reply Global)). left p.lanes (lists_of xs)) lent)
