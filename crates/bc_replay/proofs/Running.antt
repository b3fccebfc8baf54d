-- One phase of a trace on an engine, by what the engine says of it.
use Rattle.std.proofs.Common.{◌≡◌, ℕ, ◌+◌, ◌<◌, ◌≤◌, inl, inr, List, [], ◌++◌, length, drop, get_or, get_or-drop, length-drop, Option, Some, sym, ap, ◌∙◌, append_assoc, arith, subst, length-append, below_more}
use Rattle.std.specs.Prelude.{sum_by, Result, Err}
use Rattle.std.specs.List.{AllByRecursion}
use Rattle.std.proofs.lemmas.Bool.{cases_lt}
use Rattle.std.proofs.lemmas.List.{get_or_past, get_or_read}
use Rattle.std.proofs.lemmas.List.Sums.{get_or-le-sum_by, sum_by-drop_more}
use Rattle.bc_engine.specs.Engines.{EngineView, EngineStands}
use Rattle.bc_engine.specs.EngineFacts.{HasRoomForBirths}
use Rattle.bc_engine.specs.Lanes.{of_lane, HasRoomForOps}
use Rattle.bc_engine.specs.Phases.{DidPhase, CutPhase}
use Rattle.bc_engine.specs.declared.engines.Ended.TheVariants as ended
use Rattle.bc_io.specs.Told.{HasRoom, HeldGrows}
use Rattle.bc_io.specs.Pieces.{RoomFalls}
use Rattle.bc_io.proofs.Telling.{HeldGrows-more, RoomFalls-more}
use Rattle.bc_model.specs.Lists.{PhaseLists, TraceLists}
use Rattle.bc_model.specs.Run.{no_phase, after_phase, replies_to_lanes}
use Rattle.bc_model.specs.Run.{phase_at as phase_of}
use Rattle.bc_model.specs.RunLengths.{ops_of}
use Rattle.bc_model.specs.State.{State}
use Rattle.bc_model.specs.WellFormed.{FitsFrames, IsPhase, IsTrace}
use Rattle.bc_model.specs.declared.operations.Op.{Op}
use Rattle.bc_model.specs.declared.operations.Reply.{Reply}
use Rattle.bc_model.specs.declared.traces.Setup.{Setup}
use Rattle.bc_model.proofs.Runs.{at-index}
use Rattle.bc_trace.specs.Replies.{phase_text, out_of_heap_text}
use Rattle.bc_replay.specs.Endings.{WritesFront, NeedsMore, HandsBack, NeedFits, EndsOutOfHeap, FailsInPhase, FailsAtNeed}
use Rattle.bc_replay.specs.BetweenPhases.{HasRun, HasPhaseRoom}
use Rattle.bc_replay.specs.Courses.{Course, course_from, phase_at, before, after_cut, replies_of_cut}
use Rattle.bc_replay.specs.Output.{texts_before, text_at, need_text}
use Rattle.bc_replay.proofs.Pieces.{texts-step, state-step, front-behind}

-- what an error is
pub err-same : {T E : Type 0} (r : Result T E) (x y : E) → r ≡ Err x → r ≡ Err y → x ≡ y
err-same r x y is e = cc

-- the phase that was read at an index
pub phase-read : (t : TraceLists) (ps : List PhaseLists) (k : ℕ) (p : PhaseLists) → ps ≡ t.phases → k < length t.phases → p ≡ get_or ps k p → phase_of t k ≡ p
phase-read t ps k p e lt is = sym (get_or_read t.phases k p lt (subst (λ qs. p ≡ get_or qs k p) e is) no_phase)

pub phase-fits : (t : TraceLists) (k : ℕ) (p : PhaseLists) (setup : Setup) → IsTrace t → k < length t.phases → phase_of t k ≡ p → setup ≡ t.setup → IsPhase setup p
phase-fits t k p setup h lt at same =
    subst (λ (z : Setup). IsPhase z p) (sym same) (subst (IsPhase t.setup) at (at-index (IsPhase t.setup) t.phases k no_phase h.phases lt))

-- no turn of it withholds more frames than can be
pub phase-budgets : (t : TraceLists) (k : ℕ) (p : PhaseLists) (setup : Setup) → IsTrace t → k < length t.phases → phase_of t k ≡ p → setup ≡ t.setup → AllByRecursion (FitsFrames setup) p.turns
phase-budgets t k p setup h lt at same =
    let Fits : PhaseLists → Type 0 = λ q. AllByRecursion (FitsFrames t.setup) q.turns in
    subst (λ (z : Setup). AllByRecursion (FitsFrames z) p.turns) (sym same) (subst Fits at (at-index Fits t.phases k no_phase h.budgets lt))

-- the phase of a course is that of its trace
pub phase-of : (t : TraceLists) (s : State) (first k : ℕ) (p : PhaseLists) → phase_of t (k + first) ≡ p → phase_at (course_from t s first) k ≡ p
phase-of t s first k p at = get_or-drop first t.phases k no_phase ∙ ap (λ n. get_or t.phases n no_phase) (omega arith) ∙ at

pub within-of : (t : TraceLists) (s : State) (first k : ℕ) → k + first < length t.phases → k < length (course_from t s first).phases
within-of t s first k lt = omega (arith, lt, length-drop first t.phases)

-- the births of the phases that are left are those of this one and of the others
pub ops-left : (t : Course) (k : ℕ) (p : PhaseLists) → k < length t.phases → phase_at t k ≡ p → sum_by ops_of (drop k t.phases) ≡ ops_of p + sum_by ops_of (drop (k + 1) t.phases)
ops-left t k p lt at = sum_by-drop_more ops_of t.phases k no_phase lt ∙ ap (λ (q : PhaseLists). ops_of q + sum_by ops_of (drop (k + 1) t.phases)) at

-- a lane has no more operations than the phase
pub ops-below : (lanes : List (List Op)) (j : ℕ) → length (of_lane lanes j) ≤ sum_by length lanes
ops-below lanes j = elim (cases_lt j (length lanes)) [
  | inl lt ↦ get_or-le-sum_by length lanes j [] lt
  | inr past ↦ omega (arith, ap length (get_or_past lanes j [] past))
]

pub births-here : (t : Course) (k : ℕ) (e : EngineView) (p : PhaseLists) → k < length t.phases → phase_at t k ≡ p → HasRun t k e → HasRoomForOps e p.lanes 0
births-here t k e p lt at h = λ j. omega (arith, h.births j, ops-left t k p lt at, ops-below p.lanes j)

births-left : (t : Course) (k : ℕ) (e : EngineView) (p : PhaseLists) → k < length t.phases → phase_at t k ≡ p → HasRun t k e → HasRoomForOps e p.lanes (sum_by ops_of (drop (k + 1) t.phases))
births-left t k e p lt at h = λ j. omega (arith, h.births j, ops-left t k p lt at, ops-below p.lanes j)

-- the state after the phase
stands-next : (t : Course) (k : ℕ) (f : EngineView) (p : PhaseLists) → k < length t.phases → phase_at t k ≡ p → EngineStands f (after_phase (before t k) p) → EngineStands f (before t (k + 1))
stands-next t k f p lt at h =
    subst (EngineStands f) (sym (state-step (t.start) t.phases k no_phase lt ∙ ap (after_phase (before t k)) at)) h

pub HasRun-next : (t : Course) (k : ℕ) (e f : EngineView) (p : PhaseLists) (replies : List (List Reply)) → k < length t.phases → phase_at t k ≡ p → HasRun t k e → DidPhase e p f replies → f.setup ≡ e.setup
    → ((n : ℕ) → HasRoomForOps e p.lanes n → HasRoomForBirths f n) → HasRun t (k + 1) f
HasRun-next t k e f p replies lt at h d same births =
    let stands : EngineStands f (before t (k + 1)) = stands-next t k f p lt at (d.stands (before t k) h.stands).1 in
    let setup : f.setup ≡ t.setup = same ∙ h.setup in
    let need = d.need (before t (k + 1)) stands in
    record {
      setup = setup;
      going = d.going;
      empty = d.empty;
      stands = stands;
      births = births _ (births-left t k e p lt at h);
      fits = λ m less.
          below_more (λ i. NeedFits t (before t (i + 1))) k h.fits
          (need.0, need.1, omega (arith, need.2, ap (λ (z : Setup). z.superpages) setup)) m less;
    }

-- the replies to the phase are those of the heap that never frees
pub did-text : (t : Course) (k : ℕ) (e f : EngineView) (p : PhaseLists) (replies : List (List Reply)) → phase_at t k ≡ p → HasRun t k e → DidPhase e p f replies → phase_text (k + t.first + 1) replies ≡ text_at t k
did-text t k e f p replies at h d =
    ap (phase_text (k + t.first + 1)) ((d.stands (before t k) h.stands).0 ∙ ap (λ (q : PhaseLists). replies_to_lanes (before t k) 0 q.lanes) (sym at))

pub did-room : (t : Course) (k : ℕ) (e f : EngineView) (p : PhaseLists) (replies : List (List Reply)) (a : Option ℕ) → phase_at t k ≡ p → HasRun t k e → DidPhase e p f replies → HasPhaseRoom a t k → HasRoom a (length (phase_text (k + t.first + 1) replies))
did-room t k e f p replies a at h d room = subst (λ (xs : List ℕ). HasRoom a (length xs)) (sym (did-text t k e f p replies at h d)) room.whole

-- one text more
pub texts_before-next : (t : Course) (k : ℕ) → k < length t.phases → texts_before t (k + 1) ≡ texts_before t k ++ text_at t k
texts_before-next t k lt = texts-step t.first t.start t.phases k no_phase lt

pub held-next : (t : Course) (k : ℕ) (a b c : Option (List ℕ)) (text : List ℕ) → k < length t.phases → text ≡ text_at t k → HeldGrows b c text → HeldGrows a b (texts_before t k) → HeldGrows a c (texts_before t (k + 1))
held-next t k a b c text lt is more held =
    subst (HeldGrows a c) (sym (texts_before-next t k lt)) (HeldGrows-more a b c (texts_before t k) (text_at t k) held (subst (HeldGrows b c) is more))

pub room-next : (t : Course) (k : ℕ) (a b c : Option ℕ) (text : List ℕ) → k < length t.phases → text ≡ text_at t k → RoomFalls b c (length text) → RoomFalls a b (length (texts_before t k)) → RoomFalls a c (length (texts_before t (k + 1)))
room-next t k a b c text lt is more fell =
    let long : length (texts_before t (k + 1)) ≡ length (texts_before t k) + length text =
    ap length (texts_before-next t k lt) ∙ length-append (texts_before t k) (text_at t k) ∙ ap (λ xs. length (texts_before t k) + length xs) (sym is) in
    subst (RoomFalls a c) (sym long) (RoomFalls-more a b c (length (texts_before t k)) (length text) fell more)

pub fails-in_phase : (t : Course) (k : ℕ) (e f : EngineView) (p : PhaseLists) (replies : List (List Reply)) (a b c : Option (List ℕ)) → k < length t.phases → phase_at t k ≡ p → HasRun t k e → DidPhase e p f replies → f.setup ≡ e.setup
    → WritesFront b c (phase_text (k + t.first + 1) replies) → HeldGrows a b (texts_before t k) → FailsInPhase t a c (Some f)
fails-in_phase t k e f p replies a b c lt at h d same front held = record {
  phase = k;
  within = lt;
  written = front-behind a b c (texts_before t k) (text_at t k) held (subst (WritesFront b c) (did-text t k e f p replies at h d) front);
  handed = record { setup = same ∙ h.setup; ended = d.going; stands = stands-next t k f p lt at (d.stands (before t k) h.stands).1 };
}

-- the phase ended at a cut
pub record CutAt (t : Course) (k : ℕ) (f : EngineView) (replies : List (List Reply)) (need : ℕ) : Type 0 where
  pub cut : List ℕ
  pub needs : NeedsMore t k cut need
  pub told : phase_text (k + t.first + 1) replies ++ out_of_heap_text need ≡ need_text t k cut need
  pub handed : HandsBack (Some f) t.setup (Some (ended.OutOfHeap need)) (after_cut t k cut)

pub cut-at : (t : Course) (k : ℕ) (e f : EngineView) (replies : List (List Reply)) (need : ℕ) → k < length t.phases → HasRun t k e → CutPhase e (phase_at t k) f replies need → f.setup ≡ e.setup → CutAt t k f replies need
cut-at t k e f replies need lt h c same =
    let at = c.stands (before t k) h.stands in
    record {
      cut = at.0;
      needs = record { within = lt; counted = at.3; above = omega (arith, c.above, ap (λ (z : Setup). z.superpages) (same ∙ h.setup)) };
      told = ap (λ rs. phase_text (k + t.first + 1) rs ++ out_of_heap_text need) at.1;
      handed = record { setup = same ∙ h.setup; ended = c.cause; stands = at.2 };
    }

pub cut-room : (t : Course) (k : ℕ) (f : EngineView) (replies : List (List Reply)) (need : ℕ) (a : Option ℕ) → CutAt t k f replies need → HasPhaseRoom a t k
    → HasRoom a (length (phase_text (k + t.first + 1) replies ++ out_of_heap_text need))
cut-room t k f replies need a at room = subst (λ (xs : List ℕ). HasRoom a (length xs)) (sym at.told) (room.cut_short at.cut need at.needs)

pub ends-out_of_heap : (t : Course) (k : ℕ) (f : EngineView) (replies : List (List Reply)) (need : ℕ) (a b c : Option (List ℕ)) → CutAt t k f replies need
    → HeldGrows b c (phase_text (k + t.first + 1) replies ++ out_of_heap_text need) → HeldGrows a b (texts_before t k) → EndsOutOfHeap t a c (Some f) need
ends-out_of_heap t k f replies need a b c at more held = record {
  phase = k;
  cut = at.cut;
  needs = at.needs;
  written = subst (HeldGrows a c) (sym (append_assoc (texts_before t k) (phase_text (k + t.first + 1) (replies_of_cut t k at.cut)) (out_of_heap_text need)))
      (HeldGrows-more a b c (texts_before t k) (need_text t k at.cut need) held (subst (HeldGrows b c) at.told more));
  handed = at.handed;
}

pub fails-at_need : (t : Course) (k : ℕ) (f : EngineView) (replies : List (List Reply)) (need : ℕ) (a b c : Option (List ℕ)) → CutAt t k f replies need
    → WritesFront b c (phase_text (k + t.first + 1) replies ++ out_of_heap_text need) → HeldGrows a b (texts_before t k) → FailsAtNeed t a c (Some f)
fails-at_need t k f replies need a b c at front held = record {
  phase = k;
  cut = at.cut;
  need = need;
  needs = at.needs;
  written = front-behind a b c (texts_before t k) (need_text t k at.cut need) held (subst (WritesFront b c) at.told front);
  handed = at.handed;
}
