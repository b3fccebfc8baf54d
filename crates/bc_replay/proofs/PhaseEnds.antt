-- A phase of a trace that was run on the engine, done or ended at a cut, and what was written of its texts.
use Rattle.std.proofs.Common.{◌≡◌, ℕ, ◌+◌, ◌<◌, inl, inr, List, ◌++◌, length, Option, None, Some, refl, sym, ◌∙◌, subst, append-nil}
use Rattle.std.specs.Prelude.{Result, Ok, Err, IfOk}
use Rattle.bc_engine.specs.Engines.{EngineView}
use Rattle.bc_engine.specs.EngineFacts.{HasRoomForBirths}
use Rattle.bc_engine.specs.Lanes.{HasRoomForOps}
use Rattle.bc_engine.specs.Phases.{DidPhase}
use Rattle.bc_io.specs.Told.{HasRoom, HeldGrows}
use Rattle.bc_io.specs.Pieces.{RoomFalls}
use Rattle.bc_model.specs.Lists.{PhaseLists}
use Rattle.bc_model.specs.declared.operations.Reply.{Reply}
use Rattle.bc_trace.specs.Replies.{phase_text, out_of_heap_text}
use Rattle.bc_replay.specs.Endings.{WritesFront, EndsInFault, EndsOutOfHeap}
use Rattle.bc_replay.specs.BetweenPhases.{HasPhaseRoom, HasRun, PhaseEnded, Ran}
use Rattle.bc_replay.specs.Courses.{Course, phase_at}
use Rattle.bc_replay.specs.declared.phases.PhaseEnd.{PhaseEnd}
use Rattle.bc_replay.specs.Output.{texts_before, text_at}
use Rattle.bc_replay.specs.NeedLine.{need_line}
use Rattle.bc_replay.proofs.Running.{HasRun-next, did-text, did-room, held-next, room-next, fails-in_phase, CutAt, cut-at, cut-room, ends-out_of_heap, fails-at_need}

-- phase k of the course was run, and ended so
pub ran-read : (t : Course) (k : ℕ) (e f : EngineView) (p : PhaseLists) (replies : List (List Reply)) (need : Option ℕ) → k < length t.phases → phase_at t k ≡ p → HasRun t k e → PhaseEnded e p f replies need → f.setup ≡ e.setup
    → ((n : ℕ) → HasRoomForOps e p.lanes n → HasRoomForBirths f n) → Ran t k e f replies need
ran-read t k e f p replies need lt at before ended same births = record {
  within = lt;
  before = before;
  ended = subst (λ (q : PhaseLists). PhaseEnded e q f replies need) (sym at) ended;
  setup = same;
  births = λ n. subst (λ (q : PhaseLists). HasRoomForOps e q.lanes n → HasRoomForBirths f n) (sym at) (births n);
}

-- the same of what running it answers
pub ran-all : {X : Type 0} (t : Course) (k : ℕ) (e f : EngineView) (p : PhaseLists) (r : Result PhaseEnd X) → k < length t.phases → phase_at t k ≡ p → HasRun t k e → IfOk r (λ end. PhaseEnded e p f end.replies end.need) → f.setup ≡ e.setup
    → ((n : ℕ) → HasRoomForOps e p.lanes n → HasRoomForBirths f n) → IfOk r (λ end. Ran t k e f end.replies end.need)
ran-all t k e f p (Ok end) lt at before ended same births = ran-read t k e f p end.replies end.need lt at before ended same births
ran-all t k e f p (Err x) lt at before ended same births = tt

-- and these are its texts
pub record HasTexts (n : ℕ) (replies : List (List Reply)) (need : Option ℕ) (xs ys : List ℕ) : Type 0 where
  pub told : xs ≡ phase_text (n + 1) replies
  pub line : ys ≡ need_line need

whole : (k : ℕ) (replies : List (List Reply)) (need : Option ℕ) (xs ys : List ℕ) → HasTexts k replies need xs ys → xs ++ ys ≡ phase_text (k + 1) replies ++ need_line need
whole k replies need xs ys h = let e = h.told in let d = h.line in cc

-- of a phase that is done there is one text
whole-done : (k : ℕ) (replies : List (List Reply)) (need : Option ℕ) (xs ys : List ℕ) → need ≡ None → HasTexts k replies need xs ys → xs ++ ys ≡ phase_text (k + 1) replies
whole-done k replies need xs ys none h =
    let e = whole k replies need xs ys h in
    let line : need_line need ≡ need_line None = cc in
    let empty = append-nil (phase_text (k + 1) replies) in
    cc

whole-cut : (k : ℕ) (replies : List (List Reply)) (need : Option ℕ) (n : ℕ) (xs ys : List ℕ) → need ≡ Some n → HasTexts k replies need xs ys → xs ++ ys ≡ phase_text (k + 1) replies ++ out_of_heap_text n
whole-cut k replies need n xs ys some h =
    let e = whole k replies need xs ys h in
    let line : need_line need ≡ need_line (Some n) = cc in
    cc

pub did : (t : Course) (k : ℕ) (e f : EngineView) (replies : List (List Reply)) (need : Option ℕ) → need ≡ None → Ran t k e f replies need → DidPhase e (phase_at t k) f replies
did t k e f replies need none h = subst (PhaseEnded e (phase_at t k) f replies) none h.ended

pub cut : (t : Course) (k : ℕ) (e f : EngineView) (replies : List (List Reply)) (need : Option ℕ) (n : ℕ) → need ≡ Some n → Ran t k e f replies need → CutAt t k f replies n
cut t k e f replies need n some h = cut-at t k e f replies n h.within h.before (subst (PhaseEnded e (phase_at t k) f replies) some h.ended) h.setup

-- there is room for the texts
pub texts-room : (t : Course) (k : ℕ) (e f : EngineView) (replies : List (List Reply)) (need : Option ℕ) (xs ys : List ℕ) (a : Option ℕ) → Ran t k e f replies need → HasTexts (k + t.first) replies need xs ys → HasPhaseRoom a t k → HasRoom a (length (xs ++ ys))
texts-room t k e f replies None xs ys a h texts room =
    subst (λ (zs : List ℕ). HasRoom a (length zs)) (sym (whole-done (k + t.first) replies None xs ys refl texts)) (did-room t k e f (phase_at t k) replies a refl h.before h.ended room)
texts-room t k e f replies (Some n) xs ys a h texts room =
    subst (λ (zs : List ℕ). HasRoom a (length zs)) (sym (whole-cut (k + t.first) replies (Some n) n xs ys refl texts)) (cut-room t k f replies n a (cut t k e f replies (Some n) n refl h) room)

-- a write failed
pub texts-fault : (t : Course) (k : ℕ) (e f : EngineView) (replies : List (List Reply)) (need : Option ℕ) (xs ys : List ℕ) (a b c : Option (List ℕ)) → Ran t k e f replies need → HasTexts (k + t.first) replies need xs ys → WritesFront b c (xs ++ ys) → HeldGrows a b (texts_before t k) → EndsInFault t a c (Some f)
texts-fault t k e f replies None xs ys a b c h texts front held =
    inl (fails-in_phase t k e f (phase_at t k) replies a b c h.within refl h.before h.ended h.setup (subst (WritesFront b c) (whole-done (k + t.first) replies None xs ys refl texts) front) held)
texts-fault t k e f replies (Some n) xs ys a b c h texts front held =
    inr (inr (fails-at_need t k f replies n a b c (cut t k e f replies (Some n) n refl h) (subst (WritesFront b c) (whole-cut (k + t.first) replies (Some n) n xs ys refl texts) front) held))

-- all is written of a phase that is done
pub ran-on : (t : Course) (k : ℕ) (e f : EngineView) (replies : List (List Reply)) (need : Option ℕ) → need ≡ None → Ran t k e f replies need → HasRun t (k + 1) f
ran-on t k e f replies need none h = HasRun-next t k e f (phase_at t k) replies h.within refl h.before (did t k e f replies need none h) h.setup h.births

done-held : (t : Course) (k : ℕ) (e f : EngineView) (replies : List (List Reply)) (need : Option ℕ) (xs ys : List ℕ) → need ≡ None → Ran t k e f replies need → HasTexts (k + t.first) replies need xs ys → xs ++ ys ≡ text_at t k
done-held t k e f replies need xs ys none h texts =
    whole-done (k + t.first) replies need xs ys none texts ∙ did-text t k e f (phase_at t k) replies refl h.before (did t k e f replies need none h)

pub texts-written : (t : Course) (k : ℕ) (e f : EngineView) (replies : List (List Reply)) (need : Option ℕ) (xs ys : List ℕ) (a b c : Option (List ℕ)) → need ≡ None → Ran t k e f replies need → HasTexts (k + t.first) replies need xs ys → HeldGrows b c (xs ++ ys) → HeldGrows a b (texts_before t k) → HeldGrows a c (texts_before t (k + 1))
texts-written t k e f replies need xs ys a b c none h texts more held =
    held-next t k a b c (xs ++ ys) h.within (done-held t k e f replies need xs ys none h texts) more held

pub texts-filled : (t : Course) (k : ℕ) (e f : EngineView) (replies : List (List Reply)) (need : Option ℕ) (xs ys : List ℕ) (a b c : Option ℕ) → need ≡ None → Ran t k e f replies need → HasTexts (k + t.first) replies need xs ys → RoomFalls b c (length (xs ++ ys)) → RoomFalls a b (length (texts_before t k)) → RoomFalls a c (length (texts_before t (k + 1)))
texts-filled t k e f replies need xs ys a b c none h texts fell room =
    room-next t k a b c (xs ++ ys) h.within (done-held t k e f replies need xs ys none h texts) fell room

-- and of one that ended at a cut
pub need-written : (t : Course) (k : ℕ) (e f : EngineView) (replies : List (List Reply)) (need : Option ℕ) (n : ℕ) (xs ys : List ℕ) (a b c : Option (List ℕ)) → need ≡ Some n → Ran t k e f replies need → HasTexts (k + t.first) replies need xs ys → HeldGrows b c (xs ++ ys) → HeldGrows a b (texts_before t k) → EndsOutOfHeap t a c (Some f) n
need-written t k e f replies need n xs ys a b c some h texts more held =
    ends-out_of_heap t k f replies n a b c (cut t k e f replies need n some h) (subst (HeldGrows b c) (whole-cut (k + t.first) replies need n xs ys some texts) more) held
