-- What the phases of a run took of notices that come from outside, and their answers.
use Rattle.std.proofs.Common.{◌≡◌, ℕ, suc, ◌+◌, ◌<◌, ◌≤◌, inl, inr, Bool, List, [], ◌++◌, length, Option, None, Some, refl, sym, ap, ◌∙◌, append-nil, append_assoc, arith, length-append, subst}
use Rattle.std.specs.Prelude.{Err, IfSome, slice_index_or}
use Rattle.bc_engine.proofs.AnswerLemmas.{cut-fed, done-fed, want-fed}
use Rattle.bc_engine.specs.Answers.{IfPhaseOutOfHeap, IsNoMemory}
use Rattle.bc_engine.specs.Engines.{EngineView}
use Rattle.bc_engine.specs.PhaseTurns.{HadTurnsToCut}
use Rattle.bc_engine.specs.declared.engines.Ended.TheVariants.{NoMemory}
use Rattle.bc_engine.specs.declared.phases.PhaseError.{PhaseError}
use Rattle.bc_engine.specs.declared.phases.PhaseError.TheVariants.{OutOfHeap}
use Rattle.bc_engine.specs.declared.phases.PhaseError.TheVariants as errors
use Rattle.bc_model.specs.Lists.{PhaseLists}
use Rattle.bc_model.specs.Run.{no_phase}
use Rattle.bc_model.specs.declared.operations.Reply.{Reply}
use Rattle.bc_pager.proofs.ServeLemmas.{told-none, told-more}
use Rattle.bc_pager.specs.Serving.{HintList, given_of, told_with}
use Rattle.bc_pager.specs.declared.answers.Answer.{Answer}
use Rattle.bc_pager.specs.declared.notices.Notice.{Notice}
use Rattle.bc_replay.specs.Feeding.{AreAnswersTo, FedPhase, FedPhases, FedRun}

-- ---- one phase

-- it has as many answers as it took notices
pub fed-long : (e : EngineView) (p : PhaseLists) (fed : List Notice) (f : EngineView) → FedPhase e p fed f → length f.live ≡ length fed
fed-long e p fed f (inl had) = done-fed e f p had.0 fed had.1
fed-long e p fed f (inr (inl had)) = cut-fed e f p had.0 fed had.1
fed-long e p fed f (inr (inr (inl had))) = want-fed e f p fed had.0 had.1
fed-long e p fed f (inr (inr (inr had))) = ap (λ (z : EngineView). length z.live) had.1 ∙ sym (ap length had.0)

-- so there are as many answers as notices after it, if there were before
pub answers-next : (taken more : Option (List Notice)) (fed : List Notice) (answers live : List Answer) → AreAnswersTo taken answers → more ≡ told_with taken fed → length live ≡ length fed → AreAnswersTo more (answers ++ live)
answers-next None more fed answers live h took long = absurd h
answers-next (Some notices) more fed answers live h took long =
    subst (λ (m : Option (List Notice)). AreAnswersTo m (answers ++ live)) (sym took) (omega (arith, length-append answers live, length-append notices fed, h, long))

-- and no more than notices can be taken
pub answers-few : (taken : Option (List Notice)) (answers : List Answer) (most : ℕ) → AreAnswersTo taken answers → IfSome taken (λ (notices : List Notice). length notices ≤ most) → length answers ≤ most
answers-few None answers most h few = absurd h
answers-few (Some notices) answers most h few = omega (arith, h, few)

-- ---- phases, one after another

-- the first phases were run, so many
abbrev pub FedTo : List PhaseLists → EngineView → ℕ → EngineView → Option (List Notice) → Option (List Notice) → List Answer → List Answer → Type 0
FedTo phases e k last taken more kept answers = (r : FedRun phases e last taken more kept answers) × (r.count ≡ k)

-- none was run
pub fed-none : (phases : List PhaseLists) (e : EngineView) (taken : Option (List Notice)) (kept : List Answer) → FedTo phases e 0 e taken taken kept kept
fed-none phases e taken kept = (
  record {
    count = 0;
    within = omega arith;
    notices = [];
    told = [];
    fed = (refl, refl, refl);
    took = told-none taken;
    answered = sym (append-nil kept);
  },
  refl,
)

pub run-none : (phases : List PhaseLists) (e : EngineView) (taken : Option (List Notice)) (kept : List Answer) → FedRun phases e e taken taken kept kept
run-none phases e taken kept = (fed-none phases e taken kept).0

-- and then one more
pub fed-next : (phases : List PhaseLists) (e : EngineView) (k : ℕ) (mid f : EngineView) (taken more next : Option (List Notice)) (kept answers after : List Answer) (fed : List Notice) (p : PhaseLists)
    → FedTo phases e k mid taken more kept answers → k < length phases → slice_index_or phases k no_phase ≡ p → FedPhase mid p fed f → next ≡ told_with more fed → after ≡ answers ++ f.live
    → FedTo phases e (k + 1) f taken next kept after
fed-next phases e k mid f taken more next kept answers after fed p to lt at had took answered =
    let r = to.0 in (
      record {
        count = suc r.count;
        within = omega (arith, to.1, lt);
        notices = r.notices ++ fed;
        told = r.told ++ f.live;
        fed = (mid, r.notices, fed, r.told, r.fed, subst (λ (q : PhaseLists). FedPhase mid q fed f) (sym at ∙ ap (λ n. slice_index_or phases n no_phase) (sym to.1)) had, refl, refl);
        took = took ∙ ap (λ m. told_with m fed) r.took ∙ told-more taken r.notices fed;
        answered = answered ∙ ap (λ xs. xs ++ f.live) r.answered ∙ append_assoc kept r.told f.live;
      },
      omega (arith, to.1),
    )

-- ---- what running a phase answers

-- it was cut
pub fed-cut : (error : PhaseError) (replies : List (List Reply)) (need : ℕ) (e f : EngineView) (p : PhaseLists) (taken more : Option (List Notice)) → error ≡ OutOfHeap replies need
    → IfPhaseOutOfHeap {T = List (List Reply)} (Err error) (λ replies need. (fed : List Notice) × (more ≡ told_with taken fed) × HadTurnsToCut e p f replies fed) → (fed : List Notice) × (more ≡ told_with taken fed) × FedPhase e p fed f
fed-cut error replies need e f p taken more is h =
    let had = subst (λ (x : PhaseError). IfPhaseOutOfHeap {T = List (List Reply)} (Err x) (λ replies need. (fed : List Notice) × (more ≡ told_with taken fed) × HadTurnsToCut e p f replies fed)) is h in
    (had.0, had.1, inr (inl (replies, had.2)))

-- it ran out of memory
pub none-left : (error : PhaseError) → error ≡ errors.NoMemory → IsNoMemory {T = List (List Reply)} (Err error)
none-left error is = subst (λ (x : PhaseError). IsNoMemory {T = List (List Reply)} (Err x)) (sym is) tt

-- then it took notices up to a turn for which there was no room, or was ended before its first turn
pub fed-want : (e f : EngineView) (p : PhaseLists) (taken more : Option (List Notice)) → f ≡ record e { ended = f.ended; live = [] } → f.ended ≡ Some NoMemory → more ≡ taken → (fed : List Notice) × (more ≡ told_with taken fed) × FedPhase e p fed f
fed-want e f p taken more same ended none = ([], none ∙ told-none taken, inr (inr (inr (refl, same ∙ ap (λ how. record e { ended = how; live = [] }) ended))))

-- ---- notices of none

pub none-told : (n : HintList) (answers : List Answer) → n ≡ record { hints = []; given = 0; ends = 0 } → answers ≡ [] → AreAnswersTo (Some (given_of n)) answers
none-told n answers is none = subst (λ (m : HintList). AreAnswersTo (Some (given_of m)) answers) (sym is) (ap length none)

pub none-most : (n : HintList) (room : ℕ) → n ≡ record { hints = []; given = 0; ends = 0 } → length n.hints ≤ room
none-most n room is = omega (arith, ap (λ (m : HintList). length m.hints) is)

-- ---- the answers after a phase

-- there are as many as notices that were taken
pub told-after : (taken more : Option (List Notice)) (fed : List Notice) (e f : EngineView) (p : PhaseLists) (answers live : List Answer) → live ≡ f.live → AreAnswersTo taken answers → more ≡ told_with taken fed → FedPhase e p fed f → AreAnswersTo more (answers ++ live)
told-after taken more fed e f p answers live is h took had = answers-next taken more fed answers live h took (ap length is ∙ fed-long e p fed f had)

-- and there is room for them, where there is for as many as notices can be taken
pub room-after : (taken more : Option (List Notice)) (fed : List Notice) (e f : EngineView) (p : PhaseLists) (answers live : List Answer) (most most' room : ℕ) → live ≡ f.live → AreAnswersTo taken answers → more ≡ told_with taken fed → FedPhase e p fed f
    → IfSome more (λ (notices : List Notice). length notices ≤ most) → most ≡ most' → most' ≤ room → length answers + length live ≤ room
room-after taken more fed e f p answers live most most' room is h took had few same fits =
    omega (arith, length-append answers live, answers-few more (answers ++ live) most (told-after taken more fed e f p answers live is h took had) few, same, fits)

-- ---- a phase that wasn't begun

pub fed-same : (phases : List PhaseLists) (e mid f : EngineView) (taken more next : Option (List Notice)) (kept answers after : List Answer) (fed : List Notice)
    → FedRun phases e mid taken more kept answers → f ≡ mid → next ≡ told_with more fed → fed ≡ [] → after ≡ answers → FedRun phases e f taken next kept after
fed-same phases e mid f taken more next kept answers after fed r same took none stays = record {
  count = r.count;
  within = r.within;
  notices = r.notices;
  told = r.told;
  fed = subst (FedPhases phases e r.count r.notices r.told) (sym same) r.fed;
  took = took ∙ ap (told_with more) none ∙ sym (told-none more) ∙ r.took;
  answered = stays ∙ r.answered;
}
