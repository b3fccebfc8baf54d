-- A phase of a trace that was run and whose replies are counted, and a workload that was drawn and run to its end.
use Rattle.std.proofs.Common.{◌≡◌, ℕ, ◌+◌, ◌^◌, ◌<◌, ◌≤◌, List, [], ◌∷◌, ◌++◌, length, take, Option, None, Some, refl, sym, ap, subst, ◌∙◌, append-nil, arith, length-append, take_all}
use Rattle.std.specs.List.{sum}
use Rattle.std.proofs.lemmas.Grind.{flat_map-append}
use Rattle.std.proofs.lemmas.List.{take_more}
use Rattle.std.proofs.lemmas.List.Sums.{sum_by-take-le}
use Rattle.bc_engine.specs.Engines.{EngineView, EngineStands}
use Rattle.bc_model.specs.Lists.{TraceLists}
use Rattle.bc_model.specs.Run.{opening, before, phase_at, no_phase, replies_of, replies_of_phases, replies_to_lanes}
use Rattle.bc_model.specs.RunLengths.{ops_of, all_ops_of}
use Rattle.bc_model.specs.declared.operations.Reply.{Reply}
use Rattle.bc_model.specs.declared.traces.Setup.{Setup}
use Rattle.bc_churn.specs.Churn.{churn_trace}
use Rattle.bc_churn.specs.Counts.{all_replies, phase_replies, counts, run_counts}
use Rattle.bc_churn.proofs.ChurnNeed.{need-cut, setup-is}
use Rattle.bc_churn.proofs.ChurnSums.{counted-once, counted-run, trace-ops}
use Rattle.bc_replay.specs.Courses.{whole_course}
use Rattle.bc_replay.specs.Endings.{FitsThroughout}
use Rattle.bc_replay.specs.BetweenPhases.{HasRun, Ran}
use Rattle.bc_replay.specs.NeedLine.{replies_before}
use Rattle.bc_replay.proofs.Finishing.{final-before}
use Rattle.bc_replay.proofs.PhaseEnds.{cut, did}
use Rattle.bc_replay.proofs.Pieces.{replies-append}
use Rattle.bc_cli.specs.Churns.{HasChurned}

-- ---- the replies to the first phases

pub replies_before-none : (t : TraceLists) → run_counts (replies_before t 0) ≡ counts []
unfolding replies_of_phases
replies_before-none t = refl

pub replies_before-all : (t : TraceLists) (k : ℕ) → length t.phases ≤ k → replies_before t k ≡ replies_of t
replies_before-all t k past = ap (replies_of_phases (opening t.setup)) (take_all k t.phases past)

replies_before-next : (t : TraceLists) (k : ℕ) → k < length t.phases → replies_before t (k + 1) ≡ replies_before t k ++ replies_to_lanes (before t k) 0 (phase_at t k).lanes ∷ []
unfolding replies_of_phases
replies_before-next t k lt =
    ap (replies_of_phases (opening t.setup)) (take_more t.phases k no_phase lt)
    ∙ replies-append (opening t.setup) (take k t.phases) (phase_at t k ∷ [])

-- there are no more of them than operations
few-replies : (t : TraceLists) (k : ℕ) → length (all_replies (replies_before t k)) ≤ all_ops_of t
few-replies t k =
    let first : TraceLists = record t { phases = take k t.phases } in
    omega (arith, counted-once (replies_before t k), counted-run first, sum_by-take-le ops_of t.phases k)

-- ---- one phase

-- where all states fit no phase ends out of heap
pub no-cut : (t : TraceLists) (k : ℕ) (e f : EngineView) (replies : List (List Reply)) (need : Option ℕ) (n : ℕ) → need ≡ Some n → Ran (whole_course t) k e f replies need → FitsThroughout t → ⊥
no-cut t k e f replies need n some h fits =
    let at = cut (whole_course t) k e f replies need n some h in
    omega (arith, fits k n at.cut at.needs.within at.needs.counted, at.needs.above)

replies-next : (t : TraceLists) (k : ℕ) (e f : EngineView) (replies : List (List Reply)) (need : Option ℕ) → need ≡ None → Ran (whole_course t) k e f replies need → replies_before t (k + 1) ≡ replies_before t k ++ replies ∷ []
replies-next t k e f replies need none h =
    replies_before-next t k h.within
    ∙ ap (λ rs. replies_before t k ++ rs ∷ []) (sym ((did (whole_course t) k e f replies need none h).stands (before t k) h.before.stands).0)

pub counts-room : (t : TraceLists) (k : ℕ) (e f : EngineView) (replies : List (List Reply)) (need : Option ℕ) (cs : List ℕ) → need ≡ None → Ran (whole_course t) k e f replies need → all_ops_of t < 2 ^ 32
    → cs ≡ run_counts (replies_before t k) → sum cs + length (phase_replies replies) < 2 ^ 64
counts-room t k e f replies need cs none h few so_far =
    let both : all_replies (replies_before t k ++ replies ∷ []) ≡ all_replies (replies_before t k) ++ phase_replies replies =
    flat_map-append phase_replies (replies_before t k) (replies ∷ []) ∙ ap (λ rs. all_replies (replies_before t k) ++ rs) (append-nil (phase_replies replies)) in
    omega (
      arith,
      few,
      ap sum so_far,
      counted-once (replies_before t k),
      ap length both,
      length-append (all_replies (replies_before t k)) (phase_replies replies),
      ap (λ rs. length (all_replies rs)) (replies-next t k e f replies need none h),
      few-replies t (k + 1),
    )

pub counts-next : (t : TraceLists) (k : ℕ) (e f : EngineView) (replies : List (List Reply)) (need : Option ℕ) (cs : List ℕ) → need ≡ None → Ran (whole_course t) k e f replies need
    → cs ≡ run_counts (replies_before t k ++ replies ∷ []) → cs ≡ run_counts (replies_before t (k + 1))
counts-next t k e f replies need cs none h is = is ∙ ap run_counts (sym (replies-next t k e f replies need none h))

-- ---- the workload

pub churn-fits : (start ops : ℕ) → FitsThroughout (churn_trace start ops)
churn-fits start ops k n cut within need = omega (arith, need-cut start ops k n cut need, ap (λ (s : Setup). s.superpages) (setup-is start ops))

pub churn-small : (start ops : ℕ) → ops ≤ 100000 → all_ops_of (churn_trace start ops) < 2 ^ 32
churn-small start ops h = omega (arith, h, trace-ops start ops)

pub has-churned : (start ops : ℕ) (t : TraceLists) (e : EngineView) → t ≡ churn_trace start ops → HasRun (whole_course t) (length t.phases) e → HasChurned start ops (Some e)
has-churned start ops t e is h =
    subst (λ (u : TraceLists). HasRun (whole_course u) (length u.phases) e → HasChurned start ops (Some e)) (sym is) (λ h. record {
      handed = record { setup = h.setup; ended = h.going; stands = subst (EngineStands e) (final-before (whole_course (churn_trace start ops))) h.stands };
      empty = h.empty;
    }) h
