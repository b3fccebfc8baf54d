-- A cut of a phase answers each lane a prefix of what the whole phase answers it.
use Rattle.std.proofs.Common.{◌≡◌, ℕ, ◌+◌, ◌<◌, ◌≤◌, zero, suc, List, [], ◌∷◌, length, get_or, take, refl, sym, ap, ◌∙◌, inl, inr, arith}
use Rattle.std.proofs.Math.Seq.{take-nil}
use Rattle.std.specs.List.{AllByRecursion}
use Rattle.std.proofs.lemmas.Bool.{cases_lt}
use Rattle.std.proofs.lemmas.List.{get_or_past}
use Rattle.bc_model.specs.Consistent.{IsState}
use Rattle.bc_model.specs.StateSizes.{sizes_of}
use Rattle.bc_model.specs.Lists.{PhaseLists, TraceLists}
use Rattle.bc_model.specs.Run.{opening, after_ops, replies_to, replies_to_lanes, after_phase, after_phases, replies_of_phases, replies_of, replies_of_cut, cut_lanes, no_phase, phase_at, before}
use Rattle.bc_model.specs.State.{State}
use Rattle.bc_model.specs.Step.{step}
use Rattle.bc_model.specs.WellFormed.{IsOp, IsTrace}
use Rattle.bc_model.specs.declared.operations.Op.{Op}
use Rattle.bc_model.specs.declared.operations.Reply.{Reply}
use Rattle.bc_model.proofs.Effects.{Agrees-itself}
use Rattle.bc_model.proofs.InOrder.{AloneInOrder-lanes}
use Rattle.bc_model.proofs.RunStates.{fits-cut, length-cut_lanes, lanes-fit, OfSetup-before}

-- the first operations of a lane get its first replies
replies_to-take : (s : State) (j n : ℕ) (ops : List Op) → replies_to s j (take n ops) ≡ take n (replies_to s j ops)
unfolding replies_to
replies_to-take s j zero ops = refl
replies_to-take s j (suc n) [] = refl
replies_to-take s j (suc n) (o ∷ ops) = ap (λ (rs : List Reply). (step s j o).1 ∷ rs) (replies_to-take (step s j o).0 j n ops)

-- a lane of a cut
pub cut_lanes-at : (cut : List ℕ) (lanes : List (List Op)) (j : ℕ) → get_or (cut_lanes cut lanes) j [] ≡ take (get_or cut j 0) (get_or lanes j [])
unfolding cut_lanes
cut_lanes-at cut [] j = sym (take-nil (get_or cut j 0))
cut_lanes-at [] (ops ∷ lanes) zero = refl
cut_lanes-at [] (ops ∷ lanes) (suc j) = cut_lanes-at [] lanes j
cut_lanes-at (n ∷ cut) (ops ∷ lanes) zero = refl
cut_lanes-at (n ∷ cut) (ops ∷ lanes) (suc j) = cut_lanes-at cut lanes j

pub length-replies_to_lanes : (s : State) (j : ℕ) (lanes : List (List Op)) → length (replies_to_lanes s j lanes) ≡ length lanes
unfolding replies_to_lanes
length-replies_to_lanes s j [] = refl
length-replies_to_lanes s j (ops ∷ lanes) = ap suc (length-replies_to_lanes (after_ops s j ops) (j + 1) lanes)

-- a lane of the state
front-within : (s : State) (lanes : List (List Op)) (cut : List ℕ) (j : ℕ) → IsState s → length lanes ≤ length s.made → AllByRecursion (AllByRecursion (IsOp (sizes_of s))) lanes → j < length lanes → get_or (replies_to_lanes s 0 (cut_lanes cut lanes)) j [] ≡ take (get_or cut j 0) (get_or (replies_to_lanes s 0 lanes) j [])
front-within s lanes cut j hs few fits within =
    let many = length-cut_lanes cut lanes in
    let whole = AloneInOrder-lanes j j 0 s s lanes (omega arith) within (Agrees-itself j s) hs hs (omega (arith, few)) fits in
    let part = AloneInOrder-lanes j j 0 s s (cut_lanes cut lanes) (omega arith) (omega (arith, within, many)) (Agrees-itself j s) hs hs (omega (arith, few, many)) (fits-cut (IsOp (sizes_of s)) cut lanes fits) in
    part.replies
    ∙ ap (replies_to s j) (cut_lanes-at cut lanes j)
    ∙ replies_to-take s j (get_or cut j 0) (get_or lanes j [])
    ∙ ap (λ (rs : List Reply). take (get_or cut j 0) rs) (sym whole.replies)

-- past the lanes both are empty
front-past : (s : State) (lanes : List (List Op)) (cut : List ℕ) (j : ℕ) → length lanes ≤ j → get_or (replies_to_lanes s 0 (cut_lanes cut lanes)) j [] ≡ take (get_or cut j 0) (get_or (replies_to_lanes s 0 lanes) j [])
front-past s lanes cut j past =
    get_or_past (replies_to_lanes s 0 (cut_lanes cut lanes)) j [] (omega (arith, past, length-replies_to_lanes s 0 (cut_lanes cut lanes), length-cut_lanes cut lanes))
    ∙ sym (take-nil (get_or cut j 0))
    ∙ ap (λ (rs : List Reply). take (get_or cut j 0) rs) (sym (get_or_past (replies_to_lanes s 0 lanes) j [] (omega (arith, past, length-replies_to_lanes s 0 lanes))))

pub cut-front : (s : State) (lanes : List (List Op)) (cut : List ℕ) (j : ℕ) → IsState s → length lanes ≤ length s.made → AllByRecursion (AllByRecursion (IsOp (sizes_of s))) lanes → get_or (replies_to_lanes s 0 (cut_lanes cut lanes)) j [] ≡ take (get_or cut j 0) (get_or (replies_to_lanes s 0 lanes) j [])
cut-front s lanes cut j hs few fits =
    elim (cases_lt j (length lanes)) [
      | inl within ↦ front-within s lanes cut j hs few fits within
      | inr past ↦ front-past s lanes cut j past
    ]

-- what phase k of a run answers
replies_of_phases-at : (s : State) (phases : List PhaseLists) (k : ℕ) → get_or (replies_of_phases s phases) k [] ≡ replies_to_lanes (after_phases s (take k phases)) 0 (get_or phases k no_phase).lanes
unfolding replies_of_phases after_phases replies_to_lanes
replies_of_phases-at s [] k = refl
replies_of_phases-at s (p ∷ phases) zero = refl
replies_of_phases-at s (p ∷ phases) (suc k) = replies_of_phases-at (after_phase s p) phases k

pub run-front : (t : TraceLists) (k : ℕ) (cut : List ℕ) (j : ℕ) → IsTrace t → get_or (replies_of_cut t k cut) j [] ≡ take (get_or cut j 0) (get_or (get_or (replies_of t) k []) j [])
run-front t k cut j h =
    let start = OfSetup-before t k h in
    let fit = lanes-fit t k (before t k) h start.sizes in
    cut-front (before t k) (phase_at t k).lanes cut j start.state fit.0 fit.1
    ∙ ap (λ (rs : List (List Reply)). take (get_or cut j 0) (get_or rs j [])) (sym (replies_of_phases-at (opening t.setup) t.phases k))
