-- Room for the texts of a phase, taken by its lanes and operations before it runs.
use Rattle.std.proofs.Common.{Vec, Global, ◌≡◌, ℕ, zero, suc, ◌+◌, ◌^◌, ◌<◌, ◌≤◌, List, [], ◌∷◌, length, take, get_or, Option, None, Some, refl, ap, arith}
use Rattle.std.specs.List.{sum_by}
use Rattle.std.proofs.lemmas.List.{get_or-map, length-map}
use Rattle.std.proofs.lemmas.List.Sums.{sum_by-cons, sum_by_more}
use Rattle.bc_engine.specs.Engines.{EngineView}
use Rattle.bc_model.specs.Lists.{PhaseLists, TraceLists}
use Rattle.bc_model.specs.Run.{after_ops, cut_lanes, replies_to, replies_to_lanes}
use Rattle.bc_model.specs.Run.{phase_at as phase_of}
use Rattle.bc_model.specs.Rows.{lists_of}
use Rattle.bc_model.specs.RunLengths.{ops_of}
use Rattle.bc_model.specs.State.{State}
use Rattle.bc_model.specs.Step.{step}
use Rattle.bc_model.specs.WellFormed.{IsPhase, IsTrace}
use Rattle.bc_model.specs.declared.operations.Op.{Op}
use Rattle.bc_model.specs.declared.operations.Reply.{Reply}
use Rattle.bc_model.proofs.RunStates.{length-cut_lanes}
use Rattle.bc_trace.specs.TextRooms.{phase_bytes}
use Rattle.bc_replay.specs.Courses.{Course, course_from, before, phase_at}
use Rattle.bc_replay.specs.BetweenPhases.{HasRun, Ran}
use Rattle.bc_replay.proofs.Running.{ops-left, phase-fits, phase-of, within-of}

-- ---- how many replies there are

lane-told : (s : State) (j : ℕ) (ops : List Op) → length (replies_to s j ops) ≡ length ops
unfolding replies_to
lane-told s j [] = refl
lane-told s j (o ∷ ops) = ap suc (lane-told (step s j o).0 j ops)

lanes-told : (s : State) (j : ℕ) (lanes : List (List Op)) → length (replies_to_lanes s j lanes) ≡ length lanes
unfolding replies_to_lanes
lanes-told s j [] = refl
lanes-told s j (ops ∷ lanes) = ap suc (lanes-told (after_ops s j ops) (j + 1) lanes)

all-told : (s : State) (j : ℕ) (lanes : List (List Op)) → sum_by length (replies_to_lanes s j lanes) ≡ sum_by length lanes
unfolding replies_to_lanes
all-told s j [] = refl
all-told s j (ops ∷ lanes) =
    omega (
      arith,
      lane-told s j ops,
      all-told (after_ops s j ops) (j + 1) lanes,
      sum_by-cons (length {A = Reply}) (replies_to s j ops) (replies_to_lanes (after_ops s j ops) (j + 1) lanes),
      sum_by-cons (length {A = Op}) ops lanes,
    )

front-few : (n : ℕ) (ops : List Op) → length (take n ops) ≤ length ops
front-few zero ops = omega arith
front-few (suc n) [] = omega arith
front-few (suc n) (o ∷ ops) = omega (arith, front-few n ops)

-- a cut has no more operations than the whole
cut-few : (cut : List ℕ) (lanes : List (List Op)) → sum_by length (cut_lanes cut lanes) ≤ sum_by length lanes
unfolding cut_lanes
cut-few cut [] = omega arith
cut-few [] (ops ∷ lanes) =
    omega (arith, cut-few [] lanes, sum_by-cons (length {A = Op}) [] (cut_lanes [] lanes), sum_by-cons (length {A = Op}) ops lanes)
cut-few (n ∷ cut) (ops ∷ lanes) =
    omega (arith, cut-few cut lanes, front-few n ops, sum_by-cons (length {A = Op}) (take n ops) (cut_lanes cut lanes), sum_by-cons (length {A = Op}) ops lanes)

-- the operations of one lane more
pub ops-more : (vs : List (Vec Op Global)) (i : ℕ) (v : Vec Op Global) → i < length vs → v ≡ get_or vs i v → sum_by length (take (i + 1) (lists_of vs)) ≡ sum_by length (take i (lists_of vs)) + length v.items
ops-more vs i v lt is =
    omega (
      arith,
      sum_by_more (length {A = Op}) (lists_of vs) i [] (omega (arith, lt, length-map vs (λ (w : Vec Op Global). w.items))),
      ap length (get_or-map (λ (w : Vec Op Global). w.items) vs i v [] lt),
      ap (λ (w : Vec Op Global). length w.items) is,
    )

-- ---- a phase of a trace

-- it has few lanes, and few operations
pub phase-few : (t : TraceLists) (s : State) (first k : ℕ) (e : EngineView) (p : PhaseLists) → IsTrace t → k + first < length t.phases → phase_of t (k + first) ≡ p → HasRun (course_from t s first) k e
    → (length p.lanes < 2 ^ 32) × (ops_of p < 2 ^ 32)
phase-few t s first k e p h lt at run =
    let fits : IsPhase t.setup p = phase-fits t (k + first) p t.setup h lt at refl in (
      omega (arith, fits.lanes, h.setup.lanes.1),
      omega (arith, run.births 0, ops-left (course_from t s first) k p (within-of t s first k lt) (phase-of t s first k p at)),
    )

-- the replies are those to its lanes, or to those of a cut
told-few : (t : Course) (k : ℕ) (e f : EngineView) (replies : List (List Reply)) (need : Option ℕ) → Ran t k e f replies need
    → (length replies ≡ length (phase_at t k).lanes) × (sum_by length replies ≤ ops_of (phase_at t k))
told-few t k e f replies None h =
    let s = before t k in
    let lanes = (phase_at t k).lanes in
    let is = (h.ended.stands s h.before.stands).0 in (
      omega (arith, ap length is, lanes-told s 0 lanes),
      omega (arith, ap (sum_by length) is, all-told s 0 lanes),
    )
told-few t k e f replies (Some n) h =
    let s = before t k in
    let lanes = (phase_at t k).lanes in
    let at = h.ended.stands s h.before.stands in
    let few = cut_lanes at.0 lanes in (
      omega (arith, ap length at.1, lanes-told s 0 few, length-cut_lanes at.0 lanes),
      omega (arith, ap (sum_by length) at.1, all-told s 0 few, cut-few at.0 lanes),
    )

-- the room that was taken is enough
pub texts-fit : (t : Course) (k : ℕ) (e f : EngineView) (p : PhaseLists) (replies : List (List Reply)) (need : Option ℕ) (room : ℕ) → phase_at t k ≡ p → Ran t k e f replies need
    → phase_bytes (length p.lanes) (ops_of p) ≤ room → phase_bytes (length replies) (sum_by length replies) ≤ room
texts-fit t k e f p replies need room at h wide =
    let few = told-few t k e f replies need h in
    omega (arith, few.0, few.1, wide, ap (λ (q : PhaseLists). length q.lanes) at, ap ops_of at)
