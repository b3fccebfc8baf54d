-- Each operation takes at most one serial, and a give or a freeze none.
use Rattle.std.proofs.Common.{ℕ, zero, suc, ◌+◌, ◌^◌, ◌<◌, ◌≤◌, List, [], ◌∷◌, length, get_or, take, ap, arith}
use Rattle.std.specs.Prelude.{sum_by}
use Rattle.std.specs.List.{AllByRecursion}
use Rattle.std.proofs.lemmas.List.{length-take}
use Rattle.std.proofs.lemmas.List.Sums.{sum_by-cons}
use Rattle.bc_model.specs.Consistent.{IsState}
use Rattle.bc_model.specs.StateSizes.{HasSerials, sizes_of}
use Rattle.bc_model.specs.Lists.{PhaseLists, TraceLists}
use Rattle.bc_model.specs.Run.{opening, after_ops, after_lanes, after_changes, after_phase, after_phases, cut_lanes, no_phase, phase_at, before, after_cut}
use Rattle.bc_model.specs.RunLengths.{ops_of, all_ops_of}
use Rattle.bc_model.specs.State.{State, made_by, changed}
use Rattle.bc_model.specs.Step.{step}
use Rattle.bc_model.specs.WellFormed.{IsOp, IsPhase, IsTrace}
use Rattle.bc_model.specs.declared.operations.Op.{Op}
use Rattle.bc_model.specs.declared.traces.Change.{Change}
use Rattle.bc_model.specs.declared.traces.Setup.{Setup}
use Rattle.bc_model.proofs.Callers.{IsPhase-from_setup}
use Rattle.bc_model.proofs.InOrder.{IsState-after_ops, SameSizes-after_ops, FitLanes-same}
use Rattle.bc_model.proofs.Openings.{IsState-opening, HasSizes-opening, HasSerials-opening}
use Rattle.bc_model.proofs.RunStates.{OfSetup, OfSetup-after_phase, OfSetup-before, fits-cut, length-cut_lanes, lanes-fit}
use Rattle.bc_model.proofs.States.{only-changed}
use Rattle.bc_model.proofs.Steps.{made-step, SameSizes-step, IsState-step, IsOps-same}

pub HasSerials-less : (m n : ℕ) (s : State) → m ≤ n → HasSerials n s → HasSerials m s
HasSerials-less m n s less h = record { below = λ j. omega (arith, h.below j) }

pub HasSerials-step : (n : ℕ) (s : State) (j : ℕ) (o : Op) → IsState s → j < length s.made → IsOp (sizes_of s) o → HasSerials (suc n) s → HasSerials n (step s j o).0
HasSerials-step n s j o hs lane fits h = record { below = λ i. omega (arith, made-step s j o i hs lane fits, h.below i) }

pub HasSerials-after_ops : (n : ℕ) (s : State) (j : ℕ) (ops : List Op) → IsState s → j < length s.made → AllByRecursion (IsOp (sizes_of s)) ops → HasSerials (n + length ops) s → HasSerials n (after_ops s j ops)
unfolding after_ops
HasSerials-after_ops n s j [] hs lane fits h = HasSerials-less n (n + 0) s (omega arith) h
HasSerials-after_ops n s j (o ∷ ops) hs lane fits h =
    let same = SameSizes-step s j o hs fits.0 in
    HasSerials-after_ops n (step s j o).0 j ops (IsState-step s j o hs lane fits.0) (omega (arith, lane, same.lanes)) (IsOps-same s (step s j o).0 ops same fits.1)
    (HasSerials-step (n + length ops) s j o hs lane fits.0 (HasSerials-less (suc (n + length ops)) (n + suc (length ops)) s (omega arith) h))

pub HasSerials-after_lanes : (n : ℕ) (s : State) (j : ℕ) (lanes : List (List Op)) → IsState s → j + length lanes ≤ length s.made → AllByRecursion (AllByRecursion (IsOp (sizes_of s))) lanes → HasSerials (n + sum_by length lanes) s → HasSerials n (after_lanes s j lanes)
unfolding after_lanes
HasSerials-after_lanes n s j [] hs few fits h = HasSerials-less n (n + 0) s (omega arith) h
HasSerials-after_lanes n s j (ops ∷ lanes) hs few fits h =
    let lane : j < length s.made = omega arith in
    let same = SameSizes-after_ops s j ops hs lane fits.0 in
    HasSerials-after_lanes n (after_ops s j ops) (j + 1) lanes (IsState-after_ops s j ops hs lane fits.0) (omega (arith, few, same.lanes)) (FitLanes-same s (after_ops s j ops) lanes same fits.1)
    (HasSerials-after_ops (n + sum_by length lanes) s j ops hs lane fits.0
    (HasSerials-less (n + sum_by length lanes + length ops) (n + sum_by length (ops ∷ lanes)) s (omega (arith, sum_by-cons length ops lanes)) h))

pub HasSerials-after_changes : (n : ℕ) (s : State) (gives : List Change) → HasSerials n s → HasSerials n (after_changes s gives)
unfolding after_changes
HasSerials-after_changes n s [] h = h
HasSerials-after_changes n s (g ∷ gives) h = HasSerials-after_changes n (changed s g) gives
    (record { below = λ j. omega (arith, h.below j, ap (λ (x : State). length (made_by x.made j)) (only-changed s g)) })

pub HasSerials-after_phase : (n : ℕ) (s : State) (p : PhaseLists) → IsState s → IsPhase (sizes_of s) p → HasSerials (n + ops_of p) s → HasSerials n (after_phase s p)
HasSerials-after_phase n s p hs fits h =
    HasSerials-after_changes n (after_lanes s 0 p.lanes) p.gives (HasSerials-after_lanes n s 0 p.lanes hs (omega (arith, fits.lanes)) fits.ops h)

-- what the first k phases leave is enough for phase k
HasSerials-after_phases : (setup : Setup) (s : State) (k : ℕ) (phases : List PhaseLists) → OfSetup setup s → AllByRecursion (IsPhase setup) phases → HasSerials (sum_by ops_of phases) s
    → HasSerials (ops_of (get_or phases k no_phase)) (after_phases s (take k phases))
unfolding after_phases
HasSerials-after_phases setup s zero [] of fits h = h
HasSerials-after_phases setup s (suc k) [] of fits h = h
HasSerials-after_phases setup s zero (p ∷ phases) of fits h =
    HasSerials-less (ops_of p) (sum_by ops_of (p ∷ phases)) s (omega (arith, sum_by-cons ops_of p phases)) h
HasSerials-after_phases setup s (suc k) (p ∷ phases) of fits h =
    HasSerials-after_phases setup (after_phase s p) k phases (OfSetup-after_phase setup s p of fits.0) fits.1
    (HasSerials-after_phase (sum_by ops_of phases) s p of.state (IsPhase-from_setup setup s p of.sizes fits.0)
    (HasSerials-less (sum_by ops_of phases + ops_of p) (sum_by ops_of (p ∷ phases)) s (omega (arith, sum_by-cons ops_of p phases)) h))

-- a cut has no more operations than the lanes
ops-cut : (cut : List ℕ) (lanes : List (List Op)) → sum_by length (cut_lanes cut lanes) ≤ sum_by length lanes
unfolding cut_lanes
ops-cut cut [] = omega arith
ops-cut [] (ops ∷ lanes) = omega (arith, ops-cut [] lanes, sum_by-cons length [] (cut_lanes [] lanes), sum_by-cons length ops lanes)
ops-cut (n ∷ cut) (ops ∷ lanes) =
    omega (arith, ops-cut cut lanes, length-take n ops, sum_by-cons length (take n ops) (cut_lanes cut lanes), sum_by-cons length ops lanes)

-- at a cut of a run every serial is below 2 ^ 32
pub HasSerials-after_cut : (t : TraceLists) (k : ℕ) (cut : List ℕ) → IsTrace t → all_ops_of t < 2 ^ 32 → HasSerials 0 (after_cut t k cut)
HasSerials-after_cut t k cut h few =
    let start = OfSetup-before t k h in
    let fit = lanes-fit t k (before t k) h start.sizes in
    let lanes = (phase_at t k).lanes in
    let left : HasSerials (ops_of (phase_at t k)) (before t k) =
    HasSerials-after_phases t.setup (opening t.setup) k t.phases (record { state = IsState-opening t.setup h.setup; sizes = HasSizes-opening t.setup }) h.phases
    (HasSerials-opening t.setup (all_ops_of t) few) in
    HasSerials-after_lanes 0 (before t k) 0 (cut_lanes cut lanes) start.state (omega (arith, fit.0, length-cut_lanes cut lanes)) (fits-cut (IsOp (sizes_of (before t k))) cut lanes fit.1)
    (HasSerials-less (0 + sum_by length (cut_lanes cut lanes)) (ops_of (phase_at t k)) (before t k) (omega (arith, ops-cut cut lanes)) left)
