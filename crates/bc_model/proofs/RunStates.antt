-- Every state of a run of a well-formed trace is one: before each phase, and after any part of a phase.
use Rattle.std.proofs.Common.{◌≡◌, ℕ, ◌+◌, ◌<◌, ◌≤◌, zero, suc, List, [], ◌∷◌, length, take, refl, sym, ap, subst, ◌∙◌, inl, inr, arith, ◌++◌}
use Rattle.std.specs.List.{AllByRecursion}
use Rattle.std.proofs.lemmas.Bool.{cases_lt}
use Rattle.std.proofs.lemmas.List.{get_or_past}
use Rattle.bc_model.specs.Consistent.{IsState}
use Rattle.bc_model.specs.StateSizes.{HasSizes, sizes_of}
use Rattle.bc_model.specs.Lists.{PhaseLists, TraceLists}
use Rattle.bc_model.specs.Run.{opening, after_ops, after_lanes, after_changes, after_phase, after_phases, cut_lanes, no_phase, phase_at, before, after_cut}
use Rattle.bc_model.specs.State.{State, changed}
use Rattle.bc_model.specs.WellFormed.{IsOp, FitsChange, IsPhase, IsTrace}
use Rattle.bc_model.specs.declared.operations.Op.{Op}
use Rattle.bc_model.specs.declared.traces.Change.{Change}
use Rattle.bc_model.specs.declared.traces.Setup.{Setup}
use Rattle.bc_model.proofs.Callers.{IsPhase-from_setup}
use Rattle.bc_model.proofs.InOrder.{IsState-after_ops, SameSizes-after_ops, IsState-after_lanes, FitLanes-same}
use Rattle.bc_model.proofs.Openings.{IsState-opening, HasSizes-opening}
use Rattle.bc_model.proofs.Runs.{at-index}
use Rattle.bc_model.proofs.States.{IsState-changed, length-changed, only-changed}
use Rattle.bc_model.proofs.Steps.{SameSizes, SameSizes-itself, SameSizes-then}

SameSizes-after_lanes : (s : State) (j : ℕ) (lanes : List (List Op)) → IsState s → j + length lanes ≤ length s.made → AllByRecursion (AllByRecursion (IsOp (sizes_of s))) lanes → SameSizes s (after_lanes s j lanes)
unfolding after_lanes
SameSizes-after_lanes s j [] hs few fits = SameSizes-itself s
SameSizes-after_lanes s j (ops ∷ lanes) hs few fits =
    let lane : j < length s.made = omega arith in
    let same = SameSizes-after_ops s j ops hs lane fits.0 in
    SameSizes-then s (after_ops s j ops) _ same
    (SameSizes-after_lanes (after_ops s j ops) (j + 1) lanes (IsState-after_ops s j ops hs lane fits.0) (omega (arith, few, same.lanes)) (FitLanes-same s (after_ops s j ops) lanes same fits.1))

-- a state of a run of this setup
pub record OfSetup (setup : Setup) (s : State) : Type 0 where
  pub state : IsState s
  pub sizes : HasSizes setup s

OfSetup-same : (setup : Setup) (s t : State) → HasSizes setup s → SameSizes s t → IsState t → OfSetup setup t
OfSetup-same setup s t h same ht = record {
  state = ht;
  sizes = record { lanes = same.lanes ∙ h.lanes; domains = ap length same.holders ∙ h.domains; slots = same.width ∙ h.slots };
}

OfSetup-after_changes : (setup : Setup) (s : State) (gives : List Change) → OfSetup setup s → AllByRecursion (FitsChange setup) gives → OfSetup setup (after_changes s gives)
unfolding after_changes
OfSetup-after_changes setup s [] h fits = h
OfSetup-after_changes setup s (g ∷ gives) h fits =
    OfSetup-after_changes setup (changed s g) gives
    (record {
      state = IsState-changed setup s g h.state (sym h.sizes.lanes) fits.0;
      sizes = record {
        lanes = ap (λ (x : State). length x.made) (only-changed s g) ∙ h.sizes.lanes;
        domains = length-changed s g ∙ h.sizes.domains;
        slots = ap (λ (x : State). x.width) (only-changed s g) ∙ h.sizes.slots;
      };
    })
    fits.1

-- after some of the lanes' operations that fit
OfSetup-after_lanes : (setup : Setup) (s : State) (lanes : List (List Op)) → OfSetup setup s → length lanes ≤ length s.made → AllByRecursion (AllByRecursion (IsOp (sizes_of s))) lanes → OfSetup setup (after_lanes s 0 lanes)
OfSetup-after_lanes setup s lanes h few fits =
    let few' : 0 + length lanes ≤ length s.made = omega (arith, few) in
    OfSetup-same setup s (after_lanes s 0 lanes) h.sizes (SameSizes-after_lanes s 0 lanes h.state few' fits) (IsState-after_lanes s 0 lanes h.state few' fits)

pub OfSetup-after_phase : (setup : Setup) (s : State) (p : PhaseLists) → OfSetup setup s → IsPhase setup p → OfSetup setup (after_phase s p)
OfSetup-after_phase setup s p h fits =
    let here = IsPhase-from_setup setup s p h.sizes fits in
    OfSetup-after_changes setup (after_lanes s 0 p.lanes) p.gives
    (OfSetup-after_lanes setup s p.lanes h (omega (arith, here.lanes)) here.ops) fits.gives

OfSetup-after_phases : (setup : Setup) (s : State) (k : ℕ) (phases : List PhaseLists) → OfSetup setup s → AllByRecursion (IsPhase setup) phases → OfSetup setup (after_phases s (take k phases))
unfolding after_phases
OfSetup-after_phases setup s zero phases h fits = h
OfSetup-after_phases setup s (suc k) [] h fits = h
OfSetup-after_phases setup s (suc k) (p ∷ phases) h fits = OfSetup-after_phases setup (after_phase s p) k phases (OfSetup-after_phase setup s p h fits.0) fits.1

pub OfSetup-before : (t : TraceLists) (k : ℕ) → IsTrace t → OfSetup t.setup (before t k)
OfSetup-before t k h =
    OfSetup-after_phases t.setup (opening t.setup) k t.phases
    (record { state = IsState-opening t.setup h.setup; sizes = HasSizes-opening t.setup }) h.phases

-- what holds of all of two lists holds of all of the one after the other
pub all-append : {X : Type 0} (P : X → Type 0) (xs ys : List X) → AllByRecursion P xs → AllByRecursion P ys → AllByRecursion P (xs ++ ys)
all-append P [] ys h k = k
all-append P (x ∷ xs) ys h k = (h.0, all-append P xs ys h.1 k)

-- what holds of all operations of a list holds of those of its prefixes
pub all-take : (P : Op → Type 0) (n : ℕ) (ops : List Op) → AllByRecursion P ops → AllByRecursion P (take n ops)
all-take P zero ops h = tt
all-take P (suc n) [] h = tt
all-take P (suc n) (o ∷ ops) h = (h.0, all-take P n ops h.1)

pub fits-cut : (P : Op → Type 0) (cut : List ℕ) (lanes : List (List Op)) → AllByRecursion (AllByRecursion P) lanes → AllByRecursion (AllByRecursion P) (cut_lanes cut lanes)
unfolding cut_lanes
fits-cut P cut [] h = tt
fits-cut P [] (ops ∷ lanes) h = (tt, fits-cut P [] lanes h.1)
fits-cut P (n ∷ cut) (ops ∷ lanes) h = (all-take P n ops h.0, fits-cut P cut lanes h.1)

pub length-cut_lanes : (cut : List ℕ) (lanes : List (List Op)) → length (cut_lanes cut lanes) ≡ length lanes
unfolding cut_lanes
length-cut_lanes cut [] = refl
length-cut_lanes [] (ops ∷ lanes) = ap suc (length-cut_lanes [] lanes)
length-cut_lanes (n ∷ cut) (ops ∷ lanes) = ap suc (length-cut_lanes cut lanes)

-- the lanes of a phase, or of none
pub lanes-fit : (t : TraceLists) (k : ℕ) (s : State) → IsTrace t → HasSizes t.setup s → (length (phase_at t k).lanes ≤ length s.made) × AllByRecursion (AllByRecursion (IsOp (sizes_of s))) (phase_at t k).lanes
lanes-fit t k s h sizes =
    elim (cases_lt k (length t.phases)) [
      | inl within ↦
          let here = IsPhase-from_setup t.setup s (phase_at t k) sizes (at-index (IsPhase t.setup) t.phases k no_phase h.phases within) in
          (omega (arith, here.lanes), here.ops)
      | inr past ↦
          subst (λ (p : PhaseLists). (length p.lanes ≤ length s.made) × AllByRecursion (AllByRecursion (IsOp (sizes_of s))) p.lanes)
          (sym (get_or_past t.phases k no_phase past)) (omega arith, tt)
    ]

pub OfSetup-after_cut : (t : TraceLists) (k : ℕ) (cut : List ℕ) → IsTrace t → OfSetup t.setup (after_cut t k cut)
OfSetup-after_cut t k cut h =
    let start = OfSetup-before t k h in
    let fit = lanes-fit t k (before t k) h start.sizes in
    OfSetup-after_lanes t.setup (before t k) (cut_lanes cut (phase_at t k).lanes) start
    (omega (arith, fit.0, length-cut_lanes cut (phase_at t k).lanes))
    (fits-cut (IsOp (sizes_of (before t k))) cut (phase_at t k).lanes fit.1)
