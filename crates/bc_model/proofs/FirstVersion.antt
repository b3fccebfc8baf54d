-- In a run of a trace of version 1 no domain is ever frozen.
use Rattle.std.proofs.Common.{◌≡◌, ℕ, ◌≤◌, zero, suc, List, [], ◌∷◌, length, map, take, refl, sym, ap, subst, ◌∙◌, arith, ◌+◌, ◌%◌}
use Rattle.std.specs.List.{AllByRecursion}
use Rattle.bc_model.specs.Lists.{PhaseLists, TraceLists}
use Rattle.bc_model.specs.Run.{opening, after_ops, after_lanes, after_changes, after_phase, after_phases, before, after_cut, cut_lanes, phase_at}
use Rattle.bc_model.specs.State.{State, changed, NoneFrozen, numbers_below}
use Rattle.bc_model.specs.Step.{step}
use Rattle.bc_model.specs.WellFormed.{FitsChange, KnowsChange, IsKnown, IsPhase, IsTrace}
use Rattle.bc_model.specs.declared.operations.Op.{Op}
use Rattle.bc_model.specs.declared.traces.Change.{Change}
use Rattle.bc_model.specs.declared.traces.Change.TheVariants as change
use Rattle.bc_model.specs.declared.traces.Setup.{Setup}
use Rattle.bc_model.specs.declared.values.Holder.TheVariants.{Lane, Frozen}
use Rattle.bc_model.proofs.Changes.{rest-stays}
use Rattle.bc_model.proofs.Holders.{NoneFrozen-set}
use Rattle.bc_model.proofs.RunStates.{OfSetup, OfSetup-after_phase}
use Rattle.bc_model.proofs.Openings.{IsState-opening, HasSizes-opening}
use Rattle.bc_model.proofs.States.{length-changed}

-- where lanes hold all domains, none is frozen
pub NoneFrozen-lanes : (lane : ℕ → ℕ) (ds : List ℕ) → NoneFrozen (map (λ d. Lane (lane d)) ds)
NoneFrozen-lanes lane [] d within e = absurd (omega arith)
NoneFrozen-lanes lane (x ∷ ds) zero within e = absurd (let h : Lane (lane x) ≡ Frozen = e in cc)
NoneFrozen-lanes lane (x ∷ ds) (suc d) within e = NoneFrozen-lanes lane ds d (omega arith) e

-- operations change no holder
holders-after_ops : (s : State) (j : ℕ) (ops : List Op) → (after_ops s j ops).holders ≡ s.holders
unfolding after_ops
holders-after_ops s j [] = refl
holders-after_ops s j (o ∷ ops) = holders-after_ops (step s j o).0 j ops ∙ (rest-stays s j o).holders

pub holders-after_lanes : (s : State) (j : ℕ) (lanes : List (List Op)) → (after_lanes s j lanes).holders ≡ s.holders
unfolding after_lanes
holders-after_lanes s j [] = refl
holders-after_lanes s j (ops ∷ lanes) = holders-after_lanes (after_ops s j ops) (j + 1) lanes ∙ holders-after_ops s j ops

-- nor does a change that version 1 has freeze one
NoneFrozen-changed : (s : State) (c : Change) (setup : Setup) → length s.holders ≡ setup.domains → FitsChange setup c → KnowsChange 1 c → NoneFrozen s.holders → NoneFrozen (changed s c).holders
NoneFrozen-changed s (change.Give g) setup long fits known none = NoneFrozen-set s.holders g.domain g.lane (let h = fits.0 in omega arith) none
NoneFrozen-changed s (change.Freeze d) setup long fits known none = absurd (let h : 2 ≤ 1 = known in omega arith)

NoneFrozen-after_changes : (setup : Setup) (s : State) (changes : List Change) → length s.holders ≡ setup.domains → AllByRecursion (FitsChange setup) changes → AllByRecursion (KnowsChange 1) changes → NoneFrozen s.holders → NoneFrozen (after_changes s changes).holders
unfolding after_changes
NoneFrozen-after_changes setup s [] long fits known none = none
NoneFrozen-after_changes setup s (c ∷ changes) long fits known none =
    NoneFrozen-after_changes setup (changed s c) changes (length-changed s c ∙ long) fits.1 known.1 (NoneFrozen-changed s c setup long fits.0 known.0 none)

NoneFrozen-after_phase : (setup : Setup) (s : State) (p : PhaseLists) → length s.holders ≡ setup.domains → IsPhase setup p → IsKnown 1 p → NoneFrozen s.holders → NoneFrozen (after_phase s p).holders
NoneFrozen-after_phase setup s p long fits known none =
    let same = holders-after_lanes s 0 p.lanes in
    NoneFrozen-after_changes setup (after_lanes s 0 p.lanes) p.gives (ap length same ∙ long) fits.gives known.gives (subst NoneFrozen (sym same) none)

NoneFrozen-after_phases : (setup : Setup) (s : State) (k : ℕ) (phases : List PhaseLists) → OfSetup setup s → AllByRecursion (IsPhase setup) phases → AllByRecursion (IsKnown 1) phases → NoneFrozen s.holders → NoneFrozen (after_phases s (take k phases)).holders
unfolding after_phases
NoneFrozen-after_phases setup s zero phases h fits known none = none
NoneFrozen-after_phases setup s (suc k) [] h fits known none = none
NoneFrozen-after_phases setup s (suc k) (p ∷ phases) h fits known none =
    NoneFrozen-after_phases setup (after_phase s p) k phases (OfSetup-after_phase setup s p h fits.0) fits.1 known.1 (NoneFrozen-after_phase setup s p h.sizes.domains fits.0 known.0 none)

pub NoneFrozen-before : (t : TraceLists) (k : ℕ) → IsTrace t → t.version ≡ 1 → NoneFrozen (before t k).holders
NoneFrozen-before t k h first =
    NoneFrozen-after_phases t.setup (opening t.setup) k t.phases (record { state = IsState-opening t.setup h.setup; sizes = HasSizes-opening t.setup })
    h.phases (subst (λ (v : ℕ). AllByRecursion (IsKnown v) t.phases) first h.known) (NoneFrozen-lanes (λ d. d % t.setup.lanes) (numbers_below t.setup.domains))

pub NoneFrozen-after_cut : (t : TraceLists) (k : ℕ) (cut : List ℕ) → IsTrace t → t.version ≡ 1 → NoneFrozen (after_cut t k cut).holders
NoneFrozen-after_cut t k cut h first =
    subst NoneFrozen (sym (holders-after_lanes (before t k) 0 (cut_lanes cut (phase_at t k).lanes))) (NoneFrozen-before t k h first)
