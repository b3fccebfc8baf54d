-- Runs from two states that are alike as far as slots lead have the same replies, and end in states that are alike.
use Rattle.std.proofs.Common.{◌≡◌, ℕ, ◌+◌, ◌<◌, ◌≤◌, List, [], ◌∷◌, length, set, refl, ap, ap₂, arith}
use Rattle.std.specs.List.{AllByRecursion}
use Rattle.bc_model.specs.Consistent.{IsState}
use Rattle.bc_model.specs.Lists.{PhaseLists}
use Rattle.bc_model.specs.Resembles.{Resembles}
use Rattle.bc_model.specs.Run.{after_ops, after_lanes, after_changes, after_phase, after_phases, replies_to, replies_to_lanes, replies_of_phases}
use Rattle.bc_model.specs.State.{State, handed, changed}
use Rattle.bc_model.specs.StateSizes.{sizes_of}
use Rattle.bc_model.specs.Step.{step}
use Rattle.bc_model.specs.WellFormed.{IsOp, IsPhase}
use Rattle.bc_model.specs.declared.operations.Op.{Op}
use Rattle.bc_model.specs.declared.operations.Reply.{Reply}
use Rattle.bc_model.specs.declared.traces.Change.{Change}
use Rattle.bc_model.specs.declared.traces.Change.TheVariants as change
use Rattle.bc_model.specs.declared.traces.Setup.{Setup}
use Rattle.bc_model.specs.declared.values.Holder.{Holder}
use Rattle.bc_model.specs.declared.values.Holder.TheVariants.{Lane, Frozen}
use Rattle.bc_model.proofs.Callers.{IsPhase-from_setup}
use Rattle.bc_model.proofs.InOrder.{IsState-after_ops, SameSizes-after_ops, FitLanes-same}
use Rattle.bc_model.proofs.Resembling.{law-resembling}
use Rattle.bc_model.proofs.RunStates.{OfSetup, OfSetup-after_phase}
use Rattle.bc_model.proofs.Steps.{IsState-step, SameSizes-step, IsOps-same}

pub resembling-ops : (s t : State) (j : ℕ) (ops : List Op) → IsState s → j < length s.made → AllByRecursion (IsOp (sizes_of s)) ops → Resembles s t → Resembles (after_ops s j ops) (after_ops t j ops) × (replies_to t j ops ≡ replies_to s j ops)
unfolding after_ops replies_to
resembling-ops s t j [] is lane fits r = (r, refl)
resembling-ops s t j (o ∷ ops) is lane fits r =
    let one = law-resembling s t j o lane is r in
    let same = SameSizes-step s j o is fits.0 in
    let rest = resembling-ops (step s j o).0 (step t j o).0 j ops (IsState-step s j o is lane fits.0) (let e = same.lanes in omega arith) (IsOps-same s (step s j o).0 ops same fits.1) one.0 in
    (rest.0, ap₂ (λ (x : Reply) (xs : List Reply). x ∷ xs) one.1 rest.1)

pub resembling-lanes : (s t : State) (j : ℕ) (lanes : List (List Op)) → IsState s → j + length lanes ≤ length s.made → AllByRecursion (AllByRecursion (IsOp (sizes_of s))) lanes → Resembles s t → Resembles (after_lanes s j lanes) (after_lanes t j lanes) × (replies_to_lanes t j lanes ≡ replies_to_lanes s j lanes)
unfolding after_lanes replies_to_lanes
resembling-lanes s t j [] is few fits r = (r, refl)
resembling-lanes s t j (ops ∷ lanes) is few fits r =
    let lane : j < length s.made = omega arith in
    let one = resembling-ops s t j ops is lane fits.0 r in
    let same = SameSizes-after_ops s j ops is lane fits.0 in
    let rest = resembling-lanes (after_ops s j ops) (after_ops t j ops) (j + 1) lanes (IsState-after_ops s j ops is lane fits.0) (omega (arith, few, same.lanes)) (FitLanes-same s (after_ops s j ops) lanes same fits.1) one.0 in
    (rest.0, ap₂ (λ (x : List Reply) (xs : List (List Reply)). x ∷ xs) one.1 rest.1)

resembling-handed : (s t : State) (d : ℕ) (h : Holder) → Resembles s t → Resembles (handed s d h) (handed t d h)
resembling-handed s t d h r =
    record { width = r.width; slots = r.slots; holders = ap (λ (hs : List Holder). set hs d h) r.holders; objects = record { lanes = r.objects.lanes; next = r.objects.next; object = r.objects.object } }

resembling-changed : (s t : State) (c : Change) → Resembles s t → Resembles (changed s c) (changed t c)
resembling-changed s t (change.Give g) r = resembling-handed s t g.domain (Lane g.lane) r
resembling-changed s t (change.Freeze d) r = resembling-handed s t d Frozen r

pub resembling-changes : (s t : State) (changes : List Change) → Resembles s t → Resembles (after_changes s changes) (after_changes t changes)
unfolding after_changes
resembling-changes s t [] r = r
resembling-changes s t (c ∷ changes) r = resembling-changes (changed s c) (changed t c) changes (resembling-changed s t c r)

pub resembling-phase : (setup : Setup) (s t : State) (p : PhaseLists) → OfSetup setup s → IsPhase setup p → Resembles s t → Resembles (after_phase s p) (after_phase t p) × (replies_to_lanes t 0 p.lanes ≡ replies_to_lanes s 0 p.lanes)
resembling-phase setup s t p h fits r =
    let here = IsPhase-from_setup setup s p h.sizes fits in
    let lanes = resembling-lanes s t 0 p.lanes h.state (omega (arith, here.lanes)) here.ops r in
    (resembling-changes (after_lanes s 0 p.lanes) (after_lanes t 0 p.lanes) p.gives lanes.0, lanes.1)

pub resembling-phases : (setup : Setup) (s t : State) (phases : List PhaseLists) → OfSetup setup s → AllByRecursion (IsPhase setup) phases → Resembles s t → Resembles (after_phases s phases) (after_phases t phases) × (replies_of_phases t phases ≡ replies_of_phases s phases)
unfolding after_phases replies_of_phases
resembling-phases setup s t [] h fits r = (r, refl)
resembling-phases setup s t (p ∷ phases) h fits r =
    let one = resembling-phase setup s t p h fits.0 r in
    let rest = resembling-phases setup (after_phase s p) (after_phase t p) phases (OfSetup-after_phase setup s p h fits.0) fits.1 one.0 in
    (rest.0, ap₂ (λ (x : List (List Reply)) (xs : List (List (List Reply))). x ∷ xs) one.1 rest.1)
