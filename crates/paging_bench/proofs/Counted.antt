-- The longest lane of a phase, and the births that are left after it.
use Rattle.std.proofs.Common.{◌≡◌, ℕ, ◌+◌, ◌-◌, ◌<◌, ◌≤◌, inl, inr, List, [], length, get_or, Vec, Global, sym, ap, ◌∙◌, arith, subst}
use Rattle.std.specs.List.{AllByRecursion}
use Rattle.std.proofs.lemmas.Bool.{cases_lt}
use Rattle.std.proofs.lemmas.List.{get_or-map}
use Rattle.bc_engine.specs.Engines.{EngineView}
use Rattle.bc_engine.specs.EngineFacts.{HasRoomForBirths}
use Rattle.bc_engine.specs.Lanes.{of_lane, HasRoomForOps}
use Rattle.bc_model.specs.Lists.{PhaseLists, TraceLists}
use Rattle.bc_model.specs.Rows.{lists_of}
use Rattle.bc_model.specs.WellFormed.{FitsFrames, IsPhase, IsTrace}
use Rattle.bc_model.specs.declared.operations.Op.{Op}
use Rattle.bc_model.specs.declared.traces.Setup.{Setup}
use Rattle.bc_model.specs.Run.{no_phase}
use Rattle.std.proofs.lemmas.List.{get_or_read}
use Rattle.bc_model.proofs.Runs.{at-index}

-- the lane at the index is counted too
pub longest-more : (lanes : List (Vec Op Global)) (k : ℕ) (ops : Vec Op Global) (most more : ℕ) → ops ≡ get_or lanes k ops → k < length lanes
    → ((j : ℕ) → j < k → length (of_lane (lists_of lanes) j) ≤ most) → most ≤ more → length ops.items ≤ more
    → (j : ℕ) → j < k + 1 → length (of_lane (lists_of lanes) j) ≤ more
longest-more lanes k ops most more is within before up here j below = elim (cases_lt j k) [
  | inl lt ↦ omega (arith, before j lt, up)
  | inr past ↦
      let at : j ≡ k = omega (arith, below, past) in
      let same : of_lane (lists_of lanes) k ≡ ops.items = get_or-map (λ (v : Vec Op Global). v.items) lanes k ops [] within ∙ ap (λ (v : Vec Op Global). v.items) (sym is) in
      subst (λ (i : ℕ). length (of_lane (lists_of lanes) i) ≤ more) (sym at) (omega (arith, ap length same, here))
]

-- each lane has its operations' births, and so many more
pub room-behind : (e : EngineView) (lanes : List (List Op)) (left most : ℕ) → HasRoomForBirths e left → ((j : ℕ) → length (of_lane lanes j) ≤ most) → most ≤ left → HasRoomForOps e lanes (left - most)
room-behind e lanes left most births long within = λ j. omega (arith, births j, long j, within)

pub room-here : (e : EngineView) (lanes : List (List Op)) (left most : ℕ) → HasRoomForBirths e left → ((j : ℕ) → length (of_lane lanes j) ≤ most) → most ≤ left → HasRoomForOps e lanes 0
room-here e lanes left most births long within = λ j. omega (arith, births j, long j, within)

-- a phase read at an index of a trace is one of the trace's
read-at : (t : TraceLists) (ps : List PhaseLists) (k : ℕ) (p : PhaseLists) → ps ≡ t.phases → k < length t.phases → p ≡ get_or ps k p → get_or t.phases k no_phase ≡ p
read-at t ps k p same lt is = sym (get_or_read t.phases k p lt (subst (λ qs. p ≡ get_or qs k p) same is) no_phase)

-- the phase at an index of a trace fits the setup
pub phase-at : (t : TraceLists) (ps : List PhaseLists) (k : ℕ) (p : PhaseLists) (setup : Setup) → IsTrace t → ps ≡ t.phases → k < length t.phases → p ≡ get_or ps k p → setup ≡ t.setup → IsPhase setup p
phase-at t ps k p setup h same lt is setups =
    subst (λ (z : Setup). IsPhase z p) (sym setups) (subst (IsPhase t.setup) (read-at t ps k p same lt is) (at-index (IsPhase t.setup) t.phases k no_phase h.phases lt))

-- and none of its turns withholds more frames than can be
pub budgets-at : (t : TraceLists) (ps : List PhaseLists) (k : ℕ) (p : PhaseLists) (setup : Setup) → IsTrace t → ps ≡ t.phases → k < length t.phases → p ≡ get_or ps k p → setup ≡ t.setup → AllByRecursion (FitsFrames setup) p.turns
budgets-at t ps k p setup h same lt is setups =
    let Fits : PhaseLists → Type 0 = λ x. AllByRecursion (FitsFrames t.setup) x.turns in
    subst (λ (z : Setup). AllByRecursion (FitsFrames z) p.turns) (sym setups) (subst Fits (read-at t ps k p same lt is) (at-index Fits t.phases k no_phase h.budgets lt))
