-- The states of phases that are run one after another, from a state that has their setup's sizes and room for their births.
use Rattle.std.proofs.Common.{ℕ, zero, suc, ◌+◌, ◌^◌, ◌<◌, ◌≤◌, List, [], ◌∷◌, length, get_or, take, arith}
use Rattle.std.specs.Prelude.{sum_by}
use Rattle.std.specs.List.{AllByRecursion}
use Rattle.std.proofs.lemmas.List.{length-take}
use Rattle.std.proofs.lemmas.List.Sums.{sum_by-cons}
use Rattle.bc_model.specs.Consistent.{IsState}
use Rattle.bc_model.specs.StateSizes.{HasSerials, sizes_of}
use Rattle.bc_model.specs.Lists.{PhaseLists, TraceLists}
use Rattle.bc_model.specs.Run.{opening, after_lanes, after_phase, after_phases, cut_lanes, no_phase, replies_to_lanes}
use Rattle.bc_model.specs.RunLengths.{ops_of, all_ops_of}
use Rattle.bc_model.specs.State.{State}
use Rattle.bc_model.specs.WellFormed.{IsOp, IsPhase, IsTrace}
use Rattle.bc_model.specs.declared.operations.Op.{Op}
use Rattle.bc_model.specs.declared.traces.Setup.{Setup}
use Rattle.bc_model.proofs.Callers.{IsPhase-from_setup}
use Rattle.bc_model.proofs.InOrder.{IsState-after_lanes}
use Rattle.bc_model.proofs.Openings.{IsState-opening, HasSizes-opening, HasSerials-opening}
use Rattle.bc_model.proofs.RunStates.{OfSetup, OfSetup-after_phase, fits-cut, length-cut_lanes}
use Rattle.bc_model.proofs.Serials.{HasSerials-less, HasSerials-after_lanes, HasSerials-after_phase}
use Rattle.bc_trace.proofs.Fitting.{AreShort, short-lanes}

-- these phases can be run from the state: it has the sizes of their setup, and each lane can make an object with each operation
pub record CanRun (setup : Setup) (s : State) (phases : List PhaseLists) : Type 0 where
  pub state : OfSetup setup s
  pub fits : AllByRecursion (IsPhase setup) phases
  pub births : HasSerials (sum_by ops_of phases) s

-- all phases of a trace can be run from its opening state
pub can-open : (t : TraceLists) → IsTrace t → all_ops_of t < 2 ^ 32 → CanRun t.setup (opening t.setup) t.phases
can-open t h few = record {
  state = record { state = IsState-opening t.setup h.setup; sizes = HasSizes-opening t.setup };
  fits = h.phases;
  births = HasSerials-opening t.setup (all_ops_of t) few;
}

can-next : (setup : Setup) (s : State) (p : PhaseLists) (phases : List PhaseLists) → CanRun setup s (p ∷ phases) → CanRun setup (after_phase s p) phases
can-next setup s p phases h = record {
  state = OfSetup-after_phase setup s p h.state h.fits.0;
  fits = h.fits.1;
  births = HasSerials-after_phase (sum_by ops_of phases) s p h.state.state (IsPhase-from_setup setup s p h.state.sizes h.fits.0)
      (HasSerials-less (sum_by ops_of phases + ops_of p) (sum_by ops_of (p ∷ phases)) s (omega (arith, sum_by-cons ops_of p phases)) h.births);
}

-- a cut has no more operations than the lanes
ops-cut : (cut : List ℕ) (lanes : List (List Op)) → sum_by length (cut_lanes cut lanes) ≤ sum_by length lanes
unfolding cut_lanes
ops-cut cut [] = omega arith
ops-cut [] (ops ∷ lanes) = omega (arith, ops-cut [] lanes, sum_by-cons length [] (cut_lanes [] lanes), sum_by-cons length ops lanes)
ops-cut (n ∷ cut) (ops ∷ lanes) =
    omega (arith, ops-cut cut lanes, length-take n ops, sum_by-cons length (take n ops) (cut_lanes cut lanes), sum_by-cons length ops lanes)

births-cut : (setup : Setup) (s : State) (p : PhaseLists) (phases : List PhaseLists) (cut : List ℕ) → CanRun setup s (p ∷ phases) → HasSerials (0 + sum_by length (cut_lanes cut p.lanes)) s
births-cut setup s p phases cut h =
    HasSerials-less (0 + sum_by length (cut_lanes cut p.lanes)) (sum_by ops_of (p ∷ phases)) s (omega (arith, ops-cut cut p.lanes, sum_by-cons ops_of p phases)) h.births

-- the replies of phase k up to a cut are short
pub short-cut : (setup : Setup) (s : State) (phases : List PhaseLists) (k : ℕ) (cut : List ℕ) → CanRun setup s phases → k < length phases
    → AreShort (replies_to_lanes (after_phases s (take k phases)) 0 (cut_lanes cut (get_or phases k no_phase).lanes))
unfolding after_phases
short-cut setup s [] k cut h lt = absurd (omega arith)
short-cut setup s (p ∷ phases) zero cut h lt =
    let here = IsPhase-from_setup setup s p h.state.sizes h.fits.0 in
    short-lanes s 0 (cut_lanes cut p.lanes) h.state.state (omega (arith, here.lanes, length-cut_lanes cut p.lanes)) (fits-cut (IsOp (sizes_of s)) cut p.lanes here.ops)
    (HasSerials-less (sum_by length (cut_lanes cut p.lanes)) (0 + sum_by length (cut_lanes cut p.lanes)) s (omega arith) (births-cut setup s p phases cut h))
short-cut setup s (p ∷ phases) (suc k) cut h lt = short-cut setup (after_phase s p) phases k cut (can-next setup s p phases h) (omega arith)

-- the state at a cut of phase k
pub record IsCutState (s : State) : Type 0 where
  pub state : IsState s
  pub births : HasSerials 0 s

pub state-cut : (setup : Setup) (s : State) (phases : List PhaseLists) (k : ℕ) (cut : List ℕ) → CanRun setup s phases → k < length phases
    → IsCutState (after_lanes (after_phases s (take k phases)) 0 (cut_lanes cut (get_or phases k no_phase).lanes))
unfolding after_phases
state-cut setup s [] k cut h lt = absurd (omega arith)
state-cut setup s (p ∷ phases) zero cut h lt =
    let here = IsPhase-from_setup setup s p h.state.sizes h.fits.0 in
    let few : 0 + length (cut_lanes cut p.lanes) ≤ length s.made = omega (arith, here.lanes, length-cut_lanes cut p.lanes) in
    let fits = fits-cut (IsOp (sizes_of s)) cut p.lanes here.ops in
    record {
      state = IsState-after_lanes s 0 (cut_lanes cut p.lanes) h.state.state few fits;
      births = HasSerials-after_lanes 0 s 0 (cut_lanes cut p.lanes) h.state.state few fits (births-cut setup s p phases cut h);
    }
state-cut setup s (p ∷ phases) (suc k) cut h lt = state-cut setup (after_phase s p) phases k cut (can-next setup s p phases h) (omega arith)
