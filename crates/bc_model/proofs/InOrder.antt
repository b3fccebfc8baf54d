-- Lane after lane: each lane runs as if it were alone.
use Rattle.std.proofs.Common.{◌≡◌, ◌≢◌, ℕ, ◌+◌, ◌<◌, ◌≤◌, zero, suc, List, [], ◌∷◌, length, get_or, refl, sym, ap, subst, ◌∙◌, arith}
use Rattle.std.specs.List.{AllByRecursion}
use Rattle.bc_model.specs.Consistent.{IsState}
use Rattle.bc_model.specs.StateSizes.{sizes_of}
use Rattle.bc_model.specs.Interleaving.{LaneOp, after_steps, FitSteps}
use Rattle.bc_model.specs.Run.{after_ops, replies_to, after_lanes, replies_to_lanes}
use Rattle.bc_model.specs.State.{State}
use Rattle.bc_model.specs.Step.{step}
use Rattle.bc_model.specs.WellFormed.{IsOp}
use Rattle.bc_model.specs.declared.operations.Op.{Op}
use Rattle.bc_model.specs.declared.operations.Reply.{Reply}
use Rattle.bc_model.specs.declared.traces.Setup.{Setup}
use Rattle.bc_model.proofs.Effects.{Agrees}
use Rattle.bc_model.proofs.Orders.{Agrees-other_step, Agrees-own_step, reply-own_step, FitSteps-step, SameSizes-agreeing}
use Rattle.bc_model.proofs.Steps.{SameSizes, SameSizes-itself, SameSizes-then, SameSizes-step, sizes_of-same, IsState-step, IsOp-same, IsOps-same}

-- after a lane's operations
pub IsState-after_ops : (s : State) (j : ℕ) (ops : List Op) → IsState s → j < length s.made → AllByRecursion (IsOp (sizes_of s)) ops → IsState (after_ops s j ops)
unfolding after_ops
IsState-after_ops s j [] hs lane fits = hs
IsState-after_ops s j (o ∷ ops) hs lane fits =
    let same = SameSizes-step s j o hs fits.0 in
    IsState-after_ops (step s j o).0 j ops (IsState-step s j o hs lane fits.0) (omega (arith, lane, same.lanes)) (IsOps-same s (step s j o).0 ops same fits.1)

pub SameSizes-after_ops : (s : State) (j : ℕ) (ops : List Op) → IsState s → j < length s.made → AllByRecursion (IsOp (sizes_of s)) ops → SameSizes s (after_ops s j ops)
unfolding after_ops
SameSizes-after_ops s j [] hs lane fits = SameSizes-itself s
SameSizes-after_ops s j (o ∷ ops) hs lane fits =
    let same = SameSizes-step s j o hs fits.0 in
    SameSizes-then s (step s j o).0 (after_ops (step s j o).0 j ops) same
    (SameSizes-after_ops (step s j o).0 j ops (IsState-step s j o hs lane fits.0) (omega (arith, lane, same.lanes)) (IsOps-same s (step s j o).0 ops same fits.1))

Agrees-other_ops : (k j : ℕ) (a b : State) (ops : List Op) → Agrees k a b → IsState b → j ≢ k → j < length b.made → AllByRecursion (IsOp (sizes_of b)) ops → Agrees k a (after_ops b j ops)
unfolding after_ops
Agrees-other_ops k j a b [] h hb ne lane fits = h
Agrees-other_ops k j a b (o ∷ ops) h hb ne lane fits =
    let same = SameSizes-step b j o hb fits.0 in
    Agrees-other_ops k j a (step b j o).0 ops (Agrees-other_step k j a b o h hb ne lane fits.0) (IsState-step b j o hb lane fits.0) ne (omega (arith, lane, same.lanes)) (IsOps-same b (step b j o).0 ops same fits.1)

Agrees-own_ops : (k : ℕ) (a b : State) (ops : List Op) → Agrees k a b → IsState a → IsState b → k < length a.made → AllByRecursion (IsOp (sizes_of a)) ops → Agrees k (after_ops a k ops) (after_ops b k ops) × (replies_to b k ops ≡ replies_to a k ops)
unfolding after_ops replies_to
Agrees-own_ops k a b [] h ha hb lane fits = (h, refl)
Agrees-own_ops k a b (o ∷ ops) h ha hb lane fits =
    let same = SameSizes-step a k o ha fits.0 in
    let fits-b : IsOp (sizes_of b) o = IsOp-same a b o (record { width = h.width; holders = h.holders; lanes = h.lanes }) fits.0 in
    let rest = Agrees-own_ops k (step a k o).0 (step b k o).0 ops (Agrees-own_step k a b o h ha hb lane fits.0) (IsState-step a k o ha lane fits.0) (IsState-step b k o hb (omega (arith, lane, h.lanes)) fits-b) (omega (arith, lane, same.lanes)) (IsOps-same a (step a k o).0 ops same fits.1) in
    (rest.0, ap (λ (r : Reply). r ∷ replies_to (step b k o).0 k ops) (reply-own_step k a b o h ha fits.0) ∙ ap (λ (rs : List Reply). (step a k o).1 ∷ rs) rest.1)

-- the lists of all lanes fit a state of the same sizes
pub FitLanes-same : (s t : State) (lanes : List (List Op)) → SameSizes s t → AllByRecursion (AllByRecursion (IsOp (sizes_of s))) lanes → AllByRecursion (AllByRecursion (IsOp (sizes_of t))) lanes
FitLanes-same s t lanes same h = subst (λ (z : Setup). AllByRecursion (AllByRecursion (IsOp z)) lanes) (sym (sizes_of-same s t same)) h

-- after the operations of the lanes from j on
pub IsState-after_lanes : (s : State) (j : ℕ) (lanes : List (List Op)) → IsState s → j + length lanes ≤ length s.made → AllByRecursion (AllByRecursion (IsOp (sizes_of s))) lanes → IsState (after_lanes s j lanes)
unfolding after_lanes
IsState-after_lanes s j [] hs few fits = hs
IsState-after_lanes s j (ops ∷ lanes) hs few fits =
    let lane : j < length s.made = omega arith in
    let same = SameSizes-after_ops s j ops hs lane fits.0 in
    IsState-after_lanes (after_ops s j ops) (j + 1) lanes (IsState-after_ops s j ops hs lane fits.0) (omega (arith, few, same.lanes)) (FitLanes-same s (after_ops s j ops) lanes same fits.1)

Agrees-other_lanes : (k j : ℕ) (a b : State) (lanes : List (List Op)) → k < j → Agrees k a b → IsState b → j + length lanes ≤ length b.made → AllByRecursion (AllByRecursion (IsOp (sizes_of b))) lanes → Agrees k a (after_lanes b j lanes)
unfolding after_lanes
Agrees-other_lanes k j a b [] less h hb few fits = h
Agrees-other_lanes k j a b (ops ∷ lanes) less h hb few fits =
    let lane : j < length b.made = omega arith in
    let ne : j ≢ k = omega arith in
    let same = SameSizes-after_ops b j ops hb lane fits.0 in
    Agrees-other_lanes k (j + 1) a (after_ops b j ops) lanes (omega arith) (Agrees-other_ops k j a b ops h hb ne lane fits.0) (IsState-after_ops b j ops hb lane fits.0) (omega (arith, few, same.lanes)) (FitLanes-same b (after_ops b j ops) lanes same fits.1)

-- lane k's part after all, and what it was answered
pub record AloneInOrder (k i j : ℕ) (a b : State) (lanes : List (List Op)) : Type 0 where
  pub part : Agrees k (after_ops a k (get_or lanes i [])) (after_lanes b j lanes)
  pub replies : get_or (replies_to_lanes b j lanes) i [] ≡ replies_to a k (get_or lanes i [])

pub AloneInOrder-lanes : (k i j : ℕ) (a b : State) (lanes : List (List Op)) → k ≡ j + i → i < length lanes → Agrees k a b → IsState a → IsState b → j + length lanes ≤ length b.made → AllByRecursion (AllByRecursion (IsOp (sizes_of b))) lanes → AloneInOrder k i j a b lanes
unfolding after_lanes replies_to_lanes
AloneInOrder-lanes k i j a b [] at within h ha hb few fits = absurd (omega arith)
AloneInOrder-lanes k zero j a b (ops ∷ lanes) at within h ha hb few fits =
    let is : k ≡ j = omega arith in
    let lane : k < length b.made = omega arith in
    let lane-a : k < length a.made = omega (arith, lane, h.lanes) in
    let fits-a = IsOps-same b a ops (SameSizes-agreeing k a b h) fits.0 in
    let own = Agrees-own_ops k a b ops h ha hb lane-a fits-a in
    let same = SameSizes-after_ops b k ops hb lane fits.0 in
    record {
      part =
          subst (λ (l : ℕ). Agrees k (after_ops a k ops) (after_lanes (after_ops b l ops) (l + 1) lanes)) is
          (Agrees-other_lanes k (k + 1) (after_ops a k ops) (after_ops b k ops) lanes (omega arith) own.0 (IsState-after_ops b k ops hb lane fits.0) (omega (arith, few, is, same.lanes)) (FitLanes-same b (after_ops b k ops) lanes same fits.1));
      replies = ap (λ (l : ℕ). replies_to b l ops) (sym is) ∙ own.1;
    }
AloneInOrder-lanes k (suc i) j a b (ops ∷ lanes) at within h ha hb few fits =
    let lane : j < length b.made = omega arith in
    let ne : j ≢ k = omega arith in
    let same = SameSizes-after_ops b j ops hb lane fits.0 in
    let rest = AloneInOrder-lanes k i (j + 1) a (after_ops b j ops) lanes (omega arith) (omega arith) (Agrees-other_ops k j a b ops h hb ne lane fits.0) ha (IsState-after_ops b j ops hb lane fits.0) (omega (arith, few, same.lanes)) (FitLanes-same b (after_ops b j ops) lanes same fits.1) in
    record { part = rest.part; replies = rest.replies }

-- the state after steps in any order is one
pub IsState-after_steps : (s : State) (xs : List LaneOp) → IsState s → FitSteps s xs → IsState (after_steps s xs)
unfolding after_steps
IsState-after_steps s [] hs fits = hs
IsState-after_steps s (x ∷ xs) hs fits =
    IsState-after_steps (step s x.lane x.op).0 xs (IsState-step s x.lane x.op hs fits.0.0 fits.0.1) (FitSteps-step s x.lane x.op xs hs fits.0.1 fits.1)
