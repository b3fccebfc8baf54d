-- Steps of several lanes in any order: each lane runs as if it were alone, and the state is the same in every order.
use Rattle.std.proofs.Common.{◌≡◌, ◌≢◌, ℕ, ◌<◌, Bool, true, false, cond, ◌==◌, if◌then◌else◌, List, [], ◌∷◌, length, map, refl, sym, ap, subst, ◌∙◌, arith, eqb-true, eq-eqb}
use Rattle.std.specs.List.{AllByRecursion, filter}
use Rattle.bc_model.specs.Consistent.{IsState}
use Rattle.bc_model.specs.StateSizes.{sizes_of}
use Rattle.bc_model.specs.Interleaving.{LaneOp, after_steps, replies_by, ops_by, FitSteps}
use Rattle.bc_model.specs.Run.{after_ops, replies_to}
use Rattle.bc_model.specs.State.{State}
use Rattle.bc_model.specs.Step.{step}
use Rattle.bc_model.specs.WellFormed.{IsOp}
use Rattle.bc_model.specs.declared.operations.Op.{Op}
use Rattle.bc_model.specs.declared.operations.Reply.{Reply}
use Rattle.bc_model.specs.declared.traces.Setup.{Setup}
use Rattle.bc_model.proofs.Agreeing.{Agrees-then, other-effect, own-effect}
use Rattle.bc_model.proofs.Effects.{Agrees, after_effect, Does-step, Same-step}
use Rattle.bc_model.proofs.Steps.{SameSizes, SameSizes-step, sizes_of-same, IsState-step, IsOp-same}

-- another lane's step leaves lane k's part
pub Agrees-other_step : (k j : ℕ) (a b : State) (o : Op) → Agrees k a b → IsState b → j ≢ k → j < length b.made → IsOp (sizes_of b) o → Agrees k a (step b j o).0
Agrees-other_step k j a b o h hb ne lane fits =
    let does = Does-step b j o hb fits in
    subst (λ (t : State). Agrees k a t) (sym does.state)
    (Agrees-then k a b (after_effect b j does.effect) h (other-effect k j b does.effect ne lane does.own))

-- lane k's own step changes both alike, with one reply
pub Agrees-own_step : (k : ℕ) (a b : State) (o : Op) → Agrees k a b → IsState a → IsState b → k < length a.made → IsOp (sizes_of a) o → Agrees k (step a k o).0 (step b k o).0
Agrees-own_step k a b o h ha hb lane fits =
    let same = Same-step k a b o h ha fits in
    subst (λ (t : State). Agrees k t (step b k o).0) (sym (ap (λ (x : State × Reply). x.0) same.here))
    (subst (λ (t : State). Agrees k (after_effect a k same.effect) t) (sym (ap (λ (x : State × Reply). x.0) same.there))
    (own-effect k a b same.effect h ha hb lane same.own))

pub reply-own_step : (k : ℕ) (a b : State) (o : Op) → Agrees k a b → IsState a → IsOp (sizes_of a) o → (step b k o).1 ≡ (step a k o).1
reply-own_step k a b o h ha fits =
    let same = Same-step k a b o h ha fits in
    ap (λ (x : State × Reply). x.1) same.there ∙ sym (ap (λ (x : State × Reply). x.1) same.here)

-- states of one lane's part have one size
pub SameSizes-agreeing : (k : ℕ) (a b : State) → Agrees k a b → SameSizes b a
SameSizes-agreeing k a b h = record { width = sym h.width; holders = sym h.holders; lanes = sym h.lanes }

pub FitSteps-step : (s : State) (j : ℕ) (o : Op) (xs : List LaneOp) → IsState s → IsOp (sizes_of s) o → FitSteps s xs → FitSteps (step s j o).0 xs
FitSteps-step s j o xs hs fits h =
    let same = SameSizes-step s j o hs fits in
    subst (λ (n : ℕ). AllByRecursion (λ (x : LaneOp). (x.lane < n) × IsOp (sizes_of (step s j o).0) x.op) xs) (sym same.lanes)
    (subst (λ (z : Setup). AllByRecursion (λ (x : LaneOp). (x.lane < length s.made) × IsOp z x.op) xs) (sym (sizes_of-same s (step s j o).0 same)) h)

-- after steps of all lanes, lane k's part is what its own operations alone leave, and it got their replies
pub record Alone (k : ℕ) (a b : State) (xs : List LaneOp) : Type 0 where
  pub part : Agrees k (after_ops a k (ops_by k xs)) (after_steps b xs)
  pub replies : replies_by b k xs ≡ replies_to a k (ops_by k xs)

-- one step more, the lane's own or another's
Alone-more : (k : ℕ) (a b : State) (x : LaneOp) (xs : List LaneOp) (t : Bool) → (x.lane == k) ≡ t → (t ≡ true → Alone k (step a k x.op).0 (step b k x.op).0 xs) → (t ≡ true → (step b k x.op).1 ≡ (step a k x.op).1) → (t ≡ false → Alone k a (step b x.lane x.op).0 xs) → Alone k a b (x ∷ xs)
unfolding after_ops after_steps replies_by replies_to
Alone-more k a b x xs true e own reply other =
    let is : x.lane ≡ k = eqb-true x.lane k e in
    let rest = own refl in
    let ops = ap (λ (t : Bool). map (λ (y : LaneOp). y.op) (cond t (x ∷ filter (λ (y : LaneOp). y.lane == k) xs) (filter (λ (y : LaneOp). y.lane == k) xs))) e in
    record {
      part =
          subst (λ (os : List Op). Agrees k (after_ops a k os) (after_steps b (x ∷ xs))) (sym ops)
          (subst (λ (l : ℕ). Agrees k (after_ops (step a k x.op).0 k (ops_by k xs)) (after_steps (step b l x.op).0 xs)) (sym is) rest.part);
      replies =
          ap (λ (t : Bool). if t then (step b x.lane x.op).1 ∷ replies_by (step b x.lane x.op).0 k xs else replies_by (step b x.lane x.op).0 k xs) e
          ∙ ap (λ (l : ℕ). (step b l x.op).1 ∷ replies_by (step b l x.op).0 k xs) is
          ∙ ap (λ (r : Reply). r ∷ replies_by (step b k x.op).0 k xs) (reply refl)
          ∙ ap (λ (rs : List Reply). (step a k x.op).1 ∷ rs) rest.replies
          ∙ sym (ap (replies_to a k) ops);
    }
Alone-more k a b x xs false e own reply other =
    let rest = other refl in
    let ops = ap (λ (t : Bool). map (λ (y : LaneOp). y.op) (cond t (x ∷ filter (λ (y : LaneOp). y.lane == k) xs) (filter (λ (y : LaneOp). y.lane == k) xs))) e in
    record {
      part = subst (λ (os : List Op). Agrees k (after_ops a k os) (after_steps b (x ∷ xs))) (sym ops) rest.part;
      replies =
          ap (λ (t : Bool). if t then (step b x.lane x.op).1 ∷ replies_by (step b x.lane x.op).0 k xs else replies_by (step b x.lane x.op).0 k xs) e
          ∙ rest.replies ∙ sym (ap (replies_to a k) ops);
    }

pub Alone-steps : (k : ℕ) (a b : State) (xs : List LaneOp) → Agrees k a b → IsState a → IsState b → k < length a.made → FitSteps b xs → Alone k a b xs
unfolding after_ops after_steps replies_by replies_to
Alone-steps k a b [] h ha hb lane fits = record { part = h; replies = refl }
Alone-steps k a b (x ∷ xs) h ha hb lane fits =
    let fits-a : IsOp (sizes_of a) x.op = IsOp-same b a x.op (SameSizes-agreeing k a b h) fits.0.1 in
    let lane-b : k < length b.made = omega (arith, lane, h.lanes) in
    Alone-more k a b x xs (x.lane == k) refl
    (λ e.
    let is : x.lane ≡ k = eqb-true x.lane k e in
    Alone-steps k (step a k x.op).0 (step b k x.op).0 xs
    (Agrees-own_step k a b x.op h ha hb lane fits-a)
    (IsState-step a k x.op ha lane fits-a)
    (IsState-step b k x.op hb lane-b fits.0.1)
    (omega (arith, lane, (SameSizes-step a k x.op ha fits-a).lanes))
    (FitSteps-step b k x.op xs hb fits.0.1 fits.1))
    (λ e. reply-own_step k a b x.op h ha fits-a)
    (λ e.
    let ne : x.lane ≢ k = λ is. false_true (sym e ∙ eq-eqb x.lane k is) in
    Alone-steps k a (step b x.lane x.op).0 xs
    (Agrees-other_step k x.lane a b x.op h hb ne fits.0.0 fits.0.1)
    ha
    (IsState-step b x.lane x.op hb fits.0.0 fits.0.1)
    lane
    (FitSteps-step b x.lane x.op xs hb fits.0.1 fits.1))
  where
    false_true : false ≡ true → ⊥
    false_true p = cc
