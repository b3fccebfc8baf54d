-- The law of any order, and that two steps commute.
use Rattle.std.proofs.Common.{◌≡◌, ◌≢◌, ℕ, ◌+◌, ◌<◌, ◌≤◌, Bool, true, false, cond, ◌==◌, List, [], ◌∷◌, length, get_or, map, refl, sym, ap, subst, ◌∙◌, inl, inr, arith, eqb-true, eq-eqb, eq-zero-or-pos}
use Rattle.std.specs.List.{AllByRecursion, filter}
use Rattle.bc_model.specs.Consistent.{IsState}
use Rattle.bc_model.specs.StateSizes.{sizes_of}
use Rattle.bc_model.specs.Interleaving.{LaneOp, after_steps, ops_by, FitSteps, IsInterleaving, IsAsInOrder, Commute}
use Rattle.bc_model.specs.Run.{after_ops, replies_to, after_lanes}
use Rattle.bc_model.specs.State.{State}
use Rattle.bc_model.specs.Step.{step}
use Rattle.bc_model.specs.WellFormed.{IsOp}
use Rattle.bc_model.specs.declared.operations.Op.{Op}
use Rattle.bc_model.proofs.Effects.{Agrees, Agrees-itself}
use Rattle.bc_model.proofs.InOrder.{AloneInOrder, AloneInOrder-lanes, IsState-after_lanes, IsState-after_steps, SameSizes-after_ops}
use Rattle.bc_model.proofs.Orders.{Alone, Alone-steps, Agrees-other_step, reply-own_step}
use Rattle.bc_model.proofs.Runs.{at-index}
use Rattle.bc_model.proofs.SameParts.{same_parts}
use Rattle.bc_model.proofs.Steps.{SameSizes-step, IsState-step, IsOp-same}

-- what is among a lane's operations before one more step is among them after it
ops_by-rest : (P : Op → Type 0) (j : ℕ) (x : LaneOp) (xs : List LaneOp) (t : Bool) → AllByRecursion P (map (λ (y : LaneOp). y.op) (cond t (x ∷ filter (λ (y : LaneOp). y.lane == j) xs) (filter (λ (y : LaneOp). y.lane == j) xs))) → AllByRecursion P (ops_by j xs)
ops_by-rest P j x xs true h = h.1
ops_by-rest P j x xs false h = h

-- the steps fit, where the operations of each lane do
fit_steps : (n : ℕ) (P : Op → Type 0) (xs : List LaneOp) → AllByRecursion (λ (x : LaneOp). x.lane < n) xs → ((j : ℕ) → j < n → AllByRecursion P (ops_by j xs)) → AllByRecursion (λ (x : LaneOp). (x.lane < n) × P x.op) xs
fit_steps n P [] below h = tt
fit_steps n P (x ∷ xs) below h =
    let first = subst (λ (t : Bool). AllByRecursion P (map (λ (y : LaneOp). y.op) (cond t (x ∷ filter (λ (y : LaneOp). y.lane == x.lane) xs) (filter (λ (y : LaneOp). y.lane == x.lane) xs)))) (eq-eqb x.lane x.lane refl) (h x.lane below.0) in
    ((below.0, first.0), fit_steps n P xs below.1 (λ j within. ops_by-rest P j x xs (x.lane == j) (h j within)))

FitSteps-interleaving : (s : State) (lanes : List (List Op)) (xs : List LaneOp) → IsInterleaving s lanes xs → FitSteps s xs
FitSteps-interleaving s lanes xs h =
    fit_steps (length s.made) (IsOp (sizes_of s)) xs h.below (λ j within.
    let inside : j < length lanes = omega (arith, within, h.each) in
    subst (λ (ops : List Op). AllByRecursion (IsOp (sizes_of s)) ops) (sym (h.ops j inside))
    (at-index (AllByRecursion (IsOp (sizes_of s))) lanes j [] h.fits inside))

-- with no lane there is no step
as_none : (s : State) (lanes : List (List Op)) (xs : List LaneOp) → length s.made ≡ 0 → IsInterleaving s lanes xs → IsAsInOrder s lanes xs
unfolding after_lanes after_steps
as_none s [] [] none h = record { state = refl; replies = λ j within. absurd (omega arith) }
as_none s [] (x ∷ xs) none h = absurd (omega (arith, h.below.0, none))
as_none s (ops ∷ lanes) xs none h = absurd (omega (arith, h.each, none))

as_some : (s : State) (lanes : List (List Op)) (xs : List LaneOp) → 0 < length s.made → IsState s → IsInterleaving s lanes xs → IsAsInOrder s lanes xs
as_some s lanes xs some hs h =
    let fits = FitSteps-interleaving s lanes xs h in
    let few : 0 + length lanes ≤ length s.made = omega (arith, h.each) in
    let alone : ℕ → State = λ k. after_ops s k (get_or lanes k []) in
    let in_steps : (k : ℕ) → k < length s.made → Alone k s s xs = λ k lane. Alone-steps k s s xs (Agrees-itself k s) hs hs lane fits in
    let in_order : (k : ℕ) → k < length s.made → AloneInOrder k k 0 s s lanes = λ k lane. AloneInOrder-lanes k k 0 s s lanes (omega arith) (omega (arith, lane, h.each)) (Agrees-itself k s) hs hs few h.fits in
    let by_steps : (k : ℕ) → k < length s.made → Agrees k (alone k) (after_steps s xs) = λ k lane.
    subst (λ (ops : List Op). Agrees k (after_ops s k ops) (after_steps s xs)) (h.ops k (omega (arith, lane, h.each))) (in_steps k lane).part in
    let inside : 0 < length lanes = omega (arith, some, h.each) in
    let sized = SameSizes-after_ops s 0 (get_or lanes 0 []) hs some (at-index (AllByRecursion (IsOp (sizes_of s))) lanes 0 [] h.fits inside) in
    let long : length (after_steps s xs).made ≡ length s.made = (by_steps 0 some).lanes ∙ sized.lanes in
    let long' : length (after_lanes s 0 lanes).made ≡ length s.made = (in_order 0 some).part.lanes ∙ sized.lanes in
    record {
      state = same_parts alone (after_steps s xs) (after_lanes s 0 lanes) (omega (arith, some, long)) (long ∙ sym long')
          (λ k lane. by_steps k (omega (arith, lane, long)))
          (λ k lane. (in_order k (omega (arith, lane, long))).part)
          (IsState-after_steps s xs hs fits)
          (IsState-after_lanes s 0 lanes hs few h.fits);
      replies = λ k within.
          let lane : k < length s.made = omega (arith, within, h.each) in
          (in_steps k lane).replies ∙ ap (replies_to s k) (h.ops k within) ∙ sym (in_order k lane).replies;
    }

pub as_in_order : (s : State) (lanes : List (List Op)) (xs : List LaneOp) → IsState s → IsInterleaving s lanes xs → IsAsInOrder s lanes xs
as_in_order s lanes xs hs h =
    elim (eq-zero-or-pos (length s.made)) [ inl none ↦ as_none s lanes xs none h | inr some ↦ as_some s lanes xs some hs h ]

-- one step of another lane, seen as two steps
two_steps : (s : State) (x y : LaneOp) → after_steps s (x ∷ y ∷ []) ≡ (step (step s x.lane x.op).0 y.lane y.op).0
unfolding after_steps
two_steps s x y = refl

-- two operations of two lanes, by lane: the same in either order
ops_by-swap : (i : ℕ) (x y : LaneOp) → x.lane ≢ y.lane → ops_by i (x ∷ y ∷ []) ≡ ops_by i (y ∷ x ∷ [])
ops_by-swap i x y ne = go (x.lane == i) (y.lane == i) refl refl
  where
    go : (a b : Bool) → (x.lane == i) ≡ a → (y.lane == i) ≡ b → map (λ (z : LaneOp). z.op) (cond a (x ∷ cond b (y ∷ []) []) (cond b (y ∷ []) [])) ≡ map (λ (z : LaneOp). z.op) (cond b (y ∷ cond a (x ∷ []) []) (cond a (x ∷ []) []))
    go true true p q = absurd (ne (eqb-true x.lane i p ∙ sym (eqb-true y.lane i q)))
    go true false p q = refl
    go false true p q = refl
    go false false p q = refl

pub commute : (s : State) (j k : ℕ) (o p : Op) → IsState s → j < length s.made → k < length s.made → j ≢ k → IsOp (sizes_of s) o → IsOp (sizes_of s) p → Commute s j o k p
commute s j k o p hs lane-j lane-k ne fits-o fits-p =
    let x : LaneOp = record { lane = j; op = o } in
    let y : LaneOp = record { lane = k; op = p } in
    let ne' : k ≢ j = λ e. ne (sym e) in
    let fits-xy : FitSteps s (x ∷ y ∷ []) = ((lane-j, fits-o), ((lane-k, fits-p), tt)) in
    let fits-yx : FitSteps s (y ∷ x ∷ []) = ((lane-k, fits-p), ((lane-j, fits-o), tt)) in
    let alone : ℕ → State = λ i. after_ops s i (ops_by i (x ∷ y ∷ [])) in
    let xy : (i : ℕ) → i < length s.made → Agrees i (alone i) (after_steps s (x ∷ y ∷ [])) = λ i lane.
    (Alone-steps i s s (x ∷ y ∷ []) (Agrees-itself i s) hs hs lane fits-xy).part in
    let yx : (i : ℕ) → i < length s.made → Agrees i (alone i) (after_steps s (y ∷ x ∷ [])) = λ i lane.
    subst (λ (ops : List Op). Agrees i (after_ops s i ops) (after_steps s (y ∷ x ∷ []))) (sym (ops_by-swap i x y ne))
    (Alone-steps i s s (y ∷ x ∷ []) (Agrees-itself i s) hs hs lane fits-yx).part in
    let same-o = SameSizes-step s j o hs fits-o in
    let same-p = SameSizes-step s k p hs fits-p in
    let st = (step s j o).0 in
    let su = (step s k p).0 in
    let fits-p' = IsOp-same s st p same-o fits-p in
    let fits-o' = IsOp-same s su o same-p fits-o in
    let long : length (after_steps s (x ∷ y ∷ [])).made ≡ length s.made =
    ap (λ (u : State). length u.made) (two_steps s x y) ∙ (SameSizes-step st k p (IsState-step s j o hs lane-j fits-o) fits-p').lanes ∙ same-o.lanes in
    let long' : length (after_steps s (y ∷ x ∷ [])).made ≡ length s.made =
    ap (λ (u : State). length u.made) (two_steps s y x) ∙ (SameSizes-step su j o (IsState-step s k p hs lane-k fits-p) fits-o').lanes ∙ same-p.lanes in
    record {
      state =
          sym (two_steps s x y)
          ∙ same_parts alone (after_steps s (x ∷ y ∷ [])) (after_steps s (y ∷ x ∷ [])) (omega (arith, lane-j, long)) (long ∙ sym long')
          (λ i lane. xy i (omega (arith, lane, long)))
          (λ i lane. yx i (omega (arith, lane, long)))
          (IsState-after_steps s (x ∷ y ∷ []) hs fits-xy)
          (IsState-after_steps s (y ∷ x ∷ []) hs fits-yx)
          ∙ two_steps s y x;
      first = reply-own_step j s su o (Agrees-other_step j k s s p (Agrees-itself j s) hs ne' lane-k fits-p) hs fits-o;
      second = reply-own_step k s st p (Agrees-other_step k j s s o (Agrees-itself k s) hs ne lane-j fits-o) hs fits-p;
    }
