-- The trace of `churn` is well formed.
use Rattle.std.proofs.Common.{ℕ, ◌^◌, ◌<◌, ◌≤◌, if◌then◌else◌, List, [], ◌∷◌, map, Bool, true, false, zero, suc, refl, inr, arith}
use Rattle.std.specs.List.{flat_map, AllByRecursion, filter}
use Rattle.bc_model.specs.State.{holder_of, lets_write, numbers_below}
use Rattle.bc_model.specs.Lists.{PhaseLists}
use Rattle.bc_model.specs.WellFormed.{IsTrace, IsKnown, FitsFrames, IsPhase, IsSetup, IsOp, IsTurn}
use Rattle.bc_model.specs.declared.operations.Op.TheVariants as ops
use Rattle.bc_model.specs.declared.values.Holder.{Holder}
use Rattle.bc_model.proofs.RunStates.{all-append}
use Rattle.bc_trace.specs.declared.words.Verb.{Verb}
use Rattle.bc_trace.specs.declared.words.Verb.TheVariants as verbs
use Rattle.bc_churn.specs.Draws.{draw, number_after, drawn_with, drawn_op, number_after_ops}
use Rattle.bc_churn.specs.Churn.{churn_setup, drawn_turn, number_before_lane, drawn_ops, held_below, domain_clears, clears_below, lane_clears, churn_lane, phase_from, phases_of, churn_phase, churn_trace}
use Rattle.bc_trace.proofs.Fitting.{all-weaker}

pub draw-below : (x m : ℕ) → 0 < m → draw x m < m
unfolding draw
draw-below x m h = omega (arith, h)

-- ---- what holds of all of a list

pub all-map : {X Y : Type 0} (P : Y → Type 0) (f : X → Y) (xs : List X) → AllByRecursion (λ x. P (f x)) xs → AllByRecursion P (map f xs)
all-map P f [] h = tt
all-map P f (x ∷ xs) h = (h.0, all-map P f xs h.1)

pub all-flat : {X Y : Type 0} (P : Y → Type 0) (f : X → List Y) (xs : List X) → AllByRecursion (λ x. AllByRecursion P (f x)) xs → AllByRecursion P (flat_map f xs)
all-flat P f [] h = tt
all-flat P f (x ∷ xs) h = all-append P (f x) (flat_map f xs) h.0 (all-flat P f xs h.1)

all-if : {X : Type 0} (P : X → Type 0) (b : Bool) (x : X) (xs : List X) → P x → AllByRecursion P xs → AllByRecursion P (if b then x ∷ xs else xs)
all-if P true x xs h k = (h, k)
all-if P false x xs h k = k

pub all-filter : {X : Type 0} (P : X → Type 0) (test : X → Bool) (xs : List X) → AllByRecursion P xs → AllByRecursion P (filter test xs)
all-filter P test [] h = tt
all-filter P test (x ∷ xs) h = all-if P (test x) x (filter test xs) h.0 (all-filter P test xs h.1)

pub all-of : {X : Type 0} (P : X → Type 0) (xs : List X) → ((x : X) → P x) → AllByRecursion P xs
all-of P [] h = tt
all-of P (x ∷ xs) h = (h x, all-of P xs h)

pub all-below : (n m : ℕ) → n ≤ m → AllByRecursion (λ i. i < m) (numbers_below n)
all-below zero m h = tt
all-below (suc n) m h = all-append (λ i. i < m) (numbers_below n) (n ∷ []) (all-below n m (omega (arith, h))) (omega (arith, h), tt)

-- ---- operations

pub drawn-formed : (v : Verb) (x : ℕ) → IsOp churn_setup (drawn_with v x)
unfolding drawn_with
drawn-formed verbs.New x = ((draw-below _ 4 (omega arith), draw-below _ 8 (omega arith)), omega (arith, draw-below (number_after 2 x) 8 (omega arith)))
drawn-formed verbs.Who x = (draw-below _ 4 (omega arith), draw-below _ 8 (omega arith))
drawn-formed verbs.Len x = (draw-below _ 4 (omega arith), draw-below _ 8 (omega arith))
drawn-formed verbs.Set x = ((draw-below _ 4 (omega arith), draw-below _ 8 (omega arith)), omega (arith, draw-below (number_after 2 x) 4 (omega arith)), omega (arith, draw-below (number_after 3 x) 1000 (omega arith)))
drawn-formed verbs.Cut x = ((draw-below _ 4 (omega arith), draw-below _ 8 (omega arith)), omega (arith, draw-below (number_after 2 x) 4 (omega arith)))
drawn-formed verbs.Link x = ((draw-below _ 4 (omega arith), draw-below _ 8 (omega arith)), omega (arith, draw-below (number_after 2 x) 4 (omega arith)), (draw-below _ 4 (omega arith), draw-below _ 8 (omega arith)))
drawn-formed verbs.Load x = ((draw-below _ 4 (omega arith), draw-below _ 8 (omega arith)), omega (arith, draw-below (number_after 2 x) 4 (omega arith)), (draw-below _ 4 (omega arith), draw-below _ 8 (omega arith)))
drawn-formed verbs.Copy x = ((draw-below _ 4 (omega arith), draw-below _ 8 (omega arith)), (draw-below _ 4 (omega arith), draw-below _ 8 (omega arith)))
drawn-formed verbs.Clear x = (draw-below _ 4 (omega arith), draw-below _ 8 (omega arith))
drawn-formed verbs.Same x = ((draw-below _ 4 (omega arith), draw-below _ 8 (omega arith)), (draw-below _ 4 (omega arith), draw-below _ 8 (omega arith)))

pub clears-formed : (holders : List Holder) (j n : ℕ) → n ≤ 4 → AllByRecursion (IsOp churn_setup) (clears_below holders j n)
unfolding clears_below domain_clears
clears-formed holders j n h =
    all-flat (IsOp churn_setup) domain_clears (held_below holders j n)
    (all-weaker (λ d. d < 4) (λ d. AllByRecursion (IsOp churn_setup) (domain_clears d)) (held_below holders j n)
    (λ d low. all-map (IsOp churn_setup) (λ s. ops.Clear (record { domain = d; slot = s })) (numbers_below 8)
    (all-weaker (λ (s : ℕ). s < 8) (λ s. IsOp churn_setup (ops.Clear (record { domain = d; slot = s }))) (numbers_below 8) (λ s below. (low, below)) (all-below 8 8 (omega arith))))
    (all-filter (λ d. d < 4) (λ d. lets_write (holder_of holders d) j) (numbers_below n) (all-below n 4 h)))

lane-formed : (n x : ℕ) (holders : List Holder) (j : ℕ) → AllByRecursion (IsOp churn_setup) (churn_lane n x holders j)
lane-formed n x holders j =
    all-append (IsOp churn_setup) (lane_clears holders j) (drawn_ops n (number_before_lane n x j)) (clears-formed holders j 4 (omega arith))
    (all-map (IsOp churn_setup) (λ i. drawn_op (number_after_ops i (number_before_lane n x j))) (numbers_below n)
    (all-of _ (numbers_below n) (λ i. drawn-formed _ _)))

-- ---- phases

hints-formed : (x : ℕ) → IsTurn (drawn_turn x)
hints-formed x =
    let low : (y : ℕ) → draw y 128 < 2 ^ 32 = λ y. omega (arith, draw-below y 128 (omega arith)) in
    (omega arith, (low _, (low _, (low _, tt))))

phase-formed : (k n x : ℕ) (holders : List Holder) → IsPhase churn_setup (phase_from k n x holders)
unfolding phase_from
phase-formed k n x holders = record {
  turns = (hints-formed _, (hints-formed _, tt));
  lanes = refl;
  ops = (lane-formed n x holders 0, (lane-formed n x holders 1, tt));
  gives = ((omega arith, draw-below _ 2 (omega arith)), tt);
}

phase-known : (k n x : ℕ) (holders : List Holder) → IsKnown 1 (phase_from k n x holders)
unfolding phase_from
phase-known k n x holders = record { turns = (inr refl, (inr refl, tt)); gives = (tt, tt) }

phase-budgets : (k n x : ℕ) (holders : List Holder) → AllByRecursion (FitsFrames churn_setup) (phase_from k n x holders).turns
unfolding phase_from
phase-budgets k n x holders = (omega arith, (omega arith, tt))

setup-formed : IsSetup churn_setup
setup-formed = record {
  lanes = (omega arith, omega arith);
  domains = (omega arith, omega arith);
  slots = (omega arith, omega arith);
  superpages = (omega arith, omega arith);
  nursery = (omega arith, omega arith);
  buffer = (omega arith, omega arith);
  frames = (omega arith, omega arith);
}

pub churn-formed : (start ops : ℕ) → IsTrace (churn_trace start ops)
unfolding churn_trace
churn-formed start ops = record {
  version = (omega arith, omega arith);
  known = all-map (IsKnown 1) (churn_phase start ops) (numbers_below (phases_of ops)) (all-of _ (numbers_below (phases_of ops)) (λ k. phase-known k _ _ _));
  budgets = all-map (λ (p : PhaseLists). AllByRecursion (FitsFrames churn_setup) p.turns) (churn_phase start ops) (numbers_below (phases_of ops)) (all-of _ (numbers_below (phases_of ops)) (λ k. phase-budgets k _ _ _));
  setup = setup-formed;
  phases = all-map (IsPhase churn_setup) (churn_phase start ops) (numbers_below (phases_of ops)) (all-of _ (numbers_below (phases_of ops)) (λ k. phase-formed k _ _ _));
}
