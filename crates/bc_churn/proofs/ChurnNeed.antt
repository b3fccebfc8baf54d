-- No state of the churn needs more than 27 superpages: what is reached was made in this phase or in the one before it.
use Rattle.std.proofs.Common.{◌≡◌, ℕ, ◌+◌, ◌-◌, ◌*◌, ◌/◌, ◌%◌, ◌<◌, ◌≤◌, List, [], ◌∷◌, ◌++◌, map, zero, suc, length, take, get_or, refl, sym, ap, subst, ◌∙◌, inl, inr, arith}
use Rattle.std.specs.List.{AllByRecursion}
use Rattle.std.proofs.lemmas.Bool.{cases_eq, cases_lt}
use Rattle.std.proofs.lemmas.List.{get_or_past, get_or-map, length-map, map-append, take_all, take-append-le}
use Rattle.bc_model.specs.Lists.{PhaseLists}
use Rattle.bc_model.specs.Need.{IsNeed, need_of, count_of}
use Rattle.bc_model.specs.Reached.{Holds, FieldHolds, Reached}
use Rattle.bc_model.specs.Run.{opening, after_lanes, after_changes, after_phase, after_phases, cut_lanes, no_phase, phase_at, before, after_cut, final_state}
use Rattle.bc_model.specs.State.{State, Object, IsBorn, made_by, no_object, place_of, given, holder_of, numbers_below}
use Rattle.bc_model.specs.WellFormed.{IsOp}
use Rattle.bc_model.specs.declared.operations.Op.{Op}
use Rattle.bc_model.specs.declared.operations.Op.TheVariants as op
use Rattle.bc_model.specs.declared.traces.Give.{Give}
use Rattle.bc_model.specs.declared.values.Birth.{Birth}
use Rattle.bc_model.specs.declared.values.Holder.{Holder}
use Rattle.bc_model.specs.declared.values.Holder.TheVariants.{Lane, Frozen}
use Rattle.bc_model.specs.declared.values.Slot.{Slot}
use Rattle.bc_model.specs.declared.values.Value.TheVariants.{Nil}
use Rattle.bc_model.proofs.NeedFound.{reached-born}
use Rattle.bc_model.proofs.Openings.{length-numbers_below, made_by-opening}
use Rattle.bc_model.proofs.RunStates.{OfSetup, OfSetup-before, OfSetup-after_cut, all-take, all-append}
use Rattle.bc_reach.proofs.Reaching.{Reach-least}
use Rattle.bc_trace.specs.declared.words.Verb.{Verb}
use Rattle.bc_trace.specs.declared.words.Verb.TheVariants as verbs
use Rattle.bc_churn.specs.Draws.{drawn_with, drawn_op, number_after_ops}
use Rattle.bc_churn.specs.Churn.{churn_setup, churn_lane, churn_phase, churn_trace, clears_below, domain_clears, drawn_ops, phase_give, held_below, holders_before, lane_clears, number_before, number_before_lane, ops_in, phase_from, phases_of}
use Rattle.bc_churn.proofs.Cleared.{InRange, IsOfTwo, news, phase-clean, lanes-clean, lanes-small, lanes-make, holders-lanes}
use Rattle.bc_churn.proofs.Counting.{numbers_below-at}
use Rattle.bc_churn.proofs.Drawing.{holders-suc}
use Rattle.bc_churn.proofs.Few.{InTwo, few-births, need-bound}
use Rattle.bc_churn.proofs.Formed.{all-flat, all-map, all-of, churn-formed, clears-formed, draw-below, drawn-formed}
use Rattle.bc_churn.proofs.Young.{AreSmall, Clean, IsSmallNew, Refers, Young, new_of, nil-at, set-either}

-- ---- the lanes of a phase

drawn-small : (v : Verb) (x : ℕ) → IsSmallNew (drawn_with v x)
unfolding drawn_with
drawn-small verbs.New x = draw-below _ 8 (omega arith)
drawn-small verbs.Who x = tt
drawn-small verbs.Len x = tt
drawn-small verbs.Set x = tt
drawn-small verbs.Cut x = tt
drawn-small verbs.Link x = tt
drawn-small verbs.Load x = tt
drawn-small verbs.Copy x = tt
drawn-small verbs.Clear x = tt
drawn-small verbs.Same x = tt

-- what holds of every clear holds of all of a lane's
all-clears : (P : Op → Type 0) → ((p : Slot) → P (op.Clear p)) → (holders : List Holder) (j n : ℕ) → AllByRecursion P (clears_below holders j n)
unfolding clears_below domain_clears
all-clears P h holders j n =
    all-flat P domain_clears (held_below holders j n) (all-of _ (held_below holders j n) (λ d.
    all-map P (λ t. op.Clear (record { domain = d; slot = t })) (numbers_below 8) (all-of _ (numbers_below 8) (λ t. h (record { domain = d; slot = t })))))

all-drawn : (P : Op → Type 0) → ((v : Verb) (x : ℕ) → P (drawn_with v x)) → (n x : ℕ) → AllByRecursion P (drawn_ops n x)
all-drawn P h n x = all-map P (λ i. drawn_op (number_after_ops i x)) (numbers_below n) (all-of _ (numbers_below n) (λ i. h _ _))

news-append : (xs ys : List Op) → news (xs ++ ys) ≡ news xs + news ys
news-append [] ys = omega arith
news-append (x ∷ xs) ys = omega (arith, news-append xs ys)

news-none : (xs : List Op) → AllByRecursion (λ o. new_of o ≡ 0) xs → news xs ≡ 0
news-none [] h = refl
news-none (x ∷ xs) h = omega (arith, h.0, news-none xs h.1)

new-few : (o : Op) → new_of o ≤ 1
new-few (op.New p n) = omega arith
new-few (op.Who p) = omega arith
new-few (op.Len p) = omega arith
new-few (op.Set p i v) = omega arith
new-few (op.Cut p i) = omega arith
new-few (op.Link p i q) = omega arith
new-few (op.Load p i q) = omega arith
new-few (op.Copy p q) = omega arith
new-few (op.Clear p) = omega arith
new-few (op.Same p q) = omega arith

news-few : (xs : List Op) → news xs ≤ length xs
news-few [] = omega arith
news-few (x ∷ xs) = omega (arith, new-few x, news-few xs)

news-take : (n : ℕ) (xs : List Op) → news (take n xs) ≤ news xs
news-take zero xs = omega arith
news-take (suc n) [] = omega arith
news-take (suc n) (x ∷ xs) = omega (arith, news-take n xs)

-- operations that the setup allows, and that make at most a thousand small objects
record IsWork (os : List Op) : Type 0 where
  fits : AllByRecursion (IsOp churn_setup) os
  small : AllByRecursion IsSmallNew os
  few : news os ≤ 1000

work-take : (n : ℕ) (os : List Op) → IsWork os → IsWork (take n os)
work-take n os h = record {
  fits = all-take (IsOp churn_setup) n os h.fits;
  small = all-take IsSmallNew n os h.small;
  few = omega (arith, news-take n os, h.few);
}

lane-work : (n x : ℕ) (holders : List Holder) (j : ℕ) → n ≤ 1000 → IsWork (churn_lane n x holders j)
lane-work n x holders j h =
    let y = number_before_lane n x j in
    record {
      fits = all-append (IsOp churn_setup) (lane_clears holders j) (drawn_ops n y) (clears-formed holders j 4 (omega arith)) (all-drawn (IsOp churn_setup) drawn-formed n y);
      small = all-append IsSmallNew (lane_clears holders j) (drawn_ops n y) (all-clears IsSmallNew (λ p. tt) holders j 4) (all-drawn IsSmallNew drawn-small n y);
      few = omega (
        arith,
        h,
        news-append (lane_clears holders j) (drawn_ops n y),
        news-none (lane_clears holders j) (all-clears (λ o. new_of o ≡ 0) (λ p. refl) holders j 4),
        news-few (drawn_ops n y),
        length-map (numbers_below n) (λ i. drawn_op (number_after_ops i y)),
        length-numbers_below n,
      );
    }

-- ---- the states before each phase

-- after one list of phases and then another
pub after_phases-append : (s : State) (ps qs : List PhaseLists) → after_phases s (ps ++ qs) ≡ after_phases (after_phases s ps) qs
unfolding after_phases
after_phases-append s [] qs = refl
after_phases-append s (p ∷ ps) qs = after_phases-append (after_phase s p) ps qs

state_before : ℕ → ℕ → ℕ → State
state_before start ops k = after_phases (opening churn_setup) (map (churn_phase start ops) (numbers_below k))

lane_of : ℕ → ℕ → ℕ → ℕ → List Op
lane_of start ops k j = churn_lane (ops_in ops k) (number_before start ops k) (holders_before start ops k) j

abbrev both_lanes : ℕ → ℕ → ℕ → List (List Op)
both_lanes start ops k = lane_of start ops k 0 ∷ lane_of start ops k 1 ∷ []

-- after the lanes of a phase there is one give
state-suc : (start ops k : ℕ) → state_before start ops (suc k) ≡ given (after_lanes (state_before start ops k) 0 (both_lanes start ops k)) (phase_give start ops k)
unfolding state_before after_phases phase_from after_changes lane_of
state-suc start ops k =
    ap (after_phases (opening churn_setup)) (map-append (churn_phase start ops) (numbers_below k) (k ∷ []))
    ∙ after_phases-append (opening churn_setup) (map (churn_phase start ops) (numbers_below k)) (churn_phase start ops k ∷ [])

work-of : (start ops k j : ℕ) → IsWork (lane_of start ops k j)
unfolding lane_of
work-of start ops k j = lane-work (ops_in ops k) (number_before start ops k) (holders_before start ops k) j (omega arith)

holders-of : (start ops k : ℕ) → (state_before start ops k).holders ≡ holders_before start ops k
unfolding state_before after_phases after_changes
holders-of start ops zero = refl
holders-of start ops (suc k) =
    ap (λ (s : State). s.holders) (state-suc start ops k)
    ∙ ap (λ (hs : List Holder). Rattle.std.proofs.Common.set hs (phase_give start ops k).domain (Lane (phase_give start ops k).lane)) (holders-lanes (state_before start ops k) (lane_of start ops k 0) (lane_of start ops k 1) ∙ holders-of start ops k)
    ∙ sym (holders-suc start ops k)

first-two : (d : ℕ) → d < 4 → IsOfTwo (get_or (Lane 0 ∷ Lane 1 ∷ Lane 0 ∷ Lane 1 ∷ []) d Frozen)
first-two zero h = inl refl
first-two (suc zero) h = inr refl
first-two (suc (suc zero)) h = inl refl
first-two (suc (suc (suc zero))) h = inr refl
first-two (suc (suc (suc (suc d)))) h = absurd (omega (arith, h))

one-of-two : (l : ℕ) → l < 2 → IsOfTwo (Lane l)
one-of-two zero h = inl refl
one-of-two (suc zero) h = inr refl
one-of-two (suc (suc l)) h = absurd (omega (arith, h))

pub holders-two : (start ops k d : ℕ) → d < 4 → IsOfTwo (holder_of (holders_before start ops k) d)
unfolding after_changes
holders-two start ops zero d h = first-two d h
holders-two start ops (suc k) d h =
    subst (λ (hs : List Holder). IsOfTwo (holder_of hs d)) (sym (holders-suc start ops k))
    (set-either IsOfTwo (holders_before start ops k) (phase_give start ops k).domain (Lane (phase_give start ops k).lane) d Frozen (λ _. one-of-two (phase_give start ops k).lane (draw-below _ 2 (omega arith))) (holders-two start ops k d h))

-- what there was at the begin of the phase before phase k
made_before : ℕ → ℕ → ℕ → List (List Object)
made_before start ops zero = (state_before start ops 0).made
made_before start ops (suc k) = (state_before start ops k).made

-- what is true in phase k with at most so many objects more than then
record IsRecent (start ops k most : ℕ) (s : State) : Type 0 where
  clean : Clean (made_before start ops k) InRange s
  small : AreSmall s
  made : (l : ℕ) → length (made_by s.made l) ≤ length (made_by (made_before start ops k) l) + most

opening-small : (start ops : ℕ) → AreSmall (state_before start ops 0)
unfolding state_before after_phases
opening-small start ops b = subst (λ (os : List Object). length (get_or os (b.serial - 1) no_object).fields < 8) (sym (made_by-opening 2 b.lane)) (omega arith)

opening-clean : (start ops : ℕ) → Clean (state_before start ops 0).made InRange (state_before start ops 0)
unfolding state_before after_phases
opening-clean start ops = record {
  grown = λ l. omega arith;
  roots = λ p h. subst (Refers (Young (opening churn_setup).made)) (sym (nil-at 32 (place_of 8 p))) tt;
  fields = λ b y i. subst (λ (os : List Object). Refers (Young (opening churn_setup).made) (get_or (get_or os (b.serial - 1) no_object).fields i Nil)) (sym (made_by-opening 2 b.lane)) tt;
}

given-clean : (old : List (List Object)) (s : State) (g : Give) → Clean old InRange s → Clean old InRange (given s g)
given-clean old s g c = record { grown = c.grown; roots = c.roots; fields = c.fields }

given-small : (s : State) (g : Give) → AreSmall s → AreSmall (given s g)
given-small s g h = h

small-before : (start ops k : ℕ) → AreSmall (state_before start ops k)
small-before start ops zero = opening-small start ops
small-before start ops (suc k) =
    subst AreSmall (sym (state-suc start ops k)) (given-small (after_lanes (state_before start ops k) 0 (both_lanes start ops k)) (phase_give start ops k)
    (lanes-small (state_before start ops k) (lane_of start ops k 0) (lane_of start ops k 1) (work-of start ops k 0).small (work-of start ops k 1).small (small-before start ops k)))

-- after a phase all that is read was made in it
clean-behind : (start ops k : ℕ) → Clean (state_before start ops k).made InRange (after_lanes (state_before start ops k) 0 (both_lanes start ops k))
unfolding lane_of
clean-behind start ops k =
    let n = ops_in ops k in
    let x = number_before start ops k in
    let h = holders_before start ops k in
    phase-clean (state_before start ops k) h (drawn_ops n (number_before_lane n x 0)) (drawn_ops n (number_before_lane n x 1)) (holders-of start ops k) (holders-two start ops k)
    (all-drawn (IsOp churn_setup) drawn-formed n _) (all-drawn (IsOp churn_setup) drawn-formed n _)

recent-before : (start ops k : ℕ) → IsRecent start ops k 1000 (state_before start ops k)
unfolding made_before
recent-before start ops zero = record { clean = opening-clean start ops; small = opening-small start ops; made = λ l. omega arith }
recent-before start ops (suc k) =
    let s = state_before start ops k in
    let t = after_lanes s 0 (both_lanes start ops k) in
    record {
      clean = subst (Clean s.made InRange) (sym (state-suc start ops k)) (given-clean s.made t (phase_give start ops k) (clean-behind start ops k));
      small = small-before start ops (suc k);
      made = λ l. subst (λ (u : State). length (made_by u.made l) ≤ length (made_by s.made l) + 1000) (sym (state-suc start ops k))
          (lanes-make s (lane_of start ops k 0) (lane_of start ops k 1) 1000 l (work-of start ops k 0).few (work-of start ops k 1).few);
    }

recent-more : (start ops k most more : ℕ) (s : State) → most ≤ more → IsRecent start ops k most s → IsRecent start ops k more s
recent-more start ops k most more s h r = record { clean = r.clean; small = r.small; made = λ l. omega (arith, r.made l, h) }

-- and in a part of the phase after it
recent-cut : (start ops k : ℕ) (a b : List Op) → IsWork a → IsWork b → IsRecent start ops k 2000 (after_lanes (state_before start ops k) 0 (a ∷ b ∷ []))
recent-cut start ops k a b ha hb =
    let s = state_before start ops k in
    let r = recent-before start ops k in
    record {
      clean = lanes-clean (made_before start ops k) s a b r.clean ha.fits hb.fits;
      small = lanes-small s a b ha.small hb.small r.small;
      made = λ l. omega (arith, r.made l, lanes-make s a b 1000 l ha.few hb.few);
    }

-- ---- what is reached then

width-eight : (s : State) (i : ℕ) → s.width ≡ 8 → place_of s.width (record { domain = i / 8; slot = i % 8 }) ≡ i
width-eight s i e = subst (λ (w : ℕ). w * (i / 8) + i % 8 ≡ i) (sym e) (omega arith)

root-at : (old : List (List Object)) (s : State) (i : ℕ) → Clean old InRange s → OfSetup churn_setup s → Refers (Young old) (get_or s.slots i Nil)
root-at old s i c h =
    elim (cases_lt i 32) [
      | inl low ↦ subst (λ (j : ℕ). Refers (Young old) (get_or s.slots j Nil)) (width-eight s i h.sizes.slots) (c.roots (record { domain = i / 8; slot = i % 8 }) (omega (arith, low), omega arith))
      | inr past ↦
          let long : length s.slots ≡ 32 = h.state.slots ∙ ap (λ (w : ℕ). w * length s.holders) h.sizes.slots ∙ ap (λ (d : ℕ). 8 * d) h.sizes.domains in
          subst (Refers (Young old)) (sym (get_or_past s.slots i Nil (omega (arith, past, long)))) tt
    ]

reached-young : (old : List (List Object)) (s : State) (b : Birth) → Clean old InRange s → OfSetup churn_setup s → Reached s.slots s.made b → Young old b
reached-young old s b c h =
    Reach-least (Holds s.slots) (FieldHolds s.made) (Young old)
    (λ a k. subst (Refers (Young old)) k.1 (root-at old s k.0 c h))
    (λ a d _ y k. subst (Refers (Young old)) k.1 (c.fields a y k.0)) b

in-two : (old : List (List Object)) (s : State) (b : Birth) → IsBorn s.made b → Young old b → length s.made ≡ 2 → ((l : ℕ) → length (made_by s.made l) ≤ length (made_by old l) + 2000) → InTwo (length (made_by old 0)) (length (made_by old 1)) 2000 b
in-two old s b born y two made =
    elim (cases_eq b.lane 0) [
      | inl e ↦
          let low = subst (λ (l : ℕ). length (made_by old l) < b.serial) e y in
          let high = subst (λ (l : ℕ). b.serial < length (made_by s.made l) + 1) e born.serial in
          inl (e, low, omega (arith, high, made 0))
      | inr ne ↦
          let e : b.lane ≡ 1 = omega (arith, ne, born.lane, two) in
          let low = subst (λ (l : ℕ). length (made_by old l) < b.serial) e y in
          let high = subst (λ (l : ℕ). b.serial < length (made_by s.made l) + 1) e born.serial in
          inr (e, low, omega (arith, high, made 1))
    ]

need-recent : (start ops k n : ℕ) (s : State) → IsRecent start ops k 2000 s → OfSetup churn_setup s → IsNeed s n → n ≤ 27
need-recent start ops k n s r h need =
    let old = made_before start ops k in
    let few = few-births (length (made_by old 0)) (length (made_by old 1)) 2000 need.births need.distinct (λ b k.
    let reached = (need.members b).0 k in
    in-two old s b (reached-born s b h.state reached) (reached-young old s b r.clean h reached) h.sizes.lanes r.made) in
    let bound = need-bound s.made need.births r.small (omega (arith, few)) in
    subst (λ (m : ℕ). m ≤ 27) (sym (need.need ∙ ap (λ (d : ℕ). need_of d (count_of s.made need.births)) h.sizes.domains)) bound

-- ---- the whole trace

phases-are : (start ops : ℕ) → (churn_trace start ops).phases ≡ map (churn_phase start ops) (numbers_below (phases_of ops))
unfolding churn_trace
phases-are start ops = refl

pub setup-is : (start ops : ℕ) → (churn_trace start ops).setup ≡ churn_setup
unfolding churn_trace
setup-is start ops = refl

pub version-is : (start ops : ℕ) → (churn_trace start ops).version ≡ 1
unfolding churn_trace
version-is start ops = refl

take-below : {X : Type 0} (f : ℕ → X) (n k : ℕ) → k ≤ n → take k (map f (numbers_below n)) ≡ map f (numbers_below k)
take-below f zero k h = let e : k ≡ 0 = omega (arith, h) in subst (λ (j : ℕ). take j [] ≡ map f (numbers_below j)) (sym e) refl
take-below f (suc n) k h =
    let long = length-map (numbers_below n) f ∙ length-numbers_below n in
    elim (cases_lt n k) [
      | inl past ↦
          let e : k ≡ suc n = omega (arith, past, h) in
          let all = length-map (numbers_below (suc n)) f ∙ length-numbers_below (suc n) in
          take_all k (map f (numbers_below (suc n))) (omega (arith, e, all)) ∙ ap (λ (j : ℕ). map f (numbers_below j)) (sym e)
      | inr within ↦
          ap (take k) (map-append f (numbers_below n) (n ∷ [])) ∙ take-append-le k (map f (numbers_below n)) (f n ∷ []) (omega (arith, within, long)) ∙ take-below f n k within
    ]

before-is : (start ops k : ℕ) → k ≤ phases_of ops → before (churn_trace start ops) k ≡ state_before start ops k
unfolding churn_trace state_before
before-is start ops k h = ap (after_phases (opening churn_setup)) (take-below (churn_phase start ops) (phases_of ops) k h)

before-past : (start ops k : ℕ) → phases_of ops ≤ k → before (churn_trace start ops) k ≡ state_before start ops (phases_of ops)
unfolding churn_trace state_before
before-past start ops k h =
    let long = length-map (numbers_below (phases_of ops)) (churn_phase start ops) ∙ length-numbers_below (phases_of ops) in
    ap (after_phases (opening churn_setup)) (take_all k (map (churn_phase start ops) (numbers_below (phases_of ops))) (omega (arith, long, h)))

pub phase-is : (start ops k : ℕ) → k < phases_of ops → phase_at (churn_trace start ops) k ≡ churn_phase start ops k
unfolding churn_trace
phase-is start ops k h =
    get_or-map (churn_phase start ops) (numbers_below (phases_of ops)) k 0 no_phase (omega (arith, h, length-numbers_below (phases_of ops)))
    ∙ ap (churn_phase start ops) (numbers_below-at (phases_of ops) k h)

phase-past : (start ops k : ℕ) → phases_of ops ≤ k → phase_at (churn_trace start ops) k ≡ no_phase
unfolding churn_trace
phase-past start ops k h =
    let long = length-map (numbers_below (phases_of ops)) (churn_phase start ops) ∙ length-numbers_below (phases_of ops) in
    get_or_past (map (churn_phase start ops) (numbers_below (phases_of ops))) k no_phase (omega (arith, long, h))

lanes-are : (start ops k : ℕ) → (churn_phase start ops k).lanes ≡ both_lanes start ops k
unfolding phase_from lane_of
lanes-are start ops k = refl

-- the first operations of both lanes
cut-two : (cut : List ℕ) (a b : List Op) → (n : ℕ) × (m : ℕ) × (cut_lanes cut (a ∷ b ∷ []) ≡ take n a ∷ take m b ∷ [])
unfolding cut_lanes
cut-two [] a b = (0, 0, refl)
cut-two (n ∷ []) a b = (n, 0, refl)
cut-two (n ∷ m ∷ cut) a b = (n, m, refl)

cut-none : (s : State) (cut : List ℕ) → after_lanes s 0 (cut_lanes cut []) ≡ s
unfolding after_lanes cut_lanes
cut-none s cut = refl

cut-recent : (start ops k : ℕ) (cut : List ℕ) → (i : ℕ) × IsRecent start ops i 2000 (after_cut (churn_trace start ops) k cut)
cut-recent start ops k cut =
    elim (cases_lt k (phases_of ops)) [
      | inl within ↦
          let s = state_before start ops k in
          let parts = cut-two cut (lane_of start ops k 0) (lane_of start ops k 1) in
          let recent = recent-cut start ops k (take parts.0 (lane_of start ops k 0)) (take parts.1 (lane_of start ops k 1)) (work-take parts.0 _ (work-of start ops k 0)) (work-take parts.1 _ (work-of start ops k 1)) in
          let lanes = ap (λ (p : PhaseLists). cut_lanes cut p.lanes) (phase-is start ops k within) ∙ ap (cut_lanes cut) (lanes-are start ops k) ∙ parts.2 in
          let is = ap (λ (t : State). after_lanes t 0 (cut_lanes cut (phase_at (churn_trace start ops) k).lanes)) (before-is start ops k (omega (arith, within))) ∙ ap (after_lanes s 0) lanes in
          (k, subst (IsRecent start ops k 2000) (sym is) recent)
      | inr past ↦
          let last = phases_of ops in
          let s = state_before start ops last in
          let lanes = ap (λ (p : PhaseLists). cut_lanes cut p.lanes) (phase-past start ops k past) in
          let is = ap (λ (t : State). after_lanes t 0 (cut_lanes cut (phase_at (churn_trace start ops) k).lanes)) (before-past start ops k past) ∙ ap (after_lanes s 0) lanes ∙ cut-none s cut in
          (last, subst (IsRecent start ops last 2000) (sym is) (recent-more start ops last 1000 2000 s (omega arith) (recent-before start ops last)))
    ]

pub need-cut : (start ops k n : ℕ) (cut : List ℕ) → IsNeed (after_cut (churn_trace start ops) k cut) n → n ≤ 27
need-cut start ops k n cut need =
    let r = cut-recent start ops k cut in
    let of = subst (λ setup. OfSetup setup (after_cut (churn_trace start ops) k cut)) (setup-is start ops) (OfSetup-after_cut (churn_trace start ops) k cut (churn-formed start ops)) in
    need-recent start ops r.0 n (after_cut (churn_trace start ops) k cut) r.1 of need

pub need-whole : (start ops n : ℕ) → IsNeed (final_state (churn_trace start ops)) n → n ≤ 27
need-whole start ops n need =
    let t = churn_trace start ops in
    let last = phases_of ops in
    let whole : before t last ≡ final_state t = ap (after_phases (opening t.setup)) (take_all last t.phases (omega (arith, ap length (phases-are start ops), length-map (numbers_below last) (churn_phase start ops), length-numbers_below last))) in
    let of = subst (λ setup. OfSetup setup (before t last)) (setup-is start ops) (OfSetup-before t last (churn-formed start ops)) in
    let recent = subst (IsRecent start ops last 2000) (sym (before-is start ops last (omega arith))) (recent-more start ops last 1000 2000 (state_before start ops last) (omega arith) (recent-before start ops last)) in
    need-recent start ops last n (before t last) recent of (subst (λ (s : State). IsNeed s n) (sym whole) need)

-- ---- the phases of the trace, and whose the domains are in them

pub trace-phases : (start ops : ℕ) → length (churn_trace start ops).phases ≡ phases_of ops
trace-phases start ops = ap length (phases-are start ops) ∙ length-map (numbers_below (phases_of ops)) (churn_phase start ops) ∙ length-numbers_below (phases_of ops)

pub trace-holders : (start ops k : ℕ) → k ≤ phases_of ops → (before (churn_trace start ops) k).holders ≡ holders_before start ops k
trace-holders start ops k h = ap (λ (s : State). s.holders) (before-is start ops k h) ∙ holders-of start ops k
