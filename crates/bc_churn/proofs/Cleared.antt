-- Phases of the churn: each lane first clears what it holds, so that after a phase slots and fields refer to objects alone
-- that were made in it.
use Rattle.std.proofs.Common.{◌≡◌, ℕ, ◌+◌, ◌-◌, ◌<◌, ◌≤◌, ◌⊎◌, ◌≢◌, ◌&&◌, Bool, true, false, if◌then◌else◌, List, [], ◌∷◌, ◌++◌, map, zero, suc, length, get_or, set, refl, sym, ap, subst, ◌∙◌, inl, inr, arith, length-set, get_or-set_same}
use Rattle.std.specs.List.{AllByRecursion, list_all}
use Rattle.std.proofs.lemmas.Bool.{cases_eq, cases_lt, cond-true}
use Rattle.std.proofs.lemmas.List.{get_or_past, map-append}
use Rattle.bc_model.specs.Run.{after_ops, after_lanes}
use Rattle.bc_model.specs.State.{State, Object, made_by, no_object, place_of, with_slot, holder_of, lets_read, lets_write, reads, numbers_below}
use Rattle.bc_model.specs.Step.{step, act, target_writes}
use Rattle.bc_model.specs.WellFormed.{IsSlot, IsOp}
use Rattle.bc_model.specs.declared.operations.Op.{Op}
use Rattle.bc_model.specs.declared.operations.Op.TheVariants as op
use Rattle.bc_model.specs.declared.operations.Reply.{Reply}
use Rattle.bc_model.specs.declared.operations.Reply.TheVariants as replies
use Rattle.bc_model.specs.declared.traces.Setup.{Setup}
use Rattle.bc_model.specs.declared.values.Holder.{Holder}
use Rattle.bc_model.specs.declared.values.Holder.TheVariants.{Lane, Frozen}
use Rattle.bc_model.specs.declared.values.Slot.{Slot}
use Rattle.bc_model.specs.declared.values.Value.{Value}
use Rattle.bc_model.specs.declared.values.Value.TheVariants.{Nil}
use Rattle.bc_model.proofs.Changes.{rest-stays}
use Rattle.bc_model.proofs.Holders.{reads-held, writes-held, writer, no-writer, reader-of_lane}
use Rattle.bc_churn.specs.Churn.{churn_setup, clears_below, domain_clears, lane_clears}
use Rattle.bc_churn.proofs.Drawing.{clears-none, clears-suc}
use Rattle.bc_churn.proofs.Young.{Refers, Young, Clean, clean-step, Makes, makes-step, new_of, IsSmallNew, AreSmall, small-step, set-either}

-- ---- the operations of a lane

pub after_ops-append : (s : State) (j : ℕ) (xs ys : List Op) → after_ops s j (xs ++ ys) ≡ after_ops (after_ops s j xs) j ys
unfolding after_ops
after_ops-append s j [] ys = refl
after_ops-append s j (x ∷ xs) ys = after_ops-append (step s j x).0 j xs ys

pub holders-ops : (s : State) (j : ℕ) (os : List Op) → (after_ops s j os).holders ≡ s.holders
unfolding after_ops
holders-ops s j [] = refl
holders-ops s j (o ∷ os) = holders-ops (step s j o).0 j os ∙ (rest-stays s j o).holders

pub clean-ops : (old : List (List Object)) (readable : Slot → Type 0) (setup : Setup) (s : State) (j : ℕ) (os : List Op) → Clean old readable s → ((p : Slot) → reads s j p.domain ≡ true → IsSlot setup p → readable p) → AllByRecursion (IsOp setup) os → Clean old readable (after_ops s j os)
unfolding after_ops
clean-ops old readable setup s j [] c own fits = c
clean-ops old readable setup s j (o ∷ os) c own fits =
    clean-ops old readable setup (step s j o).0 j os (clean-step old readable setup s j o c own fits.0)
    (λ p held. own p (subst (λ (hs : List Holder). lets_read (holder_of hs p.domain) j ≡ true) (rest-stays s j o).holders held)) fits.1

abbrev pub news : List Op → ℕ
news [] = 0
news (o ∷ os) = new_of o + news os

pub makes-ops : (s : State) (j : ℕ) (os : List Op) → Makes j (news os) s (after_ops s j os)
unfolding after_ops
makes-ops s j [] = record { own = λ l. omega arith; others = λ l ne. refl }
makes-ops s j (o ∷ os) =
    let one = makes-step s j o in
    let rest = makes-ops (step s j o).0 j os in
    record { own = λ l. omega (arith, one.own l, rest.own l); others = λ l ne. rest.others l ne ∙ one.others l ne }

pub small-ops : (s : State) (j : ℕ) (os : List Op) → AllByRecursion IsSmallNew os → AreSmall s → AreSmall (after_ops s j os)
unfolding after_ops
small-ops s j [] few h = h
small-ops s j (o ∷ os) few h = small-ops (step s j o).0 j os few.1 (small-step s j o few.0 h)

-- ---- clears

pub clean-weaker : (old : List (List Object)) (a b : Slot → Type 0) (s : State) → ((p : Slot) → b p → a p) → Clean old a s → Clean old b s
clean-weaker old a b s w c = record { grown = c.grown; roots = λ p h. c.roots p (w p h); fields = c.fields }

clear-done : (s : State) (j : ℕ) (p : Slot) → holder_of s.holders p.domain ≡ Lane j → (step s j (op.Clear p)).0 ≡ with_slot s p Nil
clear-done s j p held =
    ap (λ (x : State × Reply). x.0)
    (cond-true (list_all (reads s j) (p.domain ∷ [])) (if target_writes s j (op.Clear p) then act s j (op.Clear p) else (s, replies.Frozen)) (s, replies.Foreign) (ap (λ (b : Bool). b && true) (reads-held (holder_of s.holders p.domain) j held))
    ∙ cond-true (target_writes s j (op.Clear p)) (act s j (op.Clear p)) (s, replies.Frozen) (writes-held (holder_of s.holders p.domain) j held))

nil-set : (xs : List Value) (k : ℕ) → get_or (set xs k Nil) k Nil ≡ Nil
nil-set xs k =
    elim (cases_lt k (length xs)) [
      | inl within ↦ get_or-set_same xs k Nil Nil within
      | inr past ↦ get_or_past (set xs k Nil) k Nil (omega (arith, past, length-set xs k Nil))
    ]

-- a lane that holds the slot's domain may read the slot too, once it is cleared
cleared : (old : List (List Object)) (a b : Slot → Type 0) (s : State) (j : ℕ) (p : Slot) → Clean old a s → holder_of s.holders p.domain ≡ Lane j → ((r : Slot) → b r → a r ⊎ (r ≡ p)) → Clean old b (step s j (op.Clear p)).0
cleared old a b s j p c held more =
    subst (Clean old b) (sym (clear-done s j p held)) (record {
      grown = c.grown;
      roots = λ r h. elim (more r h) [
        | inl x ↦ set-either (Refers (Young old)) s.slots (place_of s.width p) Nil (place_of s.width r) Nil (λ _. tt) (c.roots r x)
        | inr e ↦ subst (λ (q : Slot). Refers (Young old) (get_or (set s.slots (place_of s.width p) Nil) (place_of s.width q) Nil)) (sym e)
            (subst (Refers (Young old)) (sym (nil-set s.slots (place_of s.width p))) tt)
      ];
      fields = c.fields;
    })

same_slot : (r : Slot) (d t : ℕ) → r.domain ≡ d → r.slot ≡ t → r ≡ record { domain = d; slot = t }
same_slot r d t e f =
    let first : r ≡ record { domain = d; slot = r.slot } = ap (λ (x : ℕ). let q : Slot = record { domain = x; slot = r.slot } in q) e in
    first ∙ ap (λ (x : ℕ). let q : Slot = record { domain = d; slot = x } in q) f

-- the first m slots of a domain
abbrev With : (Slot → Type 0) → ℕ → ℕ → Slot → Type 0
With a d m r = a r ⊎ ((r.domain ≡ d) × (r.slot < m))

slots-cleared : (old : List (List Object)) (a : Slot → Type 0) (s : State) (j d m : ℕ) → Clean old a s → holder_of s.holders d ≡ Lane j → Clean old (With a d m) (after_ops s j (map (λ t. op.Clear (record { domain = d; slot = t })) (numbers_below m)))
unfolding after_ops
slots-cleared old a s j d zero c held = clean-weaker old a (With a d 0) s (λ r h. elim h [ inl x ↦ x | inr q ↦ absurd (omega (arith, q.1)) ]) c
slots-cleared old a s j d (suc m) c held =
    let before = slots-cleared old a s j d m c held in
    let t = after_ops s j (map (λ t. op.Clear (record { domain = d; slot = t })) (numbers_below m)) in
    let still : holder_of t.holders d ≡ Lane j = subst (λ (hs : List Holder). holder_of hs d ≡ Lane j) (sym (holders-ops s j (map (λ t. op.Clear (record { domain = d; slot = t })) (numbers_below m)))) held in
    subst (Clean old (With a d (suc m)))
    (sym (ap (after_ops s j) (map-append (λ t. op.Clear (record { domain = d; slot = t })) (numbers_below m) (m ∷ []))
    ∙ after_ops-append s j (map (λ t. op.Clear (record { domain = d; slot = t })) (numbers_below m)) (map (λ t. op.Clear (record { domain = d; slot = t })) (m ∷ []))))
    (cleared old (With a d m) (With a d (suc m)) t j (record { domain = d; slot = m }) before still (λ r h. elim h [
      | inl x ↦ inl (inl x)
      | inr q ↦ elim (cases_eq r.slot m) [
        | inl e ↦ inr (same_slot r d m q.0 e)
        | inr ne ↦ inl (inr (q.0, omega (arith, q.1, ne)))
      ]
    ]))

-- those of the first n domains that the lane holds
abbrev pub WithHeld : (Slot → Type 0) → List Holder → ℕ → ℕ → Slot → Type 0
WithHeld a holders j n r = a r ⊎ ((holder_of holders r.domain ≡ Lane j) × (r.domain < n) × (r.slot < 8))

domain-cleared : (old : List (List Object)) (a : Slot → Type 0) (s : State) (j d : ℕ) → Clean old a s → holder_of s.holders d ≡ Lane j → Clean old (With a d 8) (after_ops s j (domain_clears d))
unfolding domain_clears
domain-cleared old a s j d c held = slots-cleared old a s j d 8 c held

domain-may : (old : List (List Object)) (a : Slot → Type 0) (s : State) (holders : List Holder) (j n : ℕ) (b : Bool) → lets_write (holder_of holders n) j ≡ b → s.holders ≡ holders → Clean old (WithHeld a holders j n) s → Clean old (WithHeld a holders j (suc n)) (after_ops s j (if b then domain_clears n else []))
unfolding after_ops
domain-may old a s holders j n true e same c =
    let held : holder_of s.holders n ≡ Lane j = subst (λ (hs : List Holder). holder_of hs n ≡ Lane j) (sym same) (writer (holder_of holders n) j e) in
    clean-weaker old (With (WithHeld a holders j n) n 8) (WithHeld a holders j (suc n)) _ (λ r h. elim h [
      | inl x ↦ inl (inl x)
      | inr q ↦ elim (cases_eq r.domain n) [
        | inl f ↦ inr (f, q.2)
        | inr ne ↦ inl (inr (q.0, omega (arith, q.1, ne), q.2))
      ]
    ]) (domain-cleared old (WithHeld a holders j n) s j n c held)
domain-may old a s holders j n false e same c =
    clean-weaker old (WithHeld a holders j n) (WithHeld a holders j (suc n)) s (λ r h. elim h [
      | inl x ↦ inl x
      | inr q ↦ elim (cases_eq r.domain n) [
        | inl f ↦ absurd (no-writer (holder_of holders n) j e (subst (λ (d : ℕ). holder_of holders d ≡ Lane j) f q.0))
        | inr ne ↦ inr (q.0, omega (arith, q.1, ne), q.2)
      ]
    ]) c

pub domains-cleared : (old : List (List Object)) (a : Slot → Type 0) (s : State) (holders : List Holder) (j n : ℕ) → s.holders ≡ holders → Clean old a s → Clean old (WithHeld a holders j n) (after_ops s j (clears_below holders j n))
unfolding after_ops
domains-cleared old a s holders j zero same c =
    subst (λ (os : List Op). Clean old (WithHeld a holders j 0) (after_ops s j os)) (sym (clears-none holders j))
    (clean-weaker old a (WithHeld a holders j 0) s (λ r h. elim h [ inl x ↦ x | inr q ↦ absurd (omega (arith, q.1)) ]) c)
domains-cleared old a s holders j (suc n) same c =
    let t = after_ops s j (clears_below holders j n) in
    subst (Clean old (WithHeld a holders j (suc n)))
    (sym (ap (after_ops s j) (clears-suc holders j n) ∙ after_ops-append s j (clears_below holders j n) _))
    (domain-may old a t holders j n (lets_write (holder_of holders n) j) refl (holders-ops s j (clears_below holders j n) ∙ same) (domains-cleared old a s holders j n same c))

-- ---- a phase of two lanes

-- the setup has the slot
abbrev pub InRange : Slot → Type 0
InRange p = IsSlot churn_setup p

nothing-made : (s : State) → Clean s.made (λ p. ⊥) s
nothing-made s = record {
  grown = λ l. omega arith;
  roots = λ p h. absurd h;
  fields = λ b y i. subst (λ (o : Object). Refers (Young s.made) (get_or o.fields i Nil)) (sym (get_or_past (made_by s.made b.lane) (b.serial - 1) no_object (omega (arith, y)))) tt;
}

-- the domain is held by one of the two lanes
abbrev pub IsOfTwo : Holder → Type 0
IsOfTwo x = (x ≡ Lane 0) ⊎ (x ≡ Lane 1)

-- so a lane that may read it holds it
pub of-two : (x : Holder) → IsOfTwo x → x ≢ Frozen
of-two x (inl e) f = absurd (let h : Lane 0 ≡ Frozen = sym e ∙ f in cc)
of-two x (inr e) f = absurd (let h : Lane 1 ≡ Frozen = sym e ∙ f in cc)

-- after the lanes' clears and more operations of theirs, all that may be read refers to what was made in the phase
pub phase-clean : (s : State) (holders : List Holder) (a b : List Op) → s.holders ≡ holders → ((d : ℕ) → d < 4 → IsOfTwo (holder_of holders d)) → AllByRecursion (IsOp churn_setup) a → AllByRecursion (IsOp churn_setup) b → Clean s.made InRange (after_lanes s 0 ((lane_clears holders 0 ++ a) ∷ (lane_clears holders 1 ++ b) ∷ []))
unfolding after_lanes
phase-clean s holders a b same two fa fb =
    let one = WithHeld (λ p. ⊥) holders 0 4 in
    let both = WithHeld one holders 1 4 in
    let s1 = after_ops s 0 (lane_clears holders 0) in
    let h1 = holders-ops s 0 (lane_clears holders 0) ∙ same in
    let c1 = domains-cleared s.made (λ p. ⊥) s holders 0 4 same (nothing-made s) in
    let c2 = clean-ops s.made one churn_setup s1 0 a c1 (λ p held fits. inr (reader-of_lane (holder_of holders p.domain) 0 (of-two (holder_of holders p.domain) (two p.domain fits.0)) (subst (λ (hs : List Holder). lets_read (holder_of hs p.domain) 0 ≡ true) h1 held), fits.0, fits.1)) fa in
    let s2 = after_ops s1 0 a in
    let h2 = holders-ops s1 0 a ∙ h1 in
    let c3 = domains-cleared s.made one s2 holders 1 4 h2 c2 in
    let s3 = after_ops s2 1 (lane_clears holders 1) in
    let h3 = holders-ops s2 1 (lane_clears holders 1) ∙ h2 in
    let c4 = clean-ops s.made both churn_setup s3 1 b c3 (λ p held fits. inr (reader-of_lane (holder_of holders p.domain) 1 (of-two (holder_of holders p.domain) (two p.domain fits.0)) (subst (λ (hs : List Holder). lets_read (holder_of hs p.domain) 1 ≡ true) h3 held), fits.0, fits.1)) fb in
    let all = clean-weaker s.made both InRange (after_ops s3 1 b) (λ p fits.
    elim (two p.domain fits.0) [
      | inl e ↦ inl (inr (e, fits.0, fits.1))
      | inr e ↦ inr (e, fits.0, fits.1)
    ]) c4 in
    subst (Clean s.made InRange)
    (sym (after_ops-append (after_ops s 0 (lane_clears holders 0 ++ a)) 1 (lane_clears holders 1) b
    ∙ ap (λ (t : State). after_ops (after_ops t 1 (lane_clears holders 1)) 1 b) (after_ops-append s 0 (lane_clears holders 0) a)))
    all

-- any operations of the two lanes keep that
pub lanes-clean : (old : List (List Object)) (s : State) (a b : List Op) → Clean old InRange s → AllByRecursion (IsOp churn_setup) a → AllByRecursion (IsOp churn_setup) b → Clean old InRange (after_lanes s 0 (a ∷ b ∷ []))
unfolding after_lanes
lanes-clean old s a b c fa fb =
    clean-ops old InRange churn_setup (after_ops s 0 a) 1 b (clean-ops old InRange churn_setup s 0 a c (λ p held fits. fits) fa) (λ p held fits. fits) fb

pub lanes-small : (s : State) (a b : List Op) → AllByRecursion IsSmallNew a → AllByRecursion IsSmallNew b → AreSmall s → AreSmall (after_lanes s 0 (a ∷ b ∷ []))
unfolding after_lanes
lanes-small s a b fa fb h = small-ops (after_ops s 0 a) 1 b fb (small-ops s 0 a fa h)

pub lanes-make : (s : State) (a b : List Op) (most l : ℕ) → news a ≤ most → news b ≤ most → length (made_by (after_lanes s 0 (a ∷ b ∷ [])).made l) ≤ length (made_by s.made l) + most
unfolding after_lanes
lanes-make s a b most l ha hb =
    let first = makes-ops s 0 a in
    let second = makes-ops (after_ops s 0 a) 1 b in
    elim (cases_eq l 1) [
      | inl e ↦ omega (arith, first.others l (λ f. absurd (omega (arith, e, f))), second.own l, hb)
      | inr ne ↦ omega (arith, second.others l ne, first.own l, ha)
    ]

pub holders-lanes : (s : State) (a b : List Op) → (after_lanes s 0 (a ∷ b ∷ [])).holders ≡ s.holders
unfolding after_lanes
holders-lanes s a b = holders-ops (after_ops s 0 a) 1 b ∙ holders-ops s 0 a
