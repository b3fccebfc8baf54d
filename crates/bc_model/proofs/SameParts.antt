-- States of which every lane's part is the same are the same.
use Rattle.std.proofs.Common.{◌≡◌, ℕ, ◌+◌, ◌-◌, ◌*◌, ◌/◌, ◌%◌, ◌<◌, true, List, [], length, get_or, refl, sym, ap, subst, ◌∙◌, inl, inr, arith, ext_get_or, eq-eqb, mul_comm, eq-zero-or-pos, div-lt_iff_lt-mul}
use Rattle.bc_model.specs.Consistent.{IsState, IsHolder}
use Rattle.bc_model.specs.StateSizes.{sizes_of}
use Rattle.bc_model.specs.State.{State, Object, IsBorn, made_by, object_of, no_object, slot_of, holder_of, lets_read, reads}
use Rattle.bc_model.specs.WellFormed.{IsSlot}
use Rattle.bc_model.specs.declared.values.Holder.{Holder}
use Rattle.bc_model.specs.declared.values.Holder.TheVariants.{Lane, Frozen}
use Rattle.bc_model.specs.declared.values.Birth.{Birth}
use Rattle.bc_model.specs.declared.values.Slot.{Slot}
use Rattle.bc_model.specs.declared.values.Value.TheVariants.{Nil}
use Rattle.bc_model.proofs.Effects.{Agrees}
use Rattle.bc_model.proofs.States.{same_state}

-- a lane that may read a domain: its holder, or the first of all where it is frozen
abbrev reader : Holder → ℕ
reader (Lane l) = l
reader Frozen = 0

reader-reads : (h : Holder) → lets_read h (reader h) ≡ true
reader-reads (Lane l) = eq-eqb l l refl
reader-reads Frozen = refl

reader-lane : (h : Holder) (lanes : ℕ) → 0 < lanes → IsHolder lanes h → reader h < lanes
reader-lane (Lane l) lanes some fits = fits
reader-lane Frozen lanes some fits = some

holder-holds : (s : State) (d : ℕ) → reads s (reader (holder_of s.holders d)) d ≡ true
holder-holds s d = reader-reads (holder_of s.holders d)

-- an object of x, seen through what its domain's holder alone leaves
object-alone : (a x : State) (k : ℕ) (b : Birth) → Agrees k a x → reads x k (object_of x.made b).domain ≡ true → IsBorn x.made b → IsBorn a.made b × (object_of x.made b ≡ object_of a.made b)
object-alone a x k b h held born =
    let held-a : reads a k (object_of x.made b).domain ≡ true = subst (λ (hs : List Holder). lets_read (holder_of hs (object_of x.made b).domain) k ≡ true) h.holders held in
    let before = h.mine b born held-a in
    (before, h.object b before (subst (λ (d : ℕ). reads a k d ≡ true) (h.domain b before) held-a))

same-object : (alone : ℕ → State) (x y : State) (some : 0 < length x.made) (b : Birth) → ((k : ℕ) → k < length x.made → Agrees k (alone k) x) → ((k : ℕ) → k < length x.made → Agrees k (alone k) y) → IsState x → IsBorn x.made b → object_of x.made b ≡ object_of y.made b
same-object alone x y some b hx hy sx born =
    let d = (object_of x.made b).domain in
    let k = reader (holder_of x.holders d) in
    let lane : k < length x.made = reader-lane _ _ some (sx.holders d (sx.objects b born).domain) in
    let seen = object-alone (alone k) x k b (hx k lane) (holder-holds x d) born in
    let held-a : reads (alone k) k d ≡ true = subst (λ (hs : List Holder). lets_read (holder_of hs d) k ≡ true) (hx k lane).holders (holder-holds x d) in
    seen.1 ∙ sym ((hy k lane).object b seen.0 (subst (λ (e : ℕ). reads (alone k) k e ≡ true) (ap (λ (o : Object). o.domain) seen.1) held-a))

same-made : (alone : ℕ → State) (x y : State) (some : 0 < length x.made) → ((k : ℕ) → k < length x.made → Agrees k (alone k) x) → ((k : ℕ) → k < length x.made → Agrees k (alone k) y) → IsState x → length x.made ≡ length y.made → x.made ≡ y.made
same-made alone x y some hx hy sx lanes =
    ext_get_or [] x.made y.made lanes (λ l within.
    let count : length (made_by x.made l) ≡ length (made_by y.made l) = (hx l within).next ∙ sym (hy l within).next in
    ext_get_or no_object (made_by x.made l) (made_by y.made l) count (λ i inside.
    let b : Birth = record { lane = l; serial = i + 1 } in
    let born : IsBorn x.made b = record { lane = within; positive = omega arith; serial = omega arith } in
    let at : i ≡ i + 1 - 1 = omega arith in
    subst (λ (n : ℕ). get_or (made_by x.made l) n no_object ≡ get_or (made_by y.made l) n no_object) (sym at)
    (same-object alone x y some b hx hy sx born)))

-- the slot that stands at a place
slot-at : (width n i : ℕ) → i < width * n → (d : ℕ) × (p : ℕ) × (d < n) × (p < width) × (i ≡ width * d + p)
slot-at width n i h =
    elim (eq-zero-or-pos width) [
      | inl e ↦ absurd (omega (arith, subst (λ (w : ℕ). i < w * n) e h))
      | inr pos ↦ (i / width, i % width, omega (arith, (div-lt_iff_lt-mul pos).1 (subst (λ (m : ℕ). i < m) (mul_comm width n) h)), omega arith, omega arith)
    ]

same-slots : (alone : ℕ → State) (x y : State) (some : 0 < length x.made) → ((k : ℕ) → k < length x.made → Agrees k (alone k) x) → ((k : ℕ) → k < length x.made → Agrees k (alone k) y) → IsState x → IsState y → x.width ≡ y.width → x.holders ≡ y.holders → x.slots ≡ y.slots
same-slots alone x y some hx hy sx sy width holders =
    let many : length x.slots ≡ length y.slots =
    sx.slots ∙ ap (λ (w : ℕ). w * length x.holders) width ∙ ap (λ (hs : List Holder). y.width * length hs) holders ∙ sym sy.slots in
    ext_get_or Nil x.slots y.slots many (λ i within.
    let at = slot-at x.width (length x.holders) i (omega (arith, within, sx.slots)) in
    let p : Slot = record { domain = at.0; slot = at.1 } in
    let k = reader (holder_of x.holders at.0) in
    let lane : k < length x.made = reader-lane _ _ some (sx.holders at.0 at.2) in
    let fits : IsSlot (sizes_of (alone k)) p = (omega (arith, at.2, ap length (hx k lane).holders), omega (arith, at.3, (hx k lane).width)) in
    let held : reads (alone k) k at.0 ≡ true = subst (λ (hs : List Holder). lets_read (holder_of hs at.0) k ≡ true) (hx k lane).holders (holder-holds x at.0) in
    let same : slot_of x p ≡ slot_of y p = (hx k lane).slot p fits held ∙ sym ((hy k lane).slot p fits held) in
    ap (λ (n : ℕ). get_or x.slots n Nil) at.4 ∙ same
    ∙ ap (λ (w : ℕ). get_or y.slots (w * at.0 + at.1) Nil) (sym width) ∙ ap (λ (n : ℕ). get_or y.slots n Nil) (sym at.4))

pub same_parts : (alone : ℕ → State) (x y : State) → 0 < length x.made → length x.made ≡ length y.made → ((k : ℕ) → k < length x.made → Agrees k (alone k) x) → ((k : ℕ) → k < length x.made → Agrees k (alone k) y) → IsState x → IsState y → x ≡ y
same_parts alone x y some lanes hx hy sx sy =
    let width = (hx 0 some).width ∙ sym (hy 0 some).width in
    let holders = (hx 0 some).holders ∙ sym (hy 0 some).holders in
    same_state x y width (same-made alone x y some hx hy sx lanes) (same-slots alone x y some hx hy sx sy width holders) holders
