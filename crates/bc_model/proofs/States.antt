-- Writes, new objects, gives and freezes keep what is true of every state.
use Rattle.std.proofs.Common.{◌≡◌, ℕ, ◌-◌, ◌*◌, ◌<◌, ◌≤◌, List, length, get_or, set, replicate, refl, sym, ap, subst, ◌∙◌, inl, inr, arith, get_or-set_same, get_or-set_other, length-set}
use Rattle.std.proofs.lemmas.Bool.{cases_eq, cases_lt}
use Rattle.std.proofs.lemmas.List.{set_past, get_or_past, get_or-replicate, length-replicate}
use Rattle.bc_model.specs.Consistent.{IsValue, AreValues, IsHolder, IsMadeObject, IsState}
use Rattle.bc_model.specs.State.{State, Object, IsBorn, made_by, object_of, with_born, with_value, with_made, next_birth, with_slot, with_born_field, changed, handed, holder_of, place_of}
use Rattle.bc_model.specs.Step.{with_new}
use Rattle.bc_model.specs.WellFormed.{FitsChange}
use Rattle.bc_model.specs.declared.traces.Change.{Change}
use Rattle.bc_model.specs.declared.traces.Change.TheVariants as change
use Rattle.bc_model.specs.declared.values.Holder.{Holder}
use Rattle.bc_model.specs.declared.values.Holder.TheVariants.{Lane, Frozen}
use Rattle.bc_model.specs.declared.traces.Setup.{Setup}
use Rattle.bc_model.specs.declared.values.Birth.{Birth}
use Rattle.bc_model.specs.declared.values.Slot.{Slot}
use Rattle.bc_model.specs.declared.values.Value.{Value}
use Rattle.bc_model.specs.declared.values.Value.TheVariants.{Nil, Num, Obj}
use Rattle.bc_model.proofs.Objects.{cases_birth, IsBorn-with_object, IsBorn-from_with_object, object_of-with_object_same, object_of-with_object_other, IsBorn-with_made, IsBorn-next_birth, IsBorn-from_with_made, object_of-with_made_same, object_of-with_made_other, length-with_made}

-- what may be held stays so while births stay
pub IsValue-kept : (old new : List (List Object)) → ((b : Birth) → IsBorn old b → IsBorn new b) → (v : Value) → IsValue old v → IsValue new v
IsValue-kept old new kept Nil h = tt
IsValue-kept old new kept (Num n) h = h
IsValue-kept old new kept (Obj b) h = kept b h

pub AreValues-kept : (old new : List (List Object)) → ((b : Birth) → IsBorn old b → IsBorn new b) → (values : List Value) → AreValues old values → AreValues new values
AreValues-kept old new kept values h = λ i. IsValue-kept old new kept (get_or values i Nil) (h i)

pub AreValues-set : (made : List (List Object)) (values : List Value) (i : ℕ) (v : Value) → AreValues made values → IsValue made v → AreValues made (set values i v)
AreValues-set made values i v h hv = λ k.
    elim (cases_lt i (length values)) [
      | inl within ↦ elim (cases_eq k i) [
        | inl e ↦ subst (λ (x : Value). IsValue made x) (sym (ap (λ (n : ℕ). get_or (set values i v) n Nil) e ∙ get_or-set_same values i v Nil within)) hv
        | inr ne ↦ subst (λ (x : Value). IsValue made x) (sym (get_or-set_other values i k v Nil ne)) (h k)
      ]
      | inr past ↦ subst (λ (xs : List Value). IsValue made (get_or xs k Nil)) (sym (set_past values i v past)) (h k)
    ]

pub AreValues-nil : (made : List (List Object)) (n : ℕ) → AreValues made (replicate n Nil)
AreValues-nil made n = λ k.
    elim (cases_lt k n) [
      | inl within ↦ subst (λ (x : Value). IsValue made x) (sym (get_or-replicate n k Nil Nil within)) tt
      | inr past ↦ subst (λ (x : Value). IsValue made x) (sym (get_or_past (replicate n Nil) k Nil (omega (arith, past, length-replicate n Nil)))) tt
    ]

pub IsState-with_slot : (s : State) (p : Slot) (v : Value) → IsState s → IsValue s.made v → IsState (with_slot s p v)
IsState-with_slot s p v h hv = record {
  lanes = h.lanes;
  domains = h.domains;
  width = h.width;
  slots = length-set s.slots (place_of s.width p) v ∙ h.slots;
  values = AreValues-set s.made s.slots (place_of s.width p) v h.values hv;
  objects = h.objects;
  holders = h.holders;
}

-- an object stays one where births stay
pub IsObject-kept : (old new : List (List Object)) → ((b : Birth) → IsBorn old b → IsBorn new b) → (domains : ℕ) (o : Object) → IsMadeObject old domains o → IsMadeObject new domains o
IsObject-kept old new kept domains o h = record { domain = h.domain; fields = h.fields; values = AreValues-kept old new kept o.fields h.values }

pub IsState-with_field : (s : State) (b : Birth) (i : ℕ) (v : Value) → IsState s → IsBorn s.made b → IsValue s.made v → IsState (with_born_field s b i v)
IsState-with_field s b i v h born hv =
    let o : Object = with_value (object_of s.made b) i v in
    let new : List (List Object) = with_born s.made b o in
    let kept : (c : Birth) → IsBorn s.made c → IsBorn new c = λ c k. IsBorn-with_object s.made b o c born k in
    let whole : IsMadeObject new (length s.holders) o = record {
      domain = (h.objects b born).domain;
      fields = omega (arith, (h.objects b born).fields, length-set (object_of s.made b).fields i v);
      values = AreValues-kept s.made new kept o.fields (AreValues-set s.made (object_of s.made b).fields i v (h.objects b born).values hv);
    } in
    record {
      lanes = omega (arith, h.lanes, length-set s.made b.lane (set (made_by s.made b.lane) (b.serial - 1) o));
      domains = h.domains;
      width = h.width;
      slots = h.slots;
      values = AreValues-kept s.made new kept s.slots h.values;
      objects = λ c k.
          elim (cases_birth c b) [
            | inl e ↦ subst (λ (x : Object). IsMadeObject new (length s.holders) x)
                (sym (ap (λ (x : Birth). object_of new x) e ∙ object_of-with_object_same s.made b o born)) whole
            | inr ne ↦
                let before : IsBorn s.made c = IsBorn-from_with_object s.made b o c born k in
                subst (λ (x : Object). IsMadeObject new (length s.holders) x) (sym (object_of-with_object_other s.made b o c born before ne))
                (IsObject-kept s.made new kept (length s.holders) (object_of s.made c) (h.objects c before))
          ];
      holders = λ d k. subst (λ (n : ℕ). IsHolder n (holder_of s.holders d)) (sym (length-set s.made b.lane (set (made_by s.made b.lane) (b.serial - 1) o))) (h.holders d k);
    }

pub IsState-with_new : (s : State) (j : ℕ) (p : Slot) (n : ℕ) → IsState s → j < length s.made → p.domain < length s.holders → n ≤ 127 → IsState (with_new s j p n)
IsState-with_new s j p n h lane domain few =
    let o : Object = record { domain = p.domain; fields = replicate n Nil } in
    let new : List (List Object) = with_made s.made j o in
    let kept : (c : Birth) → IsBorn s.made c → IsBorn new c = λ c k. IsBorn-with_made s.made j o c lane k in
    let whole : IsMadeObject new (length s.holders) o = record {
      domain = domain;
      fields = omega (arith, few, length-replicate n Nil);
      values = AreValues-nil new n;
    } in
    let more : State = record s { made = new } in
    let grown : IsState more = record {
      lanes = omega (arith, h.lanes, length-with_made s.made j o);
      domains = h.domains;
      width = h.width;
      slots = h.slots;
      values = AreValues-kept s.made new kept s.slots h.values;
      objects = λ c k.
          elim (IsBorn-from_with_made s.made j o c lane k) [
            | inl before ↦ subst (λ (x : Object). IsMadeObject new (length s.holders) x) (sym (object_of-with_made_other s.made j o c lane before))
                (IsObject-kept s.made new kept (length s.holders) (object_of s.made c) (h.objects c before))
            | inr e ↦ subst (λ (x : Object). IsMadeObject new (length s.holders) x)
                (sym (ap (λ (x : Birth). object_of new x) e ∙ object_of-with_made_same s.made j o lane)) whole
          ];
      holders = λ d k. subst (λ (n : ℕ). IsHolder n (holder_of s.holders d)) (sym (length-with_made s.made j o)) (h.holders d k);
    } in
    IsState-with_slot more p (Obj (next_birth s.made j)) grown (IsBorn-next_birth s.made j o lane)

pub IsState-handed : (s : State) (e : ℕ) (x : Holder) → IsState s → IsHolder (length s.made) x → IsState (handed s e x)
IsState-handed s e x h fits = record {
  lanes = h.lanes;
  domains = omega (arith, h.domains, length-set s.holders e x);
  width = h.width;
  slots = h.slots ∙ ap (λ (n : ℕ). s.width * n) (sym (length-set s.holders e x));
  values = h.values;
  objects = λ b k.
      let o = h.objects b k in
      record { domain = omega (arith, o.domain, length-set s.holders e x); fields = o.fields; values = o.values };
  holders = λ d k.
      elim (cases_eq d e) [
        | inl is ↦
            let within : e < length s.holders = omega (arith, k, is, length-set s.holders e x) in
            subst (IsHolder (length s.made)) (sym (ap (λ (n : ℕ). get_or (set s.holders e x) n Frozen) is ∙ get_or-set_same s.holders e x Frozen within)) fits
        | inr ne ↦
            subst (IsHolder (length s.made)) (sym (get_or-set_other s.holders e d x Frozen ne)) (h.holders d (omega (arith, k, length-set s.holders e x)))
      ];
}

-- a give or a freeze keeps what is true of every state, and the sizes
pub IsState-changed : (setup : Setup) (s : State) (c : Change) → IsState s → setup.lanes ≡ length s.made → FitsChange setup c → IsState (changed s c)
IsState-changed setup s (change.Give g) h lanes fits = IsState-handed s g.domain (Lane g.lane) h (omega (arith, fits.1, lanes))
IsState-changed setup s (change.Freeze d) h lanes fits = IsState-handed s d Frozen h tt

pub length-changed : (s : State) (c : Change) → length (changed s c).holders ≡ length s.holders
length-changed s (change.Give g) = length-set s.holders g.domain (Lane g.lane)
length-changed s (change.Freeze d) = length-set s.holders d Frozen

pub only-changed : (s : State) (c : Change) → changed s c ≡ record s { holders = (changed s c).holders }
only-changed s (change.Give g) = refl
only-changed s (change.Freeze d) = refl

-- the same state, its objects and slots written otherwise
pub IsState-written : (s : State) (made : List (List Object)) (slots : List Value) → made ≡ s.made → slots ≡ s.slots → IsState s → IsState (record { width = s.width; made = made; slots = slots; holders = s.holders })
IsState-written s made slots e f h =
    subst (λ (m : List (List Object)). IsState (record { width = s.width; made = m; slots = slots; holders = s.holders })) (sym e)
    (subst (λ (xs : List Value). IsState (record { width = s.width; made = s.made; slots = xs; holders = s.holders })) (sym f) h)

-- a state is its four parts
pub same_state : (s t : State) → s.width ≡ t.width → s.made ≡ t.made → s.slots ≡ t.slots → s.holders ≡ t.holders → s ≡ t
same_state s t w m x h =
    let of = λ (w' : ℕ) (m' : List (List Object)) (x' : List Value) (h' : List Holder). (let r : State = record { width = w'; made = m'; slots = x'; holders = h' } in r) in
    ap (λ (w' : ℕ). of w' s.made s.slots s.holders) w
    ∙ ap (λ (m' : List (List Object)). of t.width m' s.slots s.holders) m
    ∙ ap (λ (x' : List Value). of t.width t.made x' s.holders) x
    ∙ ap (λ (h' : List Holder). of t.width t.made t.slots h') h
