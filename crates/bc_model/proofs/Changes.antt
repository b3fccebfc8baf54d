-- What a step changes, and that all else stays.
use Rattle.std.proofs.Common.{replicate, ◌≡◌, ◌≢◌, ℕ, ◌+◌, ◌<◌, Bool, true, false, nat_lt, if◌then◌else◌, length, slice_index_or, refl, sym, ap, subst, ◌∙◌, inl, inr, arith, ltb-true, get_or-set_same, get_or-set_other}
use Rattle.std.specs.List.{list_all}
use Rattle.std.proofs.lemmas.Bool.{cases_lt}
use Rattle.std.proofs.lemmas.List.{length-replicate, length_push, length-set, get_or-replicate, get_or_past}
use Rattle.bc_model.specs.Changes.{WritesSlot, WritesField}
use Rattle.bc_model.specs.Consistent.{IsState, IsValue}
use Rattle.bc_model.specs.StateSizes.{sizes_of}
use Rattle.bc_model.specs.Making.{IsNew}
use Rattle.bc_model.specs.Refused.{IsRefused}
use Rattle.bc_model.specs.State.{State, Object, IsBorn, made_by, object_of, next_birth, with_value, with_slot, with_born_field, field_of, slot_of, place_of, reads, writes}
use Rattle.bc_model.specs.Step.{step, act, domains_of, on_object, on_field, on_own_field, target_writes, with_new}
use Rattle.bc_model.specs.Refusals.{IsRefusal}
use Rattle.bc_model.specs.WellFormed.{IsSlot, IsOp}
use Rattle.bc_model.specs.declared.operations.Op.{Op}
use Rattle.bc_model.specs.declared.operations.Op.TheVariants as op
use Rattle.bc_model.specs.declared.operations.Reply.{Reply}
use Rattle.bc_model.specs.declared.operations.Reply.TheVariants as reply
use Rattle.bc_model.specs.declared.values.Birth.{Birth}
use Rattle.bc_model.specs.declared.values.Slot.{Slot}
use Rattle.bc_model.specs.declared.values.Value.{Value}
use Rattle.bc_model.specs.declared.values.Value.TheVariants.{Nil, Num, Obj}
use Rattle.bc_model.proofs.Agreeing.{place-within, same-place}
use Rattle.bc_model.proofs.Objects.{cases_birth, length-made_by-with_object, object_of-with_object_same, object_of-with_object_other, made_by-with_made_same, object_of-with_made_same, object_of-with_made_other}
use Rattle.bc_model.proofs.Outcomes.{foreign-where, frozen-where, no_object-where, no_field-where}

-- t is s with a value in a field of the object that the slot refers to
record HasWritten (s : State) (p : Slot) (i : ℕ) (v : Value) (t : State) : Type 0 where
  birth : Birth
  object : slot_of s p ≡ Obj birth
  field : i < length (object_of s.made birth).fields
  state : t ≡ with_born_field s birth i v

-- t is s with what the field of that object holds in a slot
record HasLoaded (s : State) (p : Slot) (i : ℕ) (q : Slot) (t : State) : Type 0 where
  birth : Birth
  object : slot_of s p ≡ Obj birth
  state : t ≡ with_slot s q (field_of s birth i)

-- the state after an operation that is done
abbrev HasDone : State → ℕ → Op → State → Type 0
HasDone s j (op.New p n) t = t ≡ with_new s j p n
HasDone s j (op.Set p i v) t = HasWritten s p i (Num v) t
HasDone s j (op.Cut p i) t = HasWritten s p i Nil t
HasDone s j (op.Link p i q) t = HasWritten s p i (slot_of s q) t
HasDone s j (op.Load p i q) t = HasLoaded s p i q t
HasDone s j (op.Copy p q) t = t ≡ with_slot s q (slot_of s p)
HasDone s j (op.Clear p) t = t ≡ with_slot s p Nil
HasDone s j (op.Who p) t = t ≡ s
HasDone s j (op.Len p) t = t ≡ s
HasDone s j (op.Same p q) t = t ≡ s

data Result (s : State) (j : ℕ) (o : Op) (x : State × Reply) : Type 0 where
  stays : IsRefusal x.1 → x.0 ≡ s → Result s j o x
  goes : HasDone s j o x.0 → Result s j o x

Result-if : (s : State) (j : ℕ) (o : Op) (b : Bool) (x : State × Reply) (r : Reply) → IsRefusal r → (b ≡ true → Result s j o x) → Result s j o (if b then x else (s, r))
Result-if s j o true x r refusal h = h refl
Result-if s j o false x r refusal h = stays refusal refl

Result-on_object : (s : State) (j : ℕ) (o : Op) (v : Value) (f : Birth → State × Reply) → ((b : Birth) → v ≡ Obj b → Result s j o (f b)) → Result s j o (on_object s j v f)
Result-on_object s j o Nil f h = stays (inl refl) refl
Result-on_object s j o (Num n) f h = stays (inl refl) refl
Result-on_object s j o (Obj b) f h =
    Result-if s j o (reads s j (object_of s.made b).domain) (f b) reply.Foreign (inr (inr (inl refl))) (λ _. h b refl)

Result-on_field : (s : State) (j : ℕ) (o : Op) (v : Value) (i : ℕ) (f : Birth → State × Reply) → ((b : Birth) → v ≡ Obj b → i < length (object_of s.made b).fields → Result s j o (f b)) → Result s j o (on_field s j v i f)
Result-on_field s j o v i f h =
    Result-on_object s j o v _ (λ b e.
    Result-if s j o (nat_lt i (length (object_of s.made b).fields)) (f b) reply.Range (inr (inl refl)) (λ lt.
    h b e (ltb-true i (length (object_of s.made b).fields) lt)))

Result-on_own_field : (s : State) (j : ℕ) (o : Op) (v : Value) (i : ℕ) (f : Birth → State × Reply) → ((b : Birth) → v ≡ Obj b → i < length (object_of s.made b).fields → Result s j o (f b)) → Result s j o (on_own_field s j v i f)
Result-on_own_field s j o v i f h =
    Result-on_object s j o v _ (λ b e.
    Result-if s j o (writes s j (object_of s.made b).domain) _ reply.Frozen (inr (inr (inr refl))) (λ _.
    Result-if s j o (nat_lt i (length (object_of s.made b).fields)) (f b) reply.Range (inr (inl refl)) (λ lt.
    h b e (ltb-true i (length (object_of s.made b).fields) lt))))

Result-act : (s : State) (j : ℕ) (o : Op) → Result s j o (act s j o)
Result-act s j (op.New p n) = goes refl
Result-act s j (op.Who p) = goes refl
Result-act s j (op.Len p) = Result-on_object s j (op.Len p) (slot_of s p) _ (λ b e. goes refl)
Result-act s j (op.Set p i v) =
    Result-on_own_field s j (op.Set p i v) (slot_of s p) i _ (λ b e lt. goes (record { birth = b; object = e; field = lt; state = refl }))
Result-act s j (op.Cut p i) =
    Result-on_own_field s j (op.Cut p i) (slot_of s p) i _ (λ b e lt. goes (record { birth = b; object = e; field = lt; state = refl }))
Result-act s j (op.Link p i q) =
    Result-on_own_field s j (op.Link p i q) (slot_of s p) i _ (λ b e lt. goes (record { birth = b; object = e; field = lt; state = refl }))
Result-act s j (op.Load p i q) =
    Result-on_field s j (op.Load p i q) (slot_of s p) i _ (λ b e lt. goes (record { birth = b; object = e; state = refl }))
Result-act s j (op.Copy p q) = goes refl
Result-act s j (op.Clear p) = goes refl
Result-act s j (op.Same p q) = goes refl

result : (s : State) (j : ℕ) (o : Op) → Result s j o (step s j o)
result s j o =
    Result-if s j o (list_all (reads s j) (domains_of o)) _ reply.Foreign (inr (inr (inl refl))) (λ _.
    Result-if s j o (target_writes s j o) (act s j o) reply.Frozen (inr (inr (inr refl))) (λ _. Result-act s j o))

-- where nothing stands against it, it is done
done : (s : State) (j : ℕ) (o : Op) → ¬ IsRefused s j o → HasDone s j o (step s j o).0
done s j o free = elim (result s j o) [
  | stays (inl e) _ ↦ absurd (free (inr (inr (inl ((no_object-where s j o).0 e)))))
  | stays (inr (inl e)) _ ↦ absurd (free (inr (inr (inr ((no_field-where s j o).0 e)))))
  | stays (inr (inr (inl e))) _ ↦ absurd (free (inl ((foreign-where s j o).0 e)))
  | stays (inr (inr (inr e))) _ ↦ absurd (free (inr (inl ((frozen-where s j o).0 e))))
  | goes h ↦ h
]

-- what is true of the state before and of every state that an operation that is done leaves is true after a step
after : (s : State) (j : ℕ) (o : Op) (P : State → Type 0) → P s → ((t : State) → HasDone s j o t → P t) → P (step s j o).0
after s j o P here there = elim (result s j o) [
  | stays _ e ↦ subst P (sym e) here
  | goes h ↦ there (step s j o).0 h
]

-- a slot refers to one object
one-birth : (s : State) (p : Slot) (b c : Birth) → slot_of s p ≡ Obj b → slot_of s p ≡ Obj c → b ≡ c
one-birth s p b c e f = go (sym e ∙ f)
  where
    go : Obj b ≡ Obj c → b ≡ c
    go g = cc

born-there : (s : State) (p : Slot) (b : Birth) → IsState s → slot_of s p ≡ Obj b → IsBorn s.made b
born-there s p b hs e = subst (λ (x : Value). IsValue s.made x) e (hs.values (place_of s.width p))

-- slots after a write to one
slot-same : (s t : State) (p : Slot) (v : Value) → IsState s → IsSlot (sizes_of s) p → t ≡ with_slot s p v → slot_of t p ≡ v
slot-same s t p v hs at e =
    ap (λ (x : State). slot_of x p) e ∙ get_or-set_same s.slots (place_of s.width p) v Nil (place-within s p hs.slots at)

slot-other : (s t : State) (p r : Slot) (v : Value) → IsSlot (sizes_of s) p → IsSlot (sizes_of s) r → r ≢ p → t ≡ with_slot s p v → slot_of t r ≡ slot_of s r
slot-other s t p r v at there ne e =
    ap (λ (x : State). slot_of x r) e
    ∙ get_or-set_other s.slots (place_of s.width p) (place_of s.width r) v Nil (λ f. ne (same-place s.width r p there.1 at.1 f))

pub slot-after-new : (s : State) (j : ℕ) (p : Slot) (n : ℕ) → IsState s → IsSlot (sizes_of s) p → ¬ IsRefused s j (op.New p n) → slot_of (step s j (op.New p n)).0 p ≡ Obj (next_birth s.made j)
slot-after-new s j p n hs at free =
    ap (λ (x : State). slot_of x p) (done s j (op.New p n) free)
    ∙ get_or-set_same s.slots (place_of s.width p) (Obj (next_birth s.made j)) Nil (place-within s p hs.slots at)

pub slot-after-load : (s : State) (j : ℕ) (p q : Slot) (i : ℕ) (b : Birth) → IsState s → IsSlot (sizes_of s) q → slot_of s p ≡ Obj b → ¬ IsRefused s j (op.Load p i q) → slot_of (step s j (op.Load p i q)).0 q ≡ field_of s b i
slot-after-load s j p q i b hs at e free =
    let h = done s j (op.Load p i q) free in
    slot-same s (step s j (op.Load p i q)).0 q (field_of s h.birth i) hs at h.state
    ∙ ap (λ (x : Birth). field_of s x i) (one-birth s p h.birth b h.object e)

pub slot-after-copy : (s : State) (j : ℕ) (p q : Slot) → IsState s → IsSlot (sizes_of s) q → ¬ IsRefused s j (op.Copy p q) → slot_of (step s j (op.Copy p q)).0 q ≡ slot_of s p
slot-after-copy s j p q hs at free =
    slot-same s (step s j (op.Copy p q)).0 q (slot_of s p) hs at (done s j (op.Copy p q) free)

pub slot-after-clear : (s : State) (j : ℕ) (p : Slot) → IsState s → IsSlot (sizes_of s) p → ¬ IsRefused s j (op.Clear p) → slot_of (step s j (op.Clear p)).0 p ≡ Nil
slot-after-clear s j p hs at free = slot-same s (step s j (op.Clear p)).0 p Nil hs at (done s j (op.Clear p) free)

pub other-slots : (s : State) (j : ℕ) (o : Op) (r : Slot) → IsOp (sizes_of s) o → IsSlot (sizes_of s) r → ¬ WritesSlot o r → slot_of (step s j o).0 r ≡ slot_of s r
other-slots s j o r fits at ne = after s j o (λ t. slot_of t r ≡ slot_of s r) refl (go o fits ne)
  where
    go : (o : Op) → IsOp (sizes_of s) o → ¬ WritesSlot o r → (t : State) → HasDone s j o t → slot_of t r ≡ slot_of s r
    go (op.New p n) fits ne t h =
        ap (λ (x : State). slot_of x r) h
        ∙ slot-other s (with_slot s p (Obj (next_birth s.made j))) p r (Obj (next_birth s.made j)) fits.0 at ne refl
    go (op.Load p i q) fits ne t h = slot-other s t q r (field_of s h.birth i) fits.2 at ne h.state
    go (op.Copy p q) fits ne t h = slot-other s t q r (slot_of s p) fits.1 at ne h
    go (op.Clear p) fits ne t h = slot-other s t p r Nil fits at ne h
    go (op.Set p i v) fits ne t h = ap (λ (x : State). slot_of x r) h.state
    go (op.Cut p i) fits ne t h = ap (λ (x : State). slot_of x r) h.state
    go (op.Link p i q) fits ne t h = ap (λ (x : State). slot_of x r) h.state
    go (op.Who p) fits ne t h = ap (λ (x : State). slot_of x r) h
    go (op.Len p) fits ne t h = ap (λ (x : State). slot_of x r) h
    go (op.Same p q) fits ne t h = ap (λ (x : State). slot_of x r) h

-- fields after a write to one
field-same : (s t : State) (p : Slot) (i : ℕ) (v : Value) (b : Birth) → IsState s → slot_of s p ≡ Obj b → HasWritten s p i v t → field_of t b i ≡ v
field-same s t p i v b hs e h =
    let c = h.birth in
    ap (λ (x : Birth). field_of t x i) (one-birth s p b c e h.object)
    ∙ ap (λ (x : State). field_of x c i) h.state
    ∙ ap (λ (x : Object). slice_index_or x.fields i Nil) (object_of-with_object_same s.made c (with_value (object_of s.made c) i v) (born-there s p c hs h.object))
    ∙ get_or-set_same (object_of s.made c).fields i v Nil h.field

field-other : (s t : State) (p : Slot) (i : ℕ) (v : Value) (b : Birth) (k : ℕ) → IsState s → IsBorn s.made b → ¬ ((slot_of s p ≡ Obj b) × (k ≡ i)) → HasWritten s p i v t → field_of t b k ≡ field_of s b k
field-other s t p i v b k hs born ne h =
    let c = h.birth in
    let there : IsBorn s.made c = born-there s p c hs h.object in
    let o : Object = with_value (object_of s.made c) i v in
    ap (λ (x : State). field_of x b k) h.state
    ∙ elim (cases_birth b c) [
      | inl e ↦
          let apart : k ≢ i = λ f. ne (h.object ∙ ap Obj (sym e), f) in
          ap (λ (x : Birth). field_of (with_born_field s c i v) x k) e
          ∙ ap (λ (x : Object). slice_index_or x.fields k Nil) (object_of-with_object_same s.made c o there)
          ∙ get_or-set_other (object_of s.made c).fields i k v Nil apart
          ∙ ap (λ (x : Birth). field_of s x k) (sym e)
      | inr f ↦ ap (λ (x : Object). slice_index_or x.fields k Nil) (object_of-with_object_other s.made c o b there born f)
    ]

pub field-after-set : (s : State) (j : ℕ) (p : Slot) (i v : ℕ) (b : Birth) → IsState s → slot_of s p ≡ Obj b → ¬ IsRefused s j (op.Set p i v) → field_of (step s j (op.Set p i v)).0 b i ≡ Num v
field-after-set s j p i v b hs e free = field-same s (step s j (op.Set p i v)).0 p i (Num v) b hs e (done s j (op.Set p i v) free)

pub field-after-cut : (s : State) (j : ℕ) (p : Slot) (i : ℕ) (b : Birth) → IsState s → slot_of s p ≡ Obj b → ¬ IsRefused s j (op.Cut p i) → field_of (step s j (op.Cut p i)).0 b i ≡ Nil
field-after-cut s j p i b hs e free = field-same s (step s j (op.Cut p i)).0 p i Nil b hs e (done s j (op.Cut p i) free)

pub field-after-link : (s : State) (j : ℕ) (p q : Slot) (i : ℕ) (b : Birth) → IsState s → slot_of s p ≡ Obj b → ¬ IsRefused s j (op.Link p i q) → field_of (step s j (op.Link p i q)).0 b i ≡ slot_of s q
field-after-link s j p q i b hs e free =
    field-same s (step s j (op.Link p i q)).0 p i (slot_of s q) b hs e (done s j (op.Link p i q) free)

pub other-fields : (s : State) (j : ℕ) (o : Op) (b : Birth) (k : ℕ) → IsState s → j < length s.made → IsBorn s.made b → ¬ WritesField s o b k → field_of (step s j o).0 b k ≡ field_of s b k
other-fields s j o b k hs lane born ne = after s j o (λ t. field_of t b k ≡ field_of s b k) refl (go o ne)
  where
    go : (o : Op) → ¬ WritesField s o b k → (t : State) → HasDone s j o t → field_of t b k ≡ field_of s b k
    go (op.New p n) ne t h =
        ap (λ (x : State). field_of x b k) h
        ∙ ap (λ (x : Object). slice_index_or x.fields k Nil) (object_of-with_made_other s.made j _ b lane born)
    go (op.Set p i v) ne t h = field-other s t p i (Num v) b k hs born ne h
    go (op.Cut p i) ne t h = field-other s t p i Nil b k hs born ne h
    go (op.Link p i q) ne t h = field-other s t p i (slot_of s q) b k hs born ne h
    go (op.Load p i q) ne t h = ap (λ (x : State). field_of x b k) h.state
    go (op.Copy p q) ne t h = ap (λ (x : State). field_of x b k) h
    go (op.Clear p) ne t h = ap (λ (x : State). field_of x b k) h
    go (op.Who p) ne t h = ap (λ (x : State). field_of x b k) h
    go (op.Len p) ne t h = ap (λ (x : State). field_of x b k) h
    go (op.Same p q) ne t h = ap (λ (x : State). field_of x b k) h

-- the new object
made-object : (s : State) (j : ℕ) (p : Slot) (n : ℕ) → j < length s.made → ¬ IsRefused s j (op.New p n) → object_of (step s j (op.New p n)).0.made (next_birth s.made j) ≡ record { domain = p.domain; fields = replicate n Nil }
made-object s j p n lane free =
    ap (λ (x : State). object_of x.made (next_birth s.made j)) (done s j (op.New p n) free)
    ∙ object_of-with_made_same s.made j (record { domain = p.domain; fields = replicate n Nil }) lane

pub made-domain : (s : State) (j : ℕ) (p : Slot) (n : ℕ) → j < length s.made → ¬ IsRefused s j (op.New p n) → (object_of (step s j (op.New p n)).0.made (next_birth s.made j)).domain ≡ p.domain
made-domain s j p n lane free = ap (λ (x : Object). x.domain) (made-object s j p n lane free)

pub made-fields : (s : State) (j : ℕ) (p : Slot) (n : ℕ) → j < length s.made → ¬ IsRefused s j (op.New p n) → length (object_of (step s j (op.New p n)).0.made (next_birth s.made j)).fields ≡ n
made-fields s j p n lane free =
    ap (λ (x : Object). length x.fields) (made-object s j p n lane free) ∙ length-replicate n Nil

pub made-nil : (s : State) (j : ℕ) (p : Slot) (n i : ℕ) → j < length s.made → ¬ IsRefused s j (op.New p n) → field_of (step s j (op.New p n)).0 (next_birth s.made j) i ≡ Nil
made-nil s j p n i lane free =
    ap (λ (x : Object). slice_index_or x.fields i Nil) (made-object s j p n lane free)
    ∙ elim (cases_lt i n) [
      | inl within ↦ get_or-replicate n i Nil Nil within
      | inr past ↦ get_or_past (replicate n Nil) i Nil (omega (arith, past, length-replicate n Nil))
    ]

-- how many each lane has made
pub made-one : (s : State) (j : ℕ) (p : Slot) (n : ℕ) → j < length s.made → ¬ IsRefused s j (op.New p n) → length (made_by (step s j (op.New p n)).0.made j) ≡ length (made_by s.made j) + 1
made-one s j p n lane free =
    let o : Object = record { domain = p.domain; fields = replicate n Nil } in
    ap (λ (x : State). length (made_by x.made j)) (done s j (op.New p n) free)
    ∙ ap length (made_by-with_made_same s.made j o lane)
    ∙ length_push (made_by s.made j) o

-- a write to an object makes none
written-none : (s t : State) (p : Slot) (i : ℕ) (v : Value) (k : ℕ) → IsState s → HasWritten s p i v t → length (made_by t.made k) ≡ length (made_by s.made k)
written-none s t p i v k hs h =
    ap (λ (x : State). length (made_by x.made k)) h.state
    ∙ length-made_by-with_object s.made h.birth (with_value (object_of s.made h.birth) i v) k (born-there s p h.birth hs h.object)

pub made-none : (s : State) (j : ℕ) (o : Op) (k : ℕ) → IsState s → ¬ IsNew o → length (made_by (step s j o).0.made k) ≡ length (made_by s.made k)
made-none s j o k hs ne = after s j o (λ t. length (made_by t.made k) ≡ length (made_by s.made k)) refl (go o ne)
  where
    go : (o : Op) → ¬ IsNew o → (t : State) → HasDone s j o t → length (made_by t.made k) ≡ length (made_by s.made k)
    go (op.New p n) ne t h = absurd (ne tt)
    go (op.Set p i v) ne t h = written-none s t p i (Num v) k hs h
    go (op.Cut p i) ne t h = written-none s t p i Nil k hs h
    go (op.Link p i q) ne t h = written-none s t p i (slot_of s q) k hs h
    go (op.Load p i q) ne t h = ap (λ (x : State). length (made_by x.made k)) h.state
    go (op.Copy p q) ne t h = ap (λ (x : State). length (made_by x.made k)) h
    go (op.Clear p) ne t h = ap (λ (x : State). length (made_by x.made k)) h
    go (op.Who p) ne t h = ap (λ (x : State). length (made_by x.made k)) h
    go (op.Len p) ne t h = ap (λ (x : State). length (made_by x.made k)) h
    go (op.Same p q) ne t h = ap (λ (x : State). length (made_by x.made k)) h

-- an operation that is done leaves as many slots as there are, and whose the domains are
pub record HasRest (s t : State) : Type 0 where
  pub holders : t.holders ≡ s.holders
  pub width : t.width ≡ s.width
  pub slots : length t.slots ≡ length s.slots

rest_of : (s t : State) → t ≡ record s { made = t.made; slots = t.slots } → length t.slots ≡ length s.slots → HasRest s t
rest_of s t only long = record {
  holders = ap (λ (x : State). x.holders) only;
  width = ap (λ (x : State). x.width) only;
  slots = long;
}

rest-slot : (s t : State) (p : Slot) (v : Value) → t ≡ with_slot s p v → HasRest s t
rest-slot s t p v e =
    subst (HasRest s) (sym e) (rest_of s (with_slot s p v) refl (length-set s.slots (place_of s.width p) v))

rest-field : (s t : State) (b : Birth) (i : ℕ) (v : Value) → t ≡ with_born_field s b i v → HasRest s t
rest-field s t b i v e = subst (HasRest s) (sym e) (rest_of s (with_born_field s b i v) refl refl)

rest-done : (s : State) (j : ℕ) (o : Op) (t : State) → HasDone s j o t → HasRest s t
rest-done s j (op.New p n) t h =
    subst (HasRest s) (sym h) (rest_of s (with_new s j p n) refl (length-set s.slots (place_of s.width p) (Obj (next_birth s.made j))))
rest-done s j (op.Set p i v) t h = rest-field s t h.birth i (Num v) h.state
rest-done s j (op.Cut p i) t h = rest-field s t h.birth i Nil h.state
rest-done s j (op.Link p i q) t h = rest-field s t h.birth i (slot_of s q) h.state
rest-done s j (op.Load p i q) t h = rest-slot s t q (field_of s h.birth i) h.state
rest-done s j (op.Copy p q) t h = rest-slot s t q (slot_of s p) h
rest-done s j (op.Clear p) t h = rest-slot s t p Nil h
rest-done s j (op.Who p) t h = subst (HasRest s) (sym h) (rest_of s s refl refl)
rest-done s j (op.Len p) t h = subst (HasRest s) (sym h) (rest_of s s refl refl)
rest-done s j (op.Same p q) t h = subst (HasRest s) (sym h) (rest_of s s refl refl)

pub rest-stays : (s : State) (j : ℕ) (o : Op) → HasRest s (step s j o).0
rest-stays s j o = after s j o (HasRest s) (rest_of s s refl refl) (rest-done s j o)
