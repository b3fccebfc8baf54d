-- Young objects, which a state has beyond those that were born before: what one operation leaves in slots and fields where
-- those that a lane may read refer to young objects alone, how many objects it makes, and how large they are.
use Rattle.std.proofs.Common.{◌≡◌, ◌≢◌, ℕ, ◌+◌, ◌-◌, ◌<◌, ◌≤◌, Bool, true, false, nat_lt, if◌then◌else◌, List, [], ◌∷◌, ◌++◌, length, get_or, set, replicate, refl, sym, ap, subst, ◌∙◌, inl, inr, arith, length-set, get_or-set_same, get_or-set_other}
use Rattle.std.specs.List.{list_all}
use Rattle.std.proofs.lemmas.Bool.{and_parts, cases_eq, cases_lt}
use Rattle.std.proofs.lemmas.List.{get_or_append_left, get_or_push, get_or_past, length_push, get_or-replicate, length-replicate}
use Rattle.bc_model.specs.State.{State, Object, made_by, object_of, no_object, next_birth, place_of, slot_of, field_of, with_slot, with_value, with_born_field, with_made, reads, writes}
use Rattle.bc_model.specs.Step.{step, act, domains_of, target_writes, on_object, on_field, on_own_field}
use Rattle.bc_model.specs.WellFormed.{IsSlot, IsOp}
use Rattle.bc_model.specs.declared.operations.Op.{Op}
use Rattle.bc_model.specs.declared.operations.Op.TheVariants as op
use Rattle.bc_model.specs.declared.operations.Reply.{Reply}
use Rattle.bc_model.specs.declared.operations.Reply.TheVariants as reply
use Rattle.bc_model.specs.declared.traces.Setup.{Setup}
use Rattle.bc_model.specs.declared.values.Birth.{Birth}
use Rattle.bc_model.specs.declared.values.Slot.{Slot}
use Rattle.bc_model.specs.declared.values.Value.{Value}
use Rattle.bc_model.specs.declared.values.Value.TheVariants.{Nil, Num, Obj}

-- ---- lists that change at one place

pub set-either : {X : Type 0} (P : X → Type 0) (xs : List X) (k : ℕ) (x : X) (i : ℕ) (d : X) → (i ≡ k → P x) → P (get_or xs i d) → P (get_or (set xs k x) i d)
set-either P xs k x i d new old =
    elim (cases_eq i k) [
      | inl e ↦ elim (cases_lt i (length xs)) [
        | inl within ↦
            subst (λ j. P (get_or (set xs k x) j d)) (sym e) (subst P (sym (get_or-set_same xs k x d (omega (arith, within, e)))) (new e))
        | inr past ↦ subst P (get_or_past xs i d past ∙ sym (get_or_past (set xs k x) i d (omega (arith, past, length-set xs k x)))) old
      ]
      | inr ne ↦ subst P (sym (get_or-set_other xs k i x d ne)) old
    ]

push-either : {X : Type 0} (P : X → Type 0) (xs : List X) (x : X) (i : ℕ) (d : X) → P x → P (get_or xs i d) → P (get_or (xs ++ x ∷ []) i d)
push-either P xs x i d new old =
    elim (cases_lt i (length xs)) [
      | inl within ↦ subst P (sym (get_or_append_left xs (x ∷ []) d i within)) old
      | inr past ↦ elim (cases_eq i (length xs)) [
        | inl e ↦ subst P (sym (get_or_push xs x d i (sym e))) new
        | inr ne ↦ subst P (get_or_past xs i d past ∙ sym (get_or_past (xs ++ x ∷ []) i d (omega (arith, past, ne, length_push xs x)))) old
      ]
    ]

pub nil-at : (n k : ℕ) → get_or (replicate n Nil) k Nil ≡ Nil
nil-at n k =
    elim (cases_lt k n) [
      | inl within ↦ get_or-replicate n k Nil Nil within
      | inr past ↦ get_or_past (replicate n Nil) k Nil (omega (arith, past, length-replicate n Nil))
    ]

-- ---- values

-- the value refers to no object, or to one that passes
abbrev pub Refers : (Birth → Type 0) → Value → Type 0
Refers P Nil = Unit {0}
Refers P (Num v) = Unit {0}
Refers P (Obj b) = P b

-- the lane had not made it by then
abbrev pub Young : List (List Object) → Birth → Type 0
Young old b = length (made_by old b.lane) < b.serial

-- these slots, and the fields of young objects, refer to young objects alone
pub record Clean (old : List (List Object)) (readable : Slot → Type 0) (s : State) : Type 0 where
  pub grown : (l : ℕ) → length (made_by old l) ≤ length (made_by s.made l)
  pub roots : (p : Slot) → readable p → Refers (Young old) (slot_of s p)
  pub fields : (b : Birth) → Young old b → (i : ℕ) → Refers (Young old) (field_of s b i)

-- a slot is written
pub clean-put : (old : List (List Object)) (readable : Slot → Type 0) (s : State) (p : Slot) (v : Value) → Clean old readable s → Refers (Young old) v → Clean old readable (with_slot s p v)
clean-put old readable s p v c young = record {
  grown = c.grown;
  roots = λ r h. set-either (Refers (Young old)) s.slots (place_of s.width p) v (place_of s.width r) Nil (λ _. young) (c.roots r h);
  fields = c.fields;
}

-- a field
clean-write : (old : List (List Object)) (readable : Slot → Type 0) (s : State) (b : Birth) (i : ℕ) (v : Value) → Clean old readable s → Young old b → Refers (Young old) v → Clean old readable (with_born_field s b i v)
clean-write old readable s b i v c own young =
    let o : Object = with_value (object_of s.made b) i v in
    let xs : List Object = set (made_by s.made b.lane) (b.serial - 1) o in
    record {
      grown = λ l. set-either (λ ys. length (made_by old l) ≤ length ys) s.made b.lane xs l []
          (λ e. subst (λ (m : ℕ). length (made_by old l) ≤ m) (sym (length-set (made_by s.made b.lane) (b.serial - 1) o)) (subst (λ (m : ℕ). length (made_by old l) ≤ length (made_by s.made m)) e (c.grown l)))
          (c.grown l);
      roots = c.roots;
      fields = λ d y k.
          set-either (λ ys. Refers (Young old) (get_or (get_or ys (d.serial - 1) no_object).fields k Nil)) s.made b.lane xs d.lane []
          (λ e. set-either (λ (x : Object). Refers (Young old) (get_or x.fields k Nil)) (made_by s.made b.lane) (b.serial - 1) o (d.serial - 1) no_object
          (λ _. set-either (Refers (Young old)) (object_of s.made b).fields i v k Nil (λ _. young) (c.fields b own k))
          (subst (λ (l : ℕ). Refers (Young old) (get_or (get_or (made_by s.made l) (d.serial - 1) no_object).fields k Nil)) e (c.fields d y k)))
          (c.fields d y k);
    }

-- an object is made
clean-made : (old : List (List Object)) (readable : Slot → Type 0) (s : State) (j d n : ℕ) → Clean old readable s → Clean old readable (record s { made = with_made s.made j (record { domain = d; fields = replicate n Nil }) })
clean-made old readable s j d n c =
    let o : Object = record { domain = d; fields = replicate n Nil } in
    let xs : List Object = made_by s.made j ++ o ∷ [] in
    record {
      grown = λ l. set-either (λ ys. length (made_by old l) ≤ length ys) s.made j xs l []
          (λ e. omega (arith, length_push (made_by s.made j) o, subst (λ (m : ℕ). length (made_by old l) ≤ length (made_by s.made m)) e (c.grown l)))
          (c.grown l);
      roots = c.roots;
      fields = λ b y k.
          set-either (λ ys. Refers (Young old) (get_or (get_or ys (b.serial - 1) no_object).fields k Nil)) s.made j xs b.lane []
          (λ e. push-either (λ (x : Object). Refers (Young old) (get_or x.fields k Nil)) (made_by s.made j) o (b.serial - 1) no_object
          (subst (Refers (Young old)) (sym (nil-at n k)) tt)
          (subst (λ (l : ℕ). Refers (Young old) (get_or (get_or (made_by s.made l) (b.serial - 1) no_object).fields k Nil)) e (c.fields b y k)))
          (c.fields b y k);
    }

-- ---- what holds of the state before and of every state that an operation may leave

if-keeps : (P : State → Type 0) (b : Bool) (x : State × Reply) (s : State) (r : Reply) → P s → (b ≡ true → P x.0) → P (if b then x else (s, r)).0
if-keeps P true x s r here there = there refl
if-keeps P false x s r here there = here

object-keeps : (P : State → Type 0) (s : State) (j : ℕ) (v : Value) (f : Birth → State × Reply) → P s → ((b : Birth) → v ≡ Obj b → P (f b).0) → P (on_object s j v f).0
object-keeps P s j Nil f here there = here
object-keeps P s j (Num n) f here there = here
object-keeps P s j (Obj b) f here there = if-keeps P (reads s j (object_of s.made b).domain) (f b) s reply.Foreign here (λ _. there b refl)

field-keeps : (P : State → Type 0) (s : State) (j : ℕ) (v : Value) (i : ℕ) (f : Birth → State × Reply) → P s → ((b : Birth) → v ≡ Obj b → P (f b).0) → P (on_field s j v i f).0
field-keeps P s j v i f here there =
    object-keeps P s j v (λ b. if nat_lt i (length (object_of s.made b).fields) then f b else (s, reply.Range)) here
    (λ b e. if-keeps P (nat_lt i (length (object_of s.made b).fields)) (f b) s reply.Range here (λ _. there b e))

own_field-keeps : (P : State → Type 0) (s : State) (j : ℕ) (v : Value) (i : ℕ) (f : Birth → State × Reply) → P s → ((b : Birth) → v ≡ Obj b → P (f b).0) → P (on_own_field s j v i f).0
own_field-keeps P s j v i f here there =
    object-keeps P s j v (λ b. if writes s j (object_of s.made b).domain then (if nat_lt i (length (object_of s.made b).fields) then f b else (s, reply.Range)) else (s, reply.Frozen)) here
    (λ b e. if-keeps P (writes s j (object_of s.made b).domain) (if nat_lt i (length (object_of s.made b).fields) then f b else (s, reply.Range)) s reply.Frozen here
    (λ _. if-keeps P (nat_lt i (length (object_of s.made b).fields)) (f b) s reply.Range here (λ _. there b e)))

step-keeps : (P : State → Type 0) (s : State) (j : ℕ) (o : Op) → P s → (list_all (reads s j) (domains_of o) ≡ true → P (act s j o).0) → P (step s j o).0
step-keeps P s j o here there =
    if-keeps P (list_all (reads s j) (domains_of o)) (if target_writes s j o then act s j o else (s, reply.Frozen)) s reply.Foreign here
    (λ held. if-keeps P (target_writes s j o) (act s j o) s reply.Frozen here (λ _. there held))

-- ---- an operation of a lane that may read every slot of its own domains

young-there : (old : List (List Object)) (v : Value) (b : Birth) → v ≡ Obj b → Refers (Young old) v → Young old b
young-there old v b e h = subst (Refers (Young old)) e h

pub clean-step : (old : List (List Object)) (readable : Slot → Type 0) (setup : Setup) (s : State) (j : ℕ) (o : Op) → Clean old readable s → ((p : Slot) → reads s j p.domain ≡ true → IsSlot setup p → readable p) → IsOp setup o → Clean old readable (step s j o).0
clean-step old readable setup s j o c own fits = step-keeps (Clean old readable) s j o c (λ held. go o fits held)
  where
    go : (o : Op) → IsOp setup o → list_all (reads s j) (domains_of o) ≡ true → Clean old readable (act s j o).0
    go (op.New p n) fits held =
        clean-put old readable (record s { made = with_made s.made j (record { domain = p.domain; fields = replicate n Nil }) }) p (Obj (next_birth s.made j))
        (clean-made old readable s j p.domain n c) (omega (arith, c.grown j))
    go (op.Who p) fits held = c
    go (op.Len p) fits held = object-keeps (Clean old readable) s j (slot_of s p) _ c (λ b e. c)
    go (op.Set p i v) fits held =
        let root = c.roots p (own p (and_parts _ _ held).0 fits.0) in
        own_field-keeps (Clean old readable) s j (slot_of s p) i _ c (λ b e. clean-write old readable s b i (Num v) c (young-there old (slot_of s p) b e root) tt)
    go (op.Cut p i) fits held =
        let root = c.roots p (own p (and_parts _ _ held).0 fits.0) in
        own_field-keeps (Clean old readable) s j (slot_of s p) i _ c (λ b e. clean-write old readable s b i Nil c (young-there old (slot_of s p) b e root) tt)
    go (op.Link p i q) fits held =
        let root = c.roots p (own p (and_parts _ _ held).0 fits.0) in
        let other = c.roots q (own q (and_parts _ _ (and_parts _ _ held).1).0 fits.2) in
        own_field-keeps (Clean old readable) s j (slot_of s p) i _ c (λ b e. clean-write old readable s b i (slot_of s q) c (young-there old (slot_of s p) b e root) other)
    go (op.Load p i q) fits held =
        let root = c.roots p (own p (and_parts _ _ held).0 fits.0) in
        field-keeps (Clean old readable) s j (slot_of s p) i _ c (λ b e. clean-put old readable s q (field_of s b i) c (c.fields b (young-there old (slot_of s p) b e root) i))
    go (op.Copy p q) fits held = clean-put old readable s q (slot_of s p) c (c.roots p (own p (and_parts _ _ held).0 fits.0))
    go (op.Clear p) fits held = clean-put old readable s p Nil c tt
    go (op.Same p q) fits held = c

-- ---- how many objects, and how large

abbrev pub new_of : Op → ℕ
new_of (op.New p n) = 1
new_of (op.Who p) = 0
new_of (op.Len p) = 0
new_of (op.Set p i v) = 0
new_of (op.Cut p i) = 0
new_of (op.Link p i q) = 0
new_of (op.Load p i q) = 0
new_of (op.Copy p q) = 0
new_of (op.Clear p) = 0
new_of (op.Same p q) = 0

-- an object that it makes has fewer than 8 fields
abbrev pub IsSmallNew : Op → Type 0
IsSmallNew (op.New p n) = n < 8
IsSmallNew (op.Who p) = Unit {0}
IsSmallNew (op.Len p) = Unit {0}
IsSmallNew (op.Set p i v) = Unit {0}
IsSmallNew (op.Cut p i) = Unit {0}
IsSmallNew (op.Link p i q) = Unit {0}
IsSmallNew (op.Load p i q) = Unit {0}
IsSmallNew (op.Copy p q) = Unit {0}
IsSmallNew (op.Clear p) = Unit {0}
IsSmallNew (op.Same p q) = Unit {0}

-- every object has fewer than 8 fields
abbrev pub AreSmall : State → Type 0
AreSmall s = (b : Birth) → length (object_of s.made b).fields < 8

-- lane j made at most `most` more, and no other lane any
pub record Makes (j most : ℕ) (s t : State) : Type 0 where
  pub own : (l : ℕ) → length (made_by t.made l) ≤ length (made_by s.made l) + most
  pub others : (l : ℕ) → l ≢ j → length (made_by t.made l) ≡ length (made_by s.made l)

makes-none : (j most : ℕ) (s t : State) → ((l : ℕ) → length (made_by t.made l) ≡ length (made_by s.made l)) → Makes j most s t
makes-none j most s t h = record { own = λ l. omega (arith, h l); others = λ l ne. h l }

written-length : (s : State) (b : Birth) (i : ℕ) (v : Value) (l : ℕ) → length (made_by (with_born_field s b i v).made l) ≡ length (made_by s.made l)
written-length s b i v l =
    let o : Object = with_value (object_of s.made b) i v in
    set-either (λ ys. length ys ≡ length (made_by s.made l)) s.made b.lane (set (made_by s.made b.lane) (b.serial - 1) o) l []
    (λ e. length-set (made_by s.made b.lane) (b.serial - 1) o ∙ ap (λ (m : ℕ). length (made_by s.made m)) (sym e)) refl

pub makes-step : (s : State) (j : ℕ) (o : Op) → Makes j (new_of o) s (step s j o).0
makes-step s j o = step-keeps (Makes j (new_of o) s) s j o (makes-none j (new_of o) s s (λ l. refl)) (λ _. go o)
  where
    same : (o : Op) → Makes j (new_of o) s s
    same o = makes-none j (new_of o) s s (λ l. refl)

    written : (o : Op) (b : Birth) (i : ℕ) (v : Value) → Makes j (new_of o) s (with_born_field s b i v)
    written o b i v = makes-none j (new_of o) s (with_born_field s b i v) (written-length s b i v)

    go : (o : Op) → Makes j (new_of o) s (act s j o).0
    go (op.New p n) =
        let x : Object = record { domain = p.domain; fields = replicate n Nil } in
        record {
          own = λ l. set-either (λ ys. length ys ≤ length (made_by s.made l) + 1) s.made j (made_by s.made j ++ x ∷ []) l []
              (λ e. omega (arith, length_push (made_by s.made j) x, ap (λ (m : ℕ). length (made_by s.made m)) e)) (omega arith);
          others = λ l ne. set-either (λ ys. length ys ≡ length (made_by s.made l)) s.made j (made_by s.made j ++ x ∷ []) l [] (λ e. absurd (ne e)) refl;
        }
    go (op.Who p) = same (op.Who p)
    go (op.Len p) = object-keeps (Makes j 0 s) s j (slot_of s p) _ (same (op.Len p)) (λ b e. same (op.Len p))
    go (op.Set p i v) = own_field-keeps (Makes j 0 s) s j (slot_of s p) i _ (same (op.Set p i v)) (λ b e. written (op.Set p i v) b i (Num v))
    go (op.Cut p i) = own_field-keeps (Makes j 0 s) s j (slot_of s p) i _ (same (op.Cut p i)) (λ b e. written (op.Cut p i) b i Nil)
    go (op.Link p i q) = own_field-keeps (Makes j 0 s) s j (slot_of s p) i _ (same (op.Link p i q)) (λ b e. written (op.Link p i q) b i (slot_of s q))
    go (op.Load p i q) = field-keeps (Makes j 0 s) s j (slot_of s p) i _ (same (op.Load p i q)) (λ b e. makes-none j 0 s (with_slot s q (field_of s b i)) (λ l. refl))
    go (op.Copy p q) = makes-none j 0 s (with_slot s q (slot_of s p)) (λ l. refl)
    go (op.Clear p) = makes-none j 0 s (with_slot s p Nil) (λ l. refl)
    go (op.Same p q) = same (op.Same p q)

written-small : (s : State) (b : Birth) (i : ℕ) (v : Value) → AreSmall s → AreSmall (with_born_field s b i v)
written-small s b i v h d =
    let o : Object = with_value (object_of s.made b) i v in
    set-either (λ ys. length (get_or ys (d.serial - 1) no_object).fields < 8) s.made b.lane (set (made_by s.made b.lane) (b.serial - 1) o) d.lane []
    (λ e. set-either (λ (x : Object). length x.fields < 8) (made_by s.made b.lane) (b.serial - 1) o (d.serial - 1) no_object
    (λ _. omega (arith, length-set (object_of s.made b).fields i v, h b))
    (subst (λ (l : ℕ). length (get_or (made_by s.made l) (d.serial - 1) no_object).fields < 8) e (h d)))
    (h d)

pub small-step : (s : State) (j : ℕ) (o : Op) → IsSmallNew o → AreSmall s → AreSmall (step s j o).0
small-step s j o few h = step-keeps AreSmall s j o h (λ _. go o few)
  where
    go : (o : Op) → IsSmallNew o → AreSmall (act s j o).0
    go (op.New p n) few = λ d.
        let x : Object = record { domain = p.domain; fields = replicate n Nil } in
        set-either (λ ys. length (get_or ys (d.serial - 1) no_object).fields < 8) s.made j (made_by s.made j ++ x ∷ []) d.lane []
        (λ e. push-either (λ (x : Object). length x.fields < 8) (made_by s.made j) x (d.serial - 1) no_object
        (omega (arith, few, length-replicate n Nil))
        (subst (λ (l : ℕ). length (get_or (made_by s.made l) (d.serial - 1) no_object).fields < 8) e (h d)))
        (h d)
    go (op.Who p) few = h
    go (op.Len p) few = object-keeps AreSmall s j (slot_of s p) _ h (λ b e. h)
    go (op.Set p i v) few = own_field-keeps AreSmall s j (slot_of s p) i _ h (λ b e. written-small s b i (Num v) h)
    go (op.Cut p i) few = own_field-keeps AreSmall s j (slot_of s p) i _ h (λ b e. written-small s b i Nil h)
    go (op.Link p i q) few = own_field-keeps AreSmall s j (slot_of s p) i _ h (λ b e. written-small s b i (slot_of s q) h)
    go (op.Load p i q) few = field-keeps AreSmall s j (slot_of s p) i _ h (λ b e. h)
    go (op.Copy p q) few = h
    go (op.Clear p) few = h
    go (op.Same p q) few = h
