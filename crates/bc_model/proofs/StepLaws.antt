-- Laws of one step and of two: what stays untouched, and what an operation answers that looks at what one before it did.
use Rattle.std.proofs.Common.{replicate, ◌≡◌, ◌≢◌, ℕ, ◌+◌, ◌<◌, Bool, true, false, ◌&&◌, ◌==◌, nat_lt, if◌then◌else◌, List, [], ◌∷◌, length, map, slice_index_or, refl, sym, ap, ap₂, subst, ◌∙◌, eq-eqb, length-set, get_or-set_same, get_or-set_other, ltb-true, take_all, le_refl, inl, inr, arith}
use Rattle.std.specs.List.{list_all}
use Rattle.std.proofs.lemmas.Bool.{and_from, cases_eq}
use Rattle.std.proofs.lemmas.List.{length-replicate}
use Rattle.bc_model.specs.Consistent.{IsState, IsValue}
use Rattle.bc_model.specs.StateSizes.{sizes_of}
use Rattle.bc_model.specs.Grows.{Grows}
use Rattle.bc_model.specs.Interleaving.{LaneOp, after_steps, FitSteps}
use Rattle.bc_model.specs.Run.{cut_lanes}
use Rattle.bc_model.specs.State.{State, Object, IsBorn, object_of, next_birth, with_value, with_slot, with_born_field, field_of, slot_of, place_of, holder_of, lets_read, lets_write, reads, writes, handed, given, frozen}
use Rattle.bc_model.specs.Step.{step, act, domains_of, on_object, on_field, on_own_field, target_writes, told, loaded, is_same, with_new}
use Rattle.bc_model.specs.WellFormed.{IsSlot, IsOp}
use Rattle.bc_model.specs.declared.operations.Op.{Op}
use Rattle.bc_model.specs.declared.operations.Op.TheVariants as op
use Rattle.bc_model.specs.declared.operations.Reply.{Reply}
use Rattle.bc_model.specs.declared.operations.Reply.TheVariants as reply
use Rattle.bc_model.specs.declared.traces.Give.{Give}
use Rattle.bc_model.specs.declared.values.Holder.{Holder}
use Rattle.bc_model.specs.declared.values.Holder.TheVariants.{Lane, Frozen}
use Rattle.bc_model.specs.declared.values.Birth.{Birth}
use Rattle.bc_model.specs.declared.values.Slot.{Slot}
use Rattle.bc_model.specs.declared.values.Value.{Value}
use Rattle.bc_model.specs.declared.values.Value.TheVariants.{Nil, Num, Obj}
use Rattle.bc_model.proofs.Agreeing.{other-effect, place-within, writer_reads}
use Rattle.bc_model.proofs.Effects.{Agrees, Does-step}
use Rattle.bc_model.proofs.Objects.{object_of-with_made_same, object_of-with_object_same}
use Rattle.bc_model.proofs.Orders.{FitSteps-step}
use Rattle.bc_model.proofs.Steps.{Grows-itself, Grows-then, Grows-step, IsState-step}

-- a lane other than this one that may read a domain which this one may not write
abbrev other_reader : Holder → ℕ → ℕ
other_reader (Lane l) j = l
other_reader Frozen j = j + 1

other_reader-reads : (h : Holder) (j : ℕ) → lets_read h (other_reader h j) ≡ true
other_reader-reads (Lane l) j = eq-eqb l l refl
other_reader-reads Frozen j = refl

other_reader-other : (h : Holder) (j : ℕ) → lets_write h j ≡ false → j ≢ other_reader h j
other_reader-other (Lane l) j w e = false_true (sym w ∙ eq-eqb l j (sym e))
  where
    false_true : false ≡ true → ⊥
    false_true p = cc
other_reader-other Frozen j w e = omega (arith, e)

-- to another who may read a domain that the lane may not write, the step is another lane's
foreign-step : (s : State) (j d : ℕ) (o : Op) → IsState s → j < length s.made → IsOp (sizes_of s) o → writes s j d ≡ false → Agrees (other_reader (holder_of s.holders d) j) s (step s j o).0
foreign-step s j d o hs lane fits foreign =
    let does = Does-step s j o hs fits in
    let k = other_reader (holder_of s.holders d) j in
    subst (λ (t : State). Agrees k s t) (sym does.state)
    (other-effect k j s does.effect (other_reader-other (holder_of s.holders d) j foreign) lane does.own)

pub slot-untouched : (s : State) (j : ℕ) (o : Op) (p : Slot) → IsState s → j < length s.made → IsOp (sizes_of s) o → IsSlot (sizes_of s) p → writes s j p.domain ≡ false → slot_of (step s j o).0 p ≡ slot_of s p
slot-untouched s j o p hs lane fits at foreign =
    (foreign-step s j p.domain o hs lane fits foreign).slot p at (other_reader-reads (holder_of s.holders p.domain) j)

pub object-untouched : (s : State) (j : ℕ) (o : Op) (b : Birth) → IsState s → j < length s.made → IsOp (sizes_of s) o → IsBorn s.made b → writes s j (object_of s.made b).domain ≡ false → object_of (step s j o).0.made b ≡ object_of s.made b
object-untouched s j o b hs lane fits born foreign =
    (foreign-step s j (object_of s.made b).domain o hs lane fits foreign).object b born (other_reader-reads (holder_of s.holders (object_of s.made b).domain) j)

pub Grows-steps : (s : State) (xs : List LaneOp) → IsState s → FitSteps s xs → Grows s.made (after_steps s xs).made
unfolding after_steps
Grows-steps s [] hs fits = Grows-itself s.made
Grows-steps s (x ∷ xs) hs fits =
    let t = (step s x.lane x.op).0 in
    Grows-then s.made t.made (after_steps t xs).made (Grows-step s x.lane x.op hs fits.0.0 fits.0.1)
    (Grows-steps t xs (IsState-step s x.lane x.op hs fits.0.0 fits.0.1) (FitSteps-step s x.lane x.op xs hs fits.0.1 fits.1))

-- an operation of a lane that may read what it names and write the slot that it writes
step-held : (s : State) (j : ℕ) (o : Op) → list_all (reads s j) (domains_of o) ≡ true → target_writes s j o ≡ true → step s j o ≡ act s j o
step-held s j o held own =
    ap (λ (b : Bool). if b then (if target_writes s j o then act s j o else (s, reply.Frozen)) else (s, reply.Foreign)) held
    ∙ ap (λ (b : Bool). if b then act s j o else (s, reply.Frozen)) own

pub who-after-new : (s : State) (j : ℕ) (p : Slot) (n : ℕ) → IsState s → j < length s.made → IsSlot (sizes_of s) p → writes s j p.domain ≡ true → (step (step s j (op.New p n)).0 j (op.Who p)).1 ≡ reply.Obj (next_birth s.made j)
who-after-new s j p n hs lane at own =
    let held : reads s j p.domain ≡ true = writer_reads s j p.domain own in
    let one : (reads s j p.domain && true) ≡ true = and_from _ _ held refl in
    let t = with_new s j p n in
    let b = next_birth s.made j in
    let made = ap (λ (x : State × Reply). x.0) (step-held s j (op.New p n) one own) in
    let o : Object = record { domain = p.domain; fields = replicate n Nil } in
    let there : slot_of t p ≡ Obj b = get_or-set_same s.slots (place_of s.width p) (Obj b) Nil (place-within s p hs.slots at) in
    let domain : (object_of t.made b).domain ≡ p.domain = ap (λ (x : Object). x.domain) (object_of-with_made_same s.made j o lane) in
    ap (λ (x : State). (step x j (op.Who p)).1) made
    ∙ ap (λ (x : State × Reply). x.1) (step-held t j (op.Who p) one refl)
    ∙ ap (told t j) there
    ∙ ap (λ (d : ℕ). if reads t j d then reply.Obj b else reply.Foreign) domain
    ∙ ap (λ (x : Bool). if x then reply.Obj b else reply.Foreign) held

pub len-after-new : (s : State) (j : ℕ) (p : Slot) (n : ℕ) → IsState s → j < length s.made → IsSlot (sizes_of s) p → writes s j p.domain ≡ true → (step (step s j (op.New p n)).0 j (op.Len p)).1 ≡ reply.Len n
len-after-new s j p n hs lane at own =
    let held : reads s j p.domain ≡ true = writer_reads s j p.domain own in
    let one : (reads s j p.domain && true) ≡ true = and_from _ _ held refl in
    let t = with_new s j p n in
    let b = next_birth s.made j in
    let o : Object = record { domain = p.domain; fields = replicate n Nil } in
    let there : slot_of t p ≡ Obj b = get_or-set_same s.slots (place_of s.width p) (Obj b) Nil (place-within s p hs.slots at) in
    let object : object_of t.made b ≡ o = object_of-with_made_same s.made j o lane in
    ap (λ (x : State). (step x j (op.Len p)).1) (ap (λ (x : State × Reply). x.0) (step-held s j (op.New p n) one own))
    ∙ ap (λ (x : State × Reply). x.1) (step-held t j (op.Len p) one refl)
    ∙ ap (λ (v : Value). (on_object t j v (λ c. (t, reply.Len (length (object_of t.made c).fields)))).1) there
    ∙ ap (λ (x : Object). (if reads t j x.domain then (let y : State × Reply = (t, reply.Len (length x.fields)) in y) else (let y : State × Reply = (t, reply.Foreign) in y)).1) object
    ∙ ap (λ (x : Bool). (if x then (let y : State × Reply = (t, reply.Len (length o.fields)) in y) else (let y : State × Reply = (t, reply.Foreign) in y)).1) held
    ∙ ap reply.Len (length-replicate n Nil)

-- a write to a field that was done: the lane may read the slot's domain, and the slot refers to an object of the lane's that
-- has the field
pub record DoneWrite (s : State) (j : ℕ) (p : Slot) (i : ℕ) : Type 0 where
  pub named : reads s j p.domain ≡ true
  pub birth : Birth
  pub slot : slot_of s p ≡ Obj birth
  pub held : reads s j (object_of s.made birth).domain ≡ true
  pub own : writes s j (object_of s.made birth).domain ≡ true
  pub field : nat_lt i (length (object_of s.made birth).fields) ≡ true

-- one outcome or the other
abbrev choose : Bool → State × Reply → State × Reply → State × Reply
choose t x y = if t then x else y

abbrev refused : State → Reply → State × Reply
refused s r = (s, r)

-- what a write of a value does to an object that has the field
abbrev set_field : State → Birth → ℕ → Value → State × Reply
set_field s b i v = (with_born_field s b i v, reply.Done)

-- what it does to a slot's object: the step of a set is this with a number, that of a cut with nil
abbrev written : State → ℕ → Slot → ℕ → Value → State × Reply
written s j p i v =
    choose (reads s j p.domain && true) (on_own_field s j (slot_of s p) i (λ b. set_field s b i v)) (refused s reply.Foreign)

done-write : (s : State) (j : ℕ) (p : Slot) (i : ℕ) (v : Value) → (written s j p i v).1 ≡ reply.Done → DoneWrite s j p i
done-write s j p i v done = first (reads s j p.domain) refl done
  where
    -- whether the object has the field
    fifth : (b : Birth) → reads s j p.domain ≡ true → slot_of s p ≡ Obj b → reads s j (object_of s.made b).domain ≡ true → writes s j (object_of s.made b).domain ≡ true → (t : Bool) → nat_lt i (length (object_of s.made b).fields) ≡ t → (choose t (set_field s b i v) (refused s reply.Range)).1 ≡ reply.Done → DoneWrite s j p i
    fifth b named slot held own true e d = record { named = named; birth = b; slot = slot; held = held; own = own; field = e }
    fifth b named slot held own false e d = absurd (cc)

    -- whether the lane may write it
    fourth : (b : Birth) → reads s j p.domain ≡ true → slot_of s p ≡ Obj b → reads s j (object_of s.made b).domain ≡ true → (t : Bool) → writes s j (object_of s.made b).domain ≡ t → (choose t (choose (nat_lt i (length (object_of s.made b).fields)) (set_field s b i v) (refused s reply.Range)) (refused s reply.Frozen)).1 ≡ reply.Done → DoneWrite s j p i
    fourth b named slot held true e d = fifth b named slot held e (nat_lt i (length (object_of s.made b).fields)) refl d
    fourth b named slot held false e d = absurd (cc)

    -- whether the lane may read its domain
    third : (b : Birth) → reads s j p.domain ≡ true → slot_of s p ≡ Obj b → (t : Bool) → reads s j (object_of s.made b).domain ≡ t → (choose t (choose (writes s j (object_of s.made b).domain) (choose (nat_lt i (length (object_of s.made b).fields)) (set_field s b i v) (refused s reply.Range)) (refused s reply.Frozen)) (refused s reply.Foreign)).1 ≡ reply.Done → DoneWrite s j p i
    third b named slot true e d = fourth b named slot e (writes s j (object_of s.made b).domain) refl d
    third b named slot false e d = absurd (cc)

    -- whether the slot holds an object
    second : reads s j p.domain ≡ true → (x : Value) → slot_of s p ≡ x → (on_own_field s j x i (λ b. set_field s b i v)).1 ≡ reply.Done → DoneWrite s j p i
    second named Nil e d = absurd (cc)
    second named (Num w) e d = absurd (cc)
    second named (Obj b) e d = third b named e (reads s j (object_of s.made b).domain) refl d

    first : (t : Bool) → reads s j p.domain ≡ t → (choose (t && true) (on_own_field s j (slot_of s p) i (λ b. set_field s b i v)) (refused s reply.Foreign)).1 ≡ reply.Done → DoneWrite s j p i
    first true e d = second e (slot_of s p) refl d
    first false e d = absurd (cc)

-- what a load from an object that has the field does
abbrev load_field : State → Birth → ℕ → Slot → State × Reply
load_field t b i q = (with_slot t q (field_of t b i), loaded (field_of t b i))

-- the load puts what was written into its slot
loaded-write : (s : State) (j : ℕ) (p q : Slot) (i : ℕ) (v : Value) → IsState s → (d : DoneWrite s j p i) → writes s j q.domain ≡ true → step (written s j p i v).0 j (op.Load p i q) ≡ (with_slot (with_born_field s d.birth i v) q v, loaded v)
loaded-write s j p q i v hs d held-q =
    let b = d.birth in
    let t : State = with_born_field s b i v in
    let o : Object = with_value (object_of s.made b) i v in
    let born : IsBorn s.made b = subst (λ (x : Value). IsValue s.made x) d.slot (hs.values (place_of s.width p)) in
    let there : object_of t.made b ≡ o = object_of-with_object_same s.made b o born in
    let has : State → Bool = λ x. nat_lt i (length (object_of x.made b).fields) in
    let first : (written s j p i v).0 ≡ t =
    ap (λ (x : Bool). (choose x (on_own_field s j (slot_of s p) i (λ c. set_field s c i v)) (refused s reply.Foreign)).0) (and_from _ _ d.named refl)
    ∙ ap (λ (x : Value). (on_own_field s j x i (λ c. set_field s c i v)).0) d.slot
    ∙ ap (λ (x : Bool). (choose x (choose (writes s j (object_of s.made b).domain) (choose (has s) (set_field s b i v) (refused s reply.Range)) (refused s reply.Frozen)) (refused s reply.Foreign)).0) d.held
    ∙ ap (λ (x : Bool). (choose x (choose (has s) (set_field s b i v) (refused s reply.Range)) (refused s reply.Frozen)).0) d.own
    ∙ ap (λ (x : Bool). (choose x (set_field s b i v) (refused s reply.Range)).0) d.field in
    let domain : reads t j (object_of t.made b).domain ≡ true = ap (λ (x : Object). reads s j x.domain) there ∙ d.held in
    let field : has t ≡ true =
    ap (λ (x : Object). nat_lt i (length x.fields)) there ∙ ap (nat_lt i) (length-set (object_of s.made b).fields i v) ∙ d.field in
    let value : field_of t b i ≡ v =
    ap (λ (x : Object). slice_index_or x.fields i Nil) there
    ∙ get_or-set_same (object_of s.made b).fields i v Nil (ltb-true i (length (object_of s.made b).fields) d.field) in
    ap (λ (x : State). step x j (op.Load p i q)) first
    ∙ step-held t j (op.Load p i q) (and_from _ _ d.named (and_from _ _ (writer_reads s j q.domain held-q) refl)) held-q
    ∙ ap (λ (x : Value). on_field t j x i (λ c. load_field t c i q)) d.slot
    ∙ ap (λ (x : Bool). choose x (choose (has t) (load_field t b i q) (refused t reply.Range)) (refused t reply.Foreign)) domain
    ∙ ap (λ (x : Bool). choose x (load_field t b i q) (refused t reply.Range)) field
    ∙ ap (λ (x : Value). (with_slot t q x, loaded x)) value

load-after-write : (s : State) (j : ℕ) (p q : Slot) (i : ℕ) (v : Value) → IsState s → (written s j p i v).1 ≡ reply.Done → writes s j q.domain ≡ true → (step (written s j p i v).0 j (op.Load p i q)).1 ≡ loaded v
load-after-write s j p q i v hs done held-q = ap (λ (x : State × Reply). x.1) (loaded-write s j p q i v hs (done-write s j p i v done) held-q)

pub load-after-set : (s : State) (j : ℕ) (p q : Slot) (i v : ℕ) → IsState s → (step s j (op.Set p i v)).1 ≡ reply.Done → writes s j q.domain ≡ true → (step (step s j (op.Set p i v)).0 j (op.Load p i q)).1 ≡ reply.Num v
load-after-set s j p q i v hs done held-q = load-after-write s j p q i (Num v) hs done held-q

pub load-after-cut : (s : State) (j : ℕ) (p q : Slot) (i : ℕ) → IsState s → (step s j (op.Cut p i)).1 ≡ reply.Done → writes s j q.domain ≡ true → (step (step s j (op.Cut p i)).0 j (op.Load p i q)).1 ≡ reply.Nil
load-after-cut s j p q i hs done held-q = load-after-write s j p q i Nil hs done held-q

-- a link that was done is a write of what its second slot holds
linked-held : (s : State) (j : ℕ) (p : Slot) (i : ℕ) (q : Slot) → (step s j (op.Link p i q)).1 ≡ reply.Done → reads s j q.domain ≡ true
linked-held s j p i q done = go (reads s j p.domain) (reads s j q.domain) refl done
  where
    go : (a b : Bool) → reads s j q.domain ≡ b → (choose (a && (b && true)) (on_own_field s j (slot_of s p) i (λ c. set_field s c i (slot_of s q))) (refused s reply.Foreign)).1 ≡ reply.Done → reads s j q.domain ≡ true
    go a true e d = e
    go true false e d = absurd (cc)
    go false false e d = absurd (cc)

linked-write : (s : State) (j : ℕ) (p : Slot) (i : ℕ) (q : Slot) → reads s j q.domain ≡ true → step s j (op.Link p i q) ≡ written s j p i (slot_of s q)
linked-write s j p i q held =
    ap (λ (b : Bool). choose (reads s j p.domain && (b && true)) (on_own_field s j (slot_of s p) i (λ c. set_field s c i (slot_of s q))) (refused s reply.Foreign)) held

loaded-link : (s : State) (j : ℕ) (p q r : Slot) (i : ℕ) → IsState s → (step s j (op.Link p i q)).1 ≡ reply.Done → writes s j r.domain ≡ true → (b : Birth) × (step (step s j (op.Link p i q)).0 j (op.Load p i r) ≡ (with_slot (with_born_field s b i (slot_of s q)) r (slot_of s q), loaded (slot_of s q)))
loaded-link s j p q r i hs done held-r =
    let v : Value = slot_of s q in
    let write = linked-write s j p i q (linked-held s j p i q done) in
    let d = done-write s j p i v (ap (λ (x : State × Reply). x.1) (sym write) ∙ done) in
    (d.birth, ap (λ (x : State × Reply). step x.0 j (op.Load p i r)) write ∙ loaded-write s j p r i v hs d held-r)

pub load-after-link : (s : State) (j : ℕ) (p q r : Slot) (i : ℕ) → IsState s → (step s j (op.Link p i q)).1 ≡ reply.Done → writes s j r.domain ≡ true → (step (step s j (op.Link p i q)).0 j (op.Load p i r)).1 ≡ loaded (slot_of s q)
load-after-link s j p q r i hs done held-r = ap (λ (x : State × Reply). x.1) (loaded-link s j p q r i hs done held-r).1

pub slot-after-link : (s : State) (j : ℕ) (p q r : Slot) (i : ℕ) → IsState s → IsSlot (sizes_of s) r → (step s j (op.Link p i q)).1 ≡ reply.Done → writes s j r.domain ≡ true → slot_of (step (step s j (op.Link p i q)).0 j (op.Load p i r)).0 r ≡ slot_of s q
slot-after-link s j p q r i hs at done held-r =
    ap (λ (x : State × Reply). slot_of x.0 r) (loaded-link s j p q r i hs done held-r).1
    ∙ get_or-set_same s.slots (place_of s.width r) (slot_of s q) Nil (place-within s r hs.slots at)

pub who-after-clear : (s : State) (j : ℕ) (p : Slot) → IsState s → IsSlot (sizes_of s) p → writes s j p.domain ≡ true → (step (step s j (op.Clear p)).0 j (op.Who p)).1 ≡ reply.Nil
who-after-clear s j p hs at own =
    let held : reads s j p.domain ≡ true = writer_reads s j p.domain own in
    let one : (reads s j p.domain && true) ≡ true = and_from _ _ held refl in
    let t : State = with_slot s p Nil in
    let there : slot_of t p ≡ Nil = get_or-set_same s.slots (place_of s.width p) Nil Nil (place-within s p hs.slots at) in
    ap (λ (x : State). (step x j (op.Who p)).1) (ap (λ (x : State × Reply). x.0) (step-held s j (op.Clear p) one own))
    ∙ ap (λ (x : State × Reply). x.1) (step-held t j (op.Who p) one refl)
    ∙ ap (told t j) there

pub is_same-itself : (v : Value) → is_same v v ≡ true
is_same-itself Nil = refl
is_same-itself (Num v) = eq-eqb v v refl
is_same-itself (Obj b) = and_from _ _ (eq-eqb b.lane b.lane refl) (eq-eqb b.serial b.serial refl)

pub same-after-copy : (s : State) (j : ℕ) (p q : Slot) → IsState s → IsSlot (sizes_of s) q → reads s j p.domain ≡ true → writes s j q.domain ≡ true → (step (step s j (op.Copy p q)).0 j (op.Same p q)).1 ≡ reply.Yes
same-after-copy s j p q hs at held-p held-q =
    let both : (reads s j p.domain && (reads s j q.domain && true)) ≡ true = and_from _ _ held-p (and_from _ _ (writer_reads s j q.domain held-q) refl) in
    let v : Value = slot_of s p in
    let t : State = with_slot s q v in
    let second : slot_of t q ≡ v = get_or-set_same s.slots (place_of s.width q) v Nil (place-within s q hs.slots at) in
    let first : slot_of t p ≡ v = elim (cases_eq (place_of s.width p) (place_of s.width q)) [
      | inl e ↦ ap (λ (k : ℕ). slice_index_or t.slots k Nil) e ∙ second
      | inr ne ↦ get_or-set_other s.slots (place_of s.width q) (place_of s.width p) v Nil ne
    ] in
    ap (λ (x : State). (step x j (op.Same p q)).1) (ap (λ (x : State × Reply). x.0) (step-held s j (op.Copy p q) both held-q))
    ∙ ap (λ (x : State × Reply). x.1) (step-held t j (op.Same p q) both refl)
    ∙ ap₂ (λ (x y : Value). if is_same x y then reply.Yes else reply.No) first second
    ∙ ap (λ (x : Bool). if x then reply.Yes else reply.No) (is_same-itself v)

-- who holds a domain after it has changed hands
pub holder-handed : (s : State) (d : ℕ) (h : Holder) → d < length s.holders → holder_of (handed s d h).holders d ≡ h
holder-handed s d h within = get_or-set_same s.holders d h Frozen within

pub other-holder-handed : (s : State) (d e : ℕ) (h : Holder) → e ≢ d → holder_of (handed s d h).holders e ≡ holder_of s.holders e
other-holder-handed s d e h ne = get_or-set_other s.holders d e h Frozen ne

-- after a give the domain is read and written by the lane alone
pub reads-given : (s : State) (g : Give) (j : ℕ) → g.domain < length s.holders → reads (given s g) j g.domain ≡ (g.lane == j)
reads-given s g j h = ap (λ (x : Holder). lets_read x j) (holder-handed s g.domain (Lane g.lane) h)

pub writes-given : (s : State) (g : Give) (j : ℕ) → g.domain < length s.holders → writes (given s g) j g.domain ≡ (g.lane == j)
writes-given s g j h = ap (λ (x : Holder). lets_write x j) (holder-handed s g.domain (Lane g.lane) h)

pub other-holder-given : (s : State) (g : Give) (j d : ℕ) → d ≢ g.domain → reads (given s g) j d ≡ reads s j d
other-holder-given s g j d ne = ap (λ (x : Holder). lets_read x j) (other-holder-handed s g.domain d (Lane g.lane) ne)

-- after a freeze it is read by all and written by none
pub reads-frozen : (s : State) (d j : ℕ) → d < length s.holders → reads (frozen s d) j d ≡ true
reads-frozen s d j h = ap (λ (x : Holder). lets_read x j) (holder-handed s d Frozen h)

pub writes-frozen : (s : State) (d j : ℕ) → d < length s.holders → writes (frozen s d) j d ≡ false
writes-frozen s d j h = ap (λ (x : Holder). lets_write x j) (holder-handed s d Frozen h)

-- a cut at the ends of all lanes
pub cut_lanes-whole : (lanes : List (List Op)) → cut_lanes (map length lanes) lanes ≡ lanes
unfolding cut_lanes
cut_lanes-whole [] = refl
cut_lanes-whole (ops ∷ lanes) =
    ap₂ (λ (x : List Op) (xs : List (List Op)). x ∷ xs) (take_all (length ops) ops (le_refl (length ops))) (cut_lanes-whole lanes)
