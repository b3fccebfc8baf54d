-- Every operation is refused for one reason, or has its answer.
use Rattle.std.proofs.Common.{◌≡◌, ◌≢◌, ◌⊎◌, ◌↔◌, ℕ, ◌<◌, Bool, true, false, ◌&&◌, nat_lt, if◌then◌else◌, length, refl, sym, ap, ap₂, subst, ◌∙◌, inl, inr, eqb-true, ltb-true, ltb-false, arith}
use Rattle.std.specs.List.{list_all}
use Rattle.std.proofs.lemmas.Bool.{and_parts}
use Rattle.bc_model.specs.Changes.{WritesSlot}
use Rattle.bc_model.specs.Refused.{NamesSlot, NeedsField, NeedsObject, LooksAt, WritesObject, ReadsNamed, WritesTarget, FreeSlots, ReadsObject, WritesNeeded, LacksDomain, LacksRight, LacksObject, LacksField, IsRefused, IsChange, Tells, TellsKind}
use Rattle.bc_model.specs.State.{State, object_of, next_birth, slot_of, field_of, reads, writes}
use Rattle.bc_model.specs.Step.{step, act, domains_of, on_object, on_field, on_own_field, target_writes, told, loaded, is_same}
use Rattle.bc_model.specs.declared.operations.Op.{Op}
use Rattle.bc_model.specs.declared.operations.Op.TheVariants as op
use Rattle.bc_model.specs.declared.operations.Reply.{Reply}
use Rattle.bc_model.specs.declared.operations.Reply.TheVariants as reply
use Rattle.bc_model.specs.declared.values.Birth.{Birth}
use Rattle.bc_model.specs.declared.values.Slot.{Slot}
use Rattle.bc_model.specs.declared.values.Value.{Value}
use Rattle.bc_model.specs.declared.values.Value.TheVariants.{Nil, Num, Obj}
use Rattle.bc_model.proofs.StepLaws.{is_same-itself}

-- nothing stands against the operation
record IsAllowed (s : State) (j : ℕ) (o : Op) : Type 0 where
  free : FreeSlots s j o
  read : ReadsObject s j o
  written : WritesNeeded s j o
  object : (p : Slot) → NeedsObject o p → (b : Birth) × (slot_of s p ≡ Obj b)
  field : (p : Slot) (i : ℕ) (b : Birth) → NeedsField o p i → slot_of s p ≡ Obj b → i < length (object_of s.made b).fields

-- a reply that is no refusal
abbrev IsAnswer : Reply → Type 0
IsAnswer reply.NotObj = ⊥
IsAnswer reply.Range = ⊥
IsAnswer reply.Foreign = ⊥
IsAnswer reply.Frozen = ⊥
IsAnswer _ = Unit {0}

-- the answer to each operation
abbrev Answers : State → ℕ → Op → Reply → Type 0
Answers s j (op.New p n) r = r ≡ reply.Obj (next_birth s.made j)
Answers s j (op.Who p) r = Tells (slot_of s p) r
Answers s j (op.Len p) r = (b : Birth) → slot_of s p ≡ Obj b → r ≡ reply.Len (length (object_of s.made b).fields)
Answers s j (op.Load p i q) r = (b : Birth) → slot_of s p ≡ Obj b → TellsKind (field_of s b i) r
Answers s j (op.Same p q) r =
    ((r ≡ reply.Yes) × (slot_of s p ≡ slot_of s q)) ⊎ ((r ≡ reply.No) × (slot_of s p ≢ slot_of s q))
Answers s j (op.Set p i v) r = r ≡ reply.Done
Answers s j (op.Cut p i) r = r ≡ reply.Done
Answers s j (op.Link p i q) r = r ≡ reply.Done
Answers s j (op.Copy p q) r = r ≡ reply.Done
Answers s j (op.Clear p) r = r ≡ reply.Done

data Outcome (s : State) (j : ℕ) (o : Op) (r : Reply) : Type 0 where
  no_domain : LacksDomain s j o → r ≡ reply.Foreign → Outcome s j o r
  no_right : LacksRight s j o → r ≡ reply.Frozen → Outcome s j o r
  no_object : LacksObject s j o → r ≡ reply.NotObj → Outcome s j o r
  no_field : LacksField s j o → r ≡ reply.Range → Outcome s j o r
  answered : IsAllowed s j o → IsAnswer r → Answers s j o r → Outcome s j o r

-- an operation looks at one object and one field of it
looks-one : (o : Op) (p q : Slot) → LooksAt o p → LooksAt o q → q ≡ p
looks-one (op.Who p) a b h k = k ∙ sym h
looks-one (op.Len p) a b h k = k ∙ sym h
looks-one (op.Set p i v) a b h k = k ∙ sym h
looks-one (op.Cut p i) a b h k = k ∙ sym h
looks-one (op.Link p i q) a b h k = k ∙ sym h
looks-one (op.Load p i q) a b h k = k ∙ sym h
looks-one (op.New p n) a b h k = absurd h
looks-one (op.Copy p q) a b h k = absurd h
looks-one (op.Clear p) a b h k = absurd h
looks-one (op.Same p q) a b h k = absurd h

object-looks : (o : Op) (p : Slot) → NeedsObject o p → LooksAt o p
object-looks (op.Len p) a h = h
object-looks (op.Set p i v) a h = h
object-looks (op.Cut p i) a h = h
object-looks (op.Link p i q) a h = h
object-looks (op.Load p i q) a h = h
object-looks (op.Who p) a h = absurd h
object-looks (op.New p n) a h = absurd h
object-looks (op.Copy p q) a h = absurd h
object-looks (op.Clear p) a h = absurd h
object-looks (op.Same p q) a h = absurd h

field-object : (o : Op) (p : Slot) (i : ℕ) → NeedsField o p i → NeedsObject o p
field-object (op.Set p i v) a k h = h.0
field-object (op.Cut p i) a k h = h.0
field-object (op.Link p i q) a k h = h.0
field-object (op.Load p i q) a k h = h.0
field-object (op.Len p) a k h = absurd h
field-object (op.Who p) a k h = absurd h
field-object (op.New p n) a k h = absurd h
field-object (op.Copy p q) a k h = absurd h
field-object (op.Clear p) a k h = absurd h
field-object (op.Same p q) a k h = absurd h

field-one : (o : Op) (p q : Slot) (i k : ℕ) → NeedsField o p i → NeedsField o q k → k ≡ i
field-one (op.Set p i v) a b m n h k = k.1 ∙ sym h.1
field-one (op.Cut p i) a b m n h k = k.1 ∙ sym h.1
field-one (op.Link p i q) a b m n h k = k.1 ∙ sym h.1
field-one (op.Load p i q) a b m n h k = k.1 ∙ sym h.1
field-one (op.Len p) a b m n h k = absurd h
field-one (op.Who p) a b m n h k = absurd h
field-one (op.New p n) a b m l h k = absurd h
field-one (op.Copy p q) a b m n h k = absurd h
field-one (op.Clear p) a b m n h k = absurd h
field-one (op.Same p q) a b m n h k = absurd h

-- a slot refers to one object
same-birth : (s : State) (o : Op) (p q : Slot) (b c : Birth) → LooksAt o p → LooksAt o q → slot_of s p ≡ Obj b → slot_of s q ≡ Obj c → c ≡ b
same-birth s o p q b c lp lq eb ec = go (sym ec ∙ ap (slot_of s) (looks-one o p q lp lq) ∙ eb)
  where
    go : Obj c ≡ Obj b → c ≡ b
    go e = cc

-- a test that passes and fails
pub true-false : (b : Bool) → b ≡ true → b ≡ false → ⊥
true-false b t f = cc

-- an operation that writes an object looks at it
written-looks : (o : Op) (p : Slot) → WritesObject o p → LooksAt o p
written-looks (op.Set p i v) a h = h
written-looks (op.Cut p i) a h = h
written-looks (op.Link p i q) a h = h
written-looks (op.Load p i q) a h = absurd h
written-looks (op.Len p) a h = absurd h
written-looks (op.Who p) a h = absurd h
written-looks (op.New p n) a h = absurd h
written-looks (op.Copy p q) a h = absurd h
written-looks (op.Clear p) a h = absurd h
written-looks (op.Same p q) a h = absurd h

-- the reasons exclude one another
free-domain : (s : State) (j : ℕ) (o : Op) → ReadsNamed s j o → ReadsObject s j o → LacksDomain s j o → ⊥
free-domain s j o named read (inl (p, n, e)) = true-false (reads s j p.domain) (named p n) e
free-domain s j o named read (inr (f, (p, b, l, is, e))) = true-false (reads s j (object_of s.made b).domain) (read p b l is) e

free-right : (s : State) (j : ℕ) (o : Op) → FreeSlots s j o → WritesNeeded s j o → LacksRight s j o → ⊥
free-right s j o free written (inl (n, (p, w, e))) = true-false (writes s j p.domain) (free.target p w) e
free-right s j o free written (inr (f, r, (p, b, w, is, e))) = true-false (writes s j (object_of s.made b).domain) (written p b w is) e

domain-right : (s : State) (j : ℕ) (o : Op) → LacksDomain s j o → LacksRight s j o → ⊥
domain-right s j o (inl (p, n, e)) (inl (named, x)) = true-false (reads s j p.domain) (named p n) e
domain-right s j o (inl (p, n, e)) (inr (free, read, x)) = true-false (reads s j p.domain) (free.named p n) e
domain-right s j o (inr (free, x)) (inl (named, (p, w, e))) = true-false (writes s j p.domain) (free.target p w) e
domain-right s j o (inr (free, (p, b, l, is, e))) (inr (f, read, x)) = true-false (reads s j (object_of s.made b).domain) (read p b l is) e

-- where there is no object none is read and none written
none-read : (s : State) (j : ℕ) (o : Op) → LacksObject s j o → ReadsObject s j o
none-read s j o l p b k e = absurd (l.none b (ap (slot_of s) (looks-one o p l.place k (object-looks o l.place l.needed)) ∙ e))

none-written : (s : State) (j : ℕ) (o : Op) → LacksObject s j o → WritesNeeded s j o
none-written s j o l p b k e = absurd (l.none b (ap (slot_of s) (looks-one o p l.place (written-looks o p k) (object-looks o l.place l.needed)) ∙ e))

object-lacks : (s : State) (j : ℕ) (o : Op) (p : Slot) (b : Birth) → NeedsObject o p → slot_of s p ≡ Obj b → LacksObject s j o → ⊥
object-lacks s j o p b need e l =
    l.none b (ap (slot_of s) (looks-one o p l.place (object-looks o p need) (object-looks o l.place l.needed)) ∙ e)

field-lacks : (s : State) (j : ℕ) (o : Op) → IsAllowed s j o → LacksField s j o → ⊥
field-lacks s j o a l = omega (arith, a.field l.place l.index l.birth l.needed l.object, l.none)

both-lack : (s : State) (j : ℕ) (o : Op) → LacksObject s j o → LacksField s j o → ⊥
both-lack s j o l k = object-lacks s j o k.place k.birth (field-object o k.place k.index k.needed) k.object l

allowed-object : (s : State) (j : ℕ) (o : Op) → IsAllowed s j o → LacksObject s j o → ⊥
allowed-object s j o a l = l.none (a.object l.place l.needed).0 (a.object l.place l.needed).1

-- the test of the domains that are named
named-held : (s : State) (j : ℕ) (o : Op) → list_all (reads s j) (domains_of o) ≡ true → (p : Slot) → NamesSlot o p → reads s j p.domain ≡ true
named-held s j (op.New p n) h r e = rw e (and_parts _ _ h).0
named-held s j (op.Who p) h r e = rw e (and_parts _ _ h).0
named-held s j (op.Len p) h r e = rw e (and_parts _ _ h).0
named-held s j (op.Set p i v) h r e = rw e (and_parts _ _ h).0
named-held s j (op.Cut p i) h r e = rw e (and_parts _ _ h).0
named-held s j (op.Clear p) h r e = rw e (and_parts _ _ h).0
named-held s j (op.Link p i q) h r (inl e) = rw e (and_parts _ _ h).0
named-held s j (op.Link p i q) h r (inr e) = rw e (and_parts _ _ (and_parts _ _ h).1).0
named-held s j (op.Load p i q) h r (inl e) = rw e (and_parts _ _ h).0
named-held s j (op.Load p i q) h r (inr e) = rw e (and_parts _ _ (and_parts _ _ h).1).0
named-held s j (op.Copy p q) h r (inl e) = rw e (and_parts _ _ h).0
named-held s j (op.Copy p q) h r (inr e) = rw e (and_parts _ _ (and_parts _ _ h).1).0
named-held s j (op.Same p q) h r (inl e) = rw e (and_parts _ _ h).0
named-held s j (op.Same p q) h r (inr e) = rw e (and_parts _ _ (and_parts _ _ h).1).0

-- a slot that is named, of a domain that isn't held
abbrev NamesForeign : State → ℕ → Op → Type 0
NamesForeign s j o = (p : Slot) × NamesSlot o p × (reads s j p.domain ≡ false)

one-foreign : (b : Bool) → (b && true) ≡ false → b ≡ false
one-foreign true h = absurd (cc)
one-foreign false h = refl

two-foreign : (a b : Bool) → (a && (b && true)) ≡ false → (a ≡ false) ⊎ (b ≡ false)
two-foreign false b h = inl refl
two-foreign true false h = inr refl
two-foreign true true h = absurd (cc)

one-named : (s : State) (j : ℕ) (o : Op) (p : Slot) → NamesSlot o p → (reads s j p.domain && true) ≡ false → NamesForeign s j o
one-named s j o p n h = (p, n, one-foreign _ h)

two-named : (s : State) (j : ℕ) (o : Op) (p q : Slot) → NamesSlot o p → NamesSlot o q → (reads s j p.domain && (reads s j q.domain && true)) ≡ false → NamesForeign s j o
two-named s j o p q n m h = elim (two-foreign _ _ h) [
  | inl e ↦ (p, n, e)
  | inr e ↦ (q, m, e)
]

named-foreign : (s : State) (j : ℕ) (o : Op) → list_all (reads s j) (domains_of o) ≡ false → NamesForeign s j o
named-foreign s j (op.New p n) h = one-named s j (op.New p n) p refl h
named-foreign s j (op.Who p) h = one-named s j (op.Who p) p refl h
named-foreign s j (op.Len p) h = one-named s j (op.Len p) p refl h
named-foreign s j (op.Set p i v) h = one-named s j (op.Set p i v) p refl h
named-foreign s j (op.Cut p i) h = one-named s j (op.Cut p i) p refl h
named-foreign s j (op.Clear p) h = one-named s j (op.Clear p) p refl h
named-foreign s j (op.Link p i q) h = two-named s j (op.Link p i q) p q (inl refl) (inr refl) h
named-foreign s j (op.Load p i q) h = two-named s j (op.Load p i q) p q (inl refl) (inr refl) h
named-foreign s j (op.Copy p q) h = two-named s j (op.Copy p q) p q (inl refl) (inr refl) h
named-foreign s j (op.Same p q) h = two-named s j (op.Same p q) p q (inl refl) (inr refl) h

-- the test of the slot that is written
target-held : (s : State) (j : ℕ) (o : Op) → target_writes s j o ≡ true → WritesTarget s j o
target-held s j (op.New p n) h r e = rw e h
target-held s j (op.Load p i q) h r e = rw e h
target-held s j (op.Copy p q) h r e = rw e h
target-held s j (op.Clear p) h r e = rw e h
target-held s j (op.Who p) h r e = absurd e
target-held s j (op.Len p) h r e = absurd e
target-held s j (op.Set p i v) h r e = absurd e
target-held s j (op.Cut p i) h r e = absurd e
target-held s j (op.Link p i q) h r e = absurd e
target-held s j (op.Same p q) h r e = absurd e

abbrev LacksTarget : State → ℕ → Op → Type 0
LacksTarget s j o = (p : Slot) × WritesSlot o p × (writes s j p.domain ≡ false)

target-lacks : (s : State) (j : ℕ) (o : Op) → target_writes s j o ≡ false → LacksTarget s j o
target-lacks s j (op.New p n) h = (p, refl, h)
target-lacks s j (op.Load p i q) h = (q, refl, h)
target-lacks s j (op.Copy p q) h = (q, refl, h)
target-lacks s j (op.Clear p) h = (p, refl, h)
target-lacks s j (op.Who p) h = absurd (cc)
target-lacks s j (op.Len p) h = absurd (cc)
target-lacks s j (op.Set p i v) h = absurd (cc)
target-lacks s j (op.Cut p i) h = absurd (cc)
target-lacks s j (op.Link p i q) h = absurd (cc)
target-lacks s j (op.Same p q) h = absurd (cc)

-- the object that the operation looks at may be read, and the one that it writes written
no-object : (s : State) (j : ℕ) (o : Op) (p : Slot) → LooksAt o p → ((b : Birth) → slot_of s p ≢ Obj b) → ReadsObject s j o
no-object s j o p l none q b k e = absurd (none b (ap (slot_of s) (sym (looks-one o p q l k)) ∙ e))

one-object : (s : State) (j : ℕ) (o : Op) (p : Slot) (b : Birth) → LooksAt o p → slot_of s p ≡ Obj b → reads s j (object_of s.made b).domain ≡ true → ReadsObject s j o
one-object s j o p b l e held q c k f = rw (same-birth s o p q b c l k e f) held

one-written : (s : State) (j : ℕ) (o : Op) (p : Slot) (b : Birth) → LooksAt o p → slot_of s p ≡ Obj b → writes s j (object_of s.made b).domain ≡ true → WritesNeeded s j o
one-written s j o p b l e own q c k f = rw (same-birth s o p q b c l (written-looks o q k) e f) own

-- the object that an operation needs
on_object-outcome : (s : State) (j : ℕ) (o : Op) (p : Slot) (f : Birth → State × Reply) → FreeSlots s j o → NeedsObject o p → ((b : Birth) → slot_of s p ≡ Obj b → ReadsObject s j o → Outcome s j o (f b).1) → Outcome s j o (on_object s j (slot_of s p) f).1
on_object-outcome s j o p f h need rest = go (slot_of s p) refl
  where
    none : (v : Value) → slot_of s p ≡ v → ((b : Birth) → v ≢ Obj b) → Outcome s j o reply.NotObj
    none v e ne =
        let empty : (b : Birth) → slot_of s p ≢ Obj b = λ b k. ne b (sym e ∙ k) in
        no_object (record { free = h; place = p; needed = need; none = empty }) refl

    mine : (b : Birth) → slot_of s p ≡ Obj b → (t : Bool) → reads s j (object_of s.made b).domain ≡ t → Outcome s j o (if t then f b else (s, reply.Foreign)).1
    mine b e true held = rest b e (one-object s j o p b (object-looks o p need) e held)
    mine b e false held = no_domain (inr (h, (p, b, object-looks o p need, e, held))) refl

    go : (v : Value) → slot_of s p ≡ v → Outcome s j o (on_object s j v f).1
    go Nil e = none Nil e (λ b k. absurd (cc))
    go (Num n) e = none (Num n) e (λ b k. absurd (cc))
    go (Obj b) e = mine b e (reads s j (object_of s.made b).domain) refl

-- and the field
field-outcome : (s : State) (j : ℕ) (o : Op) (p : Slot) (i : ℕ) (f : Birth → State × Reply) (b : Birth) → FreeSlots s j o → NeedsField o p i → slot_of s p ≡ Obj b → ReadsObject s j o → WritesNeeded s j o → IsAnswer (f b).1 × Answers s j o (f b).1 → (t : Bool) → nat_lt i (length (object_of s.made b).fields) ≡ t → Outcome s j o (if t then f b else (s, reply.Range)).1
field-outcome s j o p i f b h need e read written rest true lt = answered (record {
  free = h;
  read = read;
  written = written;
  object = λ q n. (b, ap (slot_of s) (looks-one o p q (object-looks o p (field-object o p i need)) (object-looks o q n)) ∙ e);
  field = λ q k c n g.
      rw (field-one o p q i k need n, same-birth s o p q b c (object-looks o p (field-object o p i need)) (object-looks o q (field-object o q k n)) e g) (ltb-true i (length (object_of s.made b).fields) lt);
}) rest.0 rest.1
field-outcome s j o p i f b h need e read written rest false lt = no_field (record {
  free = h;
  read = read;
  written = written;
  place = p;
  index = i;
  birth = b;
  needed = need;
  object = e;
  none = ltb-false i (length (object_of s.made b).fields) lt;
}) refl

on_field-outcome : (s : State) (j : ℕ) (o : Op) (p : Slot) (i : ℕ) (f : Birth → State × Reply) → FreeSlots s j o → NeedsField o p i → ((q : Slot) → WritesObject o q → ⊥) → ((b : Birth) → slot_of s p ≡ Obj b → IsAnswer (f b).1 × Answers s j o (f b).1) → Outcome s j o (on_field s j (slot_of s p) i f).1
on_field-outcome s j o p i f h need unwritten rest =
    on_object-outcome s j o p _ h (field-object o p i need) (λ b e read.
    field-outcome s j o p i f b h need e read (λ q c w g. absurd (unwritten q w)) (rest b e) (nat_lt i (length (object_of s.made b).fields)) refl)

on_own_field-outcome : (s : State) (j : ℕ) (o : Op) (p : Slot) (i : ℕ) (f : Birth → State × Reply) → FreeSlots s j o → NeedsField o p i → WritesObject o p → ((b : Birth) → slot_of s p ≡ Obj b → IsAnswer (f b).1 × Answers s j o (f b).1) → Outcome s j o (on_own_field s j (slot_of s p) i f).1
on_own_field-outcome s j o p i f h need writes-it rest =
    on_object-outcome s j o p _ h (field-object o p i need) (λ b e read. go b e read (writes s j (object_of s.made b).domain) refl)
  where
    go : (b : Birth) → slot_of s p ≡ Obj b → ReadsObject s j o → (t : Bool) → writes s j (object_of s.made b).domain ≡ t → Outcome s j o (if t then (if nat_lt i (length (object_of s.made b).fields) then f b else (s, reply.Range)) else (s, reply.Frozen)).1
    go b e read true own =
        field-outcome s j o p i f b h need e read (one-written s j o p b (written-looks o p writes-it) e own) (rest b e) (nat_lt i (length (object_of s.made b).fields)) refl
    go b e read false own = no_right (inr (h, read, (p, b, writes-it, e, own))) refl

-- an operation that needs no object
plain-outcome : (s : State) (j : ℕ) (o : Op) (r : Reply) → FreeSlots s j o → ((p : Slot) → LooksAt o p → ⊥) → IsAnswer r → Answers s j o r → Outcome s j o r
plain-outcome s j o r h none ok answers = answered (record {
  free = h;
  read = λ p b l e. absurd (none p l);
  written = λ p b w e. absurd (none p (written-looks o p w));
  object = λ p n. absurd (none p (object-looks o p n));
  field = λ p i b n e. absurd (none p (object-looks o p (field-object o p i n)));
}) ok answers

-- what a slot holds, as a reply to a lane
who-outcome : (s : State) (j : ℕ) (p : Slot) → FreeSlots s j (op.Who p) → Outcome s j (op.Who p) (told s j (slot_of s p))
who-outcome s j p h = go (slot_of s p) refl
  where
    tells : (r : Reply) → ReadsObject s j (op.Who p) → IsAnswer r → Tells (slot_of s p) r → Outcome s j (op.Who p) r
    tells r read ok t = answered (record { free = h; read = read; written = λ q b w e. absurd w; object = λ q n. absurd n; field = λ q i b n e. absurd n }) ok t

    none : (v : Value) → slot_of s p ≡ v → ((b : Birth) → v ≢ Obj b) → ReadsObject s j (op.Who p)
    none v e ne = no-object s j (op.Who p) p refl (λ b k. ne b (sym e ∙ k))

    mine : (b : Birth) → slot_of s p ≡ Obj b → (t : Bool) → reads s j (object_of s.made b).domain ≡ t → Outcome s j (op.Who p) (if t then reply.Obj b else reply.Foreign)
    mine b e true held = tells (reply.Obj b) (one-object s j (op.Who p) p b refl e held) tt (rw e refl)
    mine b e false held = no_domain (inr (h, (p, b, refl, e, held))) refl

    go : (v : Value) → slot_of s p ≡ v → Outcome s j (op.Who p) (told s j v)
    go Nil e = tells reply.Nil (none Nil e (λ b k. absurd (cc))) tt (rw e refl)
    go (Num n) e = tells (reply.Num n) (none (Num n) e (λ b k. absurd (cc))) tt (rw e refl)
    go (Obj b) e = mine b e (reads s j (object_of s.made b).domain) refl

len-outcome : (s : State) (j : ℕ) (p : Slot) → FreeSlots s j (op.Len p) → Outcome s j (op.Len p) (act s j (op.Len p)).1
len-outcome s j p h = on_object-outcome s j (op.Len p) p _ h refl (λ b e read. answered (record {
  free = h;
  read = read;
  written = λ q c w f. absurd w;
  object = λ q n. (b, ap (slot_of s) n ∙ e);
  field = λ q i c n f. absurd n;
}) tt (λ c f. ap (λ (x : Birth). reply.Len (length (object_of s.made x).fields)) (sym (same-birth s (op.Len p) p p b c refl refl e f))))

loaded-answer : (v : Value) → IsAnswer (loaded v)
loaded-answer Nil = tt
loaded-answer (Num n) = tt
loaded-answer (Obj b) = tt

loaded-tells : (v : Value) → TellsKind v (loaded v)
loaded-tells Nil = refl
loaded-tells (Num n) = refl
loaded-tells (Obj b) = refl

load-outcome : (s : State) (j : ℕ) (p : Slot) (i : ℕ) (q : Slot) → FreeSlots s j (op.Load p i q) → Outcome s j (op.Load p i q) (act s j (op.Load p i q)).1
load-outcome s j p i q h = on_field-outcome s j (op.Load p i q) p i _ h (refl, refl) (λ r w. w) (λ b e. (
  loaded-answer (field_of s b i),
  λ c f.
      subst (λ (x : Birth). TellsKind (field_of s x i) (loaded (field_of s b i))) (sym (same-birth s (op.Load p i q) p p b c refl refl e f)) (loaded-tells (field_of s b i)),
))

-- the two slots hold the same value
pub same-held : (v w : Value) → is_same v w ≡ true → v ≡ w
same-held Nil Nil h = refl
same-held (Num v) (Num w) h = ap Num (eqb-true v w h)
same-held (Obj b) (Obj c) h = births (eqb-true b.lane c.lane (and_parts _ _ h).0) (eqb-true b.serial c.serial (and_parts _ _ h).1)
  where
    births : b.lane ≡ c.lane → b.serial ≡ c.serial → Obj b ≡ Obj c
    births l n = ap₂ (λ (x y : ℕ). Obj (record { lane = x; serial = y })) l n
same-held Nil (Num w) h = absurd (cc)
same-held Nil (Obj c) h = absurd (cc)
same-held (Num v) Nil h = absurd (cc)
same-held (Num v) (Obj c) h = absurd (cc)
same-held (Obj b) Nil h = absurd (cc)
same-held (Obj b) (Num w) h = absurd (cc)

other-held : (v w : Value) → is_same v w ≡ false → v ≢ w
other-held v w h e = true-false (is_same v w) (subst (λ (x : Value). is_same v x ≡ true) e (is_same-itself v)) h

same-outcome : (s : State) (j : ℕ) (p q : Slot) → FreeSlots s j (op.Same p q) → Outcome s j (op.Same p q) (act s j (op.Same p q)).1
same-outcome s j p q h = go (is_same (slot_of s p) (slot_of s q)) refl
  where
    go : (t : Bool) → is_same (slot_of s p) (slot_of s q) ≡ t → Outcome s j (op.Same p q) (if t then reply.Yes else reply.No)
    go true e = plain-outcome s j (op.Same p q) reply.Yes h (λ r l. l) tt (inl (refl, same-held (slot_of s p) (slot_of s q) e))
    go false e = plain-outcome s j (op.Same p q) reply.No h (λ r l. l) tt (inr (refl, other-held (slot_of s p) (slot_of s q) e))

act-outcome : (s : State) (j : ℕ) (o : Op) → FreeSlots s j o → Outcome s j o (act s j o).1
act-outcome s j (op.New p n) h = plain-outcome s j (op.New p n) _ h (λ r l. l) tt refl
act-outcome s j (op.Who p) h = who-outcome s j p h
act-outcome s j (op.Len p) h = len-outcome s j p h
act-outcome s j (op.Set p i v) h = on_own_field-outcome s j (op.Set p i v) p i _ h (refl, refl) refl (λ b e. (tt, refl))
act-outcome s j (op.Cut p i) h = on_own_field-outcome s j (op.Cut p i) p i _ h (refl, refl) refl (λ b e. (tt, refl))
act-outcome s j (op.Link p i q) h = on_own_field-outcome s j (op.Link p i q) p i _ h (refl, refl) refl (λ b e. (tt, refl))
act-outcome s j (op.Load p i q) h = load-outcome s j p i q h
act-outcome s j (op.Copy p q) h = plain-outcome s j (op.Copy p q) _ h (λ r l. l) tt refl
act-outcome s j (op.Clear p) h = plain-outcome s j (op.Clear p) _ h (λ r l. l) tt refl
act-outcome s j (op.Same p q) h = same-outcome s j p q h

outcome : (s : State) (j : ℕ) (o : Op) → Outcome s j o (step s j o).1
outcome s j o = go (list_all (reads s j) (domains_of o)) refl
  where
    foreign : NamesForeign s j o → Outcome s j o reply.Foreign
    foreign named = no_domain (inl named) refl

    right : ReadsNamed s j o → (t : Bool) → target_writes s j o ≡ t → Outcome s j o (if t then act s j o else (s, reply.Frozen)).1
    right named true e = act-outcome s j o (record { named = named; target = target-held s j o e })
    right named false e = no_right (inl (named, target-lacks s j o e)) refl

    go : (t : Bool) → list_all (reads s j) (domains_of o) ≡ t → Outcome s j o (if t then (if target_writes s j o then act s j o else (s, reply.Frozen)) else (s, reply.Foreign)).1
    go true e = right (named-held s j o e) (target_writes s j o) refl
    go false e = foreign (named-foreign s j o e)

-- each refusal exactly where its reason is
pub foreign-where : (s : State) (j : ℕ) (o : Op) → ((step s j o).1 ≡ reply.Foreign) ↔ LacksDomain s j o
foreign-where s j o = (there (step s j o).1 (outcome s j o), back (step s j o).1 (outcome s j o))
  where
    there : (r : Reply) → Outcome s j o r → r ≡ reply.Foreign → LacksDomain s j o
    there r (no_domain l e) f = l
    there r (no_right l e) f = absurd (cc)
    there r (no_object l e) f = absurd (cc)
    there r (no_field l e) f = absurd (cc)
    there r (answered a ok x) f = absurd (subst IsAnswer f ok)

    back : (r : Reply) → Outcome s j o r → LacksDomain s j o → r ≡ reply.Foreign
    back r (no_domain l e) h = e
    back r (no_right l e) h = absurd (domain-right s j o h l)
    back r (no_object l e) h = absurd (free-domain s j o l.free.named (none-read s j o l) h)
    back r (no_field l e) h = absurd (free-domain s j o l.free.named l.read h)
    back r (answered a ok x) h = absurd (free-domain s j o a.free.named a.read h)

pub frozen-where : (s : State) (j : ℕ) (o : Op) → ((step s j o).1 ≡ reply.Frozen) ↔ LacksRight s j o
frozen-where s j o = (there (step s j o).1 (outcome s j o), back (step s j o).1 (outcome s j o))
  where
    there : (r : Reply) → Outcome s j o r → r ≡ reply.Frozen → LacksRight s j o
    there r (no_domain l e) f = absurd (cc)
    there r (no_right l e) f = l
    there r (no_object l e) f = absurd (cc)
    there r (no_field l e) f = absurd (cc)
    there r (answered a ok x) f = absurd (subst IsAnswer f ok)

    back : (r : Reply) → Outcome s j o r → LacksRight s j o → r ≡ reply.Frozen
    back r (no_domain l e) h = absurd (domain-right s j o l h)
    back r (no_right l e) h = e
    back r (no_object l e) h = absurd (free-right s j o l.free (none-written s j o l) h)
    back r (no_field l e) h = absurd (free-right s j o l.free l.written h)
    back r (answered a ok x) h = absurd (free-right s j o a.free a.written h)

pub no_object-where : (s : State) (j : ℕ) (o : Op) → ((step s j o).1 ≡ reply.NotObj) ↔ LacksObject s j o
no_object-where s j o = (there (step s j o).1 (outcome s j o), back (step s j o).1 (outcome s j o))
  where
    there : (r : Reply) → Outcome s j o r → r ≡ reply.NotObj → LacksObject s j o
    there r (no_domain l e) f = absurd (cc)
    there r (no_right l e) f = absurd (cc)
    there r (no_object l e) f = l
    there r (no_field l e) f = absurd (cc)
    there r (answered a ok x) f = absurd (subst IsAnswer f ok)

    back : (r : Reply) → Outcome s j o r → LacksObject s j o → r ≡ reply.NotObj
    back r (no_domain l e) h = absurd (free-domain s j o h.free.named (none-read s j o h) l)
    back r (no_right l e) h = absurd (free-right s j o h.free (none-written s j o h) l)
    back r (no_object l e) h = e
    back r (no_field l e) h = absurd (both-lack s j o h l)
    back r (answered a ok x) h = absurd (allowed-object s j o a h)

pub no_field-where : (s : State) (j : ℕ) (o : Op) → ((step s j o).1 ≡ reply.Range) ↔ LacksField s j o
no_field-where s j o = (there (step s j o).1 (outcome s j o), back (step s j o).1 (outcome s j o))
  where
    there : (r : Reply) → Outcome s j o r → r ≡ reply.Range → LacksField s j o
    there r (no_domain l e) f = absurd (cc)
    there r (no_right l e) f = absurd (cc)
    there r (no_object l e) f = absurd (cc)
    there r (no_field l e) f = l
    there r (answered a ok x) f = absurd (subst IsAnswer f ok)

    back : (r : Reply) → Outcome s j o r → LacksField s j o → r ≡ reply.Range
    back r (no_domain l e) h = absurd (free-domain s j o h.free.named h.read l)
    back r (no_right l e) h = absurd (free-right s j o h.free h.written l)
    back r (no_object l e) h = absurd (both-lack s j o l h)
    back r (no_field l e) h = e
    back r (answered a ok x) h = absurd (field-lacks s j o a h)

-- and the answer where there is none
answer : (s : State) (j : ℕ) (o : Op) → ¬ IsRefused s j o → Answers s j o (step s j o).1
answer s j o free = go (step s j o).1 (outcome s j o)
  where
    go : (r : Reply) → Outcome s j o r → Answers s j o r
    go r (no_domain l e) = absurd (free (inl l))
    go r (no_right l e) = absurd (free (inr (inl l)))
    go r (no_object l e) = absurd (free (inr (inr (inl l))))
    go r (no_field l e) = absurd (free (inr (inr (inr l))))
    go r (answered a ok x) = x

pub change-done : (s : State) (j : ℕ) (o : Op) → IsChange o → ¬ IsRefused s j o → (step s j o).1 ≡ reply.Done
change-done s j (op.Set p i v) c free = answer s j (op.Set p i v) free
change-done s j (op.Cut p i) c free = answer s j (op.Cut p i) free
change-done s j (op.Link p i q) c free = answer s j (op.Link p i q) free
change-done s j (op.Copy p q) c free = answer s j (op.Copy p q) free
change-done s j (op.Clear p) c free = answer s j (op.Clear p) free
change-done s j (op.New p n) c free = absurd c
change-done s j (op.Who p) c free = absurd c
change-done s j (op.Len p) c free = absurd c
change-done s j (op.Load p i q) c free = absurd c
change-done s j (op.Same p q) c free = absurd c

pub new-answer : (s : State) (j : ℕ) (p : Slot) (n : ℕ) → ¬ IsRefused s j (op.New p n) → (step s j (op.New p n)).1 ≡ reply.Obj (next_birth s.made j)
new-answer s j p n free = answer s j (op.New p n) free

pub who-answer : (s : State) (j : ℕ) (p : Slot) → ¬ IsRefused s j (op.Who p) → Tells (slot_of s p) (step s j (op.Who p)).1
who-answer s j p free = answer s j (op.Who p) free

pub len-answer : (s : State) (j : ℕ) (p : Slot) (b : Birth) → slot_of s p ≡ Obj b → ¬ IsRefused s j (op.Len p) → (step s j (op.Len p)).1 ≡ reply.Len (length (object_of s.made b).fields)
len-answer s j p b e free = answer s j (op.Len p) free b e

pub load-answer : (s : State) (j : ℕ) (p q : Slot) (i : ℕ) (b : Birth) → slot_of s p ≡ Obj b → ¬ IsRefused s j (op.Load p i q) → TellsKind (field_of s b i) (step s j (op.Load p i q)).1
load-answer s j p q i b e free = answer s j (op.Load p i q) free b e

-- a comparison of two slots
abbrev BothHeld : State → ℕ → Slot → Slot → Type 0
BothHeld s j p q = (reads s j p.domain ≡ true) × (reads s j q.domain ≡ true)

same-named : (s : State) (j : ℕ) (p q : Slot) → FreeSlots s j (op.Same p q) → BothHeld s j p q
same-named s j p q h = (h.named p (inl refl), h.named q (inr refl))

same-free : (s : State) (j : ℕ) (p q : Slot) → BothHeld s j p q → ¬ IsRefused s j (op.Same p q)
same-free s j p q h (inl l) = free-domain s j (op.Same p q) (λ r n. elim n [
  | inl e ↦ rw e h.0
  | inr e ↦ rw e h.1
]) (λ r b k e. absurd k) l
same-free s j p q h (inr (inl (inl (n, (r, w, e))))) = w
same-free s j p q h (inr (inl (inr (f, k, (r, b, w, is, e))))) = w
same-free s j p q h (inr (inr (inl l))) = l.needed
same-free s j p q h (inr (inr (inr l))) = l.needed

same-answered : (s : State) (j : ℕ) (p q : Slot) → IsAnswer (step s j (op.Same p q)).1 → FreeSlots s j (op.Same p q)
same-answered s j p q ok = go (step s j (op.Same p q)).1 (outcome s j (op.Same p q)) ok
  where
    go : (r : Reply) → Outcome s j (op.Same p q) r → IsAnswer r → FreeSlots s j (op.Same p q)
    go r (answered a ok x) k = a.free
    go r (no_domain l e) k = absurd (subst IsAnswer e k)
    go r (no_right l e) k = absurd (subst IsAnswer e k)
    go r (no_object l e) k = absurd (subst IsAnswer e k)
    go r (no_field l e) k = absurd (subst IsAnswer e k)

pub same-yes : (s : State) (j : ℕ) (p q : Slot) → ((step s j (op.Same p q)).1 ≡ reply.Yes) ↔ (reads s j p.domain ≡ true) × (reads s j q.domain ≡ true) × (slot_of s p ≡ slot_of s q)
same-yes s j p q = (there, back)
  where
    yes-no : reply.Yes ≡ reply.No → ⊥
    yes-no e = cc

    there : (step s j (op.Same p q)).1 ≡ reply.Yes → (reads s j p.domain ≡ true) × (reads s j q.domain ≡ true) × (slot_of s p ≡ slot_of s q)
    there e =
        let held = same-named s j p q (same-answered s j p q (subst IsAnswer (sym e) tt)) in
        elim (answer s j (op.Same p q) (same-free s j p q held)) [
          | inl x ↦ (held.0, held.1, x.1)
          | inr x ↦ absurd (yes-no (sym e ∙ x.0))
        ]

    back : (reads s j p.domain ≡ true) × (reads s j q.domain ≡ true) × (slot_of s p ≡ slot_of s q) → (step s j (op.Same p q)).1 ≡ reply.Yes
    back h = elim (answer s j (op.Same p q) (same-free s j p q (h.0, h.1))) [
      | inl x ↦ x.0
      | inr x ↦ absurd (x.1 h.2)
    ]

pub same-no : (s : State) (j : ℕ) (p q : Slot) → ((step s j (op.Same p q)).1 ≡ reply.No) ↔ (reads s j p.domain ≡ true) × (reads s j q.domain ≡ true) × (slot_of s p ≢ slot_of s q)
same-no s j p q = (there, back)
  where
    no-yes : reply.No ≡ reply.Yes → ⊥
    no-yes e = cc

    there : (step s j (op.Same p q)).1 ≡ reply.No → (reads s j p.domain ≡ true) × (reads s j q.domain ≡ true) × (slot_of s p ≢ slot_of s q)
    there e =
        let held = same-named s j p q (same-answered s j p q (subst IsAnswer (sym e) tt)) in
        elim (answer s j (op.Same p q) (same-free s j p q held)) [
          | inl x ↦ absurd (no-yes (sym e ∙ x.0))
          | inr x ↦ (held.0, held.1, x.1)
        ]

    back : (reads s j p.domain ≡ true) × (reads s j q.domain ≡ true) × (slot_of s p ≢ slot_of s q) → (step s j (op.Same p q)).1 ≡ reply.No
    back h = elim (answer s j (op.Same p q) (same-free s j p q (h.0, h.1))) [
      | inl x ↦ absurd (h.2 x.1)
      | inr x ↦ x.0
    ]
