-- Who may read and write a domain, by its holder: for all crates that speak of holders.
use Rattle.std.proofs.Common.{◌≡◌, ◌≢◌, ◌⊎◌, ℕ, ◌<◌, ◌≤◌, nat_lt, if◌then◌else◌, Bool, true, false, List, [], ◌∷◌, get_or, set, map, length, inl, inr, refl, sym, ap, subst, ◌∙◌, arith, eqb-true, eq-eqb, ne_eqb, get_or-set_same, get_or-set_other}
use Prim.Native.Nat.{zero, suc}
use Rattle.std.specs.List.{list_all}
use Rattle.std.proofs.lemmas.List.{get_or_default, get_or_past, length-set}
use Rattle.std.proofs.lemmas.Bool.{cases_eq, and_parts}
use Rattle.bc_model.specs.Consistent.{IsHolder, IsState, IsValue}
use Rattle.bc_model.specs.State.{State, object_of, holder_of, lets_read, lets_write, reads, NoneFrozen}
use Rattle.bc_model.specs.StateSizes.{sizes_of}
use Rattle.bc_model.specs.Step.{domains_of, target_writes, on_field, on_own_field}
use Rattle.bc_model.specs.WellFormed.{IsOp}
use Rattle.bc_model.specs.declared.operations.Op.{Op}
use Rattle.bc_model.specs.declared.operations.Op.TheVariants as op
use Rattle.bc_model.specs.declared.operations.Reply.{Reply}
use Rattle.bc_model.specs.declared.operations.Reply.TheVariants as reply
use Rattle.bc_model.specs.declared.values.Birth.{Birth}
use Rattle.bc_model.specs.declared.values.Holder.{Holder}
use Rattle.bc_model.specs.declared.values.Holder.TheVariants.{Lane, Frozen}
use Rattle.bc_model.specs.declared.values.Value.{Value}
use Rattle.bc_model.specs.declared.values.Value.TheVariants.{Nil, Num, Obj}

-- ---- one holder

-- a holder is a lane or nobody
pub holder-cases : (x : Holder) → ((l : ℕ) × (x ≡ Lane l)) ⊎ (x ≡ Frozen)
holder-cases (Lane l) = inl (l, refl)
holder-cases Frozen = inr refl

pub same-lane : (j k : ℕ) → Lane j ≡ Lane k → j ≡ k
same-lane j k e = (let f : Lane j ≡ Lane k = e in cc)

-- a lane that holds a domain may read and write it
pub reads-held : (x : Holder) (lane : ℕ) → x ≡ Lane lane → lets_read x lane ≡ true
reads-held x lane e = ap (λ (y : Holder). lets_read y lane) e ∙ eq-eqb lane lane refl

pub writes-held : (x : Holder) (lane : ℕ) → x ≡ Lane lane → lets_write x lane ≡ true
writes-held x lane e = ap (λ (y : Holder). lets_write y lane) e ∙ eq-eqb lane lane refl

-- who may write a domain holds it, and who holds it not may not write it
pub writer : (x : Holder) (lane : ℕ) → lets_write x lane ≡ true → x ≡ Lane lane
writer (Lane l) lane e = ap Lane (eqb-true l lane e)
writer Frozen lane e = absurd (cc)

pub no-writer : (x : Holder) (lane : ℕ) → lets_write x lane ≡ false → x ≢ Lane lane
no-writer x lane off e = absurd (let h : true ≡ false = sym (writes-held x lane e) ∙ off in cc)

pub writes-other : (x : Holder) (lane : ℕ) → x ≢ Lane lane → lets_write x lane ≡ false
writes-other (Lane l) lane ne = ne_eqb l lane (λ e. ne (ap Lane e))
writes-other Frozen lane ne = refl

-- a frozen domain is read by all and written by none
pub reads-of_frozen : (x : Holder) (lane : ℕ) → x ≡ Frozen → lets_read x lane ≡ true
reads-of_frozen x lane e = ap (λ (y : Holder). lets_read y lane) e

pub writes-of_frozen : (x : Holder) (lane : ℕ) → x ≡ Frozen → lets_write x lane ≡ false
writes-of_frozen x lane e = ap (λ (y : Holder). lets_write y lane) e

-- who may read a domain holds it, or it is frozen
pub reader : (x : Holder) (lane : ℕ) → lets_read x lane ≡ true → (x ≡ Lane lane) ⊎ (x ≡ Frozen)
reader (Lane l) lane e = inl (ap Lane (eqb-true l lane e))
reader Frozen lane e = inr refl

pub reader-of_lane : (x : Holder) (lane : ℕ) → x ≢ Frozen → lets_read x lane ≡ true → x ≡ Lane lane
reader-of_lane (Lane l) lane ne e = ap Lane (eqb-true l lane e)
reader-of_lane Frozen lane ne e = absurd (ne refl)

-- who may not read a domain doesn't hold it
pub no-reader : (x : Holder) (lane : ℕ) → lets_read x lane ≡ false → x ≢ Lane lane
no-reader x lane off e = absurd (let h : true ≡ false = sym (reads-held x lane e) ∙ off in cc)

-- another lane's domain may not be read
pub reads-other : (x : Holder) (j k : ℕ) → x ≡ Lane j → j ≢ k → lets_read x k ≡ false
reads-other x j k e ne = ap (λ (y : Holder). lets_read y k) e ∙ ne_eqb j k ne

-- who may write a domain may read it, and nobody else may
pub writer-reads : (x : Holder) (lane : ℕ) → lets_write x lane ≡ true → lets_read x lane ≡ true
writer-reads (Lane l) lane w = w
writer-reads Frozen lane w = absurd (cc)

pub alone_reads : (x : Holder) (j k : ℕ) → lets_write x j ≡ true → lets_read x k ≡ true → j ≡ k
alone_reads (Lane l) j k w r = sym (eqb-true l j w) ∙ eqb-true l k r
alone_reads Frozen j k w r = absurd (cc)

pub held-reader : (x : Holder) (j k : ℕ) → x ≡ Lane j → lets_read x k ≡ true → j ≡ k
held-reader x j k e r = alone_reads x j k (writes-held x j e) r

-- a holder is one of at most so many lanes
pub IsHolder-lane : (n : ℕ) (x : Holder) (l : ℕ) → IsHolder n x → x ≡ Lane l → l < n
IsHolder-lane n x l h e = subst (IsHolder n) e h

pub IsHolder-as_many : (m n : ℕ) (x : Holder) → n ≡ m → IsHolder m x → IsHolder n x
IsHolder-as_many m n x e h = subst (λ (k : ℕ). IsHolder k x) (sym e) h

-- ---- the holders of all domains

-- what code reads at an index, whatever stands there past the end, is the holder
pub holder-at : (hs : List Holder) (d : ℕ) (x : Holder) → d < length hs → get_or hs d x ≡ holder_of hs d
holder-at hs d x within = get_or_default hs d x Frozen within

pub read-default : (hs : List Holder) (d lane : ℕ) → d < length hs → lets_read (get_or hs d (Lane 0)) lane ≡ lets_read (holder_of hs d) lane
read-default hs d lane within = ap (λ (x : Holder). lets_read x lane) (holder-at hs d (Lane 0) within)

pub write-default : (hs : List Holder) (d lane : ℕ) → d < length hs → lets_write (get_or hs d (Lane 0)) lane ≡ lets_write (holder_of hs d) lane
write-default hs d lane within = ap (λ (x : Holder). lets_write x lane) (holder-at hs d (Lane 0) within)

-- past the last domain nobody holds any, so a domain that a lane holds is there
pub holder-past : (hs : List Holder) (d : ℕ) → length hs ≤ d → holder_of hs d ≡ Frozen
holder-past hs d past = get_or_past hs d Frozen past

pub held-within : (hs : List Holder) (d l : ℕ) → holder_of hs d ≡ Lane l → d < length hs
held-within [] d l e = absurd (let h : Frozen ≡ Lane l = e in cc)
held-within (x ∷ hs) zero l e = omega arith
held-within (x ∷ hs) (suc d) l e = omega (arith, held-within hs d l e)

-- after a change the domain has the new holder, and every other its old one
pub holder-set : (hs : List Holder) (d : ℕ) (x : Holder) → d < length hs → holder_of (set hs d x) d ≡ x
holder-set hs d x within = get_or-set_same hs d x Frozen within

pub holder-set_other : (hs : List Holder) (d e : ℕ) (x : Holder) → e ≢ d → holder_of (set hs d x) e ≡ holder_of hs e
holder-set_other hs d e x ne = get_or-set_other hs d e x Frozen ne

-- what is made of each holder
pub holder-map : (f : Holder → ℕ) (hs : List Holder) (d : ℕ) → get_or (map f hs) d (f Frozen) ≡ f (holder_of hs d)
holder-map f [] d = refl
holder-map f (x ∷ hs) zero = refl
holder-map f (x ∷ hs) (suc d) = holder-map f hs d

-- ---- where no domain is frozen

-- a domain has a lane
pub lane-of : (hs : List Holder) (d : ℕ) → NoneFrozen hs → d < length hs → (l : ℕ) × (holder_of hs d ≡ Lane l)
lane-of hs d none within = elim (holder-cases (holder_of hs d)) [
  | inl lane ↦ lane
  | inr e ↦ absurd (none d within e)
]

-- who may read a domain holds it
pub reader-holds : (hs : List Holder) (d lane : ℕ) → NoneFrozen hs → d < length hs → lets_read (holder_of hs d) lane ≡ true → holder_of hs d ≡ Lane lane
reader-holds hs d lane none within e = reader-of_lane (holder_of hs d) lane (none d within) e

-- and so may write it
pub reader-writes : (hs : List Holder) (d lane : ℕ) → NoneFrozen hs → d < length hs → lets_read (holder_of hs d) lane ≡ true → lets_write (holder_of hs d) lane ≡ true
reader-writes hs d lane none within e = writes-held (holder_of hs d) lane (reader-holds hs d lane none within e)

-- who may not write a domain may not read it
pub no-writer-reads : (hs : List Holder) (d lane : ℕ) → NoneFrozen hs → d < length hs → lets_write (holder_of hs d) lane ≡ false → lets_read (holder_of hs d) lane ≡ false
no-writer-reads hs d lane none within off =
    let it = lane-of hs d none within in
    reads-other (holder_of hs d) it.0 lane it.1 (λ e. no-writer (holder_of hs d) lane off (it.1 ∙ ap Lane e))

-- who may write a domain is who may read it
pub writes-reads : (hs : List Holder) (d lane : ℕ) → NoneFrozen hs → d < length hs → lets_write (holder_of hs d) lane ≡ lets_read (holder_of hs d) lane
writes-reads hs d lane none within = go (holder_of hs d) (none d within)
  where
    go : (x : Holder) → x ≢ Frozen → lets_write x lane ≡ lets_read x lane
    go (Lane l) ne = refl
    go Frozen ne = absurd (ne refl)

-- a change to a lane leaves none frozen
pub NoneFrozen-set : (hs : List Holder) (d l : ℕ) → d < length hs → NoneFrozen hs → NoneFrozen (set hs d (Lane l))
NoneFrozen-set hs d l inside none e within h = elim (cases_eq e d) [
  | inl same ↦ absurd (let g : Lane l ≡ Frozen = sym (holder-set hs d (Lane l) inside) ∙ sym (ap (holder_of (set hs d (Lane l))) same) ∙ h in cc)
  | inr ne ↦ none e (let k = length-set hs d (Lane l) in omega arith) (sym (holder-set_other hs d e (Lane l) ne) ∙ h)
]

-- who may read what an operation names may write the slot that it writes
pub target-open : (s : State) (j : ℕ) (o : Op) → NoneFrozen s.holders → IsOp (sizes_of s) o → list_all (reads s j) (domains_of o) ≡ true → target_writes s j o ≡ true
target-open s j (op.New p n) none fits held = reader-writes s.holders p.domain j none fits.0.0 (and_parts _ _ held).0
target-open s j (op.Load p i q) none fits held = reader-writes s.holders q.domain j none fits.2.0 (and_parts _ _ (and_parts _ _ held).1).0
target-open s j (op.Copy p q) none fits held = reader-writes s.holders q.domain j none fits.1.0 (and_parts _ _ (and_parts _ _ held).1).0
target-open s j (op.Clear p) none fits held = reader-writes s.holders p.domain j none fits.0 (and_parts _ _ held).0
target-open s j (op.Who p) none fits held = refl
target-open s j (op.Len p) none fits held = refl
target-open s j (op.Set p i v) none fits held = refl
target-open s j (op.Cut p i) none fits held = refl
target-open s j (op.Link p i q) none fits held = refl
target-open s j (op.Same p q) none fits held = refl

-- who may read an object may write it
pub own-field-open : (s : State) (j : ℕ) (v : Value) (i : ℕ) (next : Birth → State × Reply) → NoneFrozen s.holders → IsState s → IsValue s.made v → on_own_field s j v i next ≡ on_field s j v i next
own-field-open s j Nil i next none is held = refl
own-field-open s j (Num n) i next none is held = refl
own-field-open s j (Obj b) i next none is held =
    let d = (object_of s.made b).domain in
    let past : State × Reply = (if nat_lt i (length (object_of s.made b).fields) then next b else (s, reply.Range)) in
    subst (λ (w : Bool). (if reads s j d then (if w then past else (s, reply.Frozen)) else (s, reply.Foreign)) ≡ (if reads s j d then past else (s, reply.Foreign)))
    (sym (writes-reads s.holders d j none (is.objects b held).domain))
    (twice (reads s j d) past (s, reply.Frozen) (s, reply.Foreign))
  where
    twice : (r : Bool) (x y z : State × Reply) → (if r then (if r then x else y) else z) ≡ (if r then x else z)
    twice true x y z = refl
    twice false x y z = refl
