-- In the theorem.
-- What an operation does, and what it is answered. The tests come in this order, and the first that holds gives the
-- reply and leaves the state as it was: a domain that the operation names may not be read by the lane; the slot that it writes
-- is of a frozen domain; the slot holds no object; the object's domain may not be read by the lane; the object is to be
-- written, and its domain is frozen; the object has no such field.
use Rattle.std.specs.Prelude.{ℕ, ◌==◌, ◌&&◌, nat_lt, Bool, true, false, Option, Some, None, if◌then◌else◌, List, [], ◌∷◌, length, replicate}
use Rattle.std.specs.List.{list_all}
use Rattle.bc_model.specs.State.{State, object_of, with_made, next_birth, slot_of, with_slot, field_of, with_born_field, reads, writes}
use Rattle.bc_model.specs.declared.operations.Op.{Op}
use Rattle.bc_model.specs.declared.operations.Op.TheVariants as op
use Rattle.bc_model.specs.declared.operations.Reply.{Reply}
use Rattle.bc_model.specs.declared.operations.Reply.TheVariants as reply
use Rattle.bc_model.specs.declared.values.Birth.{Birth}
use Rattle.bc_model.specs.declared.values.Slot.{Slot}
use Rattle.bc_model.specs.declared.values.Value.{Value}
use Rattle.bc_model.specs.declared.values.Value.TheVariants.{Nil, Num, Obj}

-- the domains that an operation names
abbrev pub domains_of : Op → List ℕ
domains_of (op.New p n) = p.domain ∷ []
domains_of (op.Who p) = p.domain ∷ []
domains_of (op.Len p) = p.domain ∷ []
domains_of (op.Set p i v) = p.domain ∷ []
domains_of (op.Cut p i) = p.domain ∷ []
domains_of (op.Link p i q) = p.domain ∷ q.domain ∷ []
domains_of (op.Load p i q) = p.domain ∷ q.domain ∷ []
domains_of (op.Copy p q) = p.domain ∷ q.domain ∷ []
domains_of (op.Clear p) = p.domain ∷ []
domains_of (op.Same p q) = p.domain ∷ q.domain ∷ []

-- the root slot that an operation writes, if it writes one
abbrev pub target_of : Op → Option Slot
target_of (op.New p n) = Some p
target_of (op.Load p i q) = Some q
target_of (op.Copy p q) = Some q
target_of (op.Clear p) = Some p
target_of (op.Who p) = None
target_of (op.Len p) = None
target_of (op.Set p i v) = None
target_of (op.Cut p i) = None
target_of (op.Link p i q) = None
target_of (op.Same p q) = None

-- the lane may write the slot, if there is one
abbrev pub may_write : State → ℕ → Option Slot → Bool
may_write s j None = true
may_write s j (Some p) = writes s j p.domain

-- the lane may write the slot that the operation writes, if it writes one
abbrev pub target_writes : State → ℕ → Op → Bool
target_writes s j o = may_write s j (target_of o)

-- the slot holds an object of a domain that the lane may read, or the reply says what is wrong
abbrev pub on_object : State → ℕ → Value → (Birth → State × Reply) → State × Reply
on_object s j (Obj b) act = if reads s j (object_of s.made b).domain then act b else (s, reply.Foreign)
on_object s j Nil act = (s, reply.NotObj)
on_object s j (Num v) act = (s, reply.NotObj)

-- the slot holds an object of a domain that the lane may read, and it has the field, or the reply says what is wrong
abbrev pub on_field : State → ℕ → Value → ℕ → (Birth → State × Reply) → State × Reply
on_field s j v i act =
    on_object s j v (λ b. if nat_lt i (length (object_of s.made b).fields) then act b else (s, reply.Range))

-- the slot holds an object of a domain that the lane may write, and it has the field, or the reply says what is wrong. The field
-- is looked at last
abbrev pub on_own_field : State → ℕ → Value → ℕ → (Birth → State × Reply) → State × Reply
on_own_field s j v i act =
    on_object s j v (λ b. if writes s j (object_of s.made b).domain
    then (if nat_lt i (length (object_of s.made b).fields) then act b else (s, reply.Range))
    else (s, reply.Frozen))

-- the reply about what a slot holds
abbrev pub told : State → ℕ → Value → Reply
told s j Nil = reply.Nil
told s j (Num v) = reply.Num v
told s j (Obj b) = if reads s j (object_of s.made b).domain then reply.Obj b else reply.Foreign

-- what was loaded: of an object only that it is one
abbrev pub loaded : Value → Reply
loaded Nil = reply.Nil
loaded (Num v) = reply.Num v
loaded (Obj b) = reply.Ref

-- two values are the same
abbrev pub is_same : Value → Value → Bool
is_same Nil Nil = true
is_same (Num v) (Num w) = v == w
is_same (Obj b) (Obj c) = (b.lane == c.lane) && (b.serial == c.serial)
is_same _ _ = false

-- a new object of nil fields, and the slot that refers to it
abbrev pub with_new : State → ℕ → Slot → ℕ → State
with_new s j p n =
    with_slot (record s { made = with_made s.made j (record { domain = p.domain; fields = replicate n Nil }) }) p (Obj (next_birth s.made j))

-- an operation of a lane that may read all domains that it names, and write the slot that it writes
abbrev pub act : State → ℕ → Op → State × Reply
act s j (op.New p n) = (with_new s j p n, reply.Obj (next_birth s.made j))
act s j (op.Who p) = (s, told s j (slot_of s p))
act s j (op.Len p) = on_object s j (slot_of s p) (λ b. (s, reply.Len (length (object_of s.made b).fields)))
act s j (op.Set p i v) = on_own_field s j (slot_of s p) i (λ b. (with_born_field s b i (Num v), reply.Done))
act s j (op.Cut p i) = on_own_field s j (slot_of s p) i (λ b. (with_born_field s b i Nil, reply.Done))
act s j (op.Link p i q) = on_own_field s j (slot_of s p) i (λ b. (with_born_field s b i (slot_of s q), reply.Done))
act s j (op.Load p i q) =
    on_field s j (slot_of s p) i (λ b. (with_slot s q (field_of s b i), loaded (field_of s b i)))
act s j (op.Copy p q) = (with_slot s q (slot_of s p), reply.Done)
act s j (op.Clear p) = (with_slot s p Nil, reply.Done)
act s j (op.Same p q) = (s, if is_same (slot_of s p) (slot_of s q) then reply.Yes else reply.No)

-- a step: the new state and the reply of a lane's operation
abbrev pub step : State → ℕ → Op → State × Reply
step s j o =
    if list_all (reads s j) (domains_of o)
    then (if target_writes s j o then act s j o else (s, reply.Frozen))
    else (s, reply.Foreign)
