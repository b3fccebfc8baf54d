-- Which replies an operation can have, and when it is in range.
use Rattle.std.proofs.Common.{◌≡◌, ℕ, Bool, true, false, if◌then◌else◌, nat_lt, length, refl}
use Rattle.std.specs.List.{list_all}
use Rattle.bc_model.specs.Slots.{AreSlots, slots_of}
use Rattle.bc_model.specs.State.{State, field_of, object_of, reads, slot_of, writes}
use Rattle.bc_model.specs.Step.{act, domains_of, is_same, loaded, on_field, on_object, on_own_field, step, target_writes, told}
use Rattle.bc_model.specs.WellFormed.{IsOp}
use Rattle.bc_model.specs.declared.operations.Op.{Op}
use Rattle.bc_model.specs.declared.operations.Op.TheVariants as op
use Rattle.bc_model.specs.declared.operations.Reply.{Reply}
use Rattle.bc_model.specs.declared.operations.Reply.TheVariants as reply
use Rattle.bc_model.specs.declared.traces.Setup.{Setup}
use Rattle.bc_model.specs.declared.values.Birth.{Birth}
use Rattle.bc_model.specs.declared.values.Value.{Value}
use Rattle.bc_model.specs.declared.values.Value.TheVariants.{Nil, Num, Obj}
use Rattle.sorvekla.specs.Steps.{IsInRange, is_change_reply, is_len_reply, is_load_reply, is_new_reply, is_reply_to, is_same_reply, is_who_reply}

-- the reply of a step passes a test
abbrev Passes : (Reply → Bool) → State × Reply → Type 0
Passes test x = test x.1 ≡ true

passes-if : (test : Reply → Bool) (b : Bool) (x : State × Reply) (s : State) (r : Reply) → Passes test x → test r ≡ true → Passes test (if b then x else (s, r))
passes-if test true x s r h k = h
passes-if test false x s r h k = k

passes-object : (test : Reply → Bool) (s : State) (j : ℕ) (v : Value) (f : Birth → State × Reply) → ((b : Birth) → Passes test (f b)) → test reply.NotObj ≡ true → test reply.Foreign ≡ true → Passes test (on_object s j v f)
passes-object test s j Nil f h none foreign = none
passes-object test s j (Num n) f h none foreign = none
passes-object test s j (Obj b) f h none foreign = passes-if test (reads s j (object_of s.made b).domain) (f b) s reply.Foreign (h b) foreign

passes-field : (test : Reply → Bool) (s : State) (j : ℕ) (v : Value) (i : ℕ) (f : Birth → State × Reply) → ((b : Birth) → Passes test (f b)) → test reply.NotObj ≡ true → test reply.Foreign ≡ true → test reply.Range ≡ true → Passes test (on_field s j v i f)
passes-field test s j v i f h none foreign range =
    passes-object test s j v _ (λ b. passes-if test (nat_lt i (length (object_of s.made b).fields)) (f b) s reply.Range (h b) range) none foreign

passes-own_field : (test : Reply → Bool) (s : State) (j : ℕ) (v : Value) (i : ℕ) (f : Birth → State × Reply) → ((b : Birth) → Passes test (f b)) → test reply.NotObj ≡ true → test reply.Foreign ≡ true → test reply.Range ≡ true → test reply.Frozen ≡ true → Passes test (on_own_field s j v i f)
passes-own_field test s j v i f h none foreign range frozen =
    passes-object test s j v _ (λ b.
    let d = (object_of s.made b).domain in
    passes-if test (writes s j d) _ s reply.Frozen (passes-if test (nat_lt i (length (object_of s.made b).fields)) (f b) s reply.Range (h b) range) frozen) none foreign

who-told : (s : State) (j : ℕ) (v : Value) → is_who_reply (told s j v) ≡ true
who-told s j Nil = refl
who-told s j (Num n) = refl
who-told s j (Obj b) = either (reads s j (object_of s.made b).domain)
  where
    either : (h : Bool) → is_who_reply (if h then reply.Obj b else reply.Foreign) ≡ true
    either true = refl
    either false = refl

load-told : (v : Value) → is_load_reply (loaded v) ≡ true
load-told Nil = refl
load-told (Num n) = refl
load-told (Obj b) = refl

same-told : (h : Bool) → is_same_reply (if h then reply.Yes else reply.No) ≡ true
same-told true = refl
same-told false = refl

act-told : (s : State) (j : ℕ) (o : Op) → Passes (is_reply_to o) (act s j o)
act-told s j (op.New p n) = refl
act-told s j (op.Who p) = who-told s j (slot_of s p)
act-told s j (op.Len p) = passes-object is_len_reply s j (slot_of s p) _ (λ b. refl) refl refl
act-told s j (op.Set p i v) = passes-own_field is_change_reply s j (slot_of s p) i _ (λ b. refl) refl refl refl refl
act-told s j (op.Cut p i) = passes-own_field is_change_reply s j (slot_of s p) i _ (λ b. refl) refl refl refl refl
act-told s j (op.Link p i q) = passes-own_field is_change_reply s j (slot_of s p) i _ (λ b. refl) refl refl refl refl
act-told s j (op.Load p i q) = passes-field is_load_reply s j (slot_of s p) i _ (λ b. load-told (field_of s b i)) refl refl refl
act-told s j (op.Copy p q) = refl
act-told s j (op.Clear p) = refl
act-told s j (op.Same p q) = same-told (is_same (slot_of s p) (slot_of s q))

foreign-told : (o : Op) → is_reply_to o reply.Foreign ≡ true
foreign-told (op.New p n) = refl
foreign-told (op.Who p) = refl
foreign-told (op.Len p) = refl
foreign-told (op.Set p i v) = refl
foreign-told (op.Cut p i) = refl
foreign-told (op.Link p i q) = refl
foreign-told (op.Load p i q) = refl
foreign-told (op.Copy p q) = refl
foreign-told (op.Clear p) = refl
foreign-told (op.Same p q) = refl

-- one that writes a slot may be answered that its domain is frozen, and no other is
target-told : (s : State) (j : ℕ) (o : Op) → Passes (is_reply_to o) (if target_writes s j o then act s j o else (s, reply.Frozen))
target-told s j o = told-by o (act-told s j o)
  where
    told-by : (x : Op) → Passes (is_reply_to x) (act s j x) → Passes (is_reply_to x) (if target_writes s j x then act s j x else (s, reply.Frozen))
    told-by (op.New p n) h = passes-if is_new_reply (target_writes s j (op.New p n)) _ s reply.Frozen h refl
    told-by (op.Load p i q) h = passes-if is_load_reply (target_writes s j (op.Load p i q)) _ s reply.Frozen h refl
    told-by (op.Copy p q) h = passes-if is_change_reply (target_writes s j (op.Copy p q)) _ s reply.Frozen h refl
    told-by (op.Clear p) h = passes-if is_change_reply (target_writes s j (op.Clear p)) _ s reply.Frozen h refl
    told-by (op.Who p) h = h
    told-by (op.Len p) h = h
    told-by (op.Set p i v) h = h
    told-by (op.Cut p i) h = h
    told-by (op.Link p i q) h = h
    told-by (op.Same p q) h = h

pub step-told : (s : State) (j : ℕ) (o : Op) → is_reply_to o (step s j o).1 ≡ true
step-told s j o = passes-if (is_reply_to o) (list_all (reads s j) (domains_of o)) _ s reply.Foreign (target-told s j o) (foreign-told o)

-- an operation with slots that there are, and fields and numbers in range, fits the setup
pub op-fits : (s : Setup) (o : Op) → AreSlots s (slots_of o).0 (slots_of o).1 → IsInRange o → IsOp s o
op-fits s (op.New p n) slots range = (slots, range)
op-fits s (op.Who p) slots range = slots
op-fits s (op.Len p) slots range = slots
op-fits s (op.Set p i v) slots range = (slots, range.0, range.1)
op-fits s (op.Cut p i) slots range = (slots, range)
op-fits s (op.Link p i q) slots range = (slots.0, range, slots.1)
op-fits s (op.Load p i q) slots range = (slots.0, range, slots.1)
op-fits s (op.Copy p q) slots range = slots
op-fits s (op.Clear p) slots range = slots
op-fits s (op.Same p q) slots range = slots
