-- What a step may do: nothing, write a slot or a field, or make an object, all in domains that the lane may write. Two states that
-- agree on a lane's part give it the same effect and the same reply.
use Rattle.std.proofs.Common.{◌≡◌, ℕ, ◌+◌, ◌≤◌, Bool, true, false, nat_lt, if◌then◌else◌, Option, Some, None, List, length, slice_index_or, refl, sym, ap, ap₂, subst, ◌∙◌}
use Rattle.std.specs.List.{list_all}
use Rattle.std.proofs.lemmas.Bool.{and_parts}
use Rattle.bc_model.specs.Consistent.{IsValue, IsState}
use Rattle.bc_model.specs.StateSizes.{sizes_of}
use Rattle.bc_model.specs.State.{State, Object, IsBorn, made_by, object_of, next_birth, slot_of, field_of, with_slot, with_born_field, holder_of, lets_read, lets_write, reads, writes}
use Rattle.bc_model.specs.Step.{step, act, domains_of, on_object, on_field, on_own_field, target_of, may_write, target_writes, told, loaded, is_same, with_new}
use Rattle.bc_model.specs.WellFormed.{IsSlot, IsOp}
use Rattle.bc_model.specs.declared.operations.Op.{Op}
use Rattle.bc_model.specs.declared.operations.Op.TheVariants as op
use Rattle.bc_model.specs.declared.operations.Reply.{Reply}
use Rattle.bc_model.specs.declared.operations.Reply.TheVariants as reply
use Rattle.bc_model.specs.declared.values.Holder.{Holder}
use Rattle.bc_model.specs.declared.values.Birth.{Birth}
use Rattle.bc_model.specs.declared.values.Slot.{Slot}
use Rattle.bc_model.specs.declared.values.Value.{Value}
use Rattle.bc_model.specs.declared.values.Value.TheVariants.{Nil, Num, Obj}

pub data Effect : Type 0 where
  Keep : Effect
  Put : Slot → Value → Effect
  Write : Birth → ℕ → Value → Effect
  Make : Slot → ℕ → Effect

-- the state after an effect of a lane
abbrev pub after_effect : State → ℕ → Effect → State
after_effect s k Keep = s
after_effect s k (Put p v) = with_slot s p v
after_effect s k (Write b i v) = with_born_field s b i v
after_effect s k (Make p n) = with_new s k p n

-- it touches a slot or an object of a domain that the lane may write, and writes what may be held
abbrev pub IsOwn : State → ℕ → Effect → Type 0
IsOwn s k Keep = Unit {0}
IsOwn s k (Put p v) = IsSlot (sizes_of s) p × (writes s k p.domain ≡ true) × IsValue s.made v
IsOwn s k (Write b i v) = IsBorn s.made b × (writes s k (object_of s.made b).domain ≡ true) × IsValue s.made v
IsOwn s k (Make p n) = IsSlot (sizes_of s) p × (writes s k p.domain ≡ true) × (n ≤ 127)

-- lane k's part is the same in both: its slots, its objects, and how many it made. Others may have made more in the
-- second state, and what they hold may differ.
pub record Agrees (k : ℕ) (s t : State) : Type 0 where
  pub width : t.width ≡ s.width
  pub holders : t.holders ≡ s.holders
  pub lanes : length t.made ≡ length s.made
  pub next : length (made_by t.made k) ≡ length (made_by s.made k)
  pub born : (b : Birth) → IsBorn s.made b → IsBorn t.made b
  pub domain : (b : Birth) → IsBorn s.made b → (object_of t.made b).domain ≡ (object_of s.made b).domain
  pub object : (b : Birth) → IsBorn s.made b → reads s k (object_of s.made b).domain ≡ true → object_of t.made b ≡ object_of s.made b
  pub mine : (b : Birth) → IsBorn t.made b → reads s k (object_of t.made b).domain ≡ true → IsBorn s.made b
  pub slot : (p : Slot) → IsSlot (sizes_of s) p → reads s k p.domain ≡ true → slot_of t p ≡ slot_of s p

-- from s and from t, one effect of lane k's own and one reply
pub record Same (k : ℕ) (s t : State) (x y : State × Reply) : Type 0 where
  pub effect : Effect
  pub answer : Reply
  pub own : IsOwn s k effect
  pub here : x ≡ (after_effect s k effect, answer)
  pub there : y ≡ (after_effect t k effect, answer)

Same-keep : (k : ℕ) (s t : State) (r q : Reply) → q ≡ r → Same k s t (s, r) (t, q)
Same-keep k s t r q e = record { effect = Keep; answer = r; own = tt; here = refl; there = ap (λ (x : Reply). (t, x)) e }

Same-if : (k : ℕ) (s t : State) (r : Reply) (x y : State × Reply) (b c : Bool) → c ≡ b → (b ≡ true → Same k s t x y) → Same k s t (if b then x else (s, r)) (if c then y else (t, r))
Same-if k s t r x y b c e f =
    subst (λ (a : Bool). Same k s t (if b then x else (s, r)) (if a then y else (t, r))) (sym e) (go b f)
  where
    go : (a : Bool) → (a ≡ true → Same k s t x y) → Same k s t (if a then x else (s, r)) (if a then y else (t, r))
    go true f = f refl
    go false f = Same-keep k s t r r refl

Same-on_object : (k : ℕ) (s t : State) (v : Value) (f g : Birth → State × Reply) → Agrees k s t → IsValue s.made v → ((b : Birth) → IsBorn s.made b → reads s k (object_of s.made b).domain ≡ true → Same k s t (f b) (g b)) → Same k s t (on_object s k v f) (on_object t k v g)
Same-on_object k s t Nil f g a hv h = Same-keep k s t reply.NotObj reply.NotObj refl
Same-on_object k s t (Num n) f g a hv h = Same-keep k s t reply.NotObj reply.NotObj refl
Same-on_object k s t (Obj b) f g a hv h =
    Same-if k s t reply.Foreign (f b) (g b) (reads s k (object_of s.made b).domain) (reads t k (object_of t.made b).domain)
    (ap₂ (λ (hs : List Holder) (d : ℕ). lets_read (holder_of hs d) k) a.holders (a.domain b hv))
    (h b hv)

Same-on_field : (k : ℕ) (s t : State) (v : Value) (i : ℕ) (f g : Birth → State × Reply) → Agrees k s t → IsValue s.made v → ((b : Birth) → IsBorn s.made b → reads s k (object_of s.made b).domain ≡ true → Same k s t (f b) (g b)) → Same k s t (on_field s k v i f) (on_field t k v i g)
Same-on_field k s t v i f g a hv h =
    Same-on_object k s t v _ _ a hv (λ b born held.
    Same-if k s t reply.Range (f b) (g b) _ _ (ap (λ (o : Object). nat_lt i (length o.fields)) (a.object b born held)) (λ _. h b born held))

Same-on_own_field : (k : ℕ) (s t : State) (v : Value) (i : ℕ) (f g : Birth → State × Reply) → Agrees k s t → IsValue s.made v → ((b : Birth) → IsBorn s.made b → reads s k (object_of s.made b).domain ≡ true → writes s k (object_of s.made b).domain ≡ true → Same k s t (f b) (g b)) → Same k s t (on_own_field s k v i f) (on_own_field t k v i g)
Same-on_own_field k s t v i f g a hv h =
    Same-on_object k s t v _ _ a hv (λ b born held.
    Same-if k s t reply.Frozen _ _ _ _ (ap₂ (λ (hs : List Holder) (d : ℕ). lets_write (holder_of hs d) k) a.holders (a.domain b born)) (λ own.
    Same-if k s t reply.Range (f b) (g b) _ _ (ap (λ (o : Object). nat_lt i (length o.fields)) (a.object b born held)) (λ _. h b born held own)))

told-same : (k : ℕ) (s t : State) (v : Value) → Agrees k s t → IsValue s.made v → told t k v ≡ told s k v
told-same k s t Nil a hv = refl
told-same k s t (Num n) a hv = refl
told-same k s t (Obj b) a hv =
    ap₂ (λ (hs : List Holder) (d : ℕ). if lets_read (holder_of hs d) k then reply.Obj b else reply.Foreign) a.holders (a.domain b hv)

-- an operation of a lane that may read all domains that it names, and write the slot that it writes
Same-act : (k : ℕ) (s t : State) (o : Op) → Agrees k s t → IsState s → IsOp (sizes_of s) o → list_all (reads s k) (domains_of o) ≡ true → target_writes s k o ≡ true → Same k s t (act s k o) (act t k o)
Same-act k s t (op.New p n) a hs ho held own = record {
  effect = Make p n;
  answer = reply.Obj (next_birth s.made k);
  own = (ho.0, own, ho.1);
  here = refl;
  there = ap (λ (m : ℕ). (with_new t k p n, reply.Obj (record { lane = k; serial = m + 1 }))) a.next;
}
Same-act k s t (op.Who p) a hs ho held own =
    Same-keep k s t _ _ (ap (told t k) (a.slot p ho (and_parts _ _ held).0) ∙ told-same k s t (slot_of s p) a (hs.values _))
Same-act k s t (op.Len p) a hs ho held own =
    subst (λ (v : Value). Same k s t (act s k (op.Len p)) (on_object t k v (λ b. (t, reply.Len (length (object_of t.made b).fields))))) (sym (a.slot p ho (and_parts _ _ held).0))
    (Same-on_object k s t (slot_of s p) _ _ a (hs.values _) (λ b born mine.
    Same-keep k s t _ _ (ap (λ (o : Object). reply.Len (length o.fields)) (a.object b born mine))))
Same-act k s t (op.Set p i v) a hs ho held own =
    subst (λ (x : Value). Same k s t (act s k (op.Set p i v)) (on_own_field t k x i (λ b. (with_born_field t b i (Num v), reply.Done)))) (sym (a.slot p ho.0 (and_parts _ _ held).0))
    (Same-on_own_field k s t (slot_of s p) i _ _ a (hs.values _) (λ b born mine right.
    record { effect = Write b i (Num v); answer = reply.Done; own = (born, right, ho.2); here = refl; there = refl }))
Same-act k s t (op.Cut p i) a hs ho held own =
    subst (λ (x : Value). Same k s t (act s k (op.Cut p i)) (on_own_field t k x i (λ b. (with_born_field t b i Nil, reply.Done)))) (sym (a.slot p ho.0 (and_parts _ _ held).0))
    (Same-on_own_field k s t (slot_of s p) i _ _ a (hs.values _) (λ b born mine right.
    record { effect = Write b i Nil; answer = reply.Done; own = (born, right, tt); here = refl; there = refl }))
Same-act k s t (op.Link p i q) a hs ho held own =
    let from = a.slot q ho.2 (and_parts _ _ (and_parts _ _ held).1).0 in
    subst (λ (x : Value). Same k s t (act s k (op.Link p i q)) (on_own_field t k x i (λ b. (with_born_field t b i (slot_of t q), reply.Done)))) (sym (a.slot p ho.0 (and_parts _ _ held).0))
    (Same-on_own_field k s t (slot_of s p) i _ _ a (hs.values _) (λ b born mine right.
    record {
      effect = Write b i (slot_of s q);
      answer = reply.Done;
      own = (born, right, hs.values _);
      here = refl;
      there = ap (λ (x : Value). (with_born_field t b i x, reply.Done)) from;
    }))
Same-act k s t (op.Load p i q) a hs ho held own =
    subst (λ (x : Value). Same k s t (act s k (op.Load p i q)) (on_field t k x i (λ b. (with_slot t q (field_of t b i), loaded (field_of t b i))))) (sym (a.slot p ho.0 (and_parts _ _ held).0))
    (Same-on_field k s t (slot_of s p) i _ _ a (hs.values _) (λ b born mine.
    record {
      effect = Put q (field_of s b i);
      answer = loaded (field_of s b i);
      own = (ho.2, own, (hs.objects b born).values i);
      here = refl;
      there = ap (λ (o : Object). (with_slot t q (slice_index_or o.fields i Nil), loaded (slice_index_or o.fields i Nil))) (a.object b born mine);
    }))
Same-act k s t (op.Copy p q) a hs ho held own = record {
  effect = Put q (slot_of s p);
  answer = reply.Done;
  own = (ho.1, own, hs.values _);
  here = refl;
  there = ap (λ (x : Value). (with_slot t q x, reply.Done)) (a.slot p ho.0 (and_parts _ _ held).0);
}
Same-act k s t (op.Clear p) a hs ho held own = record {
  effect = Put p Nil;
  answer = reply.Done;
  own = (ho, own, tt);
  here = refl;
  there = refl;
}
Same-act k s t (op.Same p q) a hs ho held own =
    Same-keep k s t _ _ (ap₂ (λ (x y : Value). if is_same x y then reply.Yes else reply.No)
    (a.slot p ho.0 (and_parts _ _ held).0) (a.slot q ho.1 (and_parts _ _ (and_parts _ _ held).1).0))

-- a step of a lane, from two states that agree on its part
pub Same-step : (k : ℕ) (s t : State) (o : Op) → Agrees k s t → IsState s → IsOp (sizes_of s) o → Same k s t (step s k o) (step t k o)
Same-step k s t o a hs ho =
    Same-if k s t reply.Foreign _ _ (list_all (reads s k) (domains_of o)) (list_all (reads t k) (domains_of o))
    (ap (λ (h : List Holder). list_all (λ d. lets_read (holder_of h d) k) (domains_of o)) a.holders)
    (λ named.
    Same-if k s t reply.Frozen (act s k o) (act t k o) (target_writes s k o) (target_writes t k o)
    (target-same (target_of o))
    (Same-act k s t o a hs ho named))
  where
    target-same : (p : Option Slot) → may_write t k p ≡ may_write s k p
    target-same None = refl
    target-same (Some p) = ap (λ (hs : List Holder). lets_write (holder_of hs p.domain) k) a.holders

pub Agrees-itself : (k : ℕ) (s : State) → Agrees k s s
Agrees-itself k s = record {
  width = refl;
  holders = refl;
  lanes = refl;
  next = refl;
  born = λ b h. h;
  domain = λ b h. refl;
  object = λ b h held. refl;
  mine = λ b h held. h;
  slot = λ p h held. refl;
}

-- what a step does and answers
pub record Does (k : ℕ) (s : State) (x : State × Reply) : Type 0 where
  pub effect : Effect
  pub own : IsOwn s k effect
  pub state : x.0 ≡ after_effect s k effect

pub Does-act : (s : State) (k : ℕ) (o : Op) → IsState s → IsOp (sizes_of s) o → list_all (reads s k) (domains_of o) ≡ true → target_writes s k o ≡ true → Does k s (act s k o)
Does-act s k o hs ho held own =
    let same = Same-act k s s o (Agrees-itself k s) hs ho held own in
    record { effect = same.effect; own = same.own; state = ap (λ (x : State × Reply). x.0) same.here }

pub Does-step : (s : State) (k : ℕ) (o : Op) → IsState s → IsOp (sizes_of s) o → Does k s (step s k o)
Does-step s k o hs ho =
    let same = Same-step k s s o (Agrees-itself k s) hs ho in
    record { effect = same.effect; own = same.own; state = ap (λ (x : State × Reply). x.0) same.here }
