-- An operation that is refused changes nothing.
use Rattle.std.proofs.Common.{◌≡◌, ℕ, Bool, true, false, nat_lt, if◌then◌else◌, length, refl, sym, subst, inl, inr}
use Rattle.std.specs.List.{list_all}
use Rattle.bc_model.specs.State.{State, object_of, slot_of, field_of, reads, writes}
use Rattle.bc_model.specs.Step.{step, act, domains_of, on_object, on_field, on_own_field, target_writes, loaded}
use Rattle.bc_model.specs.Refusals.{IsRefusal}
use Rattle.bc_model.specs.declared.operations.Op.{Op}
use Rattle.bc_model.specs.declared.operations.Op.TheVariants as op
use Rattle.bc_model.specs.declared.operations.Reply.{Reply}
use Rattle.bc_model.specs.declared.operations.Reply.TheVariants as reply
use Rattle.bc_model.specs.declared.values.Birth.{Birth}
use Rattle.bc_model.specs.declared.values.Value.{Value}
use Rattle.bc_model.specs.declared.values.Value.TheVariants.{Nil, Num, Obj}

-- the same, reply by reply
abbrev Refuses : Reply → Type 0
Refuses reply.NotObj = Unit {0}
Refuses reply.Range = Unit {0}
Refuses reply.Foreign = Unit {0}
Refuses reply.Frozen = Unit {0}
Refuses _ = ⊥

refusal-refuses : (r : Reply) → IsRefusal r → Refuses r
refusal-refuses r (inl e) = subst Refuses (sym e) tt
refusal-refuses r (inr (inl e)) = subst Refuses (sym e) tt
refusal-refuses r (inr (inr (inl e))) = subst Refuses (sym e) tt
refusal-refuses r (inr (inr (inr e))) = subst Refuses (sym e) tt

-- where it refuses, the state is s
abbrev Stays : State → State × Reply → Type 0
Stays s x = Refuses x.1 → x.0 ≡ s

Stays-if : (s : State) (b : Bool) (x : State × Reply) (r : Reply) → Stays s x → Stays s (if b then x else (s, r))
Stays-if s true x r h = h
Stays-if s false x r h = λ _. refl

Stays-on_object : (s : State) (j : ℕ) (v : Value) (f : Birth → State × Reply) → ((b : Birth) → Stays s (f b)) → Stays s (on_object s j v f)
Stays-on_object s j Nil f h = λ _. refl
Stays-on_object s j (Num n) f h = λ _. refl
Stays-on_object s j (Obj b) f h = Stays-if s (reads s j (object_of s.made b).domain) (f b) reply.Foreign (h b)

Stays-on_field : (s : State) (j : ℕ) (v : Value) (i : ℕ) (f : Birth → State × Reply) → ((b : Birth) → Stays s (f b)) → Stays s (on_field s j v i f)
Stays-on_field s j v i f h =
    Stays-on_object s j v _ (λ b. Stays-if s (nat_lt i (length (object_of s.made b).fields)) (f b) reply.Range (h b))

Stays-on_own_field : (s : State) (j : ℕ) (v : Value) (i : ℕ) (f : Birth → State × Reply) → ((b : Birth) → Stays s (f b)) → Stays s (on_own_field s j v i f)
Stays-on_own_field s j v i f h =
    Stays-on_object s j v _ (λ b. Stays-if s (writes s j (object_of s.made b).domain) _ reply.Frozen
    (Stays-if s (nat_lt i (length (object_of s.made b).fields)) (f b) reply.Range (h b)))

loaded-no_refusal : (v : Value) → Refuses (loaded v) → ⊥
loaded-no_refusal Nil h = h
loaded-no_refusal (Num n) h = h
loaded-no_refusal (Obj b) h = h

Stays-act : (s : State) (j : ℕ) (o : Op) → Stays s (act s j o)
Stays-act s j (op.New p n) = λ h. absurd h
Stays-act s j (op.Who p) = λ _. refl
Stays-act s j (op.Len p) = Stays-on_object s j (slot_of s p) _ (λ b _. refl)
Stays-act s j (op.Set p i v) = Stays-on_own_field s j (slot_of s p) i _ (λ b h. absurd h)
Stays-act s j (op.Cut p i) = Stays-on_own_field s j (slot_of s p) i _ (λ b h. absurd h)
Stays-act s j (op.Link p i q) = Stays-on_own_field s j (slot_of s p) i _ (λ b h. absurd h)
Stays-act s j (op.Load p i q) = Stays-on_field s j (slot_of s p) i _ (λ b h. absurd (loaded-no_refusal (field_of s b i) h))
Stays-act s j (op.Copy p q) = λ h. absurd h
Stays-act s j (op.Clear p) = λ h. absurd h
Stays-act s j (op.Same p q) = λ _. refl

pub refused-stays : (s : State) (j : ℕ) (o : Op) → IsRefusal (step s j o).1 → (step s j o).0 ≡ s
refused-stays s j o h =
    Stays-if s (list_all (reads s j) (domains_of o)) _ reply.Foreign
    (Stays-if s (target_writes s j o) (act s j o) reply.Frozen (Stays-act s j o)) (refusal-refuses (step s j o).1 h)
