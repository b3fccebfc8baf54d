-- What a step keeps: the sizes, the holders, what is true of every state, and all that was born.
use Rattle.std.proofs.Common.{◌≡◌, ◌≢◌, ℕ, ◌+◌, ◌<◌, ◌≤◌, true, List, length, replicate, Result, IfOk, OnErr, Ok, Err, refl, sym, ap, subst, ◌∙◌, inl, inr, arith, length-set}
use Rattle.std.specs.List.{AllByRecursion, list_all}
use Rattle.std.proofs.lemmas.Bool.{cases_eq}
use Rattle.std.proofs.lemmas.List.{length_push}
use Rattle.bc_model.specs.Consistent.{IsState}
use Rattle.bc_model.specs.StateSizes.{sizes_of}
use Rattle.bc_model.specs.Grows.{Grows}
use Rattle.bc_model.specs.State.{IsBorn, with_born_field, State, Object, made_by, object_of, with_born, with_made, with_value, reads}
use Rattle.bc_model.specs.Step.{step, act, domains_of, target_writes}
use Rattle.bc_model.specs.WellFormed.{IsOp}
use Rattle.bc_model.specs.declared.operations.Op.{Op}
use Rattle.bc_model.specs.declared.operations.Reply.{Reply}
use Rattle.bc_model.specs.declared.traces.Setup.{Setup}
use Rattle.bc_model.specs.declared.values.Birth.{Birth}
use Rattle.bc_model.specs.declared.values.Value.{Value}
use Rattle.bc_model.specs.declared.values.Value.TheVariants.{Nil}
use Rattle.bc_model.proofs.Objects.{cases_birth, length-made_by-with_object, IsBorn-with_object, object_of-with_object_same, object_of-with_object_other, made_by-with_made_same, made_by-with_made_other, length-with_made, IsBorn-with_made, object_of-with_made_other}
use Rattle.bc_model.proofs.States.{IsState-with_slot, IsState-with_field, IsState-with_new}
use Rattle.bc_model.proofs.Effects.{Effect, Keep, Put, Write, Make, after_effect, IsOwn, Does-act, Does-step}

-- the sizes and the holders stay
pub record SameSizes (s t : State) : Type 0 where
  pub width : t.width ≡ s.width
  pub holders : t.holders ≡ s.holders
  pub lanes : length t.made ≡ length s.made

pub sizes_of-same : (s t : State) → SameSizes s t → sizes_of t ≡ sizes_of s
sizes_of-same s t h =
    let made_up = λ (l d w : ℕ). (let r : Setup = record { lanes = l; domains = d; slots = w; superpages = 0; nursery = 0; buffer = 0; frames = 0 } in r) in
    ap (λ (l : ℕ). made_up l (length t.holders) t.width) h.lanes
    ∙ ap (λ (d : ℕ). made_up (length s.made) d t.width) (ap length h.holders)
    ∙ ap (λ (w : ℕ). made_up (length s.made) (length s.holders) w) h.width

SameSizes-after_effect : (s : State) (k : ℕ) (e : Effect) → SameSizes s (after_effect s k e)
SameSizes-after_effect s k Keep = record { width = refl; holders = refl; lanes = refl }
SameSizes-after_effect s k (Put p v) = record { width = refl; holders = refl; lanes = refl }
SameSizes-after_effect s k (Write b i v) = record { width = refl; holders = refl; lanes = length-set s.made b.lane _ }
SameSizes-after_effect s k (Make p n) = record { width = refl; holders = refl; lanes = length-with_made s.made k _ }

IsState-after_effect : (s : State) (k : ℕ) (e : Effect) → IsState s → k < length s.made → IsOwn s k e → IsState (after_effect s k e)
IsState-after_effect s k Keep h lane own = h
IsState-after_effect s k (Put p v) h lane own = IsState-with_slot s p v h own.2
IsState-after_effect s k (Write b i v) h lane own = IsState-with_field s b i v h own.0 own.2
IsState-after_effect s k (Make p n) h lane own = IsState-with_new s k p n h lane own.0.0 own.2

-- no lane makes more than one object
made-after_effect : (s : State) (k : ℕ) (e : Effect) (j : ℕ) → k < length s.made → IsOwn s k e → length (made_by (after_effect s k e).made j) ≤ length (made_by s.made j) + 1
made-after_effect s k Keep j lane own = omega arith
made-after_effect s k (Put p v) j lane own = omega arith
made-after_effect s k (Write b i v) j lane own = omega (arith, length-made_by-with_object s.made b (with_value (object_of s.made b) i v) j own.0)
made-after_effect s k (Make p n) j lane own =
    let o : Object = record { domain = p.domain; fields = replicate n Nil } in
    elim (cases_eq j k) [
      | inl e ↦ subst (λ (l : ℕ). length (made_by (with_made s.made k o) l) ≤ length (made_by s.made l) + 1) (sym e)
          (omega (arith, ap length (made_by-with_made_same s.made k o lane), length_push (made_by s.made k) o))
      | inr ne ↦ omega (arith, ap length (made_by-with_made_other s.made k j o ne))
    ]

-- and another lane none
made-other-after_effect : (s : State) (k : ℕ) (e : Effect) (j : ℕ) → j ≢ k → IsOwn s k e → length (made_by (after_effect s k e).made j) ≡ length (made_by s.made j)
made-other-after_effect s k Keep j ne own = refl
made-other-after_effect s k (Put p v) j ne own = refl
made-other-after_effect s k (Write b i v) j ne own = length-made_by-with_object s.made b (with_value (object_of s.made b) i v) j own.0
made-other-after_effect s k (Make p n) j ne own = ap length (made_by-with_made_other s.made k j _ ne)

pub Grows-itself : (made : List (List Object)) → Grows made made
Grows-itself made = record { lanes = refl; born = λ b h. h; domain = λ b h. refl; fields = λ b h. refl }

pub Grows-then : (a b c : List (List Object)) → Grows a b → Grows b c → Grows a c
Grows-then a b c g h = record {
  lanes = h.lanes ∙ g.lanes;
  born = λ x k. h.born x (g.born x k);
  domain = λ x k. h.domain x (g.born x k) ∙ g.domain x k;
  fields = λ x k. h.fields x (g.born x k) ∙ g.fields x k;
}

pub Grows-after_write : (s : State) (b : Birth) (i : ℕ) (v : Value) → IsBorn s.made b → Grows s.made (with_born_field s b i v).made
Grows-after_write s b i v born =
    let o : Object = with_value (object_of s.made b) i v in
    record {
      lanes = length-set s.made b.lane _;
      born = λ c h. IsBorn-with_object s.made b o c born h;
      domain = λ c h. elim (cases_birth c b) [
        | inl e ↦ ap (λ (x : Birth). (object_of (with_born s.made b o) x).domain) e ∙ ap (λ (x : Object). x.domain) (object_of-with_object_same s.made b o born) ∙ ap (λ (x : Birth). (object_of s.made x).domain) (sym e)
        | inr ne ↦ ap (λ (x : Object). x.domain) (object_of-with_object_other s.made b o c born h ne)
      ];
      fields = λ c h. elim (cases_birth c b) [
        | inl e ↦ ap (λ (x : Birth). length (object_of (with_born s.made b o) x).fields) e ∙ ap (λ (x : Object). length x.fields) (object_of-with_object_same s.made b o born) ∙ length-set (object_of s.made b).fields i v ∙ ap (λ (x : Birth). length (object_of s.made x).fields) (sym e)
        | inr ne ↦ ap (λ (x : Object). length x.fields) (object_of-with_object_other s.made b o c born h ne)
      ];
    }

pub Grows-after_effect : (s : State) (k : ℕ) (e : Effect) → k < length s.made → IsOwn s k e → Grows s.made (after_effect s k e).made
Grows-after_effect s k Keep lane own = Grows-itself s.made
Grows-after_effect s k (Put p v) lane own = Grows-itself s.made
Grows-after_effect s k (Write b i v) lane own = Grows-after_write s b i v own.0
Grows-after_effect s k (Make p n) lane own =
    let o : Object = record { domain = p.domain; fields = replicate n Nil } in
    record {
      lanes = length-with_made s.made k o;
      born = λ c h. IsBorn-with_made s.made k o c lane h;
      domain = λ c h. ap (λ (x : Object). x.domain) (object_of-with_made_other s.made k o c lane h);
      fields = λ c h. ap (λ (x : Object). length x.fields) (object_of-with_made_other s.made k o c lane h);
    }

-- the same of a step
pub SameSizes-step : (s : State) (k : ℕ) (o : Op) → IsState s → IsOp (sizes_of s) o → SameSizes s (step s k o).0
SameSizes-step s k o hs ho =
    let does = Does-step s k o hs ho in
    subst (λ (t : State). SameSizes s t) (sym does.state) (SameSizes-after_effect s k does.effect)

pub IsState-step : (s : State) (k : ℕ) (o : Op) → IsState s → k < length s.made → IsOp (sizes_of s) o → IsState (step s k o).0
IsState-step s k o hs lane ho =
    let does = Does-step s k o hs ho in
    subst (λ (t : State). IsState t) (sym does.state) (IsState-after_effect s k does.effect hs lane does.own)

pub made-step : (s : State) (k : ℕ) (o : Op) (j : ℕ) → IsState s → k < length s.made → IsOp (sizes_of s) o → length (made_by (step s k o).0.made j) ≤ length (made_by s.made j) + 1
made-step s k o j hs lane ho =
    let does = Does-step s k o hs ho in
    subst (λ (t : State). length (made_by t.made j) ≤ length (made_by s.made j) + 1) (sym does.state) (made-after_effect s k does.effect j lane does.own)

pub made-other-step : (s : State) (k : ℕ) (o : Op) (j : ℕ) → j ≢ k → IsState s → IsOp (sizes_of s) o → length (made_by (step s k o).0.made j) ≡ length (made_by s.made j)
made-other-step s k o j ne hs ho =
    let does = Does-step s k o hs ho in
    subst (λ (t : State). length (made_by t.made j) ≡ length (made_by s.made j)) (sym does.state) (made-other-after_effect s k does.effect j ne does.own)

pub Grows-step : (s : State) (k : ℕ) (o : Op) → IsState s → k < length s.made → IsOp (sizes_of s) o → Grows s.made (step s k o).0.made
Grows-step s k o hs lane ho =
    let does = Does-step s k o hs ho in
    subst (λ (t : State). Grows s.made t.made) (sym does.state) (Grows-after_effect s k does.effect lane does.own)

-- what fits one state fits another of the same sizes
pub IsOp-same : (s t : State) (o : Op) → SameSizes s t → IsOp (sizes_of s) o → IsOp (sizes_of t) o
IsOp-same s t o same h = subst (λ (z : Setup). IsOp z o) (sym (sizes_of-same s t same)) h

pub IsOps-same : (s t : State) (ops : List Op) → SameSizes s t → AllByRecursion (IsOp (sizes_of s)) ops → AllByRecursion (IsOp (sizes_of t)) ops
IsOps-same s t ops same h = subst (λ (z : Setup). AllByRecursion (IsOp z) ops) (sym (sizes_of-same s t same)) h

pub SameSizes-itself : (s : State) → SameSizes s s
SameSizes-itself s = record { width = refl; holders = refl; lanes = refl }

pub SameSizes-then : (s t u : State) → SameSizes s t → SameSizes t u → SameSizes s u
SameSizes-then s t u h k = record { width = k.width ∙ h.width; holders = k.holders ∙ h.holders; lanes = k.lanes ∙ h.lanes }

-- of what the code answers: at most one object more, also where there was no memory
pub made-result : {E : Type 0} (s : State) (k : ℕ) (o : Op) (t : State) (r : Result Reply E) (j : ℕ) → IsState s → k < length s.made → IsOp (sizes_of s) o → list_all (reads s k) (domains_of o) ≡ true → target_writes s k o ≡ true → IfOk r (λ q. (t, q) ≡ act s k o) → OnErr r (t ≡ s) → length (made_by t.made j) ≤ length (made_by s.made j) + 1
made-result s k o t (Ok q) j hs lane ho held own ok err =
    let does = Does-act s k o hs ho held own in
    subst (λ (u : State). length (made_by u.made j) ≤ length (made_by s.made j) + 1) (sym (ap (λ (x : State × Reply). x.0) ok ∙ does.state)) (made-after_effect s k does.effect j lane does.own)
made-result s k o t (Err e) j hs lane ho held own ok err = omega (arith, ap (λ (u : State). length (made_by u.made j)) err)

-- and the sizes are the same
pub sizes-result : {E : Type 0} (s : State) (k : ℕ) (o : Op) (t : State) (r : Result Reply E) → IsState s → IsOp (sizes_of s) o → list_all (reads s k) (domains_of o) ≡ true → target_writes s k o ≡ true → IfOk r (λ q. (t, q) ≡ act s k o) → OnErr r (t ≡ s) → sizes_of t ≡ sizes_of s
sizes-result s k o t (Ok q) hs ho held own ok err =
    let does = Does-act s k o hs ho held own in
    ap sizes_of (ap (λ (x : State × Reply). x.0) ok ∙ does.state) ∙ sizes_of-same s (after_effect s k does.effect) (SameSizes-after_effect s k does.effect)
sizes-result s k o t (Err e) hs ho held own ok err = ap sizes_of err
