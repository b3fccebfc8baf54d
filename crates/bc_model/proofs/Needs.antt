-- Reached by paths; one need; rounding up.
use Rattle.std.proofs.Common.{◌≡◌, ℕ, ◌+◌, ◌-◌, ◌*◌, ◌/◌, ◌≤◌, ◌↔◌, cond, List, [], ◌∷◌, ◌++◌, length, get_or, refl, sym, ap, subst, ◌∙◌, inl, inr, arith}
use Rattle.std.proofs.Math.Path.{fun_ext}
use Rattle.bc_classes.specs.Classes.{cap}
use Rattle.bc_classes.specs.ClassNumbers.{IsClass}
use Rattle.bc_reach.specs.SameItems.{HasSame}
use Rattle.bc_reach.specs.Reach.{begin, onward}
use Rattle.bc_reach.proofs.Reaching.{Reach-least}
use Rattle.bc_reach.proofs.Sums.{same_sums}
use Rattle.bc_model.specs.Need.{IsNeed, is_of, need_of, count_of, superpages_for}
use Rattle.bc_model.specs.Reached.{Holds, FieldHolds, Reached}
use Rattle.bc_model.specs.Paths.{HasPath, value_along}
use Rattle.bc_model.specs.State.{State, Object, object_of}
use Rattle.bc_model.specs.declared.values.Birth.{Birth}
use Rattle.bc_model.specs.declared.values.Value.{Value}
use Rattle.bc_model.specs.declared.values.Value.TheVariants.{Nil, Num, Obj}

value_along-append : (made : List (List Object)) (v : Value) (path : List ℕ) (i : ℕ) → value_along made v (path ++ i ∷ []) ≡ value_along made (value_along made v path) (i ∷ [])
value_along-append made v [] i = refl
value_along-append made (Obj b) (x ∷ path) i = value_along-append made (get_or (object_of made b).fields x Nil) path i
value_along-append made Nil (x ∷ path) i = refl
value_along-append made (Num n) (x ∷ path) i = refl

-- one field more
path-onward : (slots : List Value) (made : List (List Object)) (a b : Birth) → HasPath slots made a → FieldHolds made a b → HasPath slots made b
path-onward slots made a b h e = (
  h.0,
  h.1 ++ e.0 ∷ [],
  value_along-append made (get_or slots h.0 Nil) h.1 e.0 ∙ ap (λ (v : Value). value_along made v (e.0 ∷ [])) h.2 ∙ e.1,
)

pub HasPath-reached : (slots : List Value) (made : List (List Object)) (b : Birth) → Reached slots made b → HasPath slots made b
HasPath-reached slots made b h =
    Reach-least (Holds slots) (FieldHolds made) (HasPath slots made)
    (λ a k. (k.0, [], k.1))
    (λ x y _ k e. path-onward slots made x y k e)
    b h

-- past a value that is no object a path leads to nil
not_object : {X : Type 0} (b : Birth) → Nil ≡ Obj b → X
not_object b e = cc

reached-along : (slots : List Value) (made : List (List Object)) (v : Value) (path : List ℕ) (b : Birth) → ((a : Birth) → v ≡ Obj a → Reached slots made a) → value_along made v path ≡ Obj b → Reached slots made b
reached-along slots made v [] b h e = h b e
reached-along slots made (Obj a) (i ∷ path) b h e =
    reached-along slots made (get_or (object_of made a).fields i Nil) path b (λ c k. onward a c (h a refl) (i, k)) e
reached-along slots made Nil (i ∷ path) b h e = not_object b e
reached-along slots made (Num n) (i ∷ path) b h e = not_object b e

pub Reached-path : (slots : List Value) (made : List (List Object)) (b : Birth) → HasPath slots made b → Reached slots made b
Reached-path slots made b h = reached-along slots made (get_or slots h.0 Nil) h.1 b (λ a e. begin a (h.0, e)) h.2

pub Reached-iff-path : (slots : List Value) (made : List (List Object)) (b : Birth) → Reached slots made b ↔ HasPath slots made b
Reached-iff-path slots made b = (HasPath-reached slots made b, Reached-path slots made b)

pub IsNeed-unique : (s : State) (m n : ℕ) → IsNeed s m → IsNeed s n → m ≡ n
IsNeed-unique s m n h k =
    let same : HasSame h.births k.births = λ b. (λ x. (k.members b).1 ((h.members b).0 x), λ x. (h.members b).1 ((k.members b).0 x)) in
    let counts : count_of s.made h.births ≡ count_of s.made k.births =
    fun_ext (λ d. fun_ext (λ c. same_sums (λ (b : Birth). cond (is_of d c (object_of s.made b)) 1 0) h.births k.births h.distinct k.distinct same)) in
    h.need ∙ ap (need_of (length s.holders)) counts ∙ sym k.need

-- at each of the classes
rounded_at : (c size n k : ℕ) → cap c ≡ size → ((n ≤ k * size) ↔ ((n + (size - 1)) / size ≤ k)) → (n ≤ k * cap c) ↔ (superpages_for c n ≤ k)
rounded_at c size n k e h = subst (λ (x : ℕ). (n ≤ k * x) ↔ ((n + (x - 1)) / x ≤ k)) (sym e) h

pub rounded_up : (c n k : ℕ) → IsClass c → (n ≤ k * cap c) ↔ (superpages_for c n ≤ k)
rounded_up c n k (inl e) = rounded_at c 1024 n k (ap cap e) (λ h. omega arith, λ h. omega arith)
rounded_up c n k (inr (inl e)) = rounded_at c 512 n k (ap cap e) (λ h. omega arith, λ h. omega arith)
rounded_up c n k (inr (inr (inl e))) = rounded_at c 256 n k (ap cap e) (λ h. omega arith, λ h. omega arith)
rounded_up c n k (inr (inr (inr (inl e)))) = rounded_at c 128 n k (ap cap e) (λ h. omega arith, λ h. omega arith)
rounded_up c n k (inr (inr (inr (inr (inl e))))) = rounded_at c 64 n k (ap cap e) (λ h. omega arith, λ h. omega arith)
rounded_up c n k (inr (inr (inr (inr (inr (inl e)))))) = rounded_at c 32 n k (ap cap e) (λ h. omega arith, λ h. omega arith)
rounded_up c n k (inr (inr (inr (inr (inr (inr e)))))) = rounded_at c 16 n k (ap cap e) (λ h. omega arith, λ h. omega arith)
