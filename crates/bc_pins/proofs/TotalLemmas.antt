-- Sums over lists, when one item changes or some are added.
use Rattle.std.proofs.Common.{◌≡◌, ℕ, ◌+◌, ◌<◌, ◌≤◌, ◌≢◌, ◌==◌, Bool, true, false, List, [], ◌∷◌, ◌++◌, length, get_or, set, inl, inr, refl, ap, sym, arith}
use Prim.Native.Nat.{zero, suc}
use mathlib.Core.Option.{some, some-injective, some-ne-none}
use lib.ListN.{get_elem?}
use Rattle.std.proofs.lemmas.Bool.{cases_eq, eq-eqb, ne_eqb}
use Rattle.bc_bits.specs.Counting.{one_if}
use Rattle.bc_pins.specs.Totals.{total, times}

pub total_set : {A : Type 0} (f : A → ℕ) (vs : List A) (j : ℕ) (v w : A) → get_elem? vs j ≡ some v → total f (set vs j w) + f v ≡ total f vs + f w
total_set f [] j v w e = absurd (some-ne-none v (sym e))
total_set f (x ∷ xs) zero v w e = let is : f x ≡ f v = ap f (some-injective x v e) in omega arith
total_set f (x ∷ xs) (suc j) v w e = let t = total_set f xs j v w e in omega arith

pub total_append : {A : Type 0} (f : A → ℕ) (vs ws : List A) → total f (vs ++ ws) ≡ total f vs + total f ws
total_append f [] ws = omega arith
total_append f (x ∷ xs) ws = let t = total_append f xs ws in omega arith

pub total_at : {A : Type 0} (f : A → ℕ) (vs : List A) (j : ℕ) (v : A) → get_elem? vs j ≡ some v → f v ≤ total f vs
total_at f [] j v e = absurd (some-ne-none v (sym e))
total_at f (x ∷ xs) zero v e = let is : f x ≡ f v = ap f (some-injective x v e) in omega arith
total_at f (x ∷ xs) (suc j) v e = let t = total_at f xs j v e in omega arith

pub total_in : {A : Type 0} (f : A → ℕ) (vs : List A) (j : ℕ) (d : A) → j < length vs → f (get_or vs j d) ≤ total f vs
total_in f [] j d lt = absurd (omega arith)
total_in f (x ∷ xs) zero d lt = omega arith
total_in f (x ∷ xs) (suc j) d lt = let t = total_in f xs j d (omega arith) in omega arith

pub total_two : {A : Type 0} (f : A → ℕ) (vs : List A) (j k : ℕ) (v w : A) → j ≢ k → get_elem? vs j ≡ some v → get_elem? vs k ≡ some w → f v + f w ≤ total f vs
total_two f [] j k v w ne e g = absurd (some-ne-none v (sym e))
total_two f (x ∷ xs) zero zero v w ne e g = absurd (ne refl)
total_two f (x ∷ xs) zero (suc k) v w ne e g =
    let is : f x ≡ f v = ap f (some-injective x v e) in
    let t = total_at f xs k w g in
    omega arith
total_two f (x ∷ xs) (suc j) zero v w ne e g =
    let is : f x ≡ f w = ap f (some-injective x w g) in
    let t = total_at f xs j v e in
    omega arith
total_two f (x ∷ xs) (suc j) (suc k) v w ne e g =
    let t = total_two f xs j k v w (λ h. ne (ap suc h)) e g in
    omega arith

pub total_none : {A : Type 0} (f : A → ℕ) (vs : List A) → ((j : ℕ) (v : A) → get_elem? vs j ≡ some v → f v ≡ 0) → total f vs ≡ 0
total_none f [] each = refl
total_none f (x ∷ xs) each =
    let here = each 0 x refl in
    let t = total_none f xs (λ j. each (suc j)) in
    omega arith

pub total_only : {A : Type 0} (f : A → ℕ) (vs : List A) (j : ℕ) (v : A) → get_elem? vs j ≡ some v → ((i : ℕ) (u : A) → i ≢ j → get_elem? vs i ≡ some u → f u ≡ 0) → total f vs ≡ f v
total_only f [] j v e others = absurd (some-ne-none v (sym e))
total_only f (x ∷ xs) zero v e others =
    let is : f x ≡ f v = ap f (some-injective x v e) in
    let rest = total_none f xs (λ i u at. others (suc i) u (λ z. omega arith) at) in
    omega arith
total_only f (x ∷ xs) (suc j) v e others =
    let here = others 0 x (λ z. omega arith) refl in
    let t = total_only f xs j v e (λ i u ne at. others (suc i) u (λ z. ne (omega arith)) at) in
    omega arith

pub total_same : {A : Type 0} (f g : A → ℕ) (vs : List A) → ((v : A) → f v ≡ g v) → total f vs ≡ total g vs
total_same f g [] each = refl
total_same f g (x ∷ xs) each =
    let here = each x in
    let t = total_same f g xs each in
    omega arith

pub total_both : {A : Type 0} (f g : A → ℕ) (vs : List A) → total (λ (v : A). f v + g v) vs ≡ total f vs + total g vs
total_both f g [] = refl
total_both f g (x ∷ xs) = let t = total_both f g xs in omega arith

pub times_append : (n : ℕ) (xs ys : List ℕ) → times n (xs ++ ys) ≡ times n xs + times n ys
times_append n [] ys = omega arith
times_append n (x ∷ xs) ys = let t = times_append n xs ys in omega arith

pub one_same : (n : ℕ) → one_if (n == n) ≡ 1
one_same n = ap one_if (eq-eqb n n refl)

pub one_other : (m n : ℕ) → m ≢ n → one_if (m == n) ≡ 0
one_other m n ne = ap one_if (ne_eqb m n ne)

pub one_few : (b : Bool) → one_if b ≤ 1
one_few true = omega arith
one_few false = omega arith

pub one_is : (m n : ℕ) → 0 < one_if (m == n) → m ≡ n
one_is m n lt = elim (cases_eq m n) [
  | inl e ↦ e
  | inr ne ↦ let z = one_other m n ne in absurd (omega arith)
]

pub total_less : {A : Type 0} (f g : A → ℕ) (vs : List A) → ((v : A) → f v ≤ g v) → total f vs ≤ total g vs
total_less f g [] each = omega arith
total_less f g (x ∷ xs) each =
    let here = each x in
    let t = total_less f g xs each in
    omega arith

pub total_less_at : {A : Type 0} (f g : A → ℕ) (vs : List A) → ((j : ℕ) (v : A) → get_elem? vs j ≡ some v → f v ≤ g v) → total f vs ≤ total g vs
total_less_at f g [] each = omega arith
total_less_at f g (x ∷ xs) each =
    let here = each 0 x refl in
    let t = total_less_at f g xs (λ j. each (suc j)) in
    omega arith
