-- A seat that has all roles: no other one has done or read anything, or has a page in hand.
use Rattle.std.proofs.Common.{◌≡◌, ℕ, ◌<◌, ◌≢◌, ◌==◌, List, [], ◌∷◌, None, refl, ap, arith}
use mathlib.Core.Option.{some}
use lib.ListN.{get_elem?}
use Rattle.bc_bits.specs.Counting.{one_if}
use Rattle.bc_pins.specs.declared.views.View.{View}
use Rattle.bc_pins.specs.Key.{Key, pages_of}
use Rattle.bc_pins.specs.Totals.{total, times}
use Rattle.bc_pins.specs.Views.{grips, has_role}
use Rattle.bc_pins.specs.Facts.{Table, IsIdle, page_word}
use Rattle.bc_pins.specs.Rule.{Rule}
use Rattle.bc_pins.proofs.TotalLemmas.{total_only, total_two, one_same}

-- a list in which nothing stands is empty
pub none_times : (l : List ℕ) → ((r : ℕ) → times r l ≡ 0) → l ≡ []
none_times [] each = refl
none_times (x ∷ xs) each = let a = each x in let b = one_same x in absurd (omega arith)

module _ (k : Key) (s : Table) (r : Rule k s) (id : ℕ) (v : View) (at : get_elem? s.views id ≡ some v) (all_roles : (n : ℕ) → times n v.roles ≡ times n k.roles) where
  pub no_role : (j : ℕ) (u : View) → j ≢ id → get_elem? s.views j ≡ some u → (n : ℕ) → has_role u n ≡ 0
  no_role j u ne is n =
      let two = total_two (λ (z : View). times n z.roles) s.views j id u v ne is at in
      let each = r.roles.each n in
      let all = all_roles n in
      omega arith

  pub idle_else : (j : ℕ) (u : View) → j ≢ id → get_elem? s.views j ≡ some u → IsIdle u
  idle_else j u ne is = (r.seats j u is).seated.idle (none_times u.roles (no_role j u ne is))

  -- what is 0 of each idle view all views have by this one
  pub alone : (f : View → ℕ) → ((u : View) → IsIdle u → f u ≡ 0) → total f s.views ≡ f v
  alone f z = total_only f s.views id v at (λ j u ne is. z u (idle_else j u ne is))

  pub none_held : v.hand ≡ None → (p : ℕ) → p < pages_of k → page_word s p ≢ 3
  none_held nothing p lt e =
      let held = (r.place p lt).held in
      let sum = alone (λ u. grips p u.hand) (λ u i. ap (grips p) i.hand) in
      let mine : grips p v.hand ≡ 0 = ap (grips p) nothing in
      let is : one_if (page_word s p == 3) ≡ 1 = ap (λ (n : ℕ). one_if (n == 3)) e in
      omega arith
