-- What was read of a word when another word is read besides, and when two views are put together.
use Rattle.std.proofs.Common.{◌≡◌, ◌≢◌, ℕ, ◌+◌, ◌<◌, ◌≤◌, ◌==◌, Bool, true, false, if◌then◌else◌, List, [], ◌∷◌, ◌++◌, Option, Some, None, inl, inr, refl, ap, sym, ◌∙◌, arith}
use mathlib.Core.Option.{some}
use lib.ListN.{get_elem?}
use Rattle.std.proofs.lemmas.Bool.{cases_lt, cases_Bool, eq-eqb, ne_eqb}
use Rattle.bc_bits.specs.Counting.{one_if}
use Rattle.bc_pins.specs.declared.views.Hand.{Hand}
use Rattle.bc_pins.specs.declared.views.View.{View}
use Rattle.bc_pins.specs.Key.{Key, pages_of, page_at}
use Rattle.bc_pins.specs.Totals.{total, times}
use Rattle.bc_pins.specs.Views.{grips, reads_of, reads_at, reads_as}
use Rattle.bc_pins.specs.Facts.{Table, page_word, fetched_ever}
use Rattle.bc_pins.specs.Rule.{Rule}
use Rattle.bc_pins.proofs.TotalLemmas.{total_less_at, total_both, times_append, one_few, one_other}

-- what was read of a word stays where another was read
pub reads-else : (i j n : ℕ) (l : List (ℕ × ℕ)) → j ≢ i → reads_of i ((j, n) ∷ l) ≡ reads_of i l
reads-else i j n l ne = ap (λ (b : Bool). if b then n ∷ reads_of i l else reads_of i l) (ne_eqb j i ne)

-- one more was read of a word that was read
pub reads-here : (i m n : ℕ) (l : List (ℕ × ℕ)) → times n (reads_of i ((i, m) ∷ l)) ≡ one_if (m == n) + times n (reads_of i l)
reads-here i m n l = ap (λ (b : Bool). times n (if b then m ∷ reads_of i l else reads_of i l)) (eq-eqb i i refl)

-- none fewer were, whatever was read
pub reads-more : (i j m n : ℕ) (l : List (ℕ × ℕ)) → times n (reads_of i l) ≤ times n (reads_of i ((j, m) ∷ l))
reads-more i j m n l = either (j == i) m (reads_of i l)
  where
    either : (b : Bool) (m : ℕ) (l : List ℕ) → times n l ≤ times n (if b then m ∷ l else l)
    either true m l = omega arith
    either false m l = omega arith

-- what was read of a page's word stays where another page's was read
pub pages-else : (p q m n : ℕ) (l : List (ℕ × ℕ)) → q ≢ p → times n (reads_at q ((page_at p, m) ∷ l)) ≡ times n (reads_at q l)
pages-else p q m n l ne = ap (times n) (reads-else (page_at q) (page_at p) m l (λ e. ne (omega arith)))

pub reads-append : (i : ℕ) (a b : List (ℕ × ℕ)) → reads_of i (a ++ b) ≡ reads_of i a ++ reads_of i b
reads-append i [] b = refl
reads-append i (e ∷ es) b = elim (cases_Bool (e.0 == i)) [
  | inl on ↦
      ap (λ (x : Bool). if x then e.1 ∷ reads_of i (es ++ b) else reads_of i (es ++ b)) on
      ∙ ap (λ (l : List ℕ). e.1 ∷ l) (reads-append i es b)
      ∙ sym (ap (λ (x : Bool). (if x then e.1 ∷ reads_of i es else reads_of i es) ++ reads_of i b) on)
  | inr off ↦
      ap (λ (x : Bool). if x then e.1 ∷ reads_of i (es ++ b) else reads_of i (es ++ b)) off
      ∙ reads-append i es b
      ∙ sym (ap (λ (x : Bool). (if x then e.1 ∷ reads_of i es else reads_of i es) ++ reads_of i b) off)
]

pub times-reads : (n i : ℕ) (a b : List (ℕ × ℕ)) → times n (reads_of i (a ++ b)) ≡ times n (reads_of i a) + times n (reads_of i b)
times-reads n i a b = ap (times n) (reads-append i a b) ∙ times_append n (reads_of i a) (reads_of i b)

-- a page that is taken is read as Home, or as Remembered, and as nothing else
pub gripped_read : (b : Bool) (p : ℕ) (l : List (ℕ × ℕ))
    → 0 < times 1 (reads_at p ((page_at p, if b then 2 else 1) ∷ l)) + times 2 (reads_at p ((page_at p, if b then 2 else 1) ∷ l))
gripped_read true p l = let a = reads-here (page_at p) 2 2 l in omega arith
gripped_read false p l = let a = reads-here (page_at p) 1 1 l in omega arith

pub gripped_two : (b : Bool) (p : ℕ) (l : List (ℕ × ℕ)) → times 2 (reads_at p ((page_at p, if b then 2 else 1) ∷ l)) ≡ one_if b + times 2 (reads_at p l)
gripped_two true p l = reads-here (page_at p) 2 2 l
gripped_two false p l = reads-here (page_at p) 1 2 l

pub gripped_not : (b : Bool) (p n : ℕ) (l : List (ℕ × ℕ)) → n ≢ 1 → n ≢ 2 → times n (reads_at p ((page_at p, if b then 2 else 1) ∷ l)) ≡ times n (reads_at p l)
gripped_not true p n l one two = let a = reads-here (page_at p) 2 n l in let z = one_other 2 n (λ e. two (sym e)) in omega arith
gripped_not false p n l one two = let a = reads-here (page_at p) 1 n l in let z = one_other 1 n (λ e. one (sym e)) in omega arith

grips_few : (p : ℕ) (o : Option Hand) → grips p o ≤ 1
grips_few p None = omega arith
grips_few p (Some h) = one_few (h.page == p)

-- who has a page in hand read it as Home or Remembered, or took it from Gone
pub held_read : (k : Key) (s : Table) (r : Rule k s) (p : ℕ) → p < pages_of k → page_word s p ≡ 3 → 0 < total (reads_as p 1) s.views + total (reads_as p 2) s.views + fetched_ever s p
held_read k s r p near three =
    let held = (r.place p near).held in
    let one : one_if (page_word s p == 3) ≡ 1 = ap (λ (n : ℕ). one_if (n == 3)) three in
    let less = total_less_at (λ (u : View). grips p u.hand) (λ (u : View). reads_as p 1 u + reads_as p 2 u + times p u.fetched) s.views each in
    let both = total_both (λ u. reads_as p 1 u + reads_as p 2 u) (λ u. times p u.fetched) s.views in
    let and_both = total_both (reads_as p 1) (reads_as p 2) s.views in
    omega arith
  where
    each : (j : ℕ) (u : View) → get_elem? s.views j ≡ some u → grips p u.hand ≤ reads_as p 1 u + reads_as p 2 u + times p u.fetched
    each j u is =
        let few = grips_few p u.hand in
        elim (cases_lt 0 (grips p u.hand)) [
          | inl has ↦ let a = (r.seats j u is).saw.taken p has in omega arith
          | inr none_has ↦ omega arith
        ]
