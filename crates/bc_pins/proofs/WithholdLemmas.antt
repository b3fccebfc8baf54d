-- Pages that are kept from the lane which holds their domain: in another's hands, returned, made Gone or Absent.
use Rattle.std.proofs.Common.{◌≡◌, ℕ, ◌<◌, ◌≤◌, ◌≢◌, ◌==◌, ◌&&◌, Bool, true, false, List, ◌∷◌, Option, Some, None, if◌then◌else◌, inl, inr, refl, ap, sym, subst, ◌∙◌, arith}
use mathlib.Core.Option.{some, some-injective}
use lib.ListN.{get_elem?}
use Rattle.std.proofs.lemmas.Bool.{cases_eq, eq-eqb, ne_eqb, eqb-true, and_parts, ltb-true}
use Rattle.bc_bits.specs.Counting.{one_if}
use Rattle.bc_pins.specs.declared.views.Hand.{Hand}
use Rattle.bc_pins.specs.declared.views.View.{View}
use Rattle.bc_pins.specs.Key.{Key, pages_of, owner}
use Rattle.bc_pins.specs.Totals.{total, times}
use Rattle.bc_pins.specs.Views.{is_empty_handed, grips, has_role, grips_foreign, withholds}
use Rattle.bc_pins.specs.Facts.{Table, page_word}
use Rattle.bc_pins.specs.Rule.{Rule}
use Rattle.bc_pins.specs.Steps.{owns, having_read}
use Rattle.bc_pins.proofs.TotalLemmas.{total_two, total_less_at, one_other}

-- a page in hand is foreign where its lane is another's
pub foreign_all : (k : Key) (p : ℕ) (v : View) → has_role v (owner k p) ≡ 0 → grips_foreign k p v ≡ grips p v.hand
foreign_all k p v none_has = ap (λ (b : Bool). if b then grips p v.hand else 0) (eq-eqb (has_role v (owner k p)) 0 none_has)

pub foreign_own : (k : Key) (p : ℕ) (v : View) → 0 < has_role v (owner k p) → grips_foreign k p v ≡ 0
foreign_own k p v has = ap (λ (b : Bool). if b then grips p v.hand else 0) (ne_eqb (has_role v (owner k p)) 0 (λ e. omega arith))

pub foreign_few : (k : Key) (p : ℕ) (v : View) → grips_foreign k p v ≤ grips p v.hand
foreign_few k p v = either (has_role v (owner k p) == 0) (grips p v.hand)
  where
    either : (b : Bool) (n : ℕ) → (if b then n else 0) ≤ n
    either true n = omega arith
    either false n = omega arith

pub foreign_none : (k : Key) (p : ℕ) (v : View) → v.hand ≡ None → grips_foreign k p v ≡ 0
foreign_none k p v nothing =
    let few = foreign_few k p v in
    let z : grips p v.hand ≡ 0 = ap (grips p) nothing in
    omega arith

pub foreign_same : (k : Key) (p : ℕ) (v w : View) → grips p w.hand ≡ grips p v.hand → w.roles ≡ v.roles → grips_foreign k p w ≡ grips_foreign k p v
foreign_same k p v w grip roles =
    ap (λ (n : ℕ). if has_role w (owner k p) == 0 then n else 0) grip
    ∙ ap (λ (l : List ℕ). if times (owner k p) l == 0 then grips p v.hand else 0) roles

-- a page that its lane reads as Held with nothing in hand is in another's hands
pub held_foreign : (k : Key) (s : Table) (r : Rule k s) (p id : ℕ) (v : View) → p < pages_of k → get_elem? s.views id ≡ some v → v.hand ≡ None → 0 < has_role v (owner k p) → page_word s p ≡ 3
    → 0 < total (withholds k p) s.views
held_foreign k s r p id v near at nothing mine three =
    let held = (r.place p near).held in
    let one : one_if (page_word s p == 3) ≡ 1 = ap (λ (n : ℕ). one_if (n == 3)) three in
    let less = total_less_at (λ (u : View). grips p u.hand) (withholds k p) s.views each in
    omega arith
  where
    each : (j : ℕ) (u : View) → get_elem? s.views j ≡ some u → grips p u.hand ≤ withholds k p u
    each j u is = elim (cases_eq j id) [
      | inl e ↦
          let same : u ≡ v = some-injective u v (sym is ∙ ap (get_elem? s.views) e ∙ at) in
          let z : grips p u.hand ≡ 0 = ap (λ (x : View). grips p x.hand) same ∙ ap (grips p) nothing in
          omega arith
      | inr ne ↦
          let two = total_two (λ (z : View). times (owner k p) z.roles) s.views j id u v ne is at in
          let all = r.roles.each (owner k p) in
          let apart = r.roles.apart (owner k p) in
          let foreign = foreign_all k p u (omega arith) in
          omega arith
    ]

-- a list to which a page was added, or not
pub added_more : (b : Bool) (p : ℕ) (l : List ℕ) → times p l < times p (if b then p ∷ l else l) → b ≡ true
added_more true p l more = refl
added_more false p l more = absurd (omega arith)

pub added_other : (b : Bool) (q p : ℕ) (l : List ℕ) → q ≢ p → times q (if b then p ∷ l else l) ≡ times q l
added_other true q p l ne = let z = one_other p q (λ e. ne (sym e)) in omega arith
added_other false q p l ne = refl

pub empty_hand : (o : Option Hand) → is_empty_handed o ≡ true → o ≡ None
empty_hand None e = refl
empty_hand (Some h) e = absurd (cc)

-- what a read noted as busy
pub noted_busy : (k : Key) (s : Table) (r : Rule k s) (p id : ℕ) (v : View) → p < pages_of k → get_elem? s.views id ≡ some v → v.about ≡ k
    → times p v.busy < times p (having_read v p (page_word s p)).busy → 0 < total (withholds k p) s.views
noted_busy k s r p id v near at about more =
    let all = and_parts (page_word s p == 3) (owns v p && is_empty_handed v.hand) (added_more ((page_word s p == 3) && (owns v p && is_empty_handed v.hand)) p v.busy more) in
    let both = and_parts (owns v p) (is_empty_handed v.hand) all.1 in
    let mine : 0 < has_role v (owner v.about p) = ltb-true 0 _ both.0 in
    held_foreign k s r p id v near at (empty_hand v.hand both.1) (subst (λ (a : Key). 0 < has_role v (owner a p)) about mine) (eqb-true (page_word s p) 3 all.0)
