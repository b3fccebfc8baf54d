-- The claims of notices hold at the opening, a step on another word keeps them, and a claim adds the next number.
use Rattle.std.proofs.Common.{◌≡◌, ℕ, ◌+◌, ◌^◌, ◌<◌, ◌%◌, ◌≢◌, ◌==◌, nat_lt, List, length, set, inl, inr, ap, sym, ◌∙◌, arith, get_or-set_same, get_or-set_other}
use mathlib.Core.Option.{some}
use mathlib.Core.Option as maybe
use lib.ListN.{get_elem?}
use Rattle.std.proofs.lemmas.Bool.{cases_lt, cases_eq, lt-ltb}
use Rattle.bc_bits.specs.Counting.{one_if}
use Rattle.bc_pins.specs.declared.views.Lodged.{Lodged}
use Rattle.bc_pins.specs.declared.views.View.{View}
use Rattle.bc_pins.specs.Key.{Key, notice_at}
use Rattle.bc_pins.specs.Totals.{total, times}
use Rattle.bc_pins.specs.Facts.{Table, word}
use Rattle.bc_pins.specs.Claims.{claims_made, Claims}
use Rattle.bc_pins.specs.Steps.{taking_notice}
use Rattle.bc_pins.specs.Opening.{opened, MayOpen}
use Rattle.bc_pins.proofs.TotalLemmas.{total_set, one_same, one_other}
use Rattle.bc_pins.proofs.TallyLemmas.{ge-nat_lt}

-- they stay where the notice word stays, and what the views claimed
pub claims_same : (k : Key) (s t : Table) → word t (notice_at k) ≡ word s (notice_at k) → claims_made t ≡ claims_made s
    → ((n : ℕ) → total (λ (v : View). times n v.notices) t.views ≡ total (λ (v : View). times n v.notices) s.views) → Claims k s → Claims k t
claims_same k s t same made each old = record {
  next = λ few. same ∙ old.next (omega arith) ∙ sym made;
  once = λ few n. each n ∙ old.once (omega arith) n ∙ ap (λ (m : ℕ). one_if (nat_lt n m)) (sym same);
}

-- a step on another word by a seat that claims nothing
pub claims_aside : (k : Key) (s : Table) (i x id : ℕ) (v w : View) (homes : List (maybe.Option Lodged)) → get_elem? s.views id ≡ some v → notice_at k ≢ i → w.notices ≡ v.notices → Claims k s
    → Claims k (record { words = set s.words i x; homes = homes; views = set s.views id w })
claims_aside k s i x id v w homes at ne same old =
    let size = total_set (λ (u : View). length u.notices) s.views id v w at in
    let long : length w.notices ≡ length v.notices = ap length same in
    claims_same k s (record { words = set s.words i x; homes = homes; views = set s.views id w }) (get_or-set_other s.words i (notice_at k) x 0 ne) (omega arith)
    (λ n. (let sum = total_set (λ (u : View). times n u.notices) s.views id v w at in let e = ap (times n) same in omega arith)) old

-- nothing is claimed at the opening
pub claims_opened : (k : Key) (words : List ℕ) (slots : List Lodged) → MayOpen k words slots → Claims k (opened k words slots)
claims_opened k words slots may = record {
  next = λ _. may.notice;
  once = λ _ n. sym (ap (λ (m : ℕ). one_if (nat_lt n m)) may.notice ∙ ap one_if (ge-nat_lt n 0 (omega arith)));
}

-- below the next bound there is one number more
below_more : (n m : ℕ) → one_if (nat_lt n (m + 1)) ≡ one_if (nat_lt n m) + one_if (m == n)
below_more n m = elim (cases_eq m n) [
  | inl e ↦
      let a = ap one_if (ge-nat_lt n m (omega arith)) in
      let b = ap one_if (lt-ltb n (m + 1) (omega arith)) in
      let c : one_if (m == n) ≡ 1 = ap (λ (j : ℕ). one_if (j == n)) e ∙ one_same n in
      omega arith
  | inr ne ↦
      let c = one_other m n ne in
      elim (cases_lt n m) [
        | inl lt ↦
            let a = ap one_if (lt-ltb n m lt) in
            let b = ap one_if (lt-ltb n (m + 1) (omega arith)) in
            omega arith
        | inr le ↦
            let a = ap one_if (ge-nat_lt n m le) in
            let b = ap one_if (ge-nat_lt n (m + 1) (omega arith)) in
            omega arith
      ]
]

-- a claim: the number that was found is claimed, and the word counts one up
pub claims_more : (k : Key) (s : Table) (id : ℕ) (v : View) → get_elem? s.views id ≡ some v → notice_at k < length s.words → Claims k s
    → Claims k (record { words = set s.words (notice_at k) ((word s (notice_at k) + 1) % 2 ^ 64); homes = s.homes; views = set s.views id (taking_notice v (word s (notice_at k))) })
claims_more k s id v at lt old =
    let found : ℕ = word s (notice_at k) in
    let x : ℕ = (found + 1) % 2 ^ 64 in
    let w : View = taking_notice v found in
    let size = total_set (λ (u : View). length u.notices) s.views id v w at in
    let is = get_or-set_same s.words (notice_at k) x 0 lt in
    let next : claims_made (record { words = set s.words (notice_at k) x; homes = s.homes; views = set s.views id w }) < 2 ^ 64 → (found ≡ claims_made s) × (x ≡ found + 1) = λ few. (old.next (omega arith), let e = old.next (omega arith) in omega arith) in
    record {
      next = λ few. let e = next few in let a = e.0 in let b = e.1 in omega arith;
      once = λ few n.
          let sum = total_set (λ (u : View). times n u.notices) s.views id v w at in
          let was = old.once (omega arith) n in
          let more = below_more n found in
          let now : one_if (nat_lt n (word (record { words = set s.words (notice_at k) x; homes = s.homes; views = set s.views id w }) (notice_at k))) ≡ one_if (nat_lt n (found + 1)) = ap (λ (m : ℕ). one_if (nat_lt n m)) (is ∙ (next few).1) in
          omega arith;
    }
