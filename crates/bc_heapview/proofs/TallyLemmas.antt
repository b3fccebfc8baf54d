-- Finds, counted one after another.
use Rattle.std.proofs.Common.{◌≡◌, ◌≢◌, ℕ, ◌+◌, ◌*◌, ◌<◌, ◌≤◌, ◌==◌, ◌&&◌, Bool, true, false, cond, List, [], ◌∷◌, length, take, set, get_or, replicate, refl, sym, ◌∙◌, ap, ap₂, subst, inl, inr, arith}
use Prim.Native.Nat.{zero, suc}
use Rattle.std.specs.List.{count_by, sum_by}
use Rattle.std.proofs.lemmas.Bool.{cases_eq, ne_eqb, eq-eqb}
use Rattle.std.proofs.lemmas.List.{get_or-set_same, get_or-set_other}
use Rattle.std.proofs.lemmas.List.Sums.{sum_by-cons, sum_by_more}
use Rattle.bc_classes.specs.Classes.{class_of}
use Rattle.bc_classes.specs.ClassNumbers.{IsClass}
use Rattle.bc_image.specs.Cells.{CellList}
use Rattle.bc_image.specs.Memories.{cell_at}
use Rattle.bc_heapview.specs.Searches.{find_at, no_find}
use Rattle.bc_heapview.specs.Tallies.{IsPairTally, is_in_pair, pair_count, tally_at}
use Rattle.bc_heapview.specs.declared.search.Found.{Found}

abbrev one : Bool → ℕ
one b = cond b 1 0

of-pair : (d c n k : ℕ) → d ≡ n → c ≡ k → one ((d == n) && (c == k)) ≡ 1
of-pair d c n k e f = rw (eq-eqb d n e, eq-eqb c k f) refl

of-other : (d c n k : ℕ) → d < 64 → n < 64 → c < 129 → k < 129 → 129 * n + k ≢ 129 * d + c → one ((d == n) && (c == k)) ≡ 0
of-other d c n k d_in n_in c_in k_in differ = elim (cases_eq d n) [
  | inl e ↦ elim (cases_eq c k) [
    | inl f ↦ absurd (differ (omega (arith, e, f)))
    | inr g ↦ rw (ne_eqb c k g) (falls (d == n))
  ]
  | inr g ↦ rw (ne_eqb d n g) refl
] where
  falls : (b : Bool) → one (b && false) ≡ 0
  falls true = refl
  falls false = refl

-- with one find more
pub tallied-more : (cells : List CellList) (found : List Found) (tally : List ℕ) (k d c : ℕ) → k < length found → length tally ≡ 8256 → d < 64 → c < 129
    → d ≡ (cell_at cells (find_at found k).node).head.domain → c ≡ class_of (cell_at cells (find_at found k).node).head.fields
    → IsPairTally cells (take k found) tally → IsPairTally cells (take (k + 1) found) (set tally (129 * d + c) (get_or tally (129 * d + c) 0 + 1))
tallied-more cells found tally k d c lt long d_in c_in d_is c_is before n j n_in j_in =
    let p : Found → Bool = λ (f : Found). is_in_pair n j (cell_at cells f.node) in
    let more : pair_count cells (take (k + 1) found) n j ≡ pair_count cells (take k found) n j + one (p (find_at found k)) = sum_by_more (λ (f : Found). one (p f)) found k no_find lt in
    let is : one (p (find_at found k)) ≡ one ((d == n) && (c == j)) = ap₂ (λ (x y : ℕ). one ((x == n) && (y == j))) (sym d_is) (sym c_is) in
    let old = before n j n_in j_in in
    elim (cases_eq (129 * n + j) (129 * d + c)) [
      | inl e ↦
          let d_same : d ≡ n = omega (arith, e, d_in, n_in, c_in, j_in) in
          let c_same : c ≡ j = omega (arith, e, d_same) in
          let here : tally_at (set tally (129 * d + c) (get_or tally (129 * d + c) 0 + 1)) n j ≡ get_or tally (129 * d + c) 0 + 1 = ap (λ (i : ℕ). get_or (set tally (129 * d + c) (get_or tally (129 * d + c) 0 + 1)) i 0) e ∙ get_or-set_same tally (129 * d + c) (get_or tally (129 * d + c) 0 + 1) 0 (omega arith) in
          let was : tally_at tally n j ≡ get_or tally (129 * d + c) 0 = ap (λ (i : ℕ). get_or tally i 0) e in
          let counts = of-pair d c n j d_same c_same in
          omega (arith, here, was, counts, more, is, old)
      | inr ne ↦
          let here : tally_at (set tally (129 * d + c) (get_or tally (129 * d + c) 0 + 1)) n j ≡ tally_at tally n j = get_or-set_other tally (129 * d + c) (129 * n + j) (get_or tally (129 * d + c) 0 + 1) 0 ne in
          let counts = of-other d c n j d_in n_in c_in j_in ne in
          omega (arith, here, counts, more, is, old)
    ]

-- no number is greater than how many finds were gone over
pub small-more : (tally : List ℕ) (at k : ℕ) → at < length tally → ((i : ℕ) → get_or tally i 0 ≤ k) → (i : ℕ) → get_or (set tally at (get_or tally at 0 + 1)) i 0 ≤ k + 1
small-more tally at k lt small i = elim (cases_eq i at) [
  | inl e ↦ let here = ap (λ (j : ℕ). get_or (set tally at (get_or tally at 0 + 1)) j 0) e ∙ get_or-set_same tally at (get_or tally at 0 + 1) 0 lt in let le = small at in omega (arith, here, le)
  | inr ne ↦ let here = get_or-set_other tally at i (get_or tally at 0 + 1) 0 ne in let le = small i in omega (arith, here, le)
]

-- nothing is counted that isn't there
pub pair-most : (cells : List CellList) (found : List Found) (d c : ℕ) → pair_count cells found d c ≤ length found
pair-most cells [] d c = omega arith
pair-most cells (f ∷ fs) d c =
    let most = at-most (is_in_pair d c (cell_at cells f.node)) in
    omega (arith, sum_by-cons (λ (f : Found). one (is_in_pair d c (cell_at cells f.node))) f fs, most, pair-most cells fs d c)
  where
    at-most : (b : Bool) → one b ≤ 1
    at-most true = omega arith
    at-most false = omega arith

pub class-small : (c : ℕ) → IsClass c → c < 129
class-small c (inl e) = omega (arith, e)
class-small c (inr (inl e)) = omega (arith, e)
class-small c (inr (inr (inl e))) = omega (arith, e)
class-small c (inr (inr (inr (inl e)))) = omega (arith, e)
class-small c (inr (inr (inr (inr (inl e))))) = omega (arith, e)
class-small c (inr (inr (inr (inr (inr (inl e)))))) = omega (arith, e)
class-small c (inr (inr (inr (inr (inr (inr e)))))) = omega (arith, e)

pub zeros-at : (n i : ℕ) → ◌≡◌ {A = ℕ} (get_or (replicate {A = ℕ} n 0) i 0) 0
zeros-at zero i = refl
zeros-at (suc n) zero = refl
zeros-at (suc n) (suc i) = zeros-at n i
