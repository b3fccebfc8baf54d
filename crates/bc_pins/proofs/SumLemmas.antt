-- Sums over places: of lists, and of numbers below a bound.
use Rattle.std.proofs.Common.{◌≡◌, ℕ, ◌+◌, ◌<◌, ◌≤◌, ◌≢◌, ◌==◌, Bool, List, [], ◌∷◌, length, map, get_or, count_by, inl, inr, refl, ap, sym, ◌∙◌, arith, ◌*◌}
use Prim.Native.Nat.{zero, suc}
use Rattle.std.proofs.lemmas.Bool.{cases_eq}
use Rattle.bc_bits.specs.Counting.{one_if, count_below}
use Rattle.bc_superpages.proofs.AccountLemmas.{count_by-places}
use Rattle.bc_pins.specs.Totals.{total, times, sum_to}
use Rattle.bc_pins.specs.Key.{home_slot}

pub sum_front : (g : ℕ → ℕ) (n : ℕ) → sum_to g (suc n) ≡ g 0 + sum_to (λ i. g (suc i)) n
sum_front g zero = omega arith
sum_front g (suc n) = let t = sum_front g n in omega arith

pub sum_same : (g h : ℕ → ℕ) (n : ℕ) → ((i : ℕ) → i < n → g i ≡ h i) → sum_to g n ≡ sum_to h n
sum_same g h zero each = refl
sum_same g h (suc n) each = let a = sum_same g h n (λ i lt. each i (omega arith)) in let b = each n (omega arith) in omega arith

pub sum_none : (g : ℕ → ℕ) (n : ℕ) → ((i : ℕ) → i < n → g i ≡ 0) → sum_to g n ≡ 0
sum_none g zero each = refl
sum_none g (suc n) each = let a = sum_none g n (λ i lt. each i (omega arith)) in let b = each n (omega arith) in omega arith

pub sum_few : (g : ℕ → ℕ) (n : ℕ) → ((i : ℕ) → g i ≤ 1) → sum_to g n ≤ n
sum_few g zero each = omega arith
sum_few g (suc n) each = let a = sum_few g n each in let b = each n in omega arith

pub sum_few_below : (g : ℕ → ℕ) (n : ℕ) → ((i : ℕ) → i < n → g i ≤ 1) → sum_to g n ≤ n
sum_few_below g zero each = omega arith
sum_few_below g (suc n) each = let a = sum_few_below g n (λ i lt. each i (omega arith)) in let b = each n (omega arith) in omega arith

pub sum_one : (g h : ℕ → ℕ) (n p : ℕ) → p < n → ((i : ℕ) → i < n → i ≢ p → g i ≡ h i) → sum_to g n + h p ≡ sum_to h n + g p
sum_one g h zero p lt each = absurd (omega arith)
sum_one g h (suc n) p lt each = elim (cases_eq p n) [
  | inl e ↦
      let a = sum_same g h n (λ i less. each i (omega arith) (λ z. omega arith)) in
      let b : g p ≡ g n = ap g e in
      let c : h p ≡ h n = ap h e in
      omega arith
  | inr ne ↦
      let a = sum_one g h n p (omega arith) (λ i less. each i (omega arith)) in
      let b = each n (omega arith) (λ z. ne (sym z)) in
      omega arith
]

pub sum_cut : (g : ℕ → ℕ) (m n k : ℕ) → k ≡ m + n → sum_to g k ≡ sum_to g m + sum_to (λ i. g (m + i)) n
sum_cut g m zero k e = ap (sum_to g) e ∙ (let z : m + 0 ≡ m = omega arith in ap (sum_to g) z ∙ omega arith)
sum_cut g m (suc n) k e =
    let t = sum_cut g m n (m + n) refl in
    let s : k ≡ suc (m + n) = omega arith in
    ap (sum_to g) s ∙ omega arith

sum_four : (g : ℕ → ℕ) → sum_to g 4 ≡ g 0 + g 1 + g 2 + g 3
sum_four g = omega arith

sum_eight : (g : ℕ → ℕ) → sum_to g 8 ≡ g 0 + g 1 + g 2 + g 3 + (g 4 + g 5 + g 6 + g 7)
sum_eight g = omega arith

-- over the slots of so many superpages: those for frames, and those for the store
pub sum_slots : (g : ℕ → ℕ) (s n k : ℕ) → n ≡ 4 * s → k ≡ 8 * s → sum_to g k ≡ sum_to (λ p. g (home_slot p)) n + sum_to (λ p. g (home_slot p + 4)) n
sum_slots g zero n k e f = ap (sum_to g) f ∙ sym (ap (λ (m : ℕ). sum_to (λ p. g (home_slot p)) m + sum_to (λ p. g (home_slot p + 4)) m) e)
sum_slots g (suc s) n k e f =
    let t = sum_slots g s (4 * s) (8 * s) refl refl in
    let a = sum_cut g (8 * s) 8 k (omega arith) in
    let b = sum_cut (λ p. g (home_slot p)) (4 * s) 4 n (omega arith) in
    let c = sum_cut (λ p. g (home_slot p + 4)) (4 * s) 4 n (omega arith) in
    let eight = sum_eight (λ i. g (8 * s + i)) in
    let front = sum_four (λ i. g (home_slot (4 * s + i))) in
    let back = sum_four (λ i. g (home_slot (4 * s + i) + 4)) in
    let home : (j : ℕ) → j < 4 → g (home_slot (4 * s + j)) ≡ g (8 * s + j) = λ j lt. (let z : home_slot (4 * s + j) ≡ 8 * s + j = omega arith in ap g z) in
    let store : (j : ℕ) → j < 4 → g (home_slot (4 * s + j) + 4) ≡ g (8 * s + (4 + j)) = λ j lt. (let z : home_slot (4 * s + j) + 4 ≡ 8 * s + (4 + j) = omega arith in ap g z) in
    let h0 = home 0 (omega arith) in
    let h1 = home 1 (omega arith) in
    let h2 = home 2 (omega arith) in
    let h3 = home 3 (omega arith) in
    let s0 = store 0 (omega arith) in
    let s1 = store 1 (omega arith) in
    let s2 = store 2 (omega arith) in
    let s3 = store 3 (omega arith) in
    omega arith

pub total_sum : {A : Type 0} (f : A → ℕ) (xs : List A) (d : A) → total f xs ≡ sum_to (λ i. f (get_or xs i d)) (length xs)
total_sum f [] d = refl
total_sum f (x ∷ xs) d =
    let t = total_sum f xs d in
    let s = sum_front (λ i. f (get_or (x ∷ xs) i d)) (length xs) in
    omega arith

pub count_sum : (f : ℕ → Bool) (n : ℕ) → count_below f n ≡ sum_to (λ i. one_if (f i)) n
unfolding count_below
count_sum f zero = refl
count_sum f (suc n) = let t = count_sum f n in omega arith

pub count_total : {A : Type 0} (p : A → Bool) (xs : List A) (d : A) → count_by p xs ≡ total (λ x. one_if (p x)) xs
count_total p xs d = count_by-places p xs d (length xs) refl ∙ count_sum (λ i. p (get_or xs i d)) (length xs) ∙ sym (total_sum (λ x. one_if (p x)) xs d)

pub times_total : (n : ℕ) (xs : List ℕ) → times n xs ≡ total (λ x. one_if (x == n)) xs
times_total n [] = refl
times_total n (x ∷ xs) = let t = times_total n xs in omega arith

pub times_count : (n : ℕ) (xs : List ℕ) → times n xs ≡ count_by (λ x. x == n) xs
times_count n xs = times_total n xs ∙ sym (count_total (λ x. x == n) xs 0)

pub total_map : {A B : Type 0} (g : A → B) (f : B → ℕ) (xs : List A) → total f (map g xs) ≡ total (λ x. f (g x)) xs
total_map g f [] = refl
total_map g f (x ∷ xs) = let t = total_map g f xs in omega arith
