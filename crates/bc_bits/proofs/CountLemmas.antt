-- Counting what passes a test below a bound.
use Rattle.std.proofs.Common.{◌≡◌, ◌≢◌, ℕ, ◌+◌, ◌<◌, ◌≤◌, inl, inr, Bool, true, false, refl, ap, sym, arith}
use Rattle.std.proofs.lemmas.Bool.{cases_eq, cases_Bool}
use Prim.Native.Nat.{zero, suc}
use Rattle.bc_bits.specs.Counting.{one_if, count_below}

pub one_if-le : (b : Bool) → one_if b ≤ 1
one_if-le true = omega arith
one_if-le false = omega arith

pub count_below-le : (f : ℕ → Bool) (n : ℕ) → count_below f n ≤ n
unfolding count_below
count_below-le f zero = omega arith
count_below-le f (suc n) = omega (arith, count_below-le f n, one_if-le (f n))

-- the same test gives the same count
pub count_below-same : (f g : ℕ → Bool) (n : ℕ) → ((i : ℕ) → i < n → f i ≡ g i) → count_below f n ≡ count_below g n
unfolding count_below
count_below-same f g zero same = refl
count_below-same f g (suc n) same =
    let here : one_if (f n) ≡ one_if (g n) = ap one_if (same n (omega arith)) in
    let below = count_below-same f g n (λ i lt. same i (omega arith)) in
    omega arith

-- nothing passes, so the count is 0
pub count_below-none : (f : ℕ → Bool) (n : ℕ) → ((i : ℕ) → i < n → f i ≡ false) → count_below f n ≡ 0
unfolding count_below
count_below-none f zero none = refl
count_below-none f (suc n) none =
    let here : one_if (f n) ≡ 0 = ap one_if (none n (omega arith)) in
    let below = count_below-none f n (λ i lt. none i (omega arith)) in
    omega arith

-- all pass, so the count is the bound
pub count_below-all : (f : ℕ → Bool) (n : ℕ) → ((i : ℕ) → i < n → f i ≡ true) → count_below f n ≡ n
unfolding count_below
count_below-all f zero none = refl
count_below-all f (suc n) all =
    let here : one_if (f n) ≡ 1 = ap one_if (all n (omega arith)) in
    let below = count_below-all f n (λ i lt. all i (omega arith)) in
    omega arith

-- one more number passes, so the count is one more
pub count_below-more : (f g : ℕ → Bool) (n b : ℕ) → b < n → f b ≡ false → g b ≡ true → ((i : ℕ) → i ≢ b → g i ≡ f i) → count_below g n ≡ count_below f n + 1
unfolding count_below
count_below-more f g zero b lt off on others = absurd (omega arith)
count_below-more f g (suc n) b lt off on others =
    elim (cases_eq b n) [
      | inl here ↦
          let now : one_if (g n) ≡ 1 = ap one_if (rw here at on) in
          let before : one_if (f n) ≡ 0 = ap one_if (rw here at off) in
          let below = count_below-same g f n (λ i lt. others i (omega arith)) in
          omega arith
      | inr other ↦
          let same : one_if (g n) ≡ one_if (f n) = ap one_if (others n (λ e. other (sym e))) in
          let below = count_below-more f g n b (omega arith) off on others in
          omega arith
    ]

-- a test that passes less counts less
count_step : (a b : Bool) → (a ≡ true → b ≡ true) → one_if a ≤ one_if b
count_step true true h = omega arith
count_step true false h = absurd (let e : false ≡ true = h refl in cc)
count_step false true h = omega arith
count_step false false h = omega arith

pub count_below-mono : (f g : ℕ → Bool) (n : ℕ) → ((i : ℕ) → i < n → f i ≡ true → g i ≡ true) → count_below f n ≤ count_below g n
unfolding count_below
count_below-mono f g zero h = omega arith
count_below-mono f g (suc n) h =
    let here = count_step (f n) (g n) (h n (omega arith)) in
    let below = count_below-mono f g n (λ i lt. h i (omega arith)) in
    omega arith

-- where the count is not 0, some number passes
pub count_below-some : (f : ℕ → Bool) (n : ℕ) → 0 < count_below f n → (i : ℕ) × (i < n) × (f i ≡ true)
unfolding count_below
count_below-some f zero pos = absurd (omega arith)
count_below-some f (suc n) pos =
    elim (cases_Bool (f n)) [
      | inl passes ↦ (n, omega arith, passes)
      | inr fails ↦
          let none : one_if (f n) ≡ 0 = ap one_if fails in
          let found = count_below-some f n (omega arith) in
          (found.0, omega arith, found.2)
    ]

-- a test that passes less, and one number fewer, counts less
pub count_less : (f g : ℕ → Bool) (n b : ℕ) → b < n → f b ≡ false → g b ≡ true → ((i : ℕ) → i < n → f i ≡ true → g i ≡ true) → count_below f n < count_below g n
unfolding count_below
count_less f g zero b lt off on h = absurd (omega arith)
count_less f g (suc n) b lt off on h =
    elim (cases_eq b n) [
      | inl here ↦
          let now : one_if (g n) ≡ 1 = ap one_if (rw here at on) in
          let before : one_if (f n) ≡ 0 = ap one_if (rw here at off) in
          let below = count_below-mono f g n (λ i lt. h i (omega arith)) in
          omega arith
      | inr other ↦
          let here = count_step (f n) (g n) (h n (omega arith)) in
          let below = count_less f g n b (omega arith) off on (λ i lt. h i (omega arith)) in
          omega arith
    ]
