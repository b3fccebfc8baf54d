-- Whether some number below a bound passes a test.
use Rattle.std.proofs.Common.{◌≡◌, ℕ, ◌+◌, ◌<◌, ◌≤◌, ◌||◌, inl, inr, Bool, true, false, refl, ap, sym, ◌∙◌, arith, tests}
use Rattle.std.proofs.lemmas.Bool.{cases_eq, cases_Bool}
use Prim.Native.Nat.{zero, suc}
use Rattle.bc_bits.specs.Counting.{any_below}

-- one number more
pub any_below-more : (f : ℕ → Bool) (n : ℕ) → any_below f (n + 1) ≡ (f n || any_below f n)
unfolding any_below
any_below-more f n = go (n + 1) (omega arith)
  where
    go : (m : ℕ) → m ≡ suc n → any_below f m ≡ (f n || any_below f n)
    go m is = ap (any_below f) is

pub any_below-zero : (f : ℕ → Bool) → any_below f 0 ≡ false
unfolding any_below
any_below-zero f = refl

-- a number that passes
pub any_below-at : (f : ℕ → Bool) (n i : ℕ) → i < n → f i ≡ true → any_below f n ≡ true
unfolding any_below
any_below-at f zero i lt on = absurd (omega arith)
any_below-at f (suc n) i lt on =
    elim (cases_eq i n) [
      | inl here ↦ let now : f n ≡ true = rw here at on in grind (arith, tests)
      | inr other ↦ let before : any_below f n ≡ true = any_below-at f n i (omega arith) on in grind (arith, tests)
    ]

-- and one is found
pub any_below-some : (f : ℕ → Bool) (n : ℕ) → any_below f n ≡ true → (i : ℕ) × (i < n) × (f i ≡ true)
unfolding any_below
any_below-some f zero on = absurd (let e : false ≡ true = on in cc)
any_below-some f (suc n) on =
    elim (cases_Bool (f n)) [
      | inl passes ↦ (n, omega arith, passes)
      | inr fails ↦
          let rest : any_below f n ≡ true = grind (arith, tests) in
          let found = any_below-some f n rest in
          (found.0, omega arith, found.2)
    ]

-- where none passes
pub any_below-none : (f : ℕ → Bool) (n : ℕ) → ((i : ℕ) → i < n → f i ≡ false) → any_below f n ≡ false
any_below-none f n none =
    elim (cases_Bool (any_below f n)) [
      | inl some ↦ let found = any_below-some f n some in absurd (let e : false ≡ true = sym (none found.0 found.1) ∙ found.2 in cc)
      | inr off ↦ off
    ]

-- the same test gives the same answer
pub any_below-same : (f g : ℕ → Bool) (n : ℕ) → ((i : ℕ) → i < n → f i ≡ g i) → any_below f n ≡ any_below g n
unfolding any_below
any_below-same f g zero same = refl
any_below-same f g (suc n) same =
    let here : f n ≡ g n = same n (omega arith) in
    let below : any_below f n ≡ any_below g n = any_below-same f g n (λ i lt. same i (omega arith)) in
    rw (here, below) refl

-- numbers that fail don't count
pub any_below-stretch : (f : ℕ → Bool) (m k : ℕ) → ((i : ℕ) → m ≤ i → i < m + k → f i ≡ false) → any_below f (m + k) ≡ any_below f m
any_below-stretch f m zero none = ap (any_below f) (let e : m + 0 ≡ m = omega arith in e)
any_below-stretch f m (suc k) none =
    let e : m + suc k ≡ m + k + 1 = omega arith in
    let last : f (m + k) ≡ false = none (m + k) (omega arith) (omega arith) in
    let rest : any_below f (m + k) ≡ any_below f m = any_below-stretch f m k (λ i le lt. none i le (omega arith)) in
    ap (any_below f) e ∙ any_below-more f (m + k) ∙ drop_left (f (m + k)) (any_below f (m + k)) last ∙ rest
  where
    drop_left : (a b : Bool) → a ≡ false → (a || b) ≡ b
    drop_left a b off = grind (arith, tests)
