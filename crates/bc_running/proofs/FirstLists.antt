-- A list of which the first elements are those of another one.
use Rattle.std.proofs.Common.{◌≡◌, ℕ, ◌<◌, ◌≤◌, List, [], ◌∷◌, length, map, get_or, set, refl, ap, arith}
use Prim.Native.Nat.{zero, suc}

-- the second list, but its first n elements are those of the first one
abbrev pub with_first : {X : Type 0} → ℕ → List X → List X → List X
with_first zero xs ys = ys
with_first (suc n) [] ys = ys
with_first (suc n) (x ∷ xs) [] = []
with_first (suc n) (x ∷ xs) (y ∷ ys) = x ∷ with_first n xs ys

pub with_first-long : {X : Type 0} (n : ℕ) (xs ys : List X) → length (with_first n xs ys) ≡ length ys
with_first-long zero xs ys = refl
with_first-long (suc n) [] ys = refl
with_first-long (suc n) (x ∷ xs) [] = refl
with_first-long (suc n) (x ∷ xs) (y ∷ ys) = omega (arith, with_first-long n xs ys)

pub with_first-same : {X : Type 0} (n : ℕ) (xs : List X) → with_first n xs xs ≡ xs
with_first-same zero xs = refl
with_first-same (suc n) [] = refl
with_first-same {X} (suc n) (x ∷ xs) = ap (λ (zs : List X). x ∷ zs) (with_first-same n xs)

pub with_first-all : {X : Type 0} (n : ℕ) (xs ys : List X) → n ≡ length ys → length xs ≡ length ys → with_first n xs ys ≡ xs
with_first-all zero [] [] all long = refl
with_first-all zero (x ∷ xs) [] all long = absurd (omega arith)
with_first-all zero xs (y ∷ ys) all long = absurd (omega arith)
with_first-all (suc n) [] ys all long = absurd (omega arith)
with_first-all (suc n) (x ∷ xs) [] all long = absurd (omega arith)
with_first-all {X} (suc n) (x ∷ xs) (y ∷ ys) all long = ap (λ (zs : List X). x ∷ zs) (with_first-all n xs ys (omega arith) (omega arith))

pub with_first-map : {X Y : Type 0} (f : X → Y) (n : ℕ) (xs ys : List X) → map f (with_first n xs ys) ≡ with_first n (map f xs) (map f ys)
with_first-map f zero xs ys = refl
with_first-map f (suc n) [] ys = refl
with_first-map f (suc n) (x ∷ xs) [] = refl
with_first-map {X} {Y} f (suc n) (x ∷ xs) (y ∷ ys) = ap (λ (zs : List Y). f x ∷ zs) (with_first-map f n xs ys)

-- one of the first n, and one of the others
pub with_first-in : {X : Type 0} (n : ℕ) (xs ys : List X) (i : ℕ) (d : X) → length xs ≡ length ys → i < n → get_or (with_first n xs ys) i d ≡ get_or xs i d
with_first-in zero xs ys i d long lt = absurd (omega arith)
with_first-in (suc n) [] [] i d long lt = refl
with_first-in (suc n) [] (y ∷ ys) i d long lt = absurd (omega arith)
with_first-in (suc n) (x ∷ xs) [] i d long lt = absurd (omega arith)
with_first-in (suc n) (x ∷ xs) (y ∷ ys) zero d long lt = refl
with_first-in (suc n) (x ∷ xs) (y ∷ ys) (suc i) d long lt = with_first-in n xs ys i d (omega arith) (omega arith)

pub with_first-past : {X : Type 0} (n : ℕ) (xs ys : List X) (i : ℕ) (d : X) → n ≤ i → get_or (with_first n xs ys) i d ≡ get_or ys i d
with_first-past zero xs ys i d past = refl
with_first-past (suc n) [] ys i d past = refl
with_first-past (suc n) (x ∷ xs) [] i d past = refl
with_first-past (suc n) (x ∷ xs) (y ∷ ys) zero d past = absurd (omega arith)
with_first-past (suc n) (x ∷ xs) (y ∷ ys) (suc i) d past = with_first-past n xs ys i d (omega arith)

-- one more of the first list is one element that changes
pub with_first-more : {X : Type 0} (n : ℕ) (xs ys : List X) (d : X) → length xs ≡ length ys → n < length ys → with_first (suc n) xs ys ≡ set (with_first n xs ys) n (get_or xs n d)
with_first-more n [] [] d long lt = absurd (omega arith)
with_first-more n [] (y ∷ ys) d long lt = absurd (omega arith)
with_first-more n (x ∷ xs) [] d long lt = absurd (omega arith)
with_first-more zero (x ∷ xs) (y ∷ ys) d long lt = refl
with_first-more {X} (suc n) (x ∷ xs) (y ∷ ys) d long lt = ap (λ (zs : List X). x ∷ zs) (with_first-more n xs ys d (omega arith) (omega arith))
