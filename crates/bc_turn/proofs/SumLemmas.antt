-- What seats have between them.
use Rattle.std.proofs.Common.{◌≡◌, ◌≢◌, ℕ, ◌+◌, ◌-◌, ◌<◌, ◌≤◌, List, [], ◌∷◌, ◌++◌, length, length-append, map, get_or, inl, inr, refl, ap, arith}
use Prim.Native.Nat.{suc, zero}
use Rattle.std.proofs.lemmas.Bool.{cases_lt}
use Rattle.bc_pins.specs.Calls.{view_of}
use Rattle.bc_pins.specs.Totals.{sum_to, times, total}
use Rattle.bc_pins.specs.Views.{has_role}
use Rattle.bc_pins.specs.declared.pins.Seat.{Seat}
use Rattle.bc_pins.proofs.SumLemmas.{sum_cut}
use Rattle.bc_pins.proofs.TotalLemmas.{times_append}

-- what no seat of the list has, all have none of
pub sum-none : (f : Seat → ℕ) (seats : List Seat) → ((i : ℕ) → i < length seats → (d : Seat) → f (get_or seats i d) ≡ 0) → total f seats ≡ 0
sum-none f [] each = refl
sum-none f (s ∷ seats) each =
    let here = each 0 (omega arith) s in
    let rest = sum-none f seats (λ i lt d. each (suc i) (omega arith) d) in
    omega arith

-- seats of which each has one role have these roles between them
pub roles-sum : {X : Type 0} (number : X → ℕ) (xs : List X) (x : X) (seats : List Seat) (r : ℕ) → length seats ≡ length xs → ((i : ℕ) → i < length xs → (d : Seat) → (view_of (get_or seats i d)).roles ≡ number (get_or xs i x) ∷ [])
    → total (λ (s : Seat). has_role (view_of s) r) seats ≡ times r (map number xs)
roles-sum number [] x [] r long each = refl
roles-sum number [] x (s ∷ seats) r long each = absurd (omega arith)
roles-sum number (y ∷ ys) x [] r long each = absurd (omega arith)
roles-sum number (y ∷ ys) x (s ∷ seats) r long each =
    let here = ap (times r) (each 0 (omega arith) s) in
    let rest = roles-sum number ys x seats r (omega arith) (λ i lt d. each (suc i) (omega arith) d) in
    omega arith

-- what one seat of the list has alone, all have together
pub sum-one : (f : Seat → ℕ) (seats : List Seat) (i : ℕ) (d : Seat) → i < length seats → ((j : ℕ) → j < length seats → j ≢ i → (e : Seat) → f (get_or seats j e) ≡ 0) → total f seats ≡ f (get_or seats i d)
sum-one f [] i d lt none = absurd (omega arith)
sum-one f (s ∷ seats) zero d lt none = let rest = sum-none f seats (λ j lj e. none (suc j) (omega arith) (λ x. omega arith) e) in omega arith
sum-one f (s ∷ seats) (suc i) d lt none =
    let here = none 0 (omega arith) (λ x. omega arith) s in
    let rest = sum-one f seats i d (omega arith) (λ j lj ne e. none (suc j) (omega arith) (λ x. ne (omega arith)) e) in
    omega arith

-- what all have where each has no more than of something else
pub sum-less : (f g : Seat → ℕ) (seats : List Seat) → ((i : ℕ) → i < length seats → (d : Seat) → f (get_or seats i d) ≤ g (get_or seats i d)) → total f seats ≤ total g seats
sum-less f g [] each = omega arith
sum-less f g (s ∷ seats) each =
    let here = each 0 (omega arith) s in
    let rest = sum-less f g seats (λ i lt d. each (suc i) (omega arith) d) in
    omega arith

-- what all have, in one list
abbrev pub gathered : (Seat → List ℕ) → List Seat → List ℕ
gathered f [] = []
gathered f (s ∷ seats) = f s ++ gathered f seats

pub times-gathered : (f : Seat → List ℕ) (seats : List Seat) (p : ℕ) → times p (gathered f seats) ≡ total (λ (s : Seat). times p (f s)) seats
times-gathered f [] p = refl
times-gathered f (s ∷ seats) p = let both = times_append p (f s) (gathered f seats) in let rest = times-gathered f seats p in omega arith

pub length-gathered : (f : Seat → List ℕ) (seats : List Seat) → length (gathered f seats) ≡ total (λ (s : Seat). length (f s)) seats
length-gathered f [] = refl
length-gathered f (s ∷ seats) = let both = length-append (f s) (gathered f seats) in let rest = length-gathered f seats in omega arith

-- where all have some, one has
pub sum-some : (f : Seat → ℕ) (seats : List Seat) → 0 < total f seats → (i : ℕ) × (i < length seats) × ((d : Seat) → 0 < f (get_or seats i d))
sum-some f [] some = absurd (omega arith)
sum-some f (s ∷ seats) some = elim (cases_lt 0 (f s)) [
  | inl here ↦ (0, omega arith, λ d. here)
  | inr none ↦ let r = sum-some f seats (omega arith) in (suc r.0, (let lt = r.1 in omega arith), r.2)
]

-- what all have where each has no more than is said of its number
pub sum-by : (f : Seat → ℕ) (g : ℕ → ℕ) (seats : List Seat) (xs : List ℕ) → length seats ≡ length xs → ((i : ℕ) → i < length xs → (d : Seat) → f (get_or seats i d) ≤ g (get_or xs i 0)) → total f seats ≤ total g xs
sum-by f g [] [] long each = omega arith
sum-by f g [] (x ∷ xs) long each = absurd (omega arith)
sum-by f g (s ∷ seats) [] long each = absurd (omega arith)
sum-by f g (s ∷ seats) (x ∷ xs) long each =
    let here = each 0 (omega arith) s in
    let rest = sum-by f g seats xs (omega arith) (λ i lt d. each (suc i) (omega arith) d) in
    omega arith

-- what numbers have together that rise from m on, and lie below n
rising-from : (g : ℕ → ℕ) (m n : ℕ) (xs : List ℕ) → m ≤ n → ((i : ℕ) → i < length xs → (m ≤ get_or xs i 0) × (get_or xs i 0 < n)) → ((i j : ℕ) → i < j → j < length xs → get_or xs i 0 < get_or xs j 0)
    → sum_to g m + total g xs ≤ sum_to g n
rising-from g m n [] le within rising = let cut = sum_cut g m (n - m) n (omega arith) in omega arith
rising-from g m n (x ∷ xs) le within rising =
    let here = within 0 (omega arith) in
    let low = here.0 in
    let high = here.1 in
    let cut = sum_cut g m (x - m) x (omega arith) in
    let rest = rising-from g (suc x) n xs (omega arith)
    (λ i lt. (let up = rising 0 (suc i) (omega arith) (omega arith) in omega arith, (within (suc i) (omega arith)).1))
    (λ i j lt inside. rising (suc i) (suc j) (omega arith) (omega arith)) in
    omega arith

pub rising-sum : (g : ℕ → ℕ) (n : ℕ) (xs : List ℕ) → ((i : ℕ) → i < length xs → get_or xs i 0 < n) → ((i j : ℕ) → i < j → j < length xs → get_or xs i 0 < get_or xs j 0) → total g xs ≤ sum_to g n
rising-sum g n xs within rising = let all = rising-from g 0 n xs (omega arith) (λ i lt. (omega arith, within i lt)) rising in omega arith
