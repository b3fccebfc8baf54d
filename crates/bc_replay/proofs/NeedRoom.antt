-- The need of a state is a number of few digits.
use Rattle.std.proofs.Common.{◌≡◌, ℕ, ◌+◌, ◌*◌, ◌^◌, ◌<◌, ◌≤◌, true, cond, List, [], ◌∷◌, length, refl, arith, suc, zero}
use Rattle.std.specs.List.{sum_by, count_by}
use Rattle.std.proofs.lemmas.List.Sums.{sum_by-cons, sum_by_push, count_by-le-length}
use Rattle.bc_bits.proofs.CountLemmas.{count_below-le}
use Rattle.bc_classes.specs.Classes.{classes}
use Rattle.bc_reach.specs.Distinct.{Has, Distinct}
use Rattle.bc_model.specs.Consistent.{IsState}
use Rattle.bc_model.specs.StateSizes.{HasSerials}
use Rattle.bc_model.specs.Need.{IsNeed, count_of, superpages_for, is_of}
use Rattle.bc_model.specs.Reached.{Reached}
use Rattle.bc_model.specs.State.{State, IsBorn, object_of, numbers_below}
use Rattle.bc_model.specs.declared.values.Birth.{Birth}
use Rattle.bc_model.proofs.NeedFound.{reached-born}
use Rattle.bc_model.proofs.Objects.{same_birth}
use Rattle.bc_standing.proofs.Pigeons.{pigeons}

-- a number for each birth that a state can have
record IsAt (b : Birth) (k : ℕ) : Type 0 where
  number : k ≡ b.lane * 4294967296 + b.serial
  serial : b.serial < 4294967296

apart : (b c : Birth) (k : ℕ) → IsAt b k → IsAt c k → b ≡ c
apart b c k h i = same_birth b c (omega (arith, h.number, h.serial, i.number, i.serial)) (omega (arith, h.number, h.serial, i.number, i.serial))

number_of : (s : State) (b : Birth) → IsState s → HasSerials 0 s → IsBorn s.made b → (k : ℕ) × IsAt b k × (k < 2 ^ 36) × (true ≡ true)
number_of s b st n born =
    let small : b.serial < 4294967296 = omega (arith, n.below b.lane, born.serial) in
    (b.lane * 4294967296 + b.serial, record { number = refl; serial = small }, omega (arith, st.lanes, born.lane, small), refl)

count_all : {B : Type 0} (xs : List B) → count_by (λ b. true) xs ≡ length xs
count_all [] = refl
count_all {B} (x ∷ xs) = omega (arith, count_all xs, sum_by-cons (λ (b : B). cond true 1 0) x xs)

few_births : (s : State) (bs : List Birth) → IsState s → HasSerials 0 s → Distinct bs → ((b : Birth) → Has bs b → Reached s.slots s.made b) → length bs ≤ 2 ^ 36
few_births s bs st n distinct reached =
    let few = pigeons (λ b. true) IsAt (λ k. true) (2 ^ 36) bs distinct (record {
      number = λ b h _. number_of s b st n (reached-born s b st (reached b h));
      apart = apart;
    }) in
    omega (arith, few, count_all bs, count_below-le (λ k. true) (2 ^ 36))

-- superpages of a domain, and of all domains
few_of_domain : (count : ℕ → ℕ) (m : ℕ) → ((c : ℕ) → count c ≤ m) → sum_by (λ c. superpages_for c (count c)) classes ≤ 7 * m
few_of_domain count m h = omega (arith, h 2, h 4, h 8, h 16, h 32, h 64, h 128)

sum_below : (f : ℕ → ℕ) (k : ℕ) → ((d : ℕ) → f d ≤ 2 ^ 39) → sum_by f (numbers_below k) ≤ k * 2 ^ 39
sum_below f zero h = omega arith
sum_below f (suc k) h = omega (arith, sum_below f k h, h k, sum_by_push f (numbers_below k) k)

pub need_small : (s : State) (n : ℕ) → IsState s → HasSerials 0 s → IsNeed s n → n < 2 ^ 64
need_small s n st serials h =
    let few = few_births s h.births st serials h.distinct (λ b x. (h.members b).0 x) in
    let each : (d c : ℕ) → count_of s.made h.births d c ≤ 2 ^ 36 = λ d c. omega (arith, few, count_by-le-length (λ b. is_of d c (object_of s.made b)) h.births) in
    let whole = sum_below (λ d. sum_by (λ c. superpages_for c (count_of s.made h.births d c)) classes) (length s.holders)
    (λ d. omega (arith, few_of_domain (count_of s.made h.births d) (2 ^ 36) (each d))) in
    omega (arith, whole, h.need, st.domains)
