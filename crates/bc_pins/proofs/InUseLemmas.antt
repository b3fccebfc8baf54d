-- In a table that keeps its rule at most as many frames are in use as there are, and by pages and rights at most as many as pages may use.
use Rattle.std.proofs.Common.{◌≡◌, ℕ, ◌+◌, ◌-◌, ◌≤◌, ◌==◌, List, [], ◌∷◌, length, nat_lt, inl, inr, refl, ap, arith}
use Rattle.std.proofs.lemmas.Bool.{cases_Bool, cases_lt, ltb-true}
use Rattle.bc_bits.specs.Counting.{one_if}
use Rattle.bc_pins.specs.Key.{Key}
use Rattle.bc_pins.specs.Totals.{times, sum_to}
use Rattle.bc_pins.specs.Facts.{Table, frame_used}
use Rattle.bc_pins.specs.Rule.{Rule}
use Rattle.bc_pins.specs.InUse.{uses_of_frame, HasFewFramesInUse}
use Rattle.bc_pins.proofs.TotalLemmas.{one_same, one_few}
use Rattle.bc_pins.proofs.SumLemmas.{sum_few, sum_none, sum_cut}
use Rattle.bc_pins.proofs.BoxLemmas.{sum_hit, sum_plus}
use Rattle.bc_pins.proofs.TallyLemmas.{ge-nat_lt}

-- a sum of numbers that are 0 from a bound on is at most that of those below the bound
sum_most : (g : ℕ → ℕ) (bound : ℕ) → ((i : ℕ) → bound ≤ i → g i ≡ 0) → (n : ℕ) → sum_to g n ≤ sum_to g bound
sum_most g bound past n = elim (cases_lt n bound) [
  | inl lt ↦ let a = sum_cut g n (bound - n) bound (omega arith) in omega arith
  | inr le ↦
      let a = sum_none (λ i. g (bound + i)) (n - bound) (λ i lt. past (bound + i) (omega arith)) in
      let b = sum_cut g bound (n - bound) n (omega arith) in
      omega arith
]

-- a sum of numbers that are at most 1 below a bound, and 0 from there on, is at most the bound
sum_bounded : (g : ℕ → ℕ) (bound : ℕ) → ((i : ℕ) → g i ≤ one_if (nat_lt i bound)) → (n : ℕ) → sum_to g n ≤ bound
sum_bounded g bound each n =
    let few = sum_few g bound (λ i. (let a = each i in let b = one_few (nat_lt i bound) in omega arith)) in
    let most = sum_most g bound (λ i le. (let a = each i in let z : one_if (nat_lt i bound) ≡ 0 = ap one_if (ge-nat_lt i bound le) in omega arith)) n in
    omega arith

-- the sum of how often each number below a bound stands in a list is its length, if none from the bound on stands there
sum_times : (xs : List ℕ) (bound : ℕ) → ((i : ℕ) → bound ≤ i → times i xs ≡ 0) → sum_to (λ i. times i xs) bound ≡ length xs
sum_times [] bound past = sum_none (λ i. 0) bound (λ i lt. refl)
sum_times (x ∷ xs) bound past = elim (cases_lt x bound) [
  | inl lt ↦
      let a = sum_times xs bound (λ i le. let z = past i le in omega arith) in
      let b = sum_hit x bound lt in
      let c = sum_plus (λ i. one_if (x == i)) (λ i. times i xs) bound in
      omega arith
  | inr le ↦ let z = past x le in let d = one_same x in absurd (omega arith)
]

uses_most : (k : Key) (s : Table) → Rule k s → (f : ℕ) → uses_of_frame k s f ≤ one_if (nat_lt f k.frames)
uses_most k s r f = let u = (r.frames f).used in omega arith

-- no number from that of all frames on is a frame that is taken
none_past : (k : Key) (s : Table) → Rule k s → (f : ℕ) → k.frames ≤ f → uses_of_frame k s f ≡ 0
none_past k s r f le = let a = uses_most k s r f in let z : one_if (nat_lt f k.frames) ≡ 0 = ap one_if (ge-nat_lt f k.frames le) in omega arith

pages_most : (k : Key) (s : Table) → Rule k s → (n : ℕ) → sum_to (frame_used s) n + length k.nursery ≤ k.frames
pages_most k s r n =
    let a = sum_most (frame_used s) k.frames (λ f le. let z = none_past k s r f le in omega arith) n in
    let b = sum_times k.nursery k.frames (λ f le. let z = none_past k s r f le in omega arith) in
    let c = sum_plus (frame_used s) (λ f. times f k.nursery) k.frames in
    let d = sum_bounded (uses_of_frame k s) k.frames (uses_most k s r) k.frames in
    omega arith

pub frames_in_use : (k : Key) (s : Table) → Rule k s → HasFewFramesInUse k s
frames_in_use k s r = record {
  once = λ f. (let a = uses_most k s r f in let b = one_few (nat_lt f k.frames) in omega arith);
  within = λ f lt. elim (cases_Bool (nat_lt f k.frames)) [
    | inl on ↦ ltb-true f k.frames on
    | inr off ↦ let a = uses_most k s r f in let z : one_if (nat_lt f k.frames) ≡ 0 = ap one_if off in absurd (omega arith)
  ];
  few = sum_bounded (uses_of_frame k s) k.frames (uses_most k s r);
  pages = pages_most k s r;
}
