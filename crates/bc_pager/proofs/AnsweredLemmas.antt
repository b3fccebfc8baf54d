-- Once the table is closed each notice of a turn is one pager's.
use Prim.Native.Nat.{zero, suc}
use Rattle.std.proofs.Common.{◌≡◌, ℕ, ◌+◌, ◌*◌, ◌^◌, ◌<◌, ◌≤◌, ◌⊎◌, List, [], ◌∷◌, length, map, min, nat_lt, inl, inr, refl, ap, sym, subst, ◌∙◌, arith}
use Rattle.std.specs.Prelude.{slice_index_or}
use Rattle.std.specs.List.{AllByRecursion}
use Rattle.std.proofs.lemmas.Bool.{cases_lt, le-ltb, lt-ltb}
use Rattle.std.proofs.lemmas.List.{get_or-map, length-map}
use Rattle.std.proofs.Math.Nat.{mul-le-mul_right}
use Rattle.bc_bits.specs.Counting.{one_if}
use Rattle.bc_pager.specs.Claiming.{AreAnsweredAsClaimed}
use Rattle.bc_pager.specs.Paging.{AreDealtPagers, HasPaged, HaveAllPaged, seats_of}
use Rattle.bc_pager.specs.Placing.{AnsweredByPagers, AreNumberedOnce, ClaimAsMany, HavePlaces, IsPagedBy, Paged, paged_of}
use Rattle.bc_pager.specs.declared.answers.Answer.{Answer}
use Rattle.bc_pager.specs.declared.paging.Paging.{Paging}
use Rattle.bc_pins.specs.Calls.{key_of, view_of}
use Rattle.bc_pins.specs.Closing.{HaveClaimed, claims_of}
use Rattle.bc_pins.specs.Key.{role_number}
use Rattle.bc_pins.specs.Steps.{fresh}
use Rattle.bc_pins.specs.Totals.{times, total}
use Rattle.bc_pins.specs.declared.key.Role.{Role}
use Rattle.bc_pins.specs.declared.pins.Pins.{Pins}
use Rattle.bc_pins.specs.declared.pins.Seat.{Seat}
use Rattle.bc_pins.proofs.TotalLemmas.{one_few, one_other}

-- what counts of a pager that has answered what it claimed
record Counts (hints : List ℕ) (p : Paging) : Type 0 where
  within : AllByRecursion (λ n. n < length hints) p.answers.numbers
  claims : (n : ℕ) → n < length hints → times n (view_of p.seat).notices ≡ times n p.answers.numbers
  least : length p.answers.numbers ≤ length (view_of p.seat).notices
  most : length (view_of p.seat).notices ≤ length hints + 1
  ended : ((n : ℕ) × (length hints ≤ n) × (0 < times n (view_of p.seat).notices)) ⊎ (length p.answers.numbers ≡ length hints)

counts-of : (pins : Pins) (hints : List ℕ) (old new : Paging) → HasPaged pins hints old new → Counts hints new
counts-of pins hints old new h = record {
  within = h.within;
  claims = h.claims;
  least = h.count.0;
  most = let few = h.few in let all = h.count.1 in omega arith;
  ended = h.ended;
}

-- what is so at each place of a list is so of each element
all-of : {A : Type 0} (P : A → Type 0) (xs : List A) → ((i : ℕ) → i < length xs → (d : A) → P (slice_index_or xs i d)) → AllByRecursion P xs
all-of P [] each = tt
all-of P (x ∷ xs) each = (each zero (omega arith) x, all-of P xs (λ i lt d. each (suc i) (omega arith) d))

abbrev claims-at : ℕ → List Paging → ℕ
claims-at n ps = total (λ (seat : Seat). times n (view_of seat).notices) (seats_of ps)

-- numbers below the count are claimed as often as they stand among the pagers' numbers
numbers-claimed : (hints : List ℕ) (ps : List Paging) → AllByRecursion (Counts hints) ps → (n : ℕ) → n < length hints → total (λ (p : Paged). times n p.numbers) (map paged_of ps) ≡ claims-at n ps
numbers-claimed hints [] all n lt = refl
numbers-claimed hints (p ∷ ps) all n lt = let one = all.0.claims n lt in let rest = numbers-claimed hints ps all.1 n lt in omega arith

-- and others not at all
within-none : (bound : ℕ) (numbers : List ℕ) (n : ℕ) → AllByRecursion (λ m. m < bound) numbers → bound ≤ n → times n numbers ≡ 0
within-none bound [] n all far = refl
within-none bound (m ∷ ms) n all far =
    let near = all.0 in
    let zero_is = one_other m n (λ e. absurd (omega arith)) in
    let rest = within-none bound ms n all.1 far in
    omega arith

numbers-past : (hints : List ℕ) (ps : List Paging) → AllByRecursion (Counts hints) ps → (n : ℕ) → length hints ≤ n → total (λ (p : Paged). times n p.numbers) (map paged_of ps) ≡ 0
numbers-past hints [] all n far = refl
numbers-past hints (p ∷ ps) all n far = let one = within-none (length hints) p.answers.numbers n all.0.within far in let rest = numbers-past hints ps all.1 n far in omega arith

-- each pager claims one number more than there are hints at most
claims-most : (hints : List ℕ) (ps : List Paging) → AllByRecursion (Counts hints) ps → claims_of (seats_of ps) ≤ length ps * (length hints + 1)
claims-most hints [] all = omega arith
claims-most hints (p ∷ ps) all =
    let one = all.0.most in
    let rest = claims-most hints ps all.1 in
    let step : length (p ∷ ps) * (length hints + 1) ≡ length ps * (length hints + 1) + (length hints + 1) = omega arith in
    omega arith

module _ (pins : Pins) (hints : List ℕ) (old new : List Paging) (seats : List Seat) (told : List Answer) (long_old : length old ≡ min (length hints) 4) (small : length hints < 2 ^ 61) (dealt : AreDealtPagers pins old)
    (paged : HaveAllPaged pins hints old new) (claimed : HaveClaimed seats) (as_many : ClaimAsMany seats (seats_of new)) where
  count-each : (i : ℕ) → i < length new → (d : Paging) → Counts hints (slice_index_or new i d)
  count-each i lt d = let long = paged.long in counts-of pins hints (slice_index_or old i d) (slice_index_or new i d) (paged.each i (omega arith) d)

  counts : AllByRecursion (Counts hints) new
  counts = all-of (Counts hints) new count-each

  few : claims_of seats < 2 ^ 64
  few =
      let most = claims-most hints new counts in
      let same = as_many.count in
      let long = paged.long in
      let four : length new ≤ 4 = omega arith in
      let all : length new * (length hints + 1) ≤ 4 * (length hints + 1) = mul-most (length new) 4 (length hints + 1) four in
      omega arith
    where
      mul-most : (a b c : ℕ) → a ≤ b → a * c ≤ b * c
      mul-most a b c le = mul-le-mul_right c le

  once-claimed : (n : ℕ) → claims-at n new ≡ one_if (nat_lt n (claims_of seats))
  once-claimed n = sym (as_many.each n) ∙ claimed few n

  claimed-below : (n : ℕ) → 0 < claims-at n new → n < claims_of seats
  claimed-below n some = elim (cases_lt n (claims_of seats)) [
    | inl lt ↦ lt
    | inr far ↦ let zero_is : one_if (nat_lt n (claims_of seats)) ≡ 0 = ap one_if (le-ltb n (claims_of seats) far) in let is = once-claimed n in absurd (omega arith)
  ]

  -- as many numbers as hints were claimed at least, where a pager is at work
  enough-from : (ps : List Paging) → ((n : ℕ) → 0 < claims-at n ps → n < claims_of seats) → claims_of (seats_of ps) ≤ claims_of seats → AllByRecursion (Counts hints) ps → 0 < length ps → length hints ≤ claims_of seats
  enough-from [] below all are some = absurd (omega arith)
  enough-from (p ∷ ps) below all are some = elim are.0.ended [
    | inl past ↦ let far = past.1 in let here = past.2 in let lt = below past.0 (omega arith) in omega arith
    | inr full ↦ let least = are.0.least in omega arith
  ]

  some-pager : 0 < length hints → 0 < length new
  some-pager some = let long = paged.long in omega arith

  enough : 0 < length hints → length hints ≤ claims_of seats
  enough some = let same = as_many.count in enough-from new claimed-below (omega arith) counts (some-pager some)

  once : (n : ℕ) → total (λ (p : Paged). times n p.numbers) (map paged_of new) ≡ one_if (nat_lt n (length hints))
  once n = elim (cases_lt n (length hints)) [
    | inl lt ↦
        let all = enough (omega arith) in
        numbers-claimed hints new counts n lt ∙ once-claimed n ∙ ap one_if (lt-ltb n (claims_of seats) (omega arith) ∙ sym (lt-ltb n (length hints) lt))
    | inr far ↦ numbers-past hints new counts n far ∙ sym (ap one_if (le-ltb n (length hints) far))
  ]

  paged-by : (i : ℕ) → i < length new → (e : Paging) → IsPagedBy (key_of pins) hints i (paged_of (slice_index_or new i e))
  paged-by i lt e =
      let long = paged.long in
      let h = paged.each i (omega arith) e in
      let role = (dealt i (omega arith) e).its_role in
      record {
        each = subst (λ (r : Role). AreAnsweredAsClaimed (key_of pins) hints (slice_index_or new i e).answers.numbers (slice_index_or new i e).answers.list (fresh (key_of pins) (role_number r ∷ [])) (view_of (slice_index_or new i e).seat)) role h.each;
        within = h.within;
        claims = h.claims;
      }

  paged-at : (ps : List Paging) → ps ≡ new → (i : ℕ) → i < length (map paged_of ps) → (d : Paged) → IsPagedBy (key_of pins) hints i (slice_index_or (map paged_of ps) i d)
  paged-at [] is i lt d = absurd (omega arith)
  paged-at (p ∷ ps) is i lt d =
      let long = length-map (p ∷ ps) paged_of in
      let size = ap (λ (l : List Paging). length l) is in
      subst (IsPagedBy (key_of pins) hints i) (ap (λ (l : List Paging). paged_of (slice_index_or l i p)) (sym is) ∙ sym (get_or-map paged_of (p ∷ ps) i p d (omega arith))) (paged-by i (omega arith) p)

  numbered-once : AreNumberedOnce (map paged_of new)
  numbered-once n = let is = once n in let most = one_few (nat_lt n (length hints)) in omega arith

  pub answered : length told ≡ length hints → (AreNumberedOnce (map paged_of new) → AllByRecursion (HavePlaces told) (map paged_of new)) → AnsweredByPagers (key_of pins) hints (map paged_of new) told
  answered long placed = record {
    few = length-map new paged_of ∙ paged.long ∙ long_old;
    each = paged-at new refl;
    once = once;
    long = long;
    placed = placed numbered-once;
  }
