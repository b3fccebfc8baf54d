-- Pagers in the order of their numbers, and their answers in the order of the notices.
use Prim.Native.Nat.{zero, suc}
use Rattle.std.proofs.Common.{◌≡◌, ℕ, ◌+◌, ◌<◌, ◌≤◌, ◌==◌, List, [], ◌∷◌, ◌++◌, length, map, reverse, inl, inr, take, drop, refl, ap, sym, subst, ◌∙◌, arith, append_assoc, append-nil, length-append}
use Rattle.std.specs.Prelude.{slice_index, slice_index_or, slice_set}
use Rattle.std.specs.List.{AllByRecursion}
use Rattle.std.proofs.lemmas.Bool.{cases_lt}
use Rattle.std.proofs.lemmas.List.{drop_all, take_all, get_or-set_other, get_or-set_same, length_push, map-append, reverse-append}
use Rattle.std.proofs.Math.Seq.{drop-append_seam, take-append_seam}
use Rattle.bc_bits.specs.Counting.{one_if}
use Rattle.bc_pager.specs.Paging.{pager_roles, seats_of}
use Rattle.bc_pager.specs.Placing.{AreNumberedOnce, HavePlaces, Paged, paged_of}
use Rattle.bc_pager.specs.declared.answers.Answer.{Answer}
use Rattle.bc_pager.specs.declared.answers.Answer.TheVariants.{Declined}
use Rattle.bc_pager.specs.declared.paging.Paging.{Paging}
use Rattle.bc_pins.specs.Totals.{times, total}
use Rattle.bc_pins.specs.declared.key.Role.TheVariants.{Pager}
use Rattle.bc_pins.specs.declared.pins.Seat.{Seat}
use Rattle.bc_pins.proofs.TotalLemmas.{one_same, total_append}
use Rattle.bc_pager.proofs.ClaimLemmas.{all-append}

-- one element moves from the end of a list to the end of another, which is read from its end
pub moved-last : {A B : Type 0} (f : B → A) (all before before' : List A) (ys : List B) (x : A) (y : B) → all ≡ before ++ map f (reverse ys) → before ≡ before' ++ x ∷ [] → f y ≡ x → all ≡ before' ++ map f (reverse (ys ++ y ∷ []))
moved-last f all before before' ys x y was last is =
    was
    ∙ ap (λ l. l ++ map f (reverse ys)) last
    ∙ append_assoc before' (x ∷ []) (map f (reverse ys))
    ∙ ap (λ z. before' ++ z ∷ map f (reverse ys)) (sym is)
    ∙ ap (λ l. before' ++ map f l) (sym (reverse-append ys (y ∷ [])))

-- a list of answers whose last ones were written anew, as a slice of its own
pub laid-last : (n b : ℕ) (items old told rest : List Answer) → n ≡ length items → items ≡ old ++ rest → b ≡ length old → length told ≡ length rest
    → take n ((take b items ++ (told ++ drop (length told) (drop b items))) ++ drop (length (take b items ++ (told ++ drop (length told) (drop b items)))) items) ≡ old ++ told
laid-last n b items old told rest whole is at long =
    let front : take b items ≡ old = ap (λ (l : List Answer). take b l) is ∙ ap (λ (m : ℕ). take m (old ++ rest)) at ∙ take-append_seam old rest in
    let back : drop b items ≡ rest = ap (λ (l : List Answer). drop b l) is ∙ ap (λ (m : ℕ). drop m (old ++ rest)) at ∙ drop-append_seam old rest in
    let none : drop (length told) (drop b items) ≡ [] = ap (λ (l : List Answer). drop (length told) l) back ∙ drop_all (length told) rest (omega arith) in
    let written : take b items ++ (told ++ drop (length told) (drop b items)) ≡ old ++ told =
    ap (λ (l : List Answer). take b items ++ (told ++ l)) none ∙ ap (λ (l : List Answer). take b items ++ l) (append-nil told) ∙ ap (λ (l : List Answer). l ++ told) front in
    let size = length-append old told in
    let size_rest = length-append old rest in
    let all = ap (λ (l : List Answer). length l) is in
    let past : drop (length (old ++ told)) items ≡ [] = drop_all (length (old ++ told)) items (omega arith) in
    ap (λ (l : List Answer). take n (l ++ drop (length l) items)) written ∙ ap (λ (l : List Answer). take n ((old ++ told) ++ l)) past ∙ ap (λ (l : List Answer). take n l) (append-nil (old ++ told)) ∙ take_all n (old ++ told) (omega arith)

-- as many roles as pagers
pub pagers_long : (n : ℕ) → length (pager_roles n) ≡ n
pagers_long zero = refl
pagers_long (suc n) = let push = length_push (pager_roles n) (Pager n) in let rest = pagers_long n in omega arith

-- a number that stands in a list
pub times-in : (xs : List ℕ) (j : ℕ) → j < length xs → 0 < times (slice_index xs j) xs
times-in [] j lt = absurd (omega arith)
times-in (x ∷ xs) zero lt = let own = one_same x in omega arith
times-in (x ∷ xs) (suc j) lt = let rest = times-in xs j (omega arith) in omega arith

-- and one that stands at two places
pub times-twice : (xs : List ℕ) (i j : ℕ) → i < j → j < length xs → slice_index xs i ≡ slice_index xs j → 1 < times (slice_index xs j) xs
times-twice [] i j less lt same = absurd (omega arith)
times-twice (x ∷ xs) i zero less lt same = absurd (omega arith)
times-twice (x ∷ xs) zero (suc j) less lt same =
    let one : one_if (x == slice_index xs j) ≡ 1 = subst (λ (n : ℕ). one_if (n == slice_index xs j) ≡ 1) (sym same) (one_same (slice_index xs j)) in
    let rest = times-in xs j (omega arith) in
    omega arith
times-twice (x ∷ xs) (suc i) (suc j) less lt same = let rest = times-twice xs i j (omega arith) (omega arith) same in omega arith

-- one answer more is laid at the number of its notice
module _ (told before : List Answer) (numbers : List ℕ) (list : List Answer) (place : ℕ) (lt : place < length numbers) (at : ℕ) (at-is : at ≡ slice_index numbers place) (answer : Answer) where
  pub place-others : ((n : ℕ) → times n numbers ≡ 0 → slice_index_or told n Declined ≡ slice_index_or before n Declined) → (n : ℕ) → times n numbers ≡ 0 → slice_index_or (slice_set told at answer) n Declined ≡ slice_index_or before n Declined
  place-others was n none =
      get_or-set_other told at n answer Declined (λ e. let here = times-in numbers place lt in let zero_is : times (slice_index numbers place) numbers ≡ 0 = subst (λ (m : ℕ). times m numbers ≡ 0) (e ∙ at-is) none in absurd (omega arith))
      ∙ was n none

  pub place-more : answer ≡ slice_index_or list place Declined → at < length told
      → (((n : ℕ) → times n numbers ≤ 1) → (j : ℕ) → j < place → slice_index_or told (slice_index numbers j) Declined ≡ slice_index_or list j Declined)
      → ((n : ℕ) → times n numbers ≤ 1) → (j : ℕ) → j < place + 1 → slice_index_or (slice_set told at answer) (slice_index numbers j) Declined ≡ slice_index_or list j Declined
  place-more is inside was once j less = elim (cases_lt j place) [
    | inl first ↦
        get_or-set_other told at (slice_index numbers j) answer Declined (λ e. let twice = times-twice numbers j place first lt (e ∙ at-is) in let most = once (slice_index numbers place) in absurd (omega arith))
        ∙ was once j first
    | inr last ↦
        let here : place ≡ j = omega arith in
        subst (λ (i : ℕ). slice_index_or (slice_set told at answer) (slice_index numbers i) Declined ≡ slice_index_or list i Declined) here
        (subst (λ (n : ℕ). slice_index_or (slice_set told at answer) n Declined ≡ slice_index_or list place Declined) at-is (get_or-set_same told at answer Declined inside ∙ is))
  ]

-- each of a list's numbers is below a bound
pub below-at : (bound : ℕ) (xs : List ℕ) → AllByRecursion (λ n. n < bound) xs → (j : ℕ) → j < length xs → slice_index xs j < bound
below-at bound [] all j lt = absurd (omega arith)
below-at bound (x ∷ xs) all zero lt = all.0
below-at bound (x ∷ xs) all (suc j) lt = below-at bound xs all.1 j (omega arith)

-- places of one pager stay right where another lays its answers
keeps-places : (told told' : List Answer) (numbers : List ℕ) (ps : List Paged) → ((n : ℕ) → times n numbers ≡ 0 → slice_index_or told' n Declined ≡ slice_index_or told n Declined)
    → ((n : ℕ) → total (λ (p : Paged). times n p.numbers) ps + times n numbers ≤ 1) → AllByRecursion (HavePlaces told) ps → AllByRecursion (HavePlaces told') ps
keeps-places told told' numbers [] others few are = tt
keeps-places told told' numbers (p ∷ ps) others few are = (
  λ j lt.
      let here = times-in p.numbers j lt in
      let most = few (slice_index p.numbers j) in
      others (slice_index p.numbers j) (omega arith) ∙ are.0 j lt,
  keeps-places told told' numbers ps others (λ n. let most = few n in omega arith) are.1,
)

-- pagers of which the first are through: their seats stand after the others, and their answers are in their places
pub record GatheredSoFar (all rest : List Paging) (before now : List Seat) (told : List Answer) : Type 0 where
  pub done : List Paging
  pub whole : all ≡ done ++ rest
  pub seats : now ≡ before ++ seats_of done
  pub placed : AreNumberedOnce (map paged_of all) → AllByRecursion (HavePlaces told) (map paged_of done)

pub gathered-more : (all rest rest' : List Paging) (before seats seats' : List Seat) (told told' : List Answer) (p : Paging) → GatheredSoFar all rest before seats told → rest ≡ p ∷ rest' → seats' ≡ seats ++ p.seat ∷ []
    → ((n : ℕ) → times n p.answers.numbers ≡ 0 → slice_index_or told' n Declined ≡ slice_index_or told n Declined) → (((n : ℕ) → times n p.answers.numbers ≤ 1) → HavePlaces told' (paged_of p))
    → GatheredSoFar all rest' before seats' told'
gathered-more all rest rest' before seats seats' told told' p g next pushed others places = record {
  done = g.done ++ p ∷ [];
  whole = g.whole ∙ ap (λ (l : List Paging). g.done ++ l) next ∙ sym (append_assoc g.done (p ∷ []) rest');
  seats = pushed ∙ ap (λ (l : List Seat). l ++ p.seat ∷ []) g.seats ∙ append_assoc before (seats_of g.done) (p.seat ∷ []) ∙ ap (λ (l : List Seat). before ++ l) (sym (map-append (λ (x : Paging). x.seat) g.done (p ∷ [])));
  placed = λ once.
      let few : (n : ℕ) → total (λ (q : Paged). times n q.numbers) (map paged_of g.done) + times n p.answers.numbers ≤ 1 = λ n. few-of once n in
      subst (λ (l : List Paged). AllByRecursion (HavePlaces told') l) (sym (map-append paged_of g.done (p ∷ [])))
      (all-append (HavePlaces told') (map paged_of g.done) (paged_of p ∷ []) (keeps-places told told' p.answers.numbers (map paged_of g.done) others few (g.placed once))
      (places (λ n. let most = few n in omega arith), tt));
}
  where
    few-of : AreNumberedOnce (map paged_of all) → (n : ℕ) → total (λ (q : Paged). times n q.numbers) (map paged_of g.done) + times n p.answers.numbers ≤ 1
    few-of once n =
        let f : Paged → ℕ = λ q. times n q.numbers in
        let most = once n in
        let split : total f (map paged_of all) ≡ total f (map paged_of g.done ++ map paged_of (p ∷ rest')) =
        ap (λ (l : List Paging). total f (map paged_of l)) (g.whole ∙ ap (λ (l : List Paging). g.done ++ l) next) ∙ ap (total f) (map-append paged_of g.done (p ∷ rest')) in
        let sum = total_append f (map paged_of g.done) (map paged_of (p ∷ rest')) in
        omega arith
