-- Answers: what each leaves as it was and which pages it names; and what the answers of pagers that share notices are together.
use Prim.Native.Nat.{zero, suc}
use Rattle.std.proofs.Common.{◌≡◌, ℕ, ◌+◌, ◌*◌, ◌<◌, ◌≤◌, ◌==◌, List, [], ◌∷◌, length, map, get_or, nat_lt, slice_index, inl, inr, refl, ap, sym, ◌∙◌, arith}
use Rattle.std.specs.List.{AllByRecursion}
use Rattle.std.proofs.lemmas.Bool.{cases_lt, lt-ltb}
use Rattle.std.proofs.lemmas.List.{length-map}
use Rattle.bc_bits.specs.Counting.{one_if}
use Rattle.bc_pager.specs.Answering.{AreAnswered, ButClaims, IsAnswer, says_declined, says_discarded, says_evicted}
use Rattle.bc_pager.specs.Paging.{hints_numbered, seats_of}
use Rattle.bc_pager.specs.Placing.{AnsweredByPagers, HavePlaces, IsPagedBy, Paged, paged_of}
use Rattle.bc_pager.specs.declared.answers.Answer.{Answer}
use Rattle.bc_pager.specs.declared.answers.Answer.TheVariants.{Declined, Discarded, Evicted}
use Rattle.bc_pager.specs.declared.paging.Paging.{Paging}
use Rattle.bc_pins.specs.Calls.{view_of}
use Rattle.bc_pins.specs.Key.{Key, pages_of, role_number}
use Rattle.bc_pins.specs.Steps.{fresh}
use Rattle.bc_pins.specs.Totals.{sum_to, times, total}
use Rattle.bc_pins.specs.Views.{reads_at}
use Rattle.bc_pins.specs.declared.key.Role.TheVariants.{Pager}
use Rattle.bc_pins.specs.declared.pins.Seat.{Seat}
use Rattle.bc_pins.specs.declared.views.View.{View}
use Rattle.bc_pins.proofs.SumLemmas.{sum_none, sum_one, sum_same, total_sum}
use Rattle.bc_pins.proofs.TotalLemmas.{one_other, one_same, total_both}
use Rattle.bc_pager.proofs.DeclinedLemmas.{answered-home, claimed-answered}

-- a pager's view where it put no page back and took none from Gone
pub record KeepsRecords (v w : View) : Type 0 where
  pub changed : w.changed ≡ v.changed
  pub recorded : w.recorded ≡ v.recorded
  pub fetched : w.fetched ≡ v.fetched
  pub returned : w.returned ≡ v.returned

-- an answer
pub answer-keeps : (k : Key) (v : View) (hint : ℕ) (answer : Answer) (w : View) → IsAnswer k v hint answer w → KeepsRecords v w
answer-keeps k v hint (Discarded page) w is =
    record { changed = ap (λ (x : View). x.changed) is.view; recorded = ap (λ (x : View). x.recorded) is.view; fetched = ap (λ (x : View). x.fetched) is.view; returned = ap (λ (x : View). x.returned) is.view }
answer-keeps k v hint (Evicted page) w is =
    record { changed = ap (λ (x : View). x.changed) is.view; recorded = ap (λ (x : View). x.recorded) is.view; fetched = ap (λ (x : View). x.fetched) is.view; returned = ap (λ (x : View). x.returned) is.view }
answer-keeps k v hint Declined w is =
    record { changed = ap (λ (x : View). x.changed) is.view; recorded = ap (λ (x : View). x.recorded) is.view; fetched = ap (λ (x : View). x.fetched) is.view; returned = ap (λ (x : View). x.returned) is.view }

-- claims of notices leave the records as they were
claims-keep : (v w : View) → ButClaims v w → KeepsRecords v w
claims-keep v w but = record {
  changed = ap (λ (x : View). x.changed) but;
  recorded = ap (λ (x : View). x.recorded) but;
  fetched = ap (λ (x : View). x.fetched) but;
  returned = ap (λ (x : View). x.returned) but;
}

-- answers, one after another
pub answered-keep : (k : Key) (hints : List ℕ) (told : List Answer) (v w : View) → AreAnswered k hints told v w → KeepsRecords v w
answered-keep k [] [] v w but = claims-keep v w but
answered-keep k [] (answer ∷ told) v w is = absurd is
answered-keep k (hint ∷ hints) [] v w is = absurd is
answered-keep k (hint ∷ hints) (answer ∷ told) v w is =
    let given = claims-keep v is.0 is.2 in
    let one = answer-keeps k is.0 hint answer is.1 is.3 in
    let rest = answered-keep k hints told is.1 w is.4 in
    record {
      changed = rest.changed ∙ one.changed ∙ given.changed;
      recorded = rest.recorded ∙ one.recorded ∙ given.recorded;
      fetched = rest.fetched ∙ one.fetched ∙ given.fetched;
      returned = rest.returned ∙ one.returned ∙ given.returned;
    }

-- an answer names no page past the table
pub names-none : (k : Key) (v : View) (hint : ℕ) (answer : Answer) (w : View) → IsAnswer k v hint answer w → (p : ℕ) → pages_of k ≤ p → (says_evicted p answer ≡ 0) × (says_discarded p answer ≡ 0)
names-none k v hint (Discarded page) w is p far = (refl, one_other page p (λ e. let near = is.inside in absurd (omega arith)))
names-none k v hint (Evicted page) w is p far = (one_other page p (λ e. let near = is.inside in absurd (omega arith)), refl)
names-none k v hint Declined w is p far = (refl, refl)

-- no page past the table is named
pub answered-none : (k : Key) (hints : List ℕ) (told : List Answer) (v w : View) → AreAnswered k hints told v w → (p : ℕ) → pages_of k ≤ p → (total (says_evicted p) told ≡ 0) × (total (says_discarded p) told ≡ 0)
answered-none k [] [] v w is p far = (refl, refl)
answered-none k [] (answer ∷ told) v w is p far = absurd is
answered-none k (hint ∷ hints) [] v w is p far = absurd is
answered-none k (hint ∷ hints) (answer ∷ told) v w is p far =
    let one = names-none k is.0 hint answer is.1 is.3 p far in
    let rest = answered-none k hints told is.1 w is.4 p far in
    let a = one.0 in
    let b = one.1 in
    let c = rest.0 in
    let d = rest.1 in (omega arith, omega arith)

-- there are as many answers as hints
pub answered-even : (k : Key) (hints : List ℕ) (told : List Answer) (v w : View) → AreAnswered k hints told v w → length hints ≡ length told
answered-even k [] [] v w is = refl
answered-even k [] (answer ∷ told) v w is = absurd is
answered-even k (hint ∷ hints) [] v w is = absurd is
answered-even k (hint ∷ hints) (answer ∷ told) v w is = let rest = answered-even k hints told is.1 w is.4 in omega arith

-- a pager that began afresh put no page back and took none from Gone
pub record KeepsNone (w : View) : Type 0 where
  pub changed : w.changed ≡ []
  pub recorded : w.recorded ≡ []
  pub fetched : w.fetched ≡ []
  pub returned : w.returned ≡ []

-- its answers, as those to the notices that it claimed
paged-answered : (k : Key) (hints : List ℕ) (i : ℕ) (p : Paged) → IsPagedBy k hints i p → AreAnswered k (hints_numbered hints p.numbers) p.answers (fresh k (role_number (Pager i) ∷ [])) p.end
paged-answered k hints i p by = claimed-answered k hints p.numbers p.answers _ p.end by.each

paged-even : (k : Key) (hints : List ℕ) (i : ℕ) (p : Paged) → IsPagedBy k hints i p → length p.numbers ≡ length p.answers
paged-even k hints i p by =
    sym (length-map p.numbers (λ (number : ℕ). slice_index hints number)) ∙ answered-even k (hints_numbered hints p.numbers) p.answers _ p.end (paged-answered k hints i p by)

pub paged-keep : (k : Key) (hints : List ℕ) (i : ℕ) (p : Paged) → IsPagedBy k hints i p → KeepsNone p.end
paged-keep k hints i p by =
    let keeps = answered-keep k (hints_numbered hints p.numbers) p.answers _ p.end (paged-answered k hints i p by) in
    record { changed = keeps.changed; recorded = keeps.recorded; fetched = keeps.fetched; returned = keeps.returned }

-- a page's word was read as Home as often as the answers name it
pub paged-home : (k : Key) (hints : List ℕ) (i : ℕ) (p : Paged) → IsPagedBy k hints i p → (q : ℕ) → q < pages_of k → times 1 (reads_at q p.end.read) ≡ total (says_evicted q) p.answers + total (says_discarded q) p.answers
paged-home k hints i p by q near = let home = answered-home k (hints_numbered hints p.numbers) p.answers _ p.end (paged-answered k hints i p by) q near in omega arith

-- the seats of pagers, by the views at which they ended
pub total_paged : (f : View → ℕ) (xs : List Paging) → total (λ (s : Seat). f (view_of s)) (seats_of xs) ≡ total (λ (p : Paged). f p.end) (map paged_of xs)
total_paged f [] = refl
total_paged f (x ∷ xs) = let rest = total_paged f xs in omega arith

-- sums over pagers, by what each has
pub total_alike : (f g : Paged → ℕ) (ps : List Paged) → ((i : ℕ) → i < length ps → (d : Paged) → f (get_or ps i d) ≡ g (get_or ps i d)) → total f ps ≡ total g ps
total_alike f g [] each = refl
total_alike f g (p ∷ ps) each =
    let rest = total_alike f g ps (λ i lt d. each (suc i) (omega arith) d) in
    let one = each 0 (omega arith) p in
    omega arith

total_zero : (ps : List Paged) → total (λ (p : Paged). 0) ps ≡ 0
total_zero [] = refl
total_zero (p ∷ ps) = let rest = total_zero ps in omega arith

-- where a sum isn't 0 one of its terms isn't
pub total_some : {A : Type 0} (f : A → ℕ) (xs : List A) (d : A) → 0 < total f xs → (i : ℕ) × (i < length xs) × (0 < f (get_or xs i d))
total_some f [] d some = absurd (omega arith)
total_some f (x ∷ xs) d some = elim (cases_lt 0 (f x)) [
  | inl here ↦ (0, omega arith, here)
  | inr none ↦ let rest = total_some f xs d (omega arith) in let lt = rest.1 in (suc rest.0, omega arith, rest.2)
]

-- a sum of which each number has its part as often as it stands in a list
sum_both : (g h : ℕ → ℕ) (n : ℕ) → sum_to (λ i. g i + h i) n ≡ sum_to g n + sum_to h n
sum_both g h zero = refl
sum_both g h (suc n) = let rest = sum_both g h n in omega arith

once-of : (g : ℕ → ℕ) (n x : ℕ) → x < n → sum_to (λ i. one_if (x == i) * g i) n ≡ g x
once-of g n x lt =
    let one = sum_one (λ i. one_if (x == i) * g i) (λ _. 0) n x lt (λ i _ ne. ap (λ (c : ℕ). c * g i) (one_other x i (λ e. ne (sym e))) ∙ omega arith) in
    let none = sum_none (λ _. 0) n (λ _ _. refl) in
    let here = ap (λ (c : ℕ). c * g x) (one_same x) in
    omega arith

spread-one : (g : ℕ → ℕ) (n : ℕ) (ns : List ℕ) → AllByRecursion (λ x. x < n) ns → total g ns ≡ sum_to (λ i. times i ns * g i) n
spread-one g n [] all = sym (sum_none (λ i. 0 * g i) n (λ i lt. omega arith))
spread-one g n (x ∷ xs) all =
    let rest = spread-one g n xs all.1 in
    let one = once-of g n x all.0 in
    let both = sum_both (λ i. one_if (x == i) * g i) (λ i. times i xs * g i) n in
    let parts = sum_same (λ i. (one_if (x == i) + times i xs) * g i) (λ i. one_if (x == i) * g i + times i xs * g i) n (λ i lt. omega arith) in
    omega arith

spread : (g : ℕ → ℕ) (n : ℕ) (ps : List Paged) → ((i : ℕ) → i < length ps → (d : Paged) → AllByRecursion (λ x. x < n) (get_or ps i d).numbers)
    → total (λ (p : Paged). total g p.numbers) ps ≡ sum_to (λ i. total (λ (p : Paged). times i p.numbers) ps * g i) n
spread g n [] all = sym (sum_none (λ i. 0 * g i) n (λ i lt. omega arith))
spread g n (p ∷ ps) all =
    let rest = spread g n ps (λ i lt d. all (suc i) (omega arith) d) in
    let one = spread-one g n p.numbers (all 0 (omega arith) p) in
    let both = sum_both (λ i. times i p.numbers * g i) (λ i. total (λ (q : Paged). times i q.numbers) ps * g i) n in
    let parts = sum_same (λ i. (times i p.numbers + total (λ (q : Paged). times i q.numbers) ps) * g i) (λ i. times i p.numbers * g i + total (λ (q : Paged). times i q.numbers) ps * g i) n (λ i lt. omega arith) in
    omega arith

-- what answers weigh is what those in the places of their numbers do
placed-one : (f : Answer → ℕ) (told : List Answer) (p : Paged) → HavePlaces told p → length p.numbers ≡ length p.answers → total (λ n. f (get_or told n Declined)) p.numbers ≡ total f p.answers
placed-one f told p at even =
    total_sum (λ n. f (get_or told n Declined)) p.numbers 0
    ∙ sum_same (λ i. f (get_or told (get_or p.numbers i 0) Declined)) (λ i. f (get_or p.answers i Declined)) (length p.numbers) (λ i lt. ap f (at i lt))
    ∙ ap (sum_to (λ i. f (get_or p.answers i Declined))) even ∙ sym (total_sum f p.answers Declined)

placed-all : (f : Answer → ℕ) (told : List Answer) (ps : List Paged) → AllByRecursion (HavePlaces told) ps → ((i : ℕ) → i < length ps → (d : Paged) → length (get_or ps i d).numbers ≡ length (get_or ps i d).answers)
    → total (λ (p : Paged). total (λ n. f (get_or told n Declined)) p.numbers) ps ≡ total (λ (p : Paged). total f p.answers) ps
placed-all f told [] at even = refl
placed-all f told (p ∷ ps) at even =
    let rest = placed-all f told ps at.1 (λ i lt d. even (suc i) (omega arith) d) in
    let one = placed-one f told p at.0 (even 0 (omega arith) p) in
    omega arith

lt-true : (n m : ℕ) → n < m → one_if (nat_lt n m) ≡ 1
lt-true n m lt = ap one_if (lt-ltb n m lt)

module _ (k : Key) (hints : List ℕ) (pagers : List Paged) (told : List Answer) (a : AnsweredByPagers k hints pagers told) where
  -- what all answers weigh together is what those of each pager do
  pub told-total : (f : Answer → ℕ) → total f told ≡ total (λ (p : Paged). total f p.answers) pagers
  told-total f =
      let g : ℕ → ℕ = λ n. f (get_or told n Declined) in
      total_sum f told Declined
      ∙ ap (sum_to g) a.long
      ∙ sym (
      sum_same (λ i. total (λ (p : Paged). times i p.numbers) pagers * g i) g (length hints) (λ i lt. ap (λ (c : ℕ). c * g i) (a.once i ∙ lt-true i (length hints) lt) ∙ omega arith))
      ∙ sym (spread g (length hints) pagers (λ i lt d. (a.each i lt d).within))
      ∙ placed-all f told pagers a.placed (λ i lt d. paged-even k hints i (get_or pagers i d) (a.each i lt d))

  -- no page past the table is named
  pub told-none : (q : ℕ) → pages_of k ≤ q → (total (says_evicted q) told ≡ 0) × (total (says_discarded q) told ≡ 0)
  told-none q far =
      let none : (i : ℕ) (lt : i < length pagers) (d : Paged) → (total (says_evicted q) (get_or pagers i d).answers ≡ 0) × (total (says_discarded q) (get_or pagers i d).answers ≡ 0) =
      λ i lt d. let p : Paged = get_or pagers i d in answered-none k (hints_numbered hints p.numbers) p.answers _ p.end (paged-answered k hints i p (a.each i lt d)) q far in (
        told-total (says_evicted q) ∙ total_alike (λ (p : Paged). total (says_evicted q) p.answers) (λ _. 0) pagers (λ i lt d. (none i lt d).0) ∙ total_zero pagers,
        told-total (says_discarded q) ∙ total_alike (λ (p : Paged). total (says_discarded q) p.answers) (λ _. 0) pagers (λ i lt d. (none i lt d).1) ∙ total_zero pagers,
      )

  -- a page's word was read as Home by all of them as often as the answers name it
  pub told-home : (q : ℕ) → q < pages_of k → total (λ (p : Paged). times 1 (reads_at q p.end.read)) pagers ≡ total (says_evicted q) told + total (says_discarded q) told
  told-home q near =
      let home = total_alike (λ (p : Paged). times 1 (reads_at q p.end.read)) (λ (p : Paged). total (says_evicted q) p.answers + total (says_discarded q) p.answers) pagers
      (λ i lt d. paged-home k hints i (get_or pagers i d) (a.each i lt d) q near) in
      let both = total_both (λ (p : Paged). total (says_evicted q) p.answers) (λ (p : Paged). total (says_discarded q) p.answers) pagers in
      let gone = told-total (says_evicted q) in
      let absent = told-total (says_discarded q) in
      omega arith

  -- where a notice was declined, one of them declined one
  pub told-declined : 0 < total says_declined told → (d : Paged) → (i : ℕ) × (i < length pagers) × (0 < total says_declined (get_or pagers i d).answers)
  told-declined some d = let all = told-total says_declined in total_some (λ (p : Paged). total says_declined p.answers) pagers d (omega arith)
