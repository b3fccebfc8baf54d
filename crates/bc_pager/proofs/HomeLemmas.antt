-- Pages that are Home once a table is closed: where a seat read one as a page that can't be taken, or a notice was declined, another seat
-- read it as Home.
use Rattle.std.proofs.Common.{◌≡◌, ℕ, ◌+◌, ◌*◌, ◌/◌, ◌%◌, ◌<◌, ◌≤◌, ◌==◌, List, [], length, get_or, inl, inr, ◌⊎◌, ap, sym, ◌∙◌, arith}
use Rattle.std.proofs.lemmas.Bool.{cases_lt}
use Rattle.std.proofs.lemmas.List.{get_or_past}
use Rattle.bc_bits.specs.Counting.{one_if}
use Rattle.bc_evict.specs.Looking.{MayStay, all_pages}
use Rattle.bc_pager.specs.Answering.{says_declined}
use Rattle.bc_pager.specs.Placing.{AnsweredByPagers, Paged}
use Rattle.bc_pager.specs.declared.answers.Answer.{Answer}
use Rattle.bc_pins.specs.Calls.{view_of}
use Rattle.bc_pins.specs.Closing.{Closed}
use Rattle.bc_pins.specs.Key.{Key, pages_of}
use Rattle.bc_pins.specs.Steps.{fresh}
use Rattle.bc_pins.specs.Totals.{times, total}
use Rattle.bc_pins.specs.Views.{reads_as, reads_at, state_word}
use Rattle.bc_pins.specs.declared.pins.Seat.{Seat}
use Rattle.bc_pins.specs.declared.views.View.{View}
use Rattle.bc_superpages.specs.declared.headers.PageState.{PageState}
use Rattle.bc_superpages.specs.declared.headers.PageState.TheVariants.{Absent, Gone, Held, Home, Remembered}
use Rattle.bc_superpages.specs.Layout.{Layout, superpages}
use Rattle.bc_superpages.specs.LayoutAt.{state_at}
use Rattle.bc_pager.proofs.DeclinedLemmas.{LooksFound, answered-looks, claimed-answered}
use Rattle.bc_pager.proofs.ToldLemmas.{told-declined}

-- a page past all superpages
pub state-behind : (s : Layout) (p : ℕ) → length s.states ≡ superpages s → 4 * superpages s ≤ p → state_at s.states p ≡ Absent
state-behind s p long far =
    ap (λ (states : List PageState). get_or states (p % 4) Absent) (get_or_past s.states (p / 4) [] (omega arith)) ∙ get_or_past [] (p % 4) Absent (omega arith)

absent_home : Absent ≡ Home → ⊥
absent_home e = cc

-- how often all seats fetched a page, made it Gone, and made it Absent
abbrev pub fetches : List Seat → ℕ → ℕ
fetches seats p = total (λ (seat : Seat). times p (view_of seat).fetched) seats

abbrev pub leaves : List Seat → ℕ → ℕ
leaves seats p = total (λ (seat : Seat). times p (view_of seat).left) seats + total (λ (seat : Seat). times p (view_of seat).emptied) seats

module _ (k : Key) (t : Layout) (seats : List Seat) (IsLooked : ℕ → Type 0) (closed : Closed k seats t)
    (homes : (p : ℕ) → p < pages_of k → 0 < total (λ (seat : Seat). reads_as p 1 (view_of seat)) seats → (0 < leaves seats p) ⊎ IsLooked p) where
  -- a page that a seat made Gone or Absent and nobody fetched isn't Home
  left-away : (p : ℕ) → p < pages_of k → fetches seats p ≡ 0 → 0 < leaves seats p → state_at t.states p ≡ Home → ⊥
  left-away p near none some home =
      let gone = (closed.states_are p near).gone in
      let absent = (closed.states_are p near).absent in
      let four : one_if (state_word (state_at t.states p) == 4) ≡ 0 = ap (λ (st : PageState). one_if (state_word st == 4)) home in
      let zero_is : one_if (state_word (state_at t.states p) == 0) ≡ 0 = ap (λ (st : PageState). one_if (state_word st == 0)) home in
      absurd (omega arith)

  -- a page that a seat read as one that can't be taken
  pub looked-where : (p : ℕ) (place : PageState) → MayStay place → p < pages_of k → fetches seats p ≡ 0 → state_at t.states p ≡ Home → 0 < total (λ (seat : Seat). reads_as p (state_word place) (view_of seat)) seats → IsLooked p
  looked-where p Absent may near none home found = absurd ((closed.states_are p near).away (omega arith) none home)
  looked-where p Home may near none home found = absurd may
  looked-where p Remembered may near none home found = absurd ((closed.states_are p near).away (omega arith) none home)
  looked-where p Gone may near none home found = absurd ((closed.states_are p near).away (omega arith) none home)
  looked-where p Held may near none home found =
      let taken = (closed.states_are p near).held found in
      elim (cases_lt 0 (total (λ (seat : Seat). reads_as p 2 (view_of seat)) seats)) [
        | inl two ↦ absurd ((closed.states_are p near).away (omega arith) none home)
        | inr no_two ↦ elim (homes p near (omega arith)) [
          | inl named ↦ absurd (left-away p near none named home)
          | inr left ↦ left
        ]
      ]

-- where a seat found each page to be one that can't be taken, and what it read is among what all have read
module _ (k : Key) (t : Layout) (seats : List Seat) (IsLooked : ℕ → Type 0) (closed : Closed k seats t) (long : length t.states ≡ superpages t)
    (fetched : (p : ℕ) → 0 < fetches seats p → IsLooked p)
    (homes : (p : ℕ) → p < pages_of k → 0 < total (λ (seat : Seat). reads_as p 1 (view_of seat)) seats → (0 < leaves seats p) ⊎ IsLooked p)
    (w : View) (logged : (p n : ℕ) → times n (reads_at p w.read) ≤ total (λ (seat : Seat). reads_as p n (view_of seat)) seats) where
  found-where : (p : ℕ) (looks : LooksFound k w) (place : PageState) → MayStay place → p < pages_of k → fetches seats p ≡ 0 → state_at t.states p ≡ Home → 0 < times (state_word place) (reads_at p looks.looks) → IsLooked p
  found-where p looks place may near none home found =
      let more = looks.more p (state_word place) in
      let all = logged p (state_word place) in
      looked-where k t seats IsLooked closed homes p place may near none home (omega arith)

  pub looked-by : LooksFound k w → (p : ℕ) → state_at t.states p ≡ Home → IsLooked p
  looked-by looks p home =
      let supers : superpages t ≡ superpages k.opening = ap superpages closed.same in
      elim (cases_lt p (all_pages k)) [
        | inl inside ↦ elim (looks.each p inside) [
          | inl near ↦ elim (cases_lt 0 (fetches seats p)) [
            | inl some_fetched ↦ fetched p some_fetched
            | inr none ↦ found-where p looks near.1.place near.1.among near.0 (omega arith) home near.1.read
          ]
          | inr far ↦ absurd (absent_home (sym ((closed.behind p far.0 inside).0 ∙ far.1) ∙ home))
        ]
        | inr out ↦ absurd (absent_home (sym (state-behind t p long (omega arith)) ∙ home))
      ]

-- a turn's notices, answered by its pagers
pub declined-beside : (k : Key) (t : Layout) (seats : List Seat) (hints : List ℕ) (pagers : List Paged) (told : List Answer) (IsLooked : ℕ → Type 0) (closed : Closed k seats t) (long : length t.states ≡ superpages t) (answered : AnsweredByPagers k hints pagers told)
    (logged : (i : ℕ) → i < length pagers → (d : Paged) → (p n : ℕ) → times n (reads_at p (get_or pagers i d).end.read) ≤ total (λ (seat : Seat). reads_as p n (view_of seat)) seats)
    (fetched : (p : ℕ) → 0 < fetches seats p → IsLooked p)
    (homes : (p : ℕ) → p < pages_of k → 0 < total (λ (seat : Seat). reads_as p 1 (view_of seat)) seats → (0 < leaves seats p) ⊎ IsLooked p)
    → 0 < total says_declined told → (p : ℕ) → state_at t.states p ≡ Home → IsLooked p
declined-beside k t seats hints pagers told IsLooked closed long answered logged fetched homes some p home =
    let none : Paged = record { numbers = []; answers = []; end = fresh k [] } in
    let one = told-declined k hints pagers told answered some none in
    let by : Paged = get_or pagers one.0 none in
    looked-by k t seats IsLooked closed long fetched homes by.end (logged one.0 one.1 none) (answered-looks k _ by.answers _ by.end (claimed-answered k hints by.numbers by.answers _ by.end (answered.each one.0 one.1 none).each) one.2) p home
