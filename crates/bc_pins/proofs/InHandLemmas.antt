-- In a table that keeps its rule a page is in one seat's hands exactly where its word says Held.
use Rattle.std.proofs.Common.{◌≡◌, ℕ, ◌<◌, ◌==◌, List, [], ◌∷◌, Option, Some, None, inl, inr, refl, ap, ◌∙◌, arith}
use Prim.Native.Nat.{suc}
use mathlib.Core.Option.{some}
use lib.ListN.{get_elem?}
use Rattle.std.proofs.lemmas.Bool.{cases_eq, cases_lt}
use Rattle.bc_bits.specs.Counting.{one_if}
use Rattle.bc_pins.specs.declared.views.Hand.{Hand}
use Rattle.bc_pins.specs.declared.views.View.{View}
use Rattle.bc_pins.specs.Key.{Key, pages_of}
use Rattle.bc_pins.specs.Totals.{total}
use Rattle.bc_pins.specs.Views.{grips}
use Rattle.bc_pins.specs.Facts.{Table, page_word}
use Rattle.bc_pins.specs.Rule.{Rule}
use Rattle.bc_pins.specs.InHand.{SeatHasPage, IsHeldByOne}
use Rattle.bc_pins.proofs.TotalLemmas.{total_at, total_two, one_few, one_is, one_same}

-- where a list has more than none together, one of its items does
pub some_item : {A : Type 0} (f : A → ℕ) (vs : List A) → 0 < total f vs → (j : ℕ) × (v : A) × (get_elem? vs j ≡ some v) × (0 < f v)
some_item f [] lt = absurd (omega arith)
some_item f (x ∷ xs) lt = elim (cases_lt 0 (f x)) [
  | inl here ↦ (0, x, refl, here)
  | inr none ↦ let later = some_item f xs (omega arith) in (suc later.0, later.1, later.2, later.3)
]

gripped : (page : ℕ) (hand : Option Hand) → 0 < grips page hand → (h : Hand) × (hand ≡ Some h) × (h.page ≡ page)
gripped page None lt = absurd (omega arith)
gripped page (Some h) lt = (h, refl, one_is h.page page lt)

grips_one : {s : Table} {seat page : ℕ} (h : SeatHasPage s seat page) → grips page h.view.hand ≡ 1
grips_one {s} {seat} {page} h = ap (grips page) h.has ∙ ap (λ (n : ℕ). one_if (n == page)) h.page_is ∙ one_same page

pub held_pages : (k : Key) (s : Table) → Rule k s → (page : ℕ) → page < pages_of k → IsHeldByOne s page
held_pages k s r page lt =
    let sum = (r.place page lt).held in
    let most = one_few (page_word s page == 3) in
    record {
      somebody = λ is.
          let one : one_if (page_word s page == 3) ≡ 1 = ap (λ (n : ℕ). one_if (n == 3)) is in
          let found = some_item (λ (v : View). grips page v.hand) s.views (omega arith) in
          let hand = gripped page found.1.hand found.3 in
          (found.0, record { view = found.1; at = found.2; hand = hand.0; has = hand.1; page_is = hand.2 });
      held = λ seat h.
          let one = grips_one h in
          let part_of = total_at (λ (v : View). grips page v.hand) s.views seat h.view h.at in
          one_is (page_word s page) 3 (omega arith);
      alone = λ seat other a b. elim (cases_eq seat other) [
        | inl same ↦ same
        | inr apart ↦
            let one = grips_one a in
            let one_too = grips_one b in
            let both = total_two (λ (v : View). grips page v.hand) s.views seat other a.view b.view apart a.at b.at in
            absurd (omega arith)
      ];
    }
