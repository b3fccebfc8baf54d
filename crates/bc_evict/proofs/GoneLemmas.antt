-- A page whose word says Gone, and for what cells are bookmarked and pages counted.
use Rattle.std.proofs.Common.{◌≡◌, ℕ, ◌+◌, ◌/◌, ◌%◌, ◌<◌, ◌≤◌, ◌==◌, Bool, true, if◌then◌else◌, inl, inr, List, slice_index, ap, sym, ◌∙◌, subst, arith}
use Prim.Native.Nat.{zero, suc}
use mathlib.Core.Option.{some}
use Rattle.std.proofs.lemmas.Bool.{cases_eq, cases_lt, eq-eqb, ne_eqb}
use Rattle.bc_superpages.specs.Layout.{set_of}
use Rattle.bc_pins.specs.declared.views.View.{View}
use Rattle.bc_pins.specs.declared.views.Lodged.TheVariants.{Away}
use Rattle.bc_pins.specs.Key.{Key, pages_of, frame_slot, store_slot}
use Rattle.bc_pins.specs.Totals.{total, sum_to}
use Rattle.bc_pins.specs.Views.{counted_for, sets_bit}
use Rattle.bc_pins.specs.Facts.{Table, Slot, page_word, slot, Lies, points, adds_to, opened_bit, Counters, HasBookmarkBit}
use Rattle.bc_pins.specs.Tracing.{word_of, place_of}
use Rattle.bc_pins.specs.Rule.{Rule, SeatFacts}
use Rattle.bc_pins.proofs.ClosingLemmas.{set_for_some}
use Rattle.bc_pins.proofs.InHandLemmas.{some_item}
use Rattle.bc_pins.proofs.PageSteps.{sets_marked}
use Rattle.bc_pins.proofs.ReadLemmas.{remembered_word}
use Rattle.bc_pins.proofs.SumLemmas.{sum_same}
use Rattle.bc_pins.proofs.TallyLemmas.{bit_few}
use Rattle.bc_pins.proofs.TracingLemmas.{cell_is}
use Rattle.bc_evict.specs.GonePages.{content_in, stored_content, HasReason, IsGoneSummarised}

-- a number that counts to a sum is at most the sum
at_least : (g : ℕ → ℕ) (n p : ℕ) → p < n → g p ≤ sum_to g n
at_least g zero p lt = absurd (omega arith)
at_least g (suc n) p lt = elim (cases_eq p n) [
  | inl e ↦ let z = ap g e in omega arith
  | inr ne ↦ let below = at_least g n p (omega arith) in omega arith
]

if_one : (b : Bool) (n m : ℕ) → b ≡ true → n ≤ (if b then n else 0) + m
if_one b n m e = let z : (if b then n else 0) ≡ n = ap (λ (x : Bool). if x then n else 0) e in omega arith

away-at : (n : ℕ) (a b : Slot) (c : List ℕ) → n ≡ 4 → Lies n a b c → b ≡ some (some (Away c))
away-at n a b c is l = (subst (λ (m : ℕ). Lies m a b c) is l).1

two_words : (n m : ℕ) → n ≡ 4 → n ≡ m → m < 4 → ⊥
two_words n m four e lt = omega arith

pub gone-summarised : (k : Key) (s : Table) (page : ℕ) → Rule k s → page < pages_of k → page_word s page ≡ 4 → IsGoneSummarised k s page
gone-summarised k s page r lt is =
    let c : List ℕ = r.rec page in
    let content = r.content page lt in
    let summary = content.gone is in
    record {
      content = c;
      lies = away-at (page_word s page) (slot s (frame_slot k page)) (slot s (store_slot k page)) c is (r.place page lt).lies;
      there = summary.there;
      targets = summary.targets;
      counted = λ q less.
          let sum = r.counters q less in
          let part = at_least (adds_to k s r.rec q) (pages_of k) page lt in
          let mine = if_one (page_word s page == 4) (points k page c q) (total (λ (v : View). counted_for page q v.hand) s.views) (eq-eqb (page_word s page) 4 is) in
          omega arith;
      old = λ y. two_words (page_word s page) 2 is (remembered_word k s r page lt (λ three. two_words (page_word s page) 3 is three (omega arith)) (content.young y)) (omega arith);
    }

-- what is bookmarked was so at the opening, or was bookmarked for a page
pub bookmarked-for : (k : Key) (s : Table) (a : ℕ) → Rule k s → HasBookmarkBit k s.words a → HasReason k s a
bookmarked-for k s a r on =
    let w : ℕ = word_of k a in
    let b : ℕ = place_of k a in
    let near = on.within in
    let few = on.few in
    let one = on.bit in
    let below : b < 64 = omega arith in
    let ever = (r.bits w b (omega arith) below).only (omega arith) in
    elim (cases_lt 0 (opened_bit k w b)) [
      | inl was ↦
          let small = bit_few (slice_index (set_of k.opening.bookmarks (w / 16)) (w % 16)) b in
          inl (cell_is k k.opening.bookmarks a few on.starts (omega arith))
      | inr none ↦
          let seat = some_item (λ (v : View). sets_bit w b v.bookmarked) s.views (omega arith) in
          let page = set_for_some w b seat.1.bookmarked seat.3 in
          let facts : SeatFacts k s r.rec seat.1 = r.seats seat.0 seat.1 seat.2 in
          inr (
            page.0,
            record {
              inside = (facts.targets.each page.0 w b below page.1).0;
              seat = seat.0;
              view = seat.1;
              at = seat.2;
              set = page.1;
              had = facts.targets.had page.0 w b below page.1;
              whose = facts.marking.whose page.0 (sets_marked page.0 w b seat.1.bookmarked page.1);
            },
          )
    ]

-- what a page adds to a counter, by the content in the store
adds_stored : (k : Key) (s : Table) (q : ℕ) (r : Rule k s) (page : ℕ) → page < pages_of k → adds_to k s r.rec q page ≡ adds_to k s (stored_content k s) q page
adds_stored k s q r page lt = elim (cases_eq (page_word s page) 4) [
  | inl is ↦
      let lies = away-at (page_word s page) (slot s (frame_slot k page)) (slot s (store_slot k page)) (r.rec page) is (r.place page lt).lies in
      let same : stored_content k s page ≡ r.rec page = ap content_in lies in
      ap (λ (c : List ℕ). (if page_word s page == 4 then points k page c q else 0) + total (λ (v : View). counted_for page q v.hand) s.views) (sym same)
  | inr ne ↦
      let off = ne_eqb (page_word s page) 4 ne in
      let by_record : (if page_word s page == 4 then points k page (r.rec page) q else 0) ≡ 0 = ap (λ (x : Bool). if x then points k page (r.rec page) q else 0) off in
      let by_store : (if page_word s page == 4 then points k page (stored_content k s page) q else 0) ≡ 0 = ap (λ (x : Bool). if x then points k page (stored_content k s page) q else 0) off in
      omega arith
]

-- counters are what the contents in the store say, and what was counted for pages in hand
pub counted-stored : (k : Key) (s : Table) (q : ℕ) → Rule k s → q < k.supers → Counters k s (stored_content k s) q
counted-stored k s q r less = r.counters q less ∙ sum_same (adds_to k s r.rec q) (adds_to k s (stored_content k s) q) (pages_of k) (adds_stored k s q r)
