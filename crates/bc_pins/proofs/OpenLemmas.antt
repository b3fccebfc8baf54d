-- A table as it is opened meets the rule.
use Rattle.std.proofs.Common.{◌≡◌, ℕ, ◌==◌, List, [], ◌∷◌, refl, ap, sym, subst, ◌∙◌, arith}
use Prim.Native.Nat.{zero, suc}
use mathlib.Core.Option.{some, some-injective, some-ne-none}
use lib.ListN.{get_elem?}
use Rattle.std.proofs.lemmas.List.{length-map}
use Rattle.bc_bits.specs.Counting.{one_if}
use Rattle.bc_pins.specs.declared.views.Lodged.{Lodged}
use Rattle.bc_pins.specs.declared.views.View.{View}
use Rattle.bc_pins.specs.Key.{Key}
use Rattle.bc_pins.proofs.TracingLemmas.{knows_none}
use Rattle.bc_pins.specs.Views.{opened_content, opened_word}
use Rattle.bc_pins.specs.Facts.{Table, has_bit_of, page_word}
use Rattle.bc_pins.specs.Rule.{SeatFacts, Rule}
use Rattle.bc_pins.specs.Steps.{fresh}
use Rattle.bc_pins.specs.Opening.{opened, MayOpen}
use Rattle.bc_pins.proofs.TotalLemmas.{one_other, one_is}
use Rattle.bc_pins.proofs.SeatLemmas.{no_hand, no_marking, no_targets}

one_view : (v u : View) (j : ℕ) → get_elem? (v ∷ []) j ≡ some u → v ≡ u
one_view v u zero e = some-injective v u e
one_view v u (suc j) e = absurd (some-ne-none u (sym e))

pub starts : (k : Key) (words : List ℕ) (slots : List Lodged) → MayOpen k words slots → Rule k (opened k words slots)
starts k words slots may =
    let s : Table = opened k words slots in
    let first : View = fresh k k.roles in
    record {
      rec = opened_content k;
      words = may.words_long;
      slots = length-map slots some ∙ may.slots_long;
      few = may.few;
      place = λ p lt.
          let page = may.pages p lt in
          let a = one_other (opened_word k p) 3 page.not_held in
          let b : one_if (page_word s p == 3) ≡ one_if (opened_word k p == 3) = ap (λ (n : ℕ). one_if (n == 3)) page.word in
          record { lies = rw page.word page.lies; held = omega arith };
      content = λ p lt.
          let page = may.pages p lt in
          record {
            fixed = page.fixed;
            young = λ y. let a : one_if (page_word s p == 2) ≡ 1 = ap (λ (n : ℕ). one_if (n == 2)) (page.word ∙ page.young y) in omega arith;
            bare = λ z. page.bare (sym page.word ∙ z);
            gone = λ e. page.gone (sym page.word ∙ e);
            had = λ w b on. let a : one_if (has_bit_of k p (opened_content k p) w b) ≡ 1 = ap one_if on in omega arith;
          };
      standing = λ p lt.
          let page = may.pages p lt in
          let two : one_if (page_word s p == 2) ≡ one_if (opened_word k p == 2) = ap (λ (n : ℕ). one_if (n == 2)) page.word in
          let four : one_if (page_word s p == 4) ≡ one_if (opened_word k p == 4) = ap (λ (n : ℕ). one_if (n == 4)) page.word in
          let none_is : one_if (page_word s p == 0) ≡ one_if (opened_word k p == 0) = ap (λ (n : ℕ). one_if (n == 0)) page.word in
          record { remembered = λ lt. omega arith; recorded = λ lt. omega arith; as_opened = λ turn lt. one_is (opened_word k p) 2 (omega arith); gone = omega arith; absent = omega arith; busy = λ lt. absurd (omega arith); held = λ lt. absurd (omega arith); away = λ lt. absurd (omega arith) };
      seats = λ id v at. subst (SeatFacts k s (opened_content k)) (one_view first v id at) record {
        seated = record { about = λ _. refl; idle = λ _. record { hand = refl; rights = refl; recorded = refl; left = refl; emptied = refl; returned = refl; fetched = refl; bookmarked = refl; won = refl; known = refl; finished = refl; read = refl; notices = refl } };
        records = record { mine = λ p _. refl; others = λ p _. refl; unrecorded = λ p _. refl; unfetched = λ p _ _. refl; in_hand = λ h e. absurd (no_hand h e) };
        saw = record { seen = λ p lt. absurd (omega arith); gone = λ p lt. absurd (omega arith); busy = λ p lt. absurd (omega arith); taken = λ p lt. absurd (omega arith) };
        marking = no_marking first refl refl;
        targets = no_targets k s (opened_content k) first refl;
        knows = λ turn. knows_none k s first refl refl;
      };
      roles = record { each = λ r. omega arith; apart = may.apart; nobody = may.nobody };
      unheld = may.unheld;
      unowned = λ p _. refl;
      frames = may.frames;
      counters = may.counters;
      bits = may.bits;
      tracing = may.tracing;
    }
