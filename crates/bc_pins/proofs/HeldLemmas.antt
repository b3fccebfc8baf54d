-- A field of a page that is written keeps what is fixed in a turn.
use Rattle.std.proofs.Common.{◌≡◌, ℕ, ◌+◌, ◌<◌, ◌≤◌, List, length, get_or, set, inl, inr, ap, sym, subst, ◌∙◌, arith, get_or-set_same, get_or-set_other}
use Rattle.std.proofs.lemmas.Bool.{cases_eq}
use Rattle.std.proofs.lemmas.List.{length-set}
use Rattle.bc_word.specs.Words.{word_of_bits}
use Rattle.bc_word.specs.WordBits.{IsPacked}
use Rattle.bc_word.specs.Addresses.{page_of, offset_of}
use Rattle.bc_superpages.specs.Layout.{Layout}
use Rattle.bc_superpages.specs.LayoutAt.{IsAllocated}
use Rattle.bc_superpages.specs.Kept.{IsLayout}
use Rattle.bc_superpages.specs.Calls.{fields_at}
use Rattle.bc_superpages.proofs.HandLemmas.{allocated-few}
use Rattle.bc_superpages.proofs.FieldLemmas.{words-apart, field-room}
use Rattle.bc_pins.specs.Contents.{IsFieldOn, NamesFixed, IsContent}

module _ (s : Layout) (p : ℕ) (c : List ℕ) (cell index o bits : ℕ) (l : IsLayout s) (old : IsContent s p c) (at : IsFieldOn s p cell index) (is : o ≡ offset_of cell + 1 + index) (packed : IsPacked bits) (names : NamesFixed s (word_of_bits bits)) where
  room : o < length c
  room = let a = field-room s cell index l at.allocated at.within in let b = old.long in omega arith

  -- the place of a word of an allocated cell determines the cell and the word
  place : (a i : ℕ) → IsAllocated s a → page_of a ≡ p → i ≤ fields_at s a → offset_of a + i ≡ o → (a ≡ cell) × (i ≡ 1 + index)
  place a i there on le e = elim (cases_eq a cell) [
    | inl same ↦ let z = ap offset_of same in (same, omega arith)
    | inr ne ↦
        let few = allocated-few s a l there in
        let fewer = allocated-few s cell l at.allocated in
        let within = at.within in
        let here = at.on in
        absurd (words-apart s a cell i (1 + index) l there at.allocated ne (omega arith) (omega arith) (omega arith))
  ]

  pub set_fixed : IsContent s p (set c o bits)
  set_fixed = record {
    long = length-set c o bits ∙ old.long;
    heads = λ a there on. elim (cases_eq (offset_of a) o) [
      | inl e ↦ let z = place a 0 there on (omega arith) (omega arith) in absurd (omega arith)
      | inr ne ↦ get_or-set_other c o (offset_of a) bits 0 ne ∙ old.heads a there on
    ];
    packed = λ a i f. elim (cases_eq (offset_of a + 1 + i) o) [
      | inl e ↦ subst IsPacked (sym (ap (λ (n : ℕ). get_or (set c o bits) n 0) e ∙ get_or-set_same c o bits 0 room)) packed
      | inr ne ↦ subst IsPacked (sym (get_or-set_other c o (offset_of a + 1 + i) bits 0 ne)) (old.packed a i f)
    ];
    names = λ a i f. elim (cases_eq (offset_of a + 1 + i) o) [
      | inl e ↦ subst (λ (n : ℕ). NamesFixed s (word_of_bits n)) (sym (ap (λ (n : ℕ). get_or (set c o bits) n 0) e ∙ get_or-set_same c o bits 0 room)) names
      | inr ne ↦ subst (λ (n : ℕ). NamesFixed s (word_of_bits n)) (sym (get_or-set_other c o (offset_of a + 1 + i) bits 0 ne)) (old.names a i f)
    ];
  }
