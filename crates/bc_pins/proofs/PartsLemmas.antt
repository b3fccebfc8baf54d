-- From the parts of a space to the words and slots of a table.
use Rattle.std.proofs.Common.{◌≡◌, ℕ, ◌+◌, ◌*◌, ◌<◌, ◌≢◌, true, false, List, length, map, get_or, slice_index, Option, Some, None, inl, inr, refl, ap, sym, subst, ◌∙◌, arith}
use mathlib.Core.Option.{some}
use lib.ListN.{get_elem?}
use Rattle.std.proofs.lemmas.List.{get_or_default}
use Rattle.atomic_table.proofs.Lists.{at_index, at_map}
use Rattle.bc_word.specs.declared.words.Word.{Word}
use Rattle.bc_word.specs.declared.words.Word.TheVariants.{Nil, Num, Ref}
use Rattle.bc_word.specs.Words.{word_of_bits}
use Rattle.bc_word.specs.WordBits.{IsPacked}
use Rattle.bc_word.specs.Addresses.{page_of, offset_of}
use Rattle.bc_word.proofs.WordsLemmas.{length-words_from, get_or-words_from}
use Rattle.bc_superpages.specs.declared.headers.PageState.{PageState}
use Rattle.bc_superpages.specs.declared.headers.PageState.TheVariants as state
use Rattle.bc_superpages.specs.declared.spaces.Homed.{Homed}
use Rattle.bc_superpages.specs.Headers.{is_resident}
use Rattle.bc_superpages.specs.Layout.{Layout, superpages, content_at, is_cell}
use Rattle.bc_superpages.specs.LayoutAt.{word_at}
use Rattle.bc_superpages.specs.Contents.{content_of, LiesIn}
use Rattle.bc_superpages.specs.Memory.{cell_at}
use Rattle.bc_superpages.specs.Calls.{fields_at, CanName}
use Rattle.bc_superpages.specs.Kept.{IsLayout}
use Rattle.bc_superpages.proofs.MemoryLemmas.{memory_of-cell}
use Rattle.bc_superpages.proofs.FieldLemmas.{field-word, field-packed}
use Rattle.bc_pins.specs.declared.views.Lodged.{Lodged}
use Rattle.bc_pins.specs.declared.views.Lodged.TheVariants.{Nothing}
use Rattle.bc_pins.specs.Contents.{field_bits, IsFieldOn, NamesFixed, IsContent}
use Rattle.bc_pins.specs.Views.{state_word}
use Rattle.bc_pins.specs.Facts.{Slot, Lies}
use Rattle.bc_pins.specs.Lodging.{home_of, away_of}
use Rattle.bc_pins.specs.Opening.{IsReady}

not_both : false ≡ true → ⊥
not_both e = cc

no_place : (c : List ℕ) → Some c ≡ None → ⊥
no_place c e = cc

-- a page's content keeps what is fixed
names_fixed : (s : Layout) (w : Word) → ((a : ℕ) → is_cell s.classes s.promised a ≡ false) → CanName s w → NamesFixed s w
names_fixed s Nil none_promised n = tt
names_fixed s (Num v) none_promised n = tt
names_fixed s (Ref a) none_promised (inl there) = inl there
names_fixed s (Ref a) none_promised (inr (inl promised)) = absurd (not_both (sym (none_promised a.0) ∙ promised))
names_fixed s (Ref a) none_promised (inr (inr young)) = inr young

pub content_fixed : (s : Layout) (p : ℕ) → IsLayout s → IsReady s → p < 4 * superpages s → IsContent s p (content_at s.pages p)
content_fixed s p l ready lt = record {
  long = l.each_page p lt;
  heads = λ a there on. ap (λ (q : ℕ). slice_index (content_at s.pages q) (offset_of a)) (sym on);
  packed = λ a i f. subst IsPacked (here a i f) (field-packed s a i l f.allocated f.within);
  names = λ a i f.
      let object = memory_of-cell s.classes s.cells s.pages a f.allocated in
      let c = cell_at s.pages a in
      let many : length c.fields ≡ fields_at s a = length-words_from (content_at s.pages (page_of a)) (offset_of a + 1) (fields_at s a) in
      let within = f.within in
      let can = ready.closed a c object i (omega arith) in
      let is = get_or-words_from (content_at s.pages (page_of a)) (offset_of a + 1) (fields_at s a) i Nil f.within in
      let same : get_or c.fields i Nil ≡ word_of_bits (field_bits (content_at s.pages p) a i) = is ∙ ap (λ (q : ℕ). word_of_bits (get_or (content_at s.pages q) (offset_of a + 1 + i) 0)) f.on in
      names_fixed s (word_of_bits (field_bits (content_at s.pages p) a i)) ready.promised (subst (CanName s) same can);
}
  where
    here : (a i : ℕ) (f : IsFieldOn s p a i) → word_at s.pages (a + 1 + i) ≡ field_bits (content_at s.pages p) a i
    here a i f = field-word s a i l f.allocated f.within ∙ ap (λ (q : ℕ). slice_index (content_at s.pages q) (offset_of a + 1 + i)) f.on

-- a page's box lies in its slots as its word says
pub slots_lie : (st : PageState) (box : Option Homed) (place : Option (List ℕ)) (a b : Slot) → st ≢ state.Held → LiesIn (is_resident st) box place
    → a ≡ some (some (home_of box)) → b ≡ some (some (away_of place)) → Lies (state_word st) a b (content_of box place)
slots_lie state.Absent None (Some c) a b ne l e f = (e, f)
slots_lie state.Gone None (Some c) a b ne l e f = (e, f)
slots_lie state.Home (Some h) None a b ne l e f = (h, e, f, refl)
slots_lie state.Remembered (Some h) None a b ne l e f = (h, e, f, refl)
slots_lie state.Home (Some h) (Some c) a b ne l e f = absurd (no_place c l.1)
slots_lie state.Remembered (Some h) (Some c) a b ne l e f = absurd (no_place c l.1)
slots_lie state.Held box place a b ne l e f = absurd (ne refl)
slots_lie state.Home None place a b ne l e f = absurd l
slots_lie state.Remembered None place a b ne l e f = absurd l
slots_lie state.Absent (Some h) place a b ne l e f = absurd l
slots_lie state.Absent None None a b ne l e f = absurd l
slots_lie state.Gone (Some h) place a b ne l e f = absurd l
slots_lie state.Gone None None a b ne l e f = absurd l

pub slot_there : (slots : List Lodged) (i : ℕ) → i < length slots → get_elem? (map some slots) i ≡ some (some (get_or slots i Nothing))
slot_there slots i lt = at_map some slots i (get_or slots i Nothing) (at_index slots i (get_or slots i Nothing) lt (get_or_default slots i Nothing (get_or slots i Nothing) lt))

pub word_states : (st : PageState) → state_word st ≡ 3 → st ≡ state.Held
word_states state.Held e = refl
word_states state.Absent e = absurd (omega arith)
word_states state.Home e = absurd (omega arith)
word_states state.Remembered e = absurd (omega arith)
word_states state.Gone e = absurd (omega arith)

pub word_absent : (st : PageState) → state_word st ≡ 0 → st ≡ state.Absent
word_absent state.Absent e = refl
word_absent state.Held e = absurd (omega arith)
word_absent state.Home e = absurd (omega arith)
word_absent state.Remembered e = absurd (omega arith)
word_absent state.Gone e = absurd (omega arith)
