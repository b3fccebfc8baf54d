-- A layout with one page made Remembered is a layout, and so is one with a field of a cell written.
use Rattle.std.proofs.Common.{◌≡◌, ◌≢◌, ◌⊎◌, ℕ, ◌+◌, ◌/◌, ◌%◌, ◌<◌, true, List, [], length, map, get_or, set, sym, ap, subst, ◌∙◌, inl, inr, arith, get_or-set_same, get_or-set_other, length-set}
use Rattle.std.proofs.lemmas.Bool.{cases_eq, cases_lt}
use Rattle.std.proofs.lemmas.List.{set_past}
use Rattle.std.proofs.lemmas.List.FromFn.{get_or-map-range_with_len, length-map-range_with_len}
use Rattle.std.specs.List.{range_with_len}
use Rattle.bc_bits.specs.Bits.{has}
use Rattle.bc_superpages.specs.declared.headers.Header.{Header}
use Rattle.bc_superpages.specs.declared.headers.PageState.{PageState}
use Rattle.bc_superpages.specs.declared.headers.PageState.TheVariants.{Absent, Held, Remembered}
use Rattle.bc_classes.specs.Classes.{cells_a_page}
use Rattle.bc_superpages.specs.Calls.{class_at, fields_at}
use Rattle.bc_superpages.specs.Headers.{state_of_cell, unused_header}
use Rattle.bc_superpages.specs.Kept.{AreSuperpages, IsLayout, IsSuperpage}
use Rattle.bc_superpages.specs.Layout.{Layout, content_at, superpages}
use Rattle.bc_superpages.specs.LayoutAt.{IsAllocated, header_of, states_of, with_state, with_word, word_at}
use Rattle.bc_superpages.proofs.CellLemmas.{is_cell-address, is_cell-bit}
use Rattle.bc_superpages.proofs.FieldLemmas.{content-long, field-offset, field-room}
use Rattle.bc_superpages.proofs.HandLemmas.{allocated-is_class, allocated-page, allocated-superpage, field-page}
use Rattle.bc_superpages.proofs.KeptLemmas.{AreSuperpages-field}
use Rattle.bc_superpages.proofs.PlaceLemmas.{IsPacked-word_bits}
use Rattle.bc_word.specs.Addresses.{cell_number, offset_of, page_of, superpage_of}
use Rattle.bc_word.specs.CellAddresses.{cell_address}
use Rattle.bc_word.specs.Heads.{fields_of_bits}
use Rattle.bc_word.specs.WordBits.{FitsWord, word_bits}
use Rattle.bc_word.specs.declared.words.Word.{Word}

-- an item of a list in which one is another is as it was, or is that one
pub set-cases : {X : Type 0} (xs : List X) (i k : ℕ) (x d : X) → (get_or (set xs i x) k d ≡ get_or xs k d) ⊎ ((k ≡ i) × (get_or (set xs i x) k d ≡ x))
set-cases xs i k x d = elim (cases_eq k i) [
  | inl e ↦ elim (cases_lt i (length xs)) [
    | inl lt ↦ inr (e, ap (λ (n : ℕ). get_or (set xs i x) n d) e ∙ get_or-set_same xs i x d lt)
    | inr out ↦ inl (ap (λ ys. get_or ys k d) (set_past xs i x out))
  ]
  | inr ne ↦ inl (get_or-set_other xs i k x d ne)
]

-- so is a page's state in the row of a superpage
row-after : (states : List (List PageState)) (p q k : ℕ) → (get_or (states_of (with_state states p Remembered) q) k Absent ≡ get_or (states_of states q) k Absent) ⊎ (get_or (states_of (with_state states p Remembered) q) k Absent ≡ Remembered)
row-after states p q k = elim (set-cases states (p / 4) q (set (states_of states (p / 4)) (p % 4) Remembered) []) [
  | inl same ↦ inl (ap (λ (row : List PageState). get_or row k Absent) same)
  | inr here ↦ elim (set-cases (states_of states (p / 4)) (p % 4) k Remembered Absent) [
    | inl same ↦ inl (ap (λ (row : List PageState). get_or row k Absent) here.1 ∙ same ∙ ap (λ (n : ℕ). get_or (states_of states n) k Absent) (sym here.0))
    | inr now ↦ inr (ap (λ (row : List PageState). get_or row k Absent) here.1 ∙ now.1)
  ]
]

row-long : (states : List (List PageState)) (p q : ℕ) → length (states_of (with_state states p Remembered) q) ≡ length (states_of states q)
row-long states p q = elim (set-cases states (p / 4) q (set (states_of states (p / 4)) (p % 4) Remembered) []) [
  | inl same ↦ ap length same
  | inr here ↦ ap length here.1 ∙ length-set (states_of states (p / 4)) (p % 4) Remembered ∙ ap (λ (n : ℕ). length (states_of states n)) (sym here.0)
]

-- it is neither Held nor Absent where the other wasn't
stays : (x y : PageState) (z : PageState) → (Remembered ≡ z → ⊥) → (y ≡ x) ⊎ (y ≡ Remembered) → x ≢ z → y ≢ z
stays x y z none (inl same) ne e = ne (sym same ∙ e)
stays x y z none (inr now) ne e = none (sym now ∙ e)

never-held : Remembered ≡ Held → ⊥
never-held e = cc

never-absent : Remembered ≡ Absent → ⊥
never-absent e = cc

superpage-remembered : (s : Layout) (p q : ℕ) → IsSuperpage s.pages q (header_of s q) → IsSuperpage s.pages q (header_of (record s { states = with_state s.states p Remembered }) q)
superpage-remembered s p q k = record {
  class = k.class;
  domain = k.domain;
  sets_long = k.sets_long;
  sets_fit = k.sets_fit;
  tags = k.tags;
  states_long = row-long s.states p q ∙ k.states_long;
  cells_used = k.cells_used;
  promised_used = k.promised_used;
  apart = k.apart;
  not_held = λ i. stays (get_or (states_of s.states q) i Absent) (get_or (states_of (with_state s.states p Remembered) q) i Absent) Held never-held (row-after s.states p q i) (k.not_held i);
  not_absent = λ b on.
      stays (state_of_cell (header_of s q) b) (state_of_cell (header_of (record s { states = with_state s.states p Remembered }) q) b) Absent never-absent
      (row-after s.states p q (b / cells_a_page (header_of s q).class)) (k.not_absent b on);
  objects = k.objects;
}

pub IsLayout-remembered : (s : Layout) (p : ℕ) → IsLayout s → IsLayout (record s { states = with_state s.states p Remembered })
IsLayout-remembered s p k = record {
  few = k.few;
  long = record {
    domains = k.long.domains;
    classes = k.long.classes;
    cells = k.long.cells;
    promised = k.long.promised;
    marks = k.long.marks;
    finished = k.long.finished;
    bookmarks = k.long.bookmarks;
    incoming = k.long.incoming;
    states = length-set s.states (p / 4) (set (states_of s.states (p / 4)) (p % 4) Remembered) ∙ k.long.states;
  };
  pages_long = k.pages_long;
  each_page = k.each_page;
  each = λ q lt. superpage-remembered s p q (k.each q lt);
}

-- its headers as a list
headers_of : Layout → List Header
headers_of s = map (header_of s) (range_with_len 0 (superpages s))

header-at : (s : Layout) (q : ℕ) → q < superpages s → get_or (headers_of s) q unused_header ≡ header_of s q
unfolding headers_of
header-at s q lt = get_or-map-range_with_len (header_of s) 0 (superpages s) q q unused_header lt (omega arith)

length-headers : (s : Layout) → length (headers_of s) ≡ superpages s
unfolding headers_of
length-headers s = length-map-range_with_len (header_of s) 0 (superpages s)

headers-whole : (s : Layout) → IsLayout s → AreSuperpages s.pages (headers_of s)
headers-whole s k = λ q lt.
    let less : q < superpages s = (let long = length-headers s in omega arith) in
    subst (λ (h : Header). IsSuperpage s.pages q h) (sym (header-at s q less)) (k.each q less)

field-superpage : (s : Layout) (a i q : ℕ) (w : Word) → IsLayout s → IsAllocated s a → i < fields_at s a → FitsWord w → q < superpages s → IsSuperpage (with_word s.pages (a + 1 + i) (word_bits w)) q (header_of s q)
field-superpage s a i q w k on lt fits less =
    let r = superpage_of a in
    let in_r = allocated-superpage s a k on in
    let e = cell_number (class_at s a) a in
    let here = header-at s r in_r in
    let long = length-headers s in
    let is : cell_address r (get_or (headers_of s) r unused_header).class e ≡ a =
    ap (λ (h : Header). cell_address r h.class e) here ∙ sym (is_cell-address s.classes s.cells a (allocated-is_class s a k on) on) in
    let page = field-page s a i k on lt in
    let pages : page_of (a + 1 + i) < length s.pages = (let within = allocated-page s a k on in let count = k.pages_long in omega arith) in
    let place : offset_of (a + 1 + i) < length (content_at s.pages (page_of (a + 1 + i))) =
    (let room = field-room s a i k on lt in let offset = field-offset s a i k on lt in
    let full : length (content_at s.pages (page_of (a + 1 + i))) ≡ 512 = ap (λ (p : ℕ). length (content_at s.pages p)) page ∙ content-long s a k on in omega arith) in
    subst (λ (h : Header). IsSuperpage (with_word s.pages (a + 1 + i) (word_bits w)) q h) (header-at s q less)
    (subst (λ (x : ℕ). IsSuperpage (with_word s.pages (x + 1 + i) (word_bits w)) q (get_or (headers_of s) q unused_header)) is
    (AreSuperpages-field s.pages (headers_of s) r e i (word_bits w) (headers-whole s k) (omega arith)
    (subst (λ (h : Header). has h.cells e ≡ true) (sym here) (is_cell-bit s.classes s.cells a on))
    (subst (λ (x : ℕ). i < fields_of_bits (word_at s.pages x)) (sym is) lt)
    (subst (λ (x : ℕ). page_of (x + 1 + i) < length s.pages) (sym is) pages)
    (subst (λ (x : ℕ). offset_of (x + 1 + i) < length (content_at s.pages (page_of (x + 1 + i)))) (sym is) place)
    (IsPacked-word_bits w fits) q (omega arith)))

content-after : (ps : List (List ℕ)) (to w p : ℕ) → length (get_or (with_word ps to w) p []) ≡ length (get_or ps p [])
content-after ps to w p = elim (set-cases ps (page_of to) p (set (content_at ps (page_of to)) (offset_of to) w) []) [
  | inl same ↦ ap length same
  | inr here ↦ ap length here.1 ∙ length-set (content_at ps (page_of to)) (offset_of to) w ∙ ap (λ (n : ℕ). length (content_at ps n)) (sym here.0)
]

pub IsLayout-field : (s : Layout) (a i : ℕ) (w : Word) → IsLayout s → IsAllocated s a → i < fields_at s a → FitsWord w → IsLayout (record s { pages = with_word s.pages (a + 1 + i) (word_bits w) })
IsLayout-field s a i w k on lt fits = record {
  few = k.few;
  long = record {
    domains = k.long.domains;
    classes = k.long.classes;
    cells = k.long.cells;
    promised = k.long.promised;
    marks = k.long.marks;
    finished = k.long.finished;
    bookmarks = k.long.bookmarks;
    incoming = k.long.incoming;
    states = k.long.states;
  };
  pages_long = length-set s.pages (page_of (a + 1 + i)) (set (content_at s.pages (page_of (a + 1 + i))) (offset_of (a + 1 + i)) (word_bits w)) ∙ k.pages_long;
  each_page = λ p less. content-after s.pages (a + 1 + i) (word_bits w) p ∙ k.each_page p less;
  each = λ q less. field-superpage s a i q w k on lt fits less;
}
