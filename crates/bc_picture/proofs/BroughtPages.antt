-- A page comes home for objects that are to be placed on it, and others may be given up; and one object is placed.
use Rattle.std.proofs.Common.{◌≡◌, ◌≢◌, ℕ, ◌*◌, ◌/◌, ◌<◌, ◌==◌, inl, inr, true, false, if◌then◌else◌, Bool, List, length, map, Some, refl, ap, sym, ◌∙◌, arith, eq-eqb, ne_eqb}
use Rattle.std.proofs.lemmas.Bool.{cases_eq}
use Rattle.bc_bits.specs.BitChanges.{without_bit}
use Rattle.bc_bits.proofs.BitLemmas.{has-without_bit_same, has-without_bit_other}
use Rattle.bc_bookmarks.proofs.KeepLemmas.{summarised-page, summarised-object}
use Rattle.bc_bookmarks.proofs.StateLemmas.{state-here, state-other}
use Rattle.bc_bookmarks.specs.Moves.{Frees}
use Rattle.bc_bookmarks.specs.Summarised.{IsSummarised}
use Rattle.bc_image.specs.Cells.{CellList}
use Rattle.bc_image.specs.Memories.{cell_of}
use Rattle.bc_memory.specs.Memory.{Cell, Memory}
use Rattle.bc_memory.specs.MemoryChanges.{with_cell}
use Rattle.bc_superpages.specs.Calls.{class_at, IsClosed, with_object, with_page}
use Rattle.bc_superpages.specs.declared.headers.PageState.TheVariants.{Absent, Home}
use Rattle.bc_superpages.specs.Headers.{is_resident}
use Rattle.bc_superpages.specs.Kept.{IsLayout}
use Rattle.bc_superpages.specs.Layout.{Layout, superpages, set_of, is_cell}
use Rattle.bc_superpages.specs.LayoutAt.{state_at, IsAllocated, IsPromised}
use Rattle.bc_superpages.specs.Memory.{memory}
use Rattle.bc_superpages.proofs.CellLemmas.{is_cell-start, is_cell-here, is_cell-other}
use Rattle.bc_superpages.proofs.PlaceLemmas.{promised-superpage, promised-is_class}
use Rattle.bc_word.specs.Addresses.{superpage_of, page_of, cell_number}
use Rattle.bc_word.specs.declared.heads.Head.{Head}
use Rattle.bc_word.specs.declared.words.Word.{Word}
use Rattle.bc_word.specs.Words.{word_of_bits}
use Rattle.bc_picture.specs.Building.{BringsPage, PlacesCell}

-- it stays Absent while others are given up
pub absent-still : (s u : Layout) (page : ℕ) → Frees s u → state_at s.states page ≡ Absent → state_at u.states page ≡ Absent
absent-still s u page h absent = elim (h.pages page) [
  | inl same ↦ same ∙ absent
  | inr left ↦ absurd (let bad : Absent ≡ Home = sym absent ∙ left.home in cc)
]

-- room was made, and the page came home
pub brings-brought : (s u t : Layout) (page : ℕ) → Frees s u → memory u ≡ memory s → IsSummarised u → (IsClosed s → IsClosed u) → IsLayout u → page < 4 * superpages u → state_at u.states page ≡ Absent → t ≡ with_page u page → memory t ≡ memory u → (IsClosed u → IsClosed t) → BringsPage s t page
brings-brought s u t page h same_u sum closed_u k lt absent is same_t closed_t = record {
  same =
      is ∙ ap (λ (l : Layout). with_page l page) h.same
      ∙ sym (ap (λ (l : Layout). record s { bookmarks = l.bookmarks; incoming = l.incoming; states = l.states; pages = l.pages; free = l.free }) (is ∙ ap (λ (l : Layout). with_page l page) h.same));
  same_memory = same_t ∙ same_u;
  here = ap (λ (l : Layout). state_at l.states page) is ∙ state-here u page Home k lt;
  others = λ p ne. elim (h.pages p) [
    | inl same ↦ inl (elsewhere p ne ∙ same)
    | inr left ↦ inr (record { home = left.home; promised = left.promised; away = ap is_resident (elsewhere p ne) ∙ left.away })
  ];
  summarised = summarised-page u t page k lt absent is same_t sum;
  closed = λ c. closed_t (closed_u c);
}
  where
    within : page / 4 < length u.states
    within = let long : length u.states ≡ superpages u = k.long.states in let less = lt in omega arith

    elsewhere : (p : ℕ) → p ≢ page → state_at t.states p ≡ state_at u.states p
    elsewhere p ne = ap (λ (l : Layout). state_at l.states p) is ∙ state-other u.states page p Home within ne

-- the page is there already
pub brings-none : (s : Layout) (page : ℕ) → state_at s.states page ≡ Home → IsSummarised s → BringsPage s s page
brings-none s page home sum = record {
  same = refl;
  same_memory = refl;
  here = home;
  others = λ p ne. inl refl;
  summarised = sum;
  closed = λ c. c;
}

-- ---- one object is placed

placed-promised : (s : Layout) (a x : ℕ) (head : Head) (fields : List Word) → IsLayout s → IsPromised s a → is_cell s.classes (with_object s a head fields).promised x ≡ (if x == a then false else is_cell s.classes s.promised x)
placed-promised s a x head fields k on = elim (cases_eq x a) [
  | inl here ↦
      ap (is_cell s.classes (with_object s a head fields).promised) here
      ∙ is_cell-here s.classes s.promised a ws (is_cell-start s.classes s.promised a on) within
      ∙ has-without_bit_same (set_of s.promised (superpage_of a)) (cell_number (class_at s a) a)
      ∙ ap (λ (t : Bool). if t then false else is_cell s.classes s.promised x) (sym (eq-eqb x a here))
  | inr ne ↦
      is_cell-other s.classes s.promised a x ws (promised-is_class s a k on) (is_cell-start s.classes s.promised a on)
      (λ i other. has-without_bit_other (set_of s.promised (superpage_of a)) (cell_number (class_at s a) a) i other) within ne
      ∙ ap (λ (t : Bool). if t then false else is_cell s.classes s.promised x) (sym (ne_eqb x a ne))
]
  where
    ws : List ℕ
    ws = without_bit (set_of s.promised (superpage_of a)) (cell_number (class_at s a) a)

    within : superpage_of a < length s.promised
    within = let lt = promised-superpage s a k on in let long : length s.promised ≡ superpages s = k.long.promised in omega arith

pub places-written : (s t : Layout) (c : CellList) (fields : List Word) → IsLayout s → IsPromised s c.address → state_at s.states (page_of c.address) ≡ Home → fields ≡ map word_of_bits c.fields
    → t ≡ with_object s c.address c.head fields → IsAllocated t c.address → (let d : Cell = record { head = c.head; fields = fields } in memory t ≡ with_cell (memory s) c.address (Some d)) → (IsClosed s → IsClosed t) → IsSummarised s → PlacesCell s t c
places-written s t c fields k on home words is there change closed sum = record {
  same = is ∙ sym (ap (λ (l : Layout). record s { cells = l.cells; promised = l.promised; bookmarks = l.bookmarks; incoming = l.incoming; states = l.states; pages = l.pages; free = l.free }) is);
  now_memory = change ∙ ap (λ (ws : List Word). with_cell (memory s) c.address (Some (let d : Cell = record { head = c.head; fields = ws } in d))) words;
  promised = λ x. ap (λ (l : Layout). is_cell l.classes l.promised x) is ∙ placed-promised s c.address x c.head fields k on;
  here = ap (λ (l : Layout). state_at l.states (page_of c.address)) is ∙ home;
  others = λ p ne. inl (ap (λ (l : Layout). state_at l.states p) is);
  summarised = summarised-object s t c.address c.head fields (Some (record { head = c.head; fields = fields })) home is there change sum;
  closed = closed;
}

-- a page came home, and then the object was placed
pub places-brought : (s t u : Layout) (c : CellList) → BringsPage s t (page_of c.address) → PlacesCell t u c → PlacesCell s u c
places-brought s t u c h k = record {
  same = k.same ∙ ap (λ (l : Layout). record l { cells = u.cells; promised = u.promised; bookmarks = u.bookmarks; incoming = u.incoming; states = u.states; pages = u.pages; free = u.free }) h.same;
  now_memory = k.now_memory ∙ ap (λ (m : Memory). with_cell m c.address (Some (cell_of c))) h.same_memory;
  promised = λ x. k.promised x ∙ ap (λ (l : Layout). if x == c.address then false else is_cell l.classes l.promised x) h.same;
  here = k.here;
  others = λ p ne. elim (k.others p ne) [
    | inl now ↦ elim (h.others p ne) [
      | inl first ↦ inl (now ∙ first)
      | inr left ↦ inr (record { home = left.home; promised = left.promised; away = ap is_resident now ∙ left.away })
    ]
    | inr gone ↦ elim (h.others p ne) [
      | inl first ↦ inr (record { home = sym first ∙ gone.home; promised = λ x on at. gone.promised x (ap (λ (l : Layout). is_cell l.classes l.promised x) h.same ∙ on) at; away = gone.away })
      | inr left ↦ absurd (let bad : true ≡ false = sym (ap is_resident gone.home) ∙ left.away in cc)
    ]
  ];
  summarised = k.summarised;
  closed = λ e. k.closed (h.closed e);
}
