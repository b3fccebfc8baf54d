-- Cells that are promised one after another in a new space, for the objects of a list.
use Rattle.std.proofs.Common.{◌≡◌, ◌≢◌, ℕ, ◌+◌, ◌/◌, ◌%◌, ◌<◌, ◌==◌, ◌&&◌, ◌⊎◌, inl, inr, Bool, true, false, if◌then◌else◌, List, [], length, map, take, get_or, set, replicate, slice_index, slice_index_or, refl, sym, ap, subst, ◌∙◌, arith, get_or-set_same, get_or-set_other, length-set, eq-eqb, ne_eqb}
use Prim.Native.Nat.{zero, suc}
use Rattle.std.specs.Option.{is_some}
use Rattle.std.proofs.lemmas.Bool.{cases_eq, and_left}
use Rattle.std.proofs.lemmas.List.{set-get_or, length-replicate, get_or-replicate}
use Rattle.bc_bits.specs.Bits.{has}
use Rattle.bc_bits.specs.BitChanges.{with_bit}
use Rattle.bc_bits.proofs.BitLemmas.{has-with_bit_other, has-none, has-zeros}
use Rattle.bc_bookmarks.proofs.SoundLemmas.{no_cells, no_gone}
use Rattle.bc_classes.specs.Classes.{class_of, cells_a_page}
use Rattle.bc_classes.specs.ClassNumbers.{IsClass}
use Rattle.bc_classes.proofs.ClassLemmas.{class_of-class}
use Rattle.bc_image.specs.Cells.{CellList}
use Rattle.bc_image.specs.Memories.{cell_at}
use Rattle.bc_word.specs.Addresses.{superpage_of, cell_number}
use Rattle.bc_word.proofs.AddressLemmas.{cell_address-of, cell_number-few}
use Rattle.bc_superpages.specs.declared.headers.Header.{Header}
use Rattle.bc_superpages.specs.Calls.{new_space, CanPromiseAt, with_promise}
use Rattle.bc_superpages.specs.declared.headers.PageState.TheVariants.{Absent}
use Rattle.bc_superpages.specs.Headers.{unused_header, IsPair, is_open, is_empty_header, is_gone}
use Rattle.bc_superpages.specs.Kept.{IsLayout}
use Rattle.bc_superpages.specs.Layout.{Layout, superpages, set_of, is_cell}
use Rattle.bc_superpages.specs.LayoutAt.{header_of}
use Rattle.bc_superpages.proofs.CellLemmas.{is_cell-other, right_true}
use Rattle.bc_superpages.proofs.LayoutLemmas.{header_of-layout}
use Rattle.bc_superpages.proofs.PromiseLemmas.{no_cell, empty-promised, promise_at-promised}
use Rattle.bc_picture.specs.Building.{IsPlaceable, ArePlaceable, HasPairOf, PromisesFirst}
use Rattle.bc_picture.proofs.ListedMemories.{some-more, first-none, lying-is}

-- ---- one promise

-- the promised cells but the new one stay
promised-same : (s : Layout) (d c a x : ℕ) → CanPromiseAt s d c a → is_cell (with_promise s d c a).classes s.promised x ≡ is_cell s.classes s.promised x
promised-same s d c a x can =
    elim (cases_eq (superpage_of x) (superpage_of a)) [
      | inl here ↦
          elim can.room [
            | inl found ↦ ap (λ (cs : List ℕ). is_cell cs s.promised x) (same_classes found.0.2)
            | inr found ↦
                let none = λ (i : ℕ). subst (λ (q : ℕ). has (set_of s.promised q) i ≡ false) (sym here) (empty-promised (header_of s (superpage_of a)) i found) in
                no_cell (with_promise s d c a).classes s.promised x none ∙ sym (no_cell s.classes s.promised x none)
          ]
      | inr other ↦ rw get_or-set_other refl
    ]
  where
    same_classes : get_or s.classes (superpage_of a) 0 ≡ c → set s.classes (superpage_of a) c ≡ s.classes
    same_classes is = ap (set s.classes (superpage_of a)) (sym is) ∙ set-get_or s.classes (superpage_of a) 0

pub promised-with : (s : Layout) (d c a x : ℕ) → IsLayout s → IsClass c → a % c ≡ 0 → CanPromiseAt s d c a → is_cell (with_promise s d c a).classes (with_promise s d c a).promised x ≡ (if x == a then true else is_cell s.classes s.promised x)
promised-with s d c a x k is_class start can = elim (cases_eq x a) [
  | inl here ↦ ap (is_cell (with_promise s d c a).classes (with_promise s d c a).promised) here ∙ promise_at-promised s d c a k is_class can ∙ ap (λ (t : Bool). if t then true else is_cell s.classes s.promised x) (sym (eq-eqb x a here))
  | inr ne ↦
      is_cell-other (with_promise s d c a).classes s.promised a x (with_bit (set_of s.promised (superpage_of a)) (cell_number c a)) (subst IsClass (sym class) is_class) (subst (λ (e : ℕ). a % e ≡ 0) (sym class) start)
      (λ i other. has-with_bit_other (set_of s.promised (superpage_of a)) (cell_number c a) i (λ e. other (e ∙ ap (λ (f : ℕ). cell_number f a) (sym class)))) within ne
      ∙ promised-same s d c a x can ∙ ap (λ (t : Bool). if t then true else is_cell s.classes s.promised x) (sym (ne_eqb x a ne))
]
  where
    class : slice_index (with_promise s d c a).classes (superpage_of a) ≡ c
    class = get_or-set_same s.classes (superpage_of a) c 0 (let long : length s.classes ≡ superpages s = k.long.classes in let lt : superpage_of a < superpages s = can.within in omega arith)

    within : superpage_of a < length s.promised
    within = let long : length s.promised ≡ superpages s = k.long.promised in let lt : superpage_of a < superpages s = can.within in omega arith

-- the headers of the other superpages stay
header-beside : (s : Layout) (d c a q : ℕ) → q ≢ superpage_of a → header_of (with_promise s d c a) q ≡ header_of s q
header-beside s d c a q ne =
    rw (
      get_or-set_other s.used (superpage_of a) q true false ne,
      get_or-set_other s.domains (superpage_of a) q d 0 ne,
      get_or-set_other s.classes (superpage_of a) q c 0 ne,
      get_or-set_other s.promised (superpage_of a) q (with_bit (set_of s.promised (superpage_of a)) (cell_number c a)) [] ne,
    ) refl

-- ---- a new space

no_promises : (n q b : ℕ) → has (get_or (map (λ (h : Header). h.promised) (replicate n unused_header)) q []) b ≡ false
no_promises zero q b = has-none [] b (λ k lt. absurd (omega arith))
no_promises (suc n) zero b = has-zeros 16 b
no_promises (suc n) (suc q) b = no_promises n q b

none_used : (n q : ℕ) → get_or (map (λ (h : Header). h.used) (replicate n unused_header)) q false ≡ false
none_used zero q = refl
none_used (suc n) zero = refl
none_used (suc n) (suc q) = none_used n q

pub new-promised : (n frames nursery x : ℕ) → is_cell (new_space n frames nursery).classes (new_space n frames nursery).promised x ≡ false
new-promised n frames nursery x = and_left _ _ (no_promises n (superpage_of x) (cell_number (slice_index (new_space n frames nursery).classes (superpage_of x)) x))

pub new-header : (n frames nursery q : ℕ) → q < n → header_of (new_space n frames nursery) q ≡ unused_header
new-header n frames nursery q lt =
    header_of-layout (replicate n unused_header) (new_space n frames nursery).pages frames nursery (new_space n frames nursery).free 0 q (rw length-replicate lt)
    ∙ get_or-replicate n q unused_header unused_header lt

pub promises-none : (s : Layout) (cells : List CellList) → s ≡ new_space (superpages s) s.frames s.nursery → PromisesFirst s cells 0 s
promises-none s cells new = record {
  same = refl;
  long = refl;
  promised = λ x. subst (λ (l : Layout). is_cell l.classes l.promised x ≡ false) (sym new) (new-promised (superpages s) s.frames s.nursery x);
  pair = λ k lt within. absurd (omega arith);
  used = λ q on. absurd (let off : slice_index_or s.used q false ≡ false = subst (λ (l : Layout). slice_index_or l.used q false ≡ false) (sym new) (none_used (superpages s) q) in let bad : true ≡ false = sym on ∙ off in cc);
  unused = λ q lt none. subst (λ (l : Layout). header_of l q ≡ unused_header) (sym new) (new-header (superpages s) s.frames s.nursery q lt);
}

-- ---- one object more

empty-unused : is_empty_header unused_header ≡ true
empty-unused = refl

module _ (s t : Layout) (cells : List CellList) (i : ℕ) (new : s ≡ new_space (superpages s) s.frames s.nursery) (k : IsLayout t) (ok : ArePlaceable (superpages s) cells) (lt : i < length cells) (h : PromisesFirst s cells i t) where
  abbrev pub c : CellList
  c = cell_at cells i

  abbrev pub class : ℕ
  class = class_of c.head.fields

  is_class : IsClass class
  is_class = class_of-class c.head.fields

  here : IsPlaceable cells (superpages s) c
  here = ok.each i lt

  no_cell_there : (q b : ℕ) → has (set_of t.cells q) b ≡ false
  no_cell_there q b =
      ap (λ (l : Layout). has (set_of l.cells q) b) h.same
      ∙ subst (λ (l : Layout). has (set_of l.cells q) b ≡ false) (sym new) (no_cells (superpages s) q b)

  no_gone_there : (q n : ℕ) → is_gone (get_or (get_or t.states q []) n Absent) ≡ false
  no_gone_there q n =
      ap (λ (l : Layout). is_gone (get_or (get_or l.states q []) n Absent)) h.same
      ∙ subst (λ (l : Layout). is_gone (get_or (get_or l.states q []) n Absent) ≡ false) (sym new) (no_gone (superpages s) q n)

  -- the object's cell isn't promised yet
  free_promise : slice_index t.classes (superpage_of c.address) ≡ class → has (set_of t.promised (superpage_of c.address)) (cell_number class c.address) ≡ false
  free_promise same =
      let off : is_cell t.classes t.promised c.address ≡ false = h.promised c.address ∙ ap is_some (lying-is (take i cells) c.address ∙ first-none cells i i ok.rising (omega arith) lt) in
      sym (right_true (has (set_of t.promised (superpage_of c.address)) (cell_number class c.address)) (c.address % class) here.start)
      ∙ subst (λ (e : ℕ). (has (set_of t.promised (superpage_of c.address)) (cell_number e c.address) && (c.address % e == 0)) ≡ false) same off

  -- an object before it lies in its superpage, or none does
  before : (n : ℕ) → n ≡ i → ((j : ℕ) × (j < i) × ((cell_at cells j).address / 2048 ≡ c.address / 2048)) ⊎ ((j : ℕ) → j < i → j < length cells → (cell_at cells j).address / 2048 ≢ c.address / 2048)
  before zero e = inr (λ j less within. absurd (omega arith))
  before (suc m) e = elim (cases_eq ((cell_at cells m).address / 2048) (c.address / 2048)) [
    | inl same ↦ inl (m, (let f = e in omega arith), same)
    | inr ne ↦ inr (λ j less within eq. elim (cases_eq j m) [
      | inl is ↦ ne (ap (λ (n : ℕ). (cell_at cells n).address / 2048) (sym is) ∙ eq)
      | inr other ↦ ne (
          let f = e in
          let first = ok.rising j m (low j m other (omega arith)) (omega arith) in
          let second = ok.rising m i (omega arith) lt in
          omega arith)
    ])
  ]
    where
      low : (x y : ℕ) → x ≢ y → x < suc y → x < y
      low zero zero ne lt = absurd (ne refl)
      low zero (suc y) ne lt = omega arith
      low (suc x) zero ne lt = absurd (omega arith)
      low (suc x) (suc y) ne lt = let r = low x y (λ q. ne (ap suc q)) (omega arith) in omega arith

  pair_here : (j : ℕ) → j < i → (cell_at cells j).address / 2048 ≡ c.address / 2048 → IsPair c.head.domain class (header_of t (superpage_of c.address))
  pair_here j less same =
      let pair = h.pair j less (omega arith) in
      let alike = ok.alike j i (omega arith) lt same in (
        subst (λ (q : ℕ). slice_index_or t.used q false ≡ true) same pair.used,
        ap (slice_index t.domains) (sym same) ∙ pair.of_domain ∙ alike.0,
        ap (slice_index t.classes) (sym same) ∙ pair.of_class ∙ alike.1,
      )

  open_here : slice_index t.classes (superpage_of c.address) ≡ class → is_open (header_of t (superpage_of c.address)) (cell_number class c.address) ≡ true
  open_here same = rw (no_cell_there (superpage_of c.address) (cell_number class c.address), free_promise same, no_gone_there (superpage_of c.address) (cell_number class c.address / cells_a_page (slice_index t.classes (superpage_of c.address)))) refl

  pub can-promise : CanPromiseAt t c.head.domain class c.address
  can-promise = record {
    starts = cell_address-of class c.address is_class here.start;
    below = cell_number-few class c.address is_class;
    within = let in_s : superpage_of c.address < superpages s = here.superpage in let long = h.long in omega arith;
    room = elim (before i refl) [
      | inl found ↦ (let pair = pair_here found.0 found.1 found.2 in inl (pair, open_here pair.2))
      | inr none ↦ inr (ap is_empty_header (h.unused (superpage_of c.address) here.superpage none) ∙ empty-unused)
    ];
  }

  abbrev pub now : Layout
  now = with_promise t c.head.domain class c.address

  within : superpage_of c.address < superpages t
  within = let in_s : superpage_of c.address < superpages s = here.superpage in let long = h.long in omega arith

  -- the superpage is of the object's pair, and so of each one's that lies in it
  pair_now : (j : ℕ) → j < length cells → (cell_at cells j).address / 2048 ≡ c.address / 2048 → HasPairOf now (cell_at cells j)
  pair_now j less same =
      let alike = ok.alike j i less lt same in
      let domains : length t.domains ≡ superpages t = k.long.domains in
      let classes : length t.classes ≡ superpages t = k.long.classes in
      let inside = within in
      record {
        used = ap (λ (q : ℕ). slice_index_or now.used q false) same ∙ get_or-set_same t.used (superpage_of c.address) true false within;
        of_domain = ap (slice_index now.domains) same ∙ get_or-set_same t.domains (superpage_of c.address) c.head.domain 0 (omega arith) ∙ sym alike.0;
        of_class = ap (slice_index now.classes) same ∙ get_or-set_same t.classes (superpage_of c.address) class 0 (omega arith) ∙ sym alike.1;
      }

  pair_kept : (j : ℕ) → (cell_at cells j).address / 2048 ≢ c.address / 2048 → HasPairOf t (cell_at cells j) → HasPairOf now (cell_at cells j)
  pair_kept j ne pair = record {
    used = get_or-set_other t.used (superpage_of c.address) ((cell_at cells j).address / 2048) true false ne ∙ pair.used;
    of_domain = get_or-set_other t.domains (superpage_of c.address) ((cell_at cells j).address / 2048) c.head.domain 0 ne ∙ pair.of_domain;
    of_class = get_or-set_other t.classes (superpage_of c.address) ((cell_at cells j).address / 2048) class 0 ne ∙ pair.of_class;
  }

  used_now : (q : ℕ) → slice_index_or now.used q false ≡ true → (j : ℕ) × (j < i + 1) × (j < length cells) × ((cell_at cells j).address / 2048 ≡ q)
  used_now q on = elim (cases_eq q (superpage_of c.address)) [
    | inl is ↦ (i, omega arith, lt, sym is)
    | inr ne ↦ (let old = h.used q (sym (get_or-set_other t.used (superpage_of c.address) q true false ne) ∙ on) in (old.0, (let less = old.1 in omega arith), old.2, old.3))
  ]

  less_or : (j : ℕ) → j < i + 1 → j ≢ i → j < i
  less_or j less ne = low j i ne (omega arith)
    where
      low : (x y : ℕ) → x ≢ y → x < suc y → x < y
      low zero zero ne lt = absurd (ne refl)
      low zero (suc y) ne lt = omega arith
      low (suc x) zero ne lt = absurd (omega arith)
      low (suc x) (suc y) ne lt = let r = low x y (λ q. ne (ap suc q)) (omega arith) in omega arith

  pub promises-more : (u : Layout) → u ≡ with_promise t c.head.domain class c.address → PromisesFirst s cells (i + 1) u
  promises-more u is = subst (PromisesFirst s cells (i + 1)) (sym is) (record {
    same = ap (λ (l : Layout). with_promise l c.head.domain class c.address) h.same
        ∙ sym (ap (λ (l : Layout). record s { used = l.used; domains = l.domains; classes = l.classes; promised = l.promised }) (ap (λ (l : Layout). with_promise l c.head.domain class c.address) h.same));
    long = length-set t.used (superpage_of c.address) true ∙ h.long;
    promised = λ x. promised-with t c.head.domain class c.address x k is_class here.start can-promise
        ∙ ap (λ (b : Bool). if x == c.address then true else b) (h.promised x) ∙ sym (some-more cells i x lt);
    pair = λ j less in_j. elim (cases_eq ((cell_at cells j).address / 2048) (c.address / 2048)) [
      | inl same ↦ pair_now j in_j same
      | inr ne ↦ pair_kept j ne (h.pair j (less_or j less (λ e. ne (ap (λ (n : ℕ). (cell_at cells n).address / 2048) e))) in_j)
    ];
    used = used_now;
    unused = λ q in_q none. header-beside t c.head.domain class c.address q (λ e. none i (omega arith) lt (sym e)) ∙ h.unused q in_q (λ j less in_j. none j (omega arith) in_j);
  })
