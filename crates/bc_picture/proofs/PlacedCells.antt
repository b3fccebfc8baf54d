-- Objects that are placed one after another, page by page, in the cells that are promised for them.
use Rattle.std.proofs.Common.{◌≡◌, ◌≢◌, ℕ, ◌+◌, ◌*◌, ◌/◌, ◌%◌, ◌^◌, ◌<◌, ◌≤◌, ◌==◌, ◌⊎◌, ◌-◌, ◌∷◌, inl, inr, Bool, true, false, if◌then◌else◌, List, [], length, map, take, drop, get_or, slice_get, slice_index, slice_index_or, Option, Some, None, refl, sym, ap, subst, ◌∙◌, arith}
use Prim.Native.Nat.{zero, suc}
use Rattle.std.specs.Option.{is_some}
use Rattle.std.proofs.lemmas.Bool.{cases_eq}
use Rattle.std.proofs.lemmas.List.{get_or-map, length-map}
use Rattle.std.proofs.lemmas.Option.{get_or_from_slice_get, slice_get_within}
use Rattle.bc_bookmarks.specs.Choices.{EligibleNamesCells}
use Rattle.bc_bookmarks.specs.Moves.{CanMakeRoom, PageLeaves}
use Rattle.bc_bookmarks.proofs.TargetLemmas.{names-fields}
use Rattle.bc_memory.specs.Memory.{Cell, Memory}
use Rattle.bc_memory.specs.MemoryChanges.{with_cell}
use Rattle.bc_image.specs.Cells.{CellList}
use Rattle.bc_image.specs.Images.{IsLinked, AreLinked}
use Rattle.bc_image.specs.Memories.{number_at, cell_at, cell_of}
use Rattle.bc_word.specs.Addresses.{page_of}
use Rattle.bc_word.specs.WordBits.{IsPacked, FitsWord}
use Rattle.bc_word.specs.Words.{word_of_bits}
use Rattle.bc_word.specs.declared.words.Word.{Word}
use Rattle.bc_word.specs.declared.words.Word.TheVariants.{Nil, Num, Ref}
use Rattle.bc_word.proofs.WordLemmas.{bits_cases, word_of_bits-even, FitsWord-word_of_bits}
use Rattle.bc_superpages.specs.declared.headers.PageState.TheVariants.{Absent, Home, Remembered}
use Rattle.bc_superpages.specs.Calls.{IsTaken, NamesCell}
use Rattle.bc_superpages.specs.Headers.{is_resident}
use Rattle.bc_superpages.specs.Layout.{Layout, superpages}
use Rattle.bc_superpages.specs.LayoutAt.{state_at}
use Rattle.bc_superpages.specs.Memory.{memory}
use Rattle.bc_superpages.proofs.MoveLemmas.{memory-allocated}
use Rattle.bc_picture.specs.Building.{ArePlaceable, IsPlacing, PlacesCell, CanBePlaced, MayBeFields}
use Rattle.bc_picture.proofs.ListedMemories.{lying, lying-is, lying-at, lying-parts, first_of, number-lying, some-fewer, some-here, others-at, at-take, length-first, memory-more}

-- the number of fields of a list of links, one by one
linked-at : (cells : List CellList) (ns : List ℕ) (k : ℕ) → AreLinked cells ns → k < length ns → (slice_index ns k < 2 ^ 64) × IsLinked cells (word_of_bits (slice_index ns k))
linked-at cells [] k all lt = absurd (omega arith)
linked-at cells (n ∷ ns) zero all lt = all.0
linked-at cells (n ∷ ns) (suc k) all lt = linked-at cells ns k all.1 (omega arith)

-- a named object is one of the list
named-address : (count : ℕ) (cells : List CellList) (a k : ℕ) → ArePlaceable count cells → number_at cells a ≡ Some k → a < 2048 * 4096
named-address count cells a k ok e =
    let o = number-lying cells a k e in
    let h = lying-at cells a o.0 o.1 in
    let place = (ok.each h.index h.within).superpage in
    let few = ok.few in
    let at = h.at in
    omega arith

-- a linked word is packed
pub packed-linked : (count : ℕ) (cells : List CellList) (n : ℕ) → ArePlaceable count cells → n < 2 ^ 64 → IsLinked cells (word_of_bits n) → IsPacked n
packed-linked count cells n ok small linked = (small, even (bits_cases n))
  where
    even : (n ≡ 0) ⊎ ((n % 2 ≡ 1) ⊎ ((n % 2 ≡ 0) × (n ≢ 0))) → n % 2 ≡ 0 → n ≤ 2 ^ 33
    even (inl none) is = omega arith
    even (inr (inl odd)) is = absurd (omega arith)
    even (inr (inr ref)) is =
        let named : IsLinked cells (Ref (record { 0 = n / 2 - 1 })) = subst (IsLinked cells) (word_of_bits-even n ref.0 ref.1) linked in
        let lt = named-address count cells (n / 2 - 1) named.0 ok named.1 in
        omega arith

pub packed-words : (count : ℕ) (cells : List CellList) (ns : List ℕ) → ArePlaceable count cells → AreLinked cells ns → (k : ℕ) → k < length ns → IsPacked (slice_index ns k)
packed-words count cells ns ok all k lt = let h = linked-at cells ns k all lt in packed-linked count cells (slice_index ns k) ok h.0 h.1

-- the words that are placed are those of the fields
pub words-may : (s : Layout) (bits : List ℕ) (ws : List Word) → MayBeFields s bits → ws ≡ map word_of_bits bits → (k : ℕ) (w : Word) → slice_get ws k ≡ Some w → FitsWord w × NamesCell s w
words-may s bits ws may is k w e =
    let lt : k < length ws = slice_get_within ws k w e in
    let long : length ws ≡ length bits = ap (λ (vs : List Word). length vs) is ∙ length-map bits word_of_bits in
    let at : word_of_bits (slice_index bits k) ≡ w = sym (get_or-map word_of_bits bits k 0 Nil (omega arith)) ∙ ap (λ (vs : List Word). get_or vs k Nil) (sym is) ∙ get_or_from_slice_get ws k w Nil e in
    let h = may k (omega arith) in
    (subst FitsWord at (FitsWord-word_of_bits (slice_index bits k) h.0), subst (NamesCell s) at h.1)

-- ---- what holds between two objects

module _ (cells : List CellList) (i : ℕ) (s : Layout) (ok : ArePlaceable (superpages s) cells) (le : i ≤ length cells) (h : IsPlacing cells i s) where
  -- a listed object's cell is allocated or promised
  taken-listed : (a k : ℕ) → number_at cells a ≡ Some k → IsTaken s a
  taken-listed a k e = by (lying (take i cells) a) refl
    where
      some : (o : Cell) × (lying cells a ≡ Some o)
      some = number-lying cells a k e

      by : (o : Option Cell) → lying (take i cells) a ≡ o → IsTaken s a
      by (Some c) is = inl (memory-allocated s a c (ap (λ (m : Memory). m a) h.memory ∙ lying-is (take i cells) a ∙ is))
      by None is = inr (h.promised a ∙ ap is_some (lying-is (drop i cells) a ∙ sym (ap (λ (o : Option Cell). first_of o (lying (drop i cells) a)) is) ∙ sym (lying-parts cells i a) ∙ some.1))

  named-linked : (w : Word) → IsLinked cells w → NamesCell s w
  named-linked Nil linked = tt
  named-linked (Num n) linked = tt
  named-linked (Ref a) linked = taken-listed a.0 linked.0 linked.1

  -- what lies in memory has fields that name cells
  fields-named : (a : ℕ) (c : Cell) → memory s a ≡ Some c → (k : ℕ) → k < length c.fields → NamesCell s (slice_index_or c.fields k Nil)
  fields-named a c there k lt =
      let l = lying-at (take i cells) a c (sym (lying-is (take i cells) a) ∙ ap (λ (m : Memory). m a) (sym h.memory) ∙ there) in
      let lower : l.index < i = length-first cells i l.index le l.within in
      let is : c ≡ cell_of (cell_at cells l.index) = l.is ∙ ap cell_of (at-take cells i l.index lower) in
      let x : CellList = cell_at cells l.index in
      let long : k < length (map word_of_bits x.fields) = subst (λ (d : Cell). k < length d.fields) is lt in
      let short : k < length x.fields = rw length-map at long in
      subst (NamesCell s) (sym (ap (λ (d : Cell). slice_index_or d.fields k Nil) is ∙ get_or-map word_of_bits x.fields k 0 Nil short))
      (named-linked (word_of_bits (slice_index x.fields k)) (linked-at cells x.fields k (ok.each l.index (let lt_i = lower in omega arith)).fields short).1)

  pub names-placing : EligibleNamesCells s
  names-placing p lt eligible = names-fields s p (λ x on c e k less. fields-named x c e k less)

  -- the next object can be placed
  pub can-place : i < length cells → CanBePlaced s (cell_at cells i)
  can-place lt =
      let x : CellList = cell_at cells i in
      let here = ok.each i lt in
      record {
        promised = h.promised x.address ∙ some-here cells i lt;
        pair = h.pair i lt;
        head = here.head;
        fields_long = here.fields_long;
        fields = λ k less. (let l = linked-at cells x.fields k here.fields less in (packed-linked (superpages s) cells (slice_index x.fields k) ok l.0 l.1, named-linked (word_of_bits (slice_index x.fields k)) l.1));
      }

  -- its page is Home, or Absent, and then no page in memory has a promised cell
  pages-rise : (j n : ℕ) → j ≤ n → n < length cells → page_of (cell_at cells j).address ≤ page_of (cell_at cells n).address
  pages-rise j n less lt = elim (cases_eq j n) [
    | inl same ↦ (let e = ap (λ (m : ℕ). page_of (cell_at cells m).address) same in omega arith)
    | inr ne ↦ (let r = ok.rising j n (below j n less ne) lt in omega arith)
  ]
    where
      below : (x y : ℕ) → x ≤ y → x ≢ y → x < y
      below zero zero le ne = absurd (ne refl)
      below zero (suc y) le ne = omega arith
      below (suc x) zero le ne = absurd (omega arith)
      below (suc x) (suc y) le ne = let r = below x y (omega arith) (λ q. ne (ap suc q)) in omega arith

  room-ahead : (lt : i < length cells) → ((j : ℕ) → j < i → page_of (cell_at cells j).address < page_of (cell_at cells i).address) → (state_at s.states (page_of (cell_at cells i).address) ≡ Absent) × CanMakeRoom s
  room-ahead lt ahead = (
    h.ahead (page_of (cell_at cells i).address) ahead,
    record {
      remembered = λ p _. h.calm p;
      promised = λ p _ home x on at.
          let l = others-at cells i x le (sym (h.promised x) ∙ on) in
          let rise = pages-rise i l.index l.from l.within in
          let absent = h.ahead p (λ j less. let f = ahead j less in let e : page_of (cell_at cells l.index).address ≡ p = ap page_of l.at ∙ at in omega arith) in
          (let bad : Home ≡ Absent = sym home ∙ absent in cc);
      frames = h.frames;
    },
  )

  pub here-or-room : i < length cells → (state_at s.states (page_of (cell_at cells i).address) ≡ Home) ⊎ ((state_at s.states (page_of (cell_at cells i).address) ≡ Absent) × CanMakeRoom s)
  here-or-room lt = by i refl
    where
      by : (n : ℕ) → n ≡ i → (state_at s.states (page_of (cell_at cells i).address) ≡ Home) ⊎ ((state_at s.states (page_of (cell_at cells i).address) ≡ Absent) × CanMakeRoom s)
      by zero e = inr (room-ahead lt (λ j less. absurd (omega arith)))
      by (suc m) e = elim (cases_eq (page_of (cell_at cells m).address) (page_of (cell_at cells i).address)) [
        | inl same ↦ inl (ap (state_at s.states) (sym same) ∙ h.last m (let f = e in omega arith))
        | inr ne ↦ inr (room-ahead lt (λ j less.
            let f = e in
            let low = pages-rise j m (omega arith) (omega arith) in
            let high = pages-rise m i (omega arith) lt in
            strict (page_of (cell_at cells j).address) (page_of (cell_at cells m).address) (page_of (cell_at cells i).address) low high ne))
      ]
        where
          below : (x y : ℕ) → x ≤ y → x ≢ y → x < y
          below zero zero le ne = absurd (ne refl)
          below zero (suc y) le ne = omega arith
          below (suc x) zero le ne = absurd (omega arith)
          below (suc x) (suc y) le ne = let r = below x y (omega arith) (λ q. ne (ap suc q)) in omega arith

          strict : (x y z : ℕ) → x ≤ y → y ≤ z → y ≢ z → x < z
          strict x y z low high ne = let r = below y z high ne in omega arith

-- ---- one object more

still-absent : (s t : Layout) (p : ℕ) → state_at s.states p ≡ Absent → (state_at t.states p ≡ state_at s.states p) ⊎ PageLeaves s t p → state_at t.states p ≡ Absent
still-absent s t p absent (inl same) = same ∙ absent
still-absent s t p absent (inr left) = absurd (let bad : Absent ≡ Home = sym absent ∙ left.home in cc)

still-calm : (s t : Layout) (p : ℕ) → state_at s.states p ≢ Remembered → (state_at t.states p ≡ state_at s.states p) ⊎ PageLeaves s t p → state_at t.states p ≢ Remembered
still-calm s t p calm (inl same) e = calm (sym same ∙ e)
still-calm s t p calm (inr left) e = absurd (let bad : true ≡ false = sym (ap is_resident e) ∙ left.away in cc)

pub placed-more : (cells : List CellList) (i : ℕ) (s t : Layout) → ArePlaceable (superpages s) cells → i < length cells → IsPlacing cells i s → PlacesCell s t (cell_at cells i) → IsPlacing cells (i + 1) t
placed-more cells i s t ok lt h step = record {
  memory = step.now_memory ∙ ap (λ (m : Memory). with_cell m (cell_at cells i).address (Some (cell_of (cell_at cells i)))) h.memory ∙ sym (memory-more cells i ok.rising lt);
  promised = λ x. step.promised x ∙ ap (λ (b : Bool). if x == (cell_at cells i).address then false else b) (h.promised x) ∙ sym (some-fewer cells i x ok.rising lt);
  pair = λ k less. (let pair = h.pair k less in record {
    used = ap (λ (l : Layout). slice_index_or l.used ((cell_at cells k).address / 2048) false) step.same ∙ pair.used;
    of_domain = ap (λ (l : Layout). slice_index l.domains ((cell_at cells k).address / 2048)) step.same ∙ pair.of_domain;
    of_class = ap (λ (l : Layout). slice_index l.classes ((cell_at cells k).address / 2048)) step.same ∙ pair.of_class;
  });
  calm = λ p e. elim (cases_eq p (page_of (cell_at cells i).address)) [
    | inl is ↦ (let bad : Home ≡ Remembered = sym (ap (state_at t.states) is ∙ step.here) ∙ e in cc)
    | inr ne ↦ still-calm s t p (h.calm p) (step.others p ne) e
  ];
  summarised = step.summarised;
  frames = subst (λ (l : Layout). l.nursery + 1 ≤ l.frames) (sym step.same) h.frames;
  ahead = λ p above. still-absent s t p (h.ahead p (λ k less. above k (omega arith))) (step.others p (λ e. absurd (let f = above i (omega arith) in omega arith)));
  last = λ k is. (let e : k ≡ i = omega arith in ap (λ (n : ℕ). state_at t.states (page_of (cell_at cells n).address)) e ∙ step.here);
  closed = step.closed h.closed;
}

-- what one object changes of a space, and so what all change
abbrev pub Same : Layout → Layout → Type 0
Same s t = t ≡ record s { cells = t.cells; promised = t.promised; bookmarks = t.bookmarks; incoming = t.incoming; states = t.states; pages = t.pages; free = t.free }

pub same-then : (s t u : Layout) → Same s t → Same t u → Same s u
same-then s t u h k = k ∙ ap (λ (l : Layout). record l { cells = u.cells; promised = u.promised; bookmarks = u.bookmarks; incoming = u.incoming; states = u.states; pages = u.pages; free = u.free }) h
