-- A space over which a table may be opened is one as the rule uses it, and a closed table gives back such a one.
use Rattle.std.proofs.Common.{◌≡◌, ℕ, ◌+◌, ◌*◌, ◌/◌, ◌%◌, ◌<◌, ◌≤◌, ◌&&◌, Bool, true, false, List, length, get_or, slice_index, inl, inr, refl, ap, sym, subst, ◌∙◌, arith}
use Rattle.std.specs.Prelude.{slice_index_or}
use Rattle.std.proofs.lemmas.Bool.{cases_lt, cases_Bool}
use Rattle.std.proofs.lemmas.Option.{same_Some}
use Rattle.bc_memory.specs.Memory.{Cell}
use Rattle.bc_word.specs.declared.words.Word.{Word}
use Rattle.bc_word.specs.declared.words.Word.TheVariants.{Nil, Num, Ref}
use Rattle.bc_word.specs.Words.{word_of_bits}
use Rattle.bc_word.specs.Heads.{fields_of_bits}
use Rattle.bc_word.specs.Addresses.{page_of, offset_of}
use Rattle.bc_word.proofs.WordsLemmas.{length-words_from, get_or-words_from}
use Rattle.bc_superpages.specs.declared.headers.PageState.{PageState}
use Rattle.bc_superpages.specs.declared.headers.PageState.TheVariants as state
use Rattle.bc_superpages.specs.Headers.{is_gone}
use Rattle.bc_superpages.specs.Layout.{Layout, superpages, content_at}
use Rattle.bc_superpages.specs.LayoutAt.{state_at, IsAllocated}
use Rattle.bc_superpages.specs.Memory.{memory, cell_at}
use Rattle.bc_superpages.specs.Calls.{fields_at, CanName, IsClosed}
use Rattle.bc_superpages.specs.Kept.{IsLayout}
use Rattle.bc_superpages.proofs.HandLemmas.{allocated-superpage}
use Rattle.bc_superpages.proofs.MemoryLemmas.{memory_of-cell}
use Rattle.bc_superpages.proofs.BringLemmas.{allocated-not_absent}
use Rattle.bc_superpages.proofs.MoveLemmas.{memory-allocated}
use Rattle.bc_bookmarks.specs.Targets.{RefersTo, has_target_in}
use Rattle.bc_bookmarks.specs.Summarised.{IsSummarised, gone_in}
use Rattle.bc_bits.proofs.CountLemmas.{count_below-none}
use Rattle.bc_bookmarks.proofs.TargetLemmas.{refers-target, in-target}
use Rattle.bc_bookmarks.proofs.SummaryLemmas.{targets-taken}
use Rattle.bc_pins.specs.Key.{Key, pages_of}
use Rattle.bc_pins.specs.Contents.{field_bits, IsFieldOn, NamesFixed, IsYoung, IsContent, RefersYoung}
use Rattle.bc_pins.specs.Opening.{IsOpenable, IsReady}

clash : false ≡ true → ⊥
clash e = cc

home_clash : state.Home ≡ state.Remembered → ⊥
home_clash e = cc

-- what a Gone page of a summarised space refers to is a cell
gone_names : (s : Layout) (p cell index : ℕ) → IsLayout s → IsSummarised s → p < 4 * superpages s → gone_in s p ≡ true → IsFieldOn s p cell index
    → (w : Word) → word_of_bits (field_bits (content_at s.pages p) cell index) ≡ w → IsYoung s w → ⊥
gone_names s p cell index l sum lt gone f Nil e y = y
gone_names s p cell index l sum lt gone f (Num v) e y = y
gone_names s p cell index l sum lt gone f (Ref a) e y =
    let many : length (cell_at s.pages cell).fields ≡ fields_at s cell = length-words_from (content_at s.pages (page_of cell)) (offset_of cell + 1) (fields_at s cell) in
    let within = f.within in
    let is = get_or-words_from (content_at s.pages (page_of cell)) (offset_of cell + 1) (fields_at s cell) index Nil f.within in
    let refers : RefersTo (memory s) p a.0 = record {
      address = cell;
      on = f.on;
      object = cell_at s.pages cell;
      is = memory_of-cell s.classes s.cells s.pages cell f.allocated;
      index = index;
      within = omega arith;
      refers = is ∙ ap (λ (q : ℕ). word_of_bits (get_or (content_at s.pages q) (offset_of cell + 1 + index) 0)) f.on ∙ e;
    } in
    let taken = targets-taken s (gone_in s) p a.0 l sum lt gone (refers-target (memory s) p a.0 refers) in
    let near = taken.1 in
    absurd (omega arith)

-- a page that refers to a nursery is Remembered
remembered_young : (s : Layout) (p : ℕ) → IsLayout s → IsOpenable s → RefersYoung s p (content_at s.pages p) → (st : PageState) → state_at s.states p ≡ st → st ≡ state.Remembered
remembered_young s p l o y state.Remembered e = refl
remembered_young s p l o y state.Absent e = absurd (allocated-not_absent s y.cell l y.is.allocated (ap (state_at s.states) y.is.on ∙ e))
remembered_young s p l o y state.Home e = absurd (o.home p e y)
remembered_young s p l o y state.Held e =
    let lt = allocated-superpage s y.cell l y.is.allocated in
    let on = y.is.on in
    absurd ((l.each (p / 4) (omega arith)).not_held (p % 4) e)
remembered_young s p l o y state.Gone e =
    let lt = allocated-superpage s y.cell l y.is.allocated in
    let on = y.is.on in
    absurd (gone_names s p y.cell y.index l o.summarised (omega arith) (ap is_gone e) y.is _ refl y.young)

pub openable_ready : (s : Layout) → IsLayout s → IsOpenable s → IsReady s
openable_ready s l o = record { closed = o.closed; promised = o.promised; young = λ p y. remembered_young s p l o y (state_at s.states p) refl }

-- a space that a closed table gives back
module _ (k : Key) (states : List (List PageState)) (pages bits : List (List ℕ)) (counters : List ℕ) (free reads : ℕ) (l : IsLayout k.opening) (o : IsOpenable k.opening)
    (bare : (p : ℕ) → pages_of k ≤ p → p < 4 * superpages k.opening → state_at k.opening.states p ≡ state.Absent)
    (fixed : (p : ℕ) → p < pages_of k → IsContent k.opening p (content_at pages p))
    (young : (p : ℕ) → p < pages_of k → RefersYoung k.opening p (content_at pages p) → state_at states p ≡ state.Remembered) where
  abbrev s : Layout
  s = k.opening

  abbrev t : Layout
  t = record k.opening { states = states; pages = pages; bookmarks = bits; incoming = counters; free = free; reads = reads }

  inside : (a : ℕ) → IsAllocated s a → page_of a < pages_of k
  inside a there =
      let few = allocated-superpage s a l there in
      elim (cases_lt (page_of a) (pages_of k)) [
        | inl lt ↦ lt
        | inr le ↦ absurd (allocated-not_absent s a l there (bare (page_of a) le (omega arith)))
      ]

  -- no Gone page has a target past the table's superpages
  pub opened_none : (q : ℕ) → k.supers ≤ q → q < superpages s → slice_index s.incoming q ≡ 0
  opened_none q le lt = o.summarised.incoming q lt ∙ count_below-none (λ p. gone_in s p && has_target_in (memory s) p q) (4 * superpages s) (λ p less.
      elim (cases_Bool (gone_in s p)) [
        | inl gone ↦ ap (λ (b : Bool). b && has_target_in (memory s) p q) gone ∙ elim (cases_Bool (has_target_in (memory s) p q)) [
          | inl has_one ↦
              let target = in-target (memory s) p q has_one in
              let taken = targets-taken s (gone_in s) p target.address l o.summarised less gone target.target in
              let lies = target.lies in
              elim taken.0 [
                | inl there ↦ let near = inside target.address there in absurd (omega arith)
                | inr promised ↦ absurd (clash (sym (o.promised target.address) ∙ promised))
              ]
          | inr none_has ↦ none_has
        ]
        | inr off ↦ ap (λ (b : Bool). b && has_target_in (memory s) p q) off
      ])

  field_in : (p cell index : ℕ) → IsFieldOn t p cell index → IsFieldOn s p cell index
  field_in p cell index f =
      let near : p < pages_of k = subst (λ (n : ℕ). n < pages_of k) f.on (inside cell f.allocated) in
      let head = (fixed p near).heads cell f.allocated f.on in
      let same : fields_at t cell ≡ fields_at s cell = ap fields_of_bits (ap (λ (q : ℕ). slice_index (content_at pages q) (offset_of cell)) f.on ∙ head) in
      let within = f.within in
      record { allocated = f.allocated; on = f.on; within = omega arith }

  young_in : (w : Word) → IsYoung t w → IsYoung s w
  young_in Nil y = y
  young_in (Num v) y = y
  young_in (Ref a) y = y

  can_name : (w : Word) → NamesFixed s w → CanName t w
  can_name Nil n = tt
  can_name (Num v) n = tt
  can_name (Ref a) (inl there) = inl there
  can_name (Ref a) (inr high) = inr (inr high)

  home : (p : ℕ) → state_at t.states p ≡ state.Home → RefersYoung t p (content_at t.pages p) → ⊥
  home p e y =
      let near : p < pages_of k = subst (λ (n : ℕ). n < pages_of k) y.is.on (inside y.cell y.is.allocated) in
      home_clash (sym e ∙ young p near (record { cell = y.cell; index = y.index; is = field_in p y.cell y.index y.is; young = young_in _ y.young }))

  field_named : (a i : ℕ) → IsAllocated s a → i < length (cell_at pages a).fields → CanName t (slice_index_or (cell_at pages a).fields i Nil)
  field_named a i there lt =
      let many : length (cell_at pages a).fields ≡ fields_at t a = length-words_from (content_at pages (page_of a)) (offset_of a + 1) (fields_at t a) in
      let within : i < fields_at t a = omega arith in
      let f : IsFieldOn s (page_of a) a i = field_in (page_of a) a i (record { allocated = there; on = refl; within = within }) in
      let is = get_or-words_from (content_at pages (page_of a)) (offset_of a + 1) (fields_at t a) i Nil within in
      subst (CanName t) (sym is) (can_name _ ((fixed (page_of a) (inside a there)).names a i f))

  closed : IsClosed t
  closed a c found i lt =
      let there = memory-allocated t a c found in
      let same : cell_at pages a ≡ c = same_Some _ _ (sym (memory_of-cell s.classes s.cells pages a there) ∙ found) in
      subst (λ (d : Cell). i < length d.fields → CanName t (slice_index_or d.fields i Nil)) same (field_named a i there) lt

  pub still_openable : IsSummarised t → IsOpenable t
  still_openable summarised = record {
    summarised = summarised;
    closed = closed;
    promised = o.promised;
    home = home;
  }
