-- A table may be opened over the space of a running heap.
use Rattle.std.proofs.Common.{◌≡◌, ℕ, ◌+◌, ◌*◌, ◌<◌, ◌≤◌, true, inl, inr, List, Some, length, get_or, refl, sym, ap, ◌∙◌, arith}
use Rattle.bc_memory.specs.Memory.{Cell}
use Rattle.bc_model.specs.Consistent.{IsHolder}
use Rattle.bc_model.specs.State.{holder_of}
use Rattle.bc_model.specs.declared.values.Holder.{Holder}
use Rattle.bc_model.specs.declared.values.Holder.TheVariants.{Frozen, Lane}
use Rattle.bc_mutator.specs.Objects.{AreWhole}
use Rattle.bc_mutator.proofs.ObjectLemmas.{LieBehind-laid}
use Rattle.bc_nursery.specs.Objects.{has_object}
use Rattle.bc_nursery.specs.Survivors.{entry_at}
use Rattle.bc_pins.specs.Contents.{IsFieldOn, IsYoung, field_bits}
use Rattle.bc_pins.specs.Opening.{IsOpenable}
use Rattle.bc_superpages.specs.Calls.{CanName, IsClosed, fields_at}
use Rattle.bc_superpages.specs.declared.headers.PageState.TheVariants.{Home, Remembered}
use Rattle.bc_superpages.specs.Kept.{IsLayout}
use Rattle.bc_superpages.specs.Layout.{content_at, superpages}
use Rattle.bc_superpages.specs.LayoutAt.{state_at}
use Rattle.bc_superpages.specs.Memory.{cell_at, memory}
use Rattle.bc_superpages.proofs.MemoryLemmas.{memory_of-cell}
use Rattle.bc_whole_heap.specs.Closed.{IsRecorded, buffer_for, buffer_of}
use Rattle.bc_whole_heap.specs.Heaps.{HeapView}
use Rattle.bc_whole_heap.specs.LaneChunks.{chunk_for}
use Rattle.bc_whole_heap.specs.Running.{IsRunning}
use Rattle.bc_whole_heap.proofs.HeapLemmas.{allocated-below}
use Rattle.bc_whole_heap.proofs.HolderLemmas.{none-recorded, none-young}
use Rattle.bc_word.specs.Addresses.{offset_of, page_of}
use Rattle.bc_word.specs.declared.addresses.Address.{Address}
use Rattle.bc_word.specs.declared.words.Word.{Word}
use Rattle.bc_word.specs.declared.words.Word.TheVariants.{Nil, Num, Ref}
use Rattle.bc_word.specs.Words.{word_of_bits}
use Rattle.bc_word.proofs.WordsLemmas.{get_or-words_from}

home_remembered : Home ≡ Remembered → ⊥
home_remembered e = cc

module _ (h : HeapView) (hs : List Holder) (layout : IsLayout h.space) (whole : AreWhole h.chunks) (run : IsRunning h hs) where
  -- an object of a chunk lies past the superpages
  behind : (x : Holder) (a : ℕ) → IsHolder (length h.chunks) x → has_object (chunk_for h.chunks x) a ≡ true → 2048 * superpages h.space ≤ a
  behind (Lane l) a within there = LieBehind-laid h.space run.laid.0 h.chunks l run.laid.1 within (whole l within) a there
  behind Frozen a within there = absurd (none-young a there)

  names : (a k : ℕ) → (c : Cell) → memory h.space a ≡ Some c → (w : Word) → get_or c.fields k Nil ≡ w → CanName h.space w
  names a k c is Nil e = tt
  names a k c is (Num v) e = tt
  names a k c is (Ref b) e = elim (run.closed.mature a k c b is e) [
    | inl cell ↦ inl cell
    | inr young ↦ inr (inr (behind (holder_of hs c.head.domain) b.0 (run.closed.holder c.head.domain (run.closed.mature_domain a c is)) young.0))
  ]

  closed : IsClosed h.space
  closed a c is k lt = names a k c is (get_or c.fields k Nil) refl

  -- a field that refers to a chunk is recorded, and its page Remembered
  recorded : (x : Holder) (cell index : ℕ) → IsHolder (length h.chunks) x → state_at h.space.states (page_of cell) ≡ Home → IsRecorded (buffer_for h.buffers x) cell index → ⊥
  recorded Frozen cell index within home entry = absurd (none-recorded cell index entry)
  recorded (Lane l) cell index within home entry =
      let same = run.closed.lanes in
      let lt : l < length h.chunks = within in
      let e = run.closed.entries l entry.0 (omega arith) entry.1 in
      let cell_is : (entry_at (buffer_of h.buffers l) entry.0).0.0 ≡ cell = ap (λ (x : Address × ℕ). x.0.0) entry.2 in
      home_remembered (sym home ∙ ap (λ (x : ℕ). state_at h.space.states (page_of x)) (sym cell_is) ∙ e.remembered)

  quiet : (p cell index : ℕ) → state_at h.space.states p ≡ Home → IsFieldOn h.space p cell index → (w : Word) → word_of_bits (field_bits (content_at h.space.pages p) cell index) ≡ w → IsYoung h.space w → ⊥
  quiet p cell index home f Nil e y = y
  quiet p cell index home f (Num v) e y = y
  quiet p cell index home f (Ref b) e y =
      let c : Cell = cell_at h.space.pages cell in
      let is = memory_of-cell h.space.classes h.space.cells h.space.pages cell f.allocated in
      let field = get_or-words_from (content_at h.space.pages (page_of cell)) (offset_of cell + 1) (fields_at h.space cell) index Nil f.within in
      let refers = field ∙ ap (λ (q : ℕ). word_of_bits (get_or (content_at h.space.pages q) (offset_of cell + 1 + index) 0)) f.on ∙ e in
      let within = run.closed.holder c.head.domain (run.closed.mature_domain cell c is) in
      elim (run.closed.mature cell index c b is refers) [
        | inl on ↦ let near = allocated-below h.space b.0 layout on in absurd (omega arith)
        | inr young ↦ recorded (holder_of hs c.head.domain) cell index within (ap (state_at h.space.states) f.on ∙ home) young.1
      ]

  pub openable : IsOpenable h.space
  openable = record {
    summarised = run.summarised;
    closed = closed;
    promised = run.none_promised;
    home = λ p home young. quiet p young.cell young.index home young.is _ refl young.young;
  }
