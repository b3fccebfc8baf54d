-- A field of a cell is written: the heap stays closed, since a reference to the lane's chunk is recorded.
use Rattle.bc_model.specs.declared.values.Holder.{Holder}
use Rattle.bc_model.specs.State.{holder_of}
use Rattle.bc_whole_heap.specs.LaneChunks.{chunk_for}
use Rattle.bc_whole_heap.specs.Closed.{buffer_for}
use Rattle.bc_model.specs.declared.values.Holder.TheVariants as holder
use Rattle.std.proofs.Common.{◌≡◌, ◌≢◌, ◌⊎◌, ℕ, ◌<◌, true, false, List, [], ◌∷◌, length, get_or, set, Option, Some, refl, sym, ap, subst, ◌∙◌, inl, inr, arith, get_or-set_same, get_or-set_other, length-set}
use Rattle.std.proofs.lemmas.Bool.{cases_eq, cases_lt, false≢true}
use Rattle.std.proofs.lemmas.List.{get_or_append_left, get_or_push, length_push}
use Rattle.std.proofs.lemmas.Option.{same_Some}
use Rattle.bc_bits.specs.Bits.{has}
use Rattle.bc_bookmarks.specs.Summarised.{IsSummarised, gone_in, LeavesSummary}
use Rattle.bc_bookmarks.proofs.SummaryLemmas.{SummarisedOn-left}
use Rattle.bc_whole_heap.specs.Closed.{buffer_of, no_buffer, IsCellOrYoung, IsRecorded, IsEntry, IsClosedHeap}
use Rattle.bc_whole_heap.specs.LaneChunks.{chunk_of}
use Rattle.bc_whole_heap.specs.Heaps.{end_of, heap_memory}
use Rattle.bc_whole_heap.specs.HeapFacts.{AreChunks, AreApart, view_of}
use Rattle.bc_whole_heap.specs.Running.{IsRunning}
use Rattle.bc_whole_heap.proofs.HeapLemmas.{memory-below, memory-above, allocated-below}
use Rattle.bc_memory.specs.Memory.{Cell, Memory}
use Rattle.bc_memory.specs.MemoryChanges.{with_cell, with_field}
use Rattle.bc_memory.proofs.MemoryLemmas.{with_cell-same, with_cell-other, with_cell-is}
use Rattle.bc_model.specs.declared.values.Birth.{Birth}
use Rattle.bc_nursery.specs.Entries.{Entries}
use Rattle.bc_nursery.specs.Objects.{has_object}
use Rattle.bc_nursery.specs.Nurseries.{Nursery}
use Rattle.bc_nursery.specs.Survivors.{entry_at, no_entry}
use Rattle.bc_standing.specs.Standing.{births}
use Rattle.bc_standing.proofs.Writing.{births-with_cell}
use Rattle.bc_superpages.specs.declared.headers.PageState.{PageState}
use Rattle.bc_superpages.specs.declared.headers.PageState.TheVariants.{Remembered}
use Rattle.bc_superpages.specs.Headers.{is_gone}
use Rattle.bc_superpages.specs.Kept.{IsLayout}
use Rattle.bc_superpages.specs.Layout.{Layout, superpages, set_of, is_cell}
use Rattle.bc_superpages.specs.LayoutAt.{state_at, IsAllocated}
use Rattle.bc_superpages.specs.Paging.{is_bookmarked}
use Rattle.bc_superpages.specs.Memory as space
use Rattle.bc_superpages.specs.RootWords.{RootWords}
use Rattle.bc_superpages.proofs.MemoryLemmas.{memory_of-cell}
use Rattle.bc_word.specs.Addresses.{page_of}
use Rattle.bc_word.specs.declared.addresses.Address.{Address}
use Rattle.bc_word.specs.declared.heads.Head.{Head}
use Rattle.bc_word.specs.declared.words.Word.{Word}
use Rattle.bc_word.specs.declared.words.Word.TheVariants.{Nil, Ref}
use Rattle.bc_mutator.specs.Effects.{Records, WroteCell, with_entry}
use Rattle.bc_mutator.specs.Objects.{LieBehind, IsOwn, cell_of}
use Rattle.bc_mutator.proofs.HolderLemmas.{named-for}
use Rattle.bc_mutator.proofs.ObjectLemmas.{cell_of-below, memory-there}
use Rattle.bc_mutator.proofs.StateLemmas.{state-after}

-- a write to a field of a cell that the lane may do
pub record MatureWrite (s t : Layout) (r : RootWords) (cs : List Nursery) (bs es : List Entries) (hs : List Holder) (lane : ℕ) (at : Address) (index : ℕ) (word : Word) : Type 0 where
  pub run : IsRunning (view_of s r cs bs) hs
  pub lane_within : lane < length cs
  pub lies_behind : LieBehind s (chunk_of cs lane)
  pub on : IsAllocated s at.0
  pub held : holder_of hs (space.cell_at s.pages at.0).head.domain ≡ holder.Lane lane
  pub less : index < length (space.cell_at s.pages at.0).fields
  pub own : IsOwn s (chunk_of cs lane) word
  pub wrote : WroteCell s t (buffer_of bs lane) (buffer_of es lane) at index word
  pub buffers : es ≡ set bs lane (buffer_of es lane)

-- what is allocated stays so
pub allocated-same : (s t : Layout) (a : ℕ) → t ≡ record s { states = t.states; pages = t.pages } → is_cell t.classes t.cells a ≡ is_cell s.classes s.cells a
allocated-same s t a e = ap (λ (z : Layout). is_cell z.classes z.cells a) e

pub there-same : (s t : Layout) (c : Nursery) (a : ℕ) → t ≡ record s { states = t.states; pages = t.pages } → IsCellOrYoung s c a → IsCellOrYoung t c a
there-same s t c a e (inl on) = inl (allocated-same s t a e ∙ on)
there-same s t c a e (inr on) = inr on

-- remembered pages stay so, and exactly the pages that were Gone are
still-remembered : (s t : Layout) (p : ℕ) → (state_at t.states p ≡ state_at s.states p) ⊎ (state_at t.states p ≡ Remembered) → state_at s.states p ≡ Remembered → state_at t.states p ≡ Remembered
still-remembered s t p (inl same) e = same ∙ e
still-remembered s t p (inr now) e = now

still-gone : (s t : Layout) (b e : Entries) (at : Address) (index : ℕ) (word : Word) (p : ℕ) → is_gone (state_at s.states (page_of at.0)) ≡ false → Records s t b e at index word → is_gone (state_at t.states p) ≡ is_gone (state_at s.states p)
still-gone s t b e at index word p here (inl r) = ap (λ (x : List (List PageState)). is_gone (state_at x p)) r.1.1
still-gone s t b e at index word p here (inr r) = elim (cases_eq p (page_of at.0)) [
  | inl same ↦ ap (λ (x : ℕ). is_gone (state_at t.states x)) same ∙ ap is_gone r.1.1.here ∙ sym here ∙ ap (λ (x : ℕ). is_gone (state_at s.states x)) (sym same)
  | inr ne ↦ ap is_gone (r.1.1.others p ne)
]

-- a cell that has this head and as many fields
pub record HasAlike (s : Layout) (a : ℕ) (c : Cell) : Type 0 where
  pub cell : Cell
  pub there : space.memory s a ≡ Some cell
  pub same_head : c.head ≡ cell.head
  pub same_count : length c.fields ≡ length cell.fields

-- an entry more
more-recorded : (b : Entries) (at : Address) (index cell i : ℕ) → IsRecorded b cell i → IsRecorded (with_entry b at index) cell i
more-recorded b at index cell i h = (
  h.0,
  omega (arith, h.1, length_push b.entries (at, index)),
  get_or_append_left b.entries ((at, index) ∷ []) no_entry h.0 h.1 ∙ h.2,
)

last-recorded : (b : Entries) (at : Address) (index : ℕ) → IsRecorded (with_entry b at index) at.0 index
last-recorded b at index = (
  length b.entries,
  omega (arith, length_push b.entries (at, index)),
  get_or_push b.entries (at, index) no_entry (length b.entries) refl,
)

module _ (s t : Layout) (r : RootWords) (cs : List Nursery) (bs es : List Entries) (hs : List Holder) (lane : ℕ) (at : Address) (index : ℕ) (word : Word) (w : MatureWrite s t r cs bs es hs lane at index word) where
  -- the cell as it was, and as it is
  old_cell : Cell
  old_cell = space.cell_at s.pages at.0

  before : space.memory s at.0 ≡ Some old_cell
  unfolding old_cell
  before = memory_of-cell s.classes s.cells s.pages at.0 w.on

  after : space.memory t at.0 ≡ Some (with_field old_cell index word)
  unfolding old_cell
  after = ap (λ (m : Memory). m at.0) w.wrote.memory ∙ with_cell-same (space.memory s) at.0 (Some (with_field (space.cell_at s.pages at.0) index word))

  elsewhere : (a : ℕ) → a ≢ at.0 → space.memory t a ≡ space.memory s a
  elsewhere a ne =
      ap (λ (m : Memory). m a) w.wrote.memory ∙ with_cell-other (space.memory s) at.0 a (Some (with_field (space.cell_at s.pages at.0) index word)) ne

  -- a cell after the write has the head that it had, and as many fields
  had-cell : (a : ℕ) (c : Cell) → space.memory t a ≡ Some c → HasAlike s a c
  had-cell a c e = elim (cases_eq a at.0) [
    | inl here ↦
        let is : with_field old_cell index word ≡ c = same_Some (with_field old_cell index word) c (sym after ∙ ap (space.memory t) (sym here) ∙ e) in
        record {
          cell = old_cell;
          there = ap (space.memory s) here ∙ before;
          same_head = sym (ap (λ (x : Cell). x.head) is);
          same_count = sym (ap (λ (x : Cell). length x.fields) is) ∙ length-set old_cell.fields index word;
        }
    | inr ne ↦ record { cell = c; there = sym (elsewhere a ne) ∙ e; same_head = refl; same_count = refl }
  ]

  -- and a cell before it has them after
  has-cell : (a : ℕ) (c : Cell) → space.memory s a ≡ Some c → HasAlike t a c
  has-cell a c e = elim (cases_eq a at.0) [
    | inl here ↦
        let is : old_cell ≡ c = same_Some old_cell c (sym before ∙ ap (space.memory s) (sym here) ∙ e) in
        record {
          cell = with_field old_cell index word;
          there = ap (space.memory t) here ∙ after;
          same_head = sym (ap (λ (x : Cell). x.head) is);
          same_count = sym (ap (λ (x : Cell). length x.fields) is) ∙ sym (length-set old_cell.fields index word);
        }
    | inr ne ↦ record { cell = c; there = elsewhere a ne ∙ e; same_head = refl; same_count = refl }
  ]

  -- a page's state is as it was, or Remembered
  after-write : (p : ℕ) → (state_at t.states p ≡ state_at s.states p) ⊎ (state_at t.states p ≡ Remembered)
  after-write p = state-after s t (buffer_of bs lane) (buffer_of es lane) at index word p w.wrote.entry

  -- another lane's buffer is as it was
  other-buffer : (l : ℕ) → l ≢ lane → buffer_of es l ≡ buffer_of bs l
  other-buffer l ne = ap (λ (xs : List Entries). buffer_of xs l) w.buffers ∙ get_or-set_other bs lane l (buffer_of es lane) no_buffer ne

  -- an entry stays one
  entry-kept : (l cell i : ℕ) → IsEntry s hs l cell i → IsEntry t hs l cell i
  entry-kept l cell i e =
      let h = has-cell cell e.object e.there in
      let less = e.field in
      let count = h.same_count in
      record {
        object = h.cell;
        there = h.there;
        field = omega arith;
        held = sym (ap (λ (x : Head). holder_of hs x.domain) h.same_head) ∙ e.held;
        remembered = still-remembered s t (page_of cell) (after-write (page_of cell)) e.remembered;
      }

  -- what was recorded stays so, and the field is recorded now if the word refers past the superpages
  own-kept : (cell i : ℕ) → Records s t (buffer_of bs lane) (buffer_of es lane) at index word → IsRecorded (buffer_of bs lane) cell i → IsRecorded (buffer_of es lane) cell i
  own-kept cell i (inl k) h = subst (λ (b : Entries). IsRecorded b cell i) (sym k.1.0) h
  own-kept cell i (inr k) h = subst (λ (b : Entries). IsRecorded b cell i) (sym k.1.0) (more-recorded (buffer_of bs lane) at index cell i h)

  recorded-kept : (l cell i : ℕ) → IsRecorded (buffer_of bs l) cell i → IsRecorded (buffer_of es l) cell i
  recorded-kept l cell i h = elim (cases_eq l lane) [
    | inl here ↦
        subst (λ (x : ℕ). IsRecorded (buffer_of es x) cell i) (sym here)
        (own-kept cell i w.wrote.entry (subst (λ (x : ℕ). IsRecorded (buffer_of bs x) cell i) here h))
    | inr ne ↦ subst (λ (b : Entries). IsRecorded b cell i) (sym (other-buffer l ne)) h
  ]

  written-recorded : (b : Address) → word ≡ Ref b → has_object (chunk_of cs lane) b.0 ≡ true → Records s t (buffer_of bs lane) (buffer_of es lane) at index word → IsRecorded (buffer_of es lane) at.0 index
  written-recorded b e young (inl k) = absurd (let lt = k.0 b e in let le = w.lies_behind b.0 young in omega arith)
  written-recorded b e young (inr k) = subst (λ (x : Entries). IsRecorded x at.0 index) (sym k.1.0) (last-recorded (buffer_of bs lane) at index)

  -- what the written word may refer to
  named-new : (b : Address) → word ≡ Ref b → IsCellOrYoung s (chunk_of cs lane) b.0 → IsAllocated t b.0 ⊎ ((has_object (chunk_of cs lane) b.0 ≡ true) × IsRecorded (buffer_of es lane) at.0 index)
  named-new b e (inl on) = inl (allocated-same s t b.0 w.wrote.space ∙ on)
  named-new b e (inr young) = inr (young, written-recorded b e young w.wrote.entry)

  -- and what any other may
  named-old : (l a k : ℕ) (b : Address) → IsAllocated s b.0 ⊎ ((has_object (chunk_of cs l) b.0 ≡ true) × IsRecorded (buffer_of bs l) a k) → IsAllocated t b.0 ⊎ ((has_object (chunk_of cs l) b.0 ≡ true) × IsRecorded (buffer_of es l) a k)
  named-old l a k b (inl on) = inl (allocated-same s t b.0 w.wrote.space ∙ on)
  named-old l a k b (inr young) = inr (young.0, recorded-kept l a k young.1)

  named-any : (x : Holder) (a k : ℕ) (b : Address) → IsAllocated s b.0 ⊎ ((has_object (chunk_for cs x) b.0 ≡ true) × IsRecorded (buffer_for bs x) a k) → IsAllocated t b.0 ⊎ ((has_object (chunk_for cs x) b.0 ≡ true) × IsRecorded (buffer_for es x) a k)
  named-any x a k b = named-for s t cs cs bs es a k b.0 (λ on. allocated-same s t b.0 w.wrote.space ∙ on) (λ l. named-old l a k b) x

  named-here : (k : ℕ) (b : Address) → get_or (set old_cell.fields index word) k Nil ≡ Ref b → IsAllocated t b.0 ⊎ ((has_object (chunk_of cs lane) b.0 ≡ true) × IsRecorded (buffer_of es lane) at.0 k)
  unfolding old_cell
  named-here k b e = elim (cases_eq k index) [
    | inl here ↦
        let is : word ≡ Ref b = sym (get_or-set_same old_cell.fields index word Nil w.less) ∙ ap (λ (x : ℕ). get_or (set old_cell.fields index word) x Nil) (sym here) ∙ e in
        subst (λ (x : ℕ). IsAllocated t b.0 ⊎ ((has_object (chunk_of cs lane) b.0 ≡ true) × IsRecorded (buffer_of es lane) at.0 x)) (sym here)
        (named-new b is (w.own b is))
    | inr ne ↦
        let is : get_or old_cell.fields k Nil ≡ Ref b = sym (get_or-set_other old_cell.fields index k word Nil ne) ∙ e in
        subst (λ (x : Holder). IsAllocated t b.0 ⊎ ((has_object (chunk_for cs x) b.0 ≡ true) × IsRecorded (buffer_for es x) at.0 k)) w.held
        (named-any (holder_of hs old_cell.head.domain) at.0 k b (w.run.closed.mature at.0 k old_cell b before is))
  ]

  mature-kept : (a k : ℕ) (c : Cell) (b : Address) → space.memory t a ≡ Some c → get_or c.fields k Nil ≡ Ref b → IsAllocated t b.0 ⊎ ((has_object (chunk_for cs (holder_of hs c.head.domain)) b.0 ≡ true) × IsRecorded (buffer_for es (holder_of hs c.head.domain)) a k)
  unfolding old_cell
  mature-kept a k c b e f = elim (cases_eq a at.0) [
    | inl here ↦
        let is : with_field old_cell index word ≡ c = same_Some (with_field old_cell index word) c (sym after ∙ ap (space.memory t) (sym here) ∙ e) in
        let held : holder.Lane lane ≡ holder_of hs c.head.domain = sym w.held ∙ ap (λ (x : Cell). holder_of hs x.head.domain) is in
        subst (λ (x : ℕ). IsAllocated t b.0 ⊎ ((has_object (chunk_for cs (holder_of hs c.head.domain)) b.0 ≡ true) × IsRecorded (buffer_for es (holder_of hs c.head.domain)) x k)) (sym here)
        (subst (λ (x : Holder). IsAllocated t b.0 ⊎ ((has_object (chunk_for cs x) b.0 ≡ true) × IsRecorded (buffer_for es x) at.0 k)) held
        (named-here k b (ap (λ (x : Cell). get_or x.fields k Nil) is ∙ f)))
    | inr ne ↦ named-any (holder_of hs c.head.domain) a k b (w.run.closed.mature a k c b (sym (elsewhere a ne) ∙ e) f)
  ]

  -- the entries of the lane's buffer
  new-entry : state_at t.states (page_of at.0) ≡ Remembered → IsEntry t hs lane at.0 index
  unfolding old_cell
  new-entry now = record {
    object = with_field old_cell index word;
    there = after;
    field = (let less = w.less in let count = length-set old_cell.fields index word in omega arith);
    held = w.held;
    remembered = now;
  }

  push-entry : (i : ℕ) → i < length (with_entry (buffer_of bs lane) at index).entries → lane < length bs → state_at t.states (page_of at.0) ≡ Remembered → IsEntry t hs lane (entry_at (with_entry (buffer_of bs lane) at index) i).0.0 (entry_at (with_entry (buffer_of bs lane) at index) i).1
  push-entry i lt within now = elim (cases_lt i (length (buffer_of bs lane).entries)) [
    | inl less ↦
        subst (λ (x : Address × ℕ). IsEntry t hs lane x.0.0 x.1) (sym (get_or_append_left (buffer_of bs lane).entries ((at, index) ∷ []) no_entry i less))
        (entry-kept lane (entry_at (buffer_of bs lane) i).0.0 (entry_at (buffer_of bs lane) i).1 (w.run.closed.entries lane i within less))
    | inr out ↦
        let last : length (buffer_of bs lane).entries ≡ i = omega (arith, length_push (buffer_of bs lane).entries (at, index)) in
        subst (λ (x : Address × ℕ). IsEntry t hs lane x.0.0 x.1) (sym (get_or_push (buffer_of bs lane).entries (at, index) no_entry i last)) (new-entry now)
  ]

  own-entry : (i : ℕ) → lane < length bs → i < length (buffer_of es lane).entries → Records s t (buffer_of bs lane) (buffer_of es lane) at index word → IsEntry t hs lane (entry_at (buffer_of es lane) i).0.0 (entry_at (buffer_of es lane) i).1
  own-entry i within lt (inl k) =
      subst (λ (b : Entries). IsEntry t hs lane (entry_at b i).0.0 (entry_at b i).1) (sym k.1.0)
      (entry-kept lane (entry_at (buffer_of bs lane) i).0.0 (entry_at (buffer_of bs lane) i).1
      (w.run.closed.entries lane i within (subst (λ (b : Entries). i < length b.entries) k.1.0 lt)))
  own-entry i within lt (inr k) =
      subst (λ (b : Entries). IsEntry t hs lane (entry_at b i).0.0 (entry_at b i).1) (sym k.1.0)
      (push-entry i (subst (λ (b : Entries). i < length b.entries) k.1.0 lt) within k.1.1.here)

  length-buffers : length es ≡ length bs
  length-buffers = ap length w.buffers ∙ length-set bs lane (buffer_of es lane)

  entries-kept : (l i : ℕ) → l < length es → i < length (buffer_of es l).entries → IsEntry t hs l (entry_at (buffer_of es l) i).0.0 (entry_at (buffer_of es l) i).1
  entries-kept l i lt less = elim (cases_eq l lane) [
    | inl here ↦
        let within : lane < length bs = (let long = length-buffers in omega arith) in
        subst (λ (x : ℕ). IsEntry t hs x (entry_at (buffer_of es x) i).0.0 (entry_at (buffer_of es x) i).1) (sym here)
        (own-entry i within (subst (λ (x : ℕ). i < length (buffer_of es x).entries) here less) w.wrote.entry)
    | inr ne ↦
        let same = other-buffer l ne in
        let within : l < length bs = (let long = length-buffers in omega arith) in
        subst (λ (b : Entries). IsEntry t hs l (entry_at b i).0.0 (entry_at b i).1) (sym same)
        (entry-kept l (entry_at (buffer_of bs l) i).0.0 (entry_at (buffer_of bs l) i).1
        (w.run.closed.entries l i within (subst (λ (b : Entries). i < length b.entries) same less)))
  ]

  -- the heap stays closed
  pub mature-closed : IsClosedHeap (view_of t r cs es) hs
  mature-closed = record {
    lanes = length-buffers ∙ w.run.closed.lanes;
    domains = w.run.closed.domains;
    holder = w.run.closed.holder;
    root = λ d p a lt less e. there-same s t (chunk_for cs (holder_of hs d)) a.0 w.wrote.space (w.run.closed.root d p a lt less e);
    noted = λ k a lt e. elim (w.run.closed.noted k a lt e) [
      | inl on ↦ inl (subst (λ (x : Layout). IsAllocated x a.0) (sym w.wrote.space) on)
      | inr noted ↦ inr noted
    ];
    young_domain = w.run.closed.young_domain;
    young = λ l a k b lt on e. there-same s t (chunk_of cs l) b.0 w.wrote.space (w.run.closed.young l a k b lt on e);
    mature_domain = λ a c e.
        let h = had-cell a c e in
        subst (λ (x : Head). x.domain < length hs) (sym h.same_head) (w.run.closed.mature_domain a h.cell h.there);
    mature = mature-kept;
    entries = entries-kept;
  }

  -- the heap as a memory
  end-same : end_of t ≡ end_of s
  end-same = ap end_of w.wrote.space

  pub mature-memory : IsLayout s → heap_memory t cs ≡ with_cell (heap_memory s cs) at.0 (Some (with_field (cell_of s (chunk_of cs lane) at.0) index word))
  unfolding old_cell
  mature-memory layout =
      let below = allocated-below s at.0 layout w.on in
      let same = end-same in
      with_cell-is (heap_memory s cs) (heap_memory t cs) at.0 (Some (with_field (cell_of s (chunk_of cs lane) at.0) index word))
      (memory-below t cs at.0 (omega arith) ∙ after
      ∙ ap (λ (x : Cell). Some (with_field x index word)) (sym (cell_of-below s (chunk_of cs lane) at.0 below)))
      (λ x ne. elim (cases_lt x (end_of s)) [
        | inl lt ↦ memory-below t cs x (omega arith) ∙ elsewhere x ne ∙ sym (memory-below s cs x lt)
        | inr out ↦ memory-above t cs x (omega arith) ∙ sym (memory-above s cs x out)
      ])

  pub mature-births : IsLayout s → AreApart (end_of s) cs → births (heap_memory t cs) ≡ births (heap_memory s cs)
  mature-births layout apart =
      ap births (mature-memory layout)
      ∙ births-with_cell (heap_memory s cs) at.0 (cell_of s (chunk_of cs lane) at.0) (with_field (cell_of s (chunk_of cs lane) at.0) index word)
      (memory-there s cs lane at.0 layout apart w.lane_within (inl w.on)) refl

  -- what lies on Gone pages is as it was, so the space stays summarised
  leaves : LeavesSummary s (gone_in s) t
  leaves = record {
    long = ap superpages w.wrote.space;
    objects = λ x gone. elsewhere x (λ same. false≢true (sym w.wrote.here ∙ ap (λ (y : ℕ). gone_in s (page_of y)) (sym same) ∙ gone));
    bookmarks = ap (λ (z : Layout). z.bookmarks) w.wrote.space;
    counters = ap (λ (z : Layout). z.incoming) w.wrote.space;
    bookmarked = λ a on. subst (λ (z : Layout). is_bookmarked z a ≡ true) (sym w.wrote.space) on;
    bits = λ q b lt on. subst (λ (z : Layout). (has (set_of z.cells q) b ≡ true) ⊎ (has (set_of z.promised q) b ≡ true)) (sym w.wrote.space) (w.run.summarised.bits q b lt on);
  }

  mature-summarised : IsSummarised t
  mature-summarised =
      SummarisedOn-left s t (gone_in s) (gone_in t) (λ p lt. still-gone s t (buffer_of bs lane) (buffer_of es lane) at index word p w.wrote.here w.wrote.entry) leaves w.run.summarised

  pub mature-running : IsLayout s → AreApart (end_of s) cs → IsRunning (view_of t r cs es) hs
  mature-running layout apart =
      let same = mature-births layout apart in
      record {
        summarised = mature-summarised;
        none_promised = λ a. ap (λ (z : Layout). is_cell z.classes z.promised a) w.wrote.space ∙ w.run.none_promised a;
        laid = (w.run.laid.0, subst (λ (e : ℕ). AreChunks e w.run.laid.0 cs) (sym end-same) w.run.laid.1);
        once = λ a x b e f. w.run.once a x b (sym (ap (λ (g : ℕ → Option Birth). g a) same) ∙ e) (sym (ap (λ (g : ℕ → Option Birth). g x) same) ∙ f);
        closed = mature-closed;
      }
