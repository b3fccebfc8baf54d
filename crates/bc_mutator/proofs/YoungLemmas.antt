-- A field of an object of the lane's chunk is written: the heap stays closed.
use Rattle.bc_model.specs.declared.values.Holder.{Holder}
use Rattle.bc_model.specs.State.{holder_of}
use Rattle.bc_model.specs.declared.values.Holder.TheVariants as holder
use Rattle.std.proofs.Common.{◌≡◌, ◌≢◌, ◌⊎◌, ℕ, ◌<◌, ◌≤◌, true, List, length, get_or, set, Option, Some, None, is_some, option_map, refl, sym, ap, subst, ◌∙◌, inl, inr, arith, get_or-set_same, get_or-set_other, length-set}
use Rattle.std.proofs.lemmas.Bool.{cases_eq, cases_lt}
use Rattle.std.proofs.lemmas.List.{set_past}
use Rattle.bc_whole_heap.specs.Closed.{buffer_of, IsCellOrYoung, IsRecorded, IsClosedHeap}
use Rattle.bc_whole_heap.specs.LaneChunks.{chunk_of}
use Rattle.bc_whole_heap.specs.Heaps.{end_of, heap_memory, no_chunk, young, object_in}
use Rattle.bc_whole_heap.specs.HeapFacts.{AreChunks, AreApart, view_of}
use Rattle.bc_whole_heap.specs.Running.{IsRunning}
use Rattle.bc_whole_heap.proofs.ChunkLemmas.{object_in-at, object_in-set, object_in-set_other, chunk_of-set}
use Rattle.bc_whole_heap.proofs.HeapLemmas.{memory-below, memory-above}
use Rattle.bc_memory.specs.Memory.{Cell}
use Rattle.bc_memory.specs.MemoryChanges.{with_cell}
use Rattle.bc_memory.specs.MemoryChanges as memory
use Rattle.bc_memory.proofs.MemoryLemmas.{with_cell-is}
use Rattle.bc_model.specs.declared.values.Birth.{Birth}
use Rattle.bc_nursery.specs.Entries.{Entries}
use Rattle.bc_nursery.specs.Objects.{IsChunk, has_object, the_object, object_or, changed, with_young_field}
use Rattle.bc_nursery.specs.Nurseries.{ChunkObject, Nursery, object_at}
use Rattle.bc_nursery.proofs.ObjectLemmas.{find-changed, find-kept}
use Rattle.bc_nursery.proofs.MappedLemmas.{has-some}
use Rattle.bc_standing.specs.Standing.{births}
use Rattle.bc_standing.proofs.Writing.{births-with_cell}
use Rattle.bc_superpages.specs.Kept.{IsLayout}
use Rattle.bc_superpages.specs.Layout.{Layout}
use Rattle.bc_superpages.specs.LayoutAt.{IsAllocated}
use Rattle.bc_superpages.specs.RootWords.{RootWords}
use Rattle.bc_word.specs.declared.addresses.Address.{Address}
use Rattle.bc_word.specs.declared.heads.Head.{Head}
use Rattle.bc_word.specs.declared.words.Word.{Word}
use Rattle.bc_word.specs.declared.words.Word.TheVariants.{Nil, Ref}
use Rattle.bc_mutator.specs.Objects.{AreWhole, IsOwn, cell_of}
use Rattle.bc_model.proofs.Holders.{IsHolder-as_many}
use Rattle.bc_mutator.proofs.HolderLemmas.{for-holder, named-for}
use Rattle.bc_mutator.proofs.ObjectLemmas.{cell_of-above, memory-there}

-- a chunk is replaced by one of its own base and size
pub chunk-other : (cs ds : List Nursery) (lane l : ℕ) (d : Nursery) → ds ≡ set cs lane d → l ≢ lane → chunk_of ds l ≡ chunk_of cs l
chunk-other cs ds lane l d is ne = ap (λ (xs : List Nursery). chunk_of xs l) is ∙ get_or-set_other cs lane l d no_chunk ne

pub length-chunks : (cs ds : List Nursery) (lane : ℕ) (d : Nursery) → ds ≡ set cs lane d → length ds ≡ length cs
length-chunks cs ds lane d is = ap length is ∙ length-set cs lane d

pub chunks-whole : (cs ds : List Nursery) (lane : ℕ) (d : Nursery) → lane < length cs → ds ≡ set cs lane d → IsChunk d → AreWhole cs → AreWhole ds
chunks-whole cs ds lane d lt is one whole = λ l less. elim (cases_eq l lane) [
  | inl here ↦ subst IsChunk (sym (ap (λ (x : ℕ). chunk_of ds x) here ∙ chunk_of-set cs ds lane d lt is)) one
  | inr ne ↦ subst IsChunk (sym (chunk-other cs ds lane l d is ne)) (whole l (let n = length-chunks cs ds lane d is in omega arith))
]

pub laid-kept : (end words : ℕ) (cs ds : List Nursery) (lane : ℕ) (d : Nursery) → lane < length cs → ds ≡ set cs lane d → d.base ≡ (chunk_of cs lane).base → d.words ≡ (chunk_of cs lane).words → AreChunks end words cs → AreChunks end words ds
laid-kept end words cs ds lane d lt is base long laid = record {
  base = λ l less. elim (cases_eq l lane) [
    | inl here ↦
        ap (λ (x : ℕ). (chunk_of ds x).base) here ∙ ap (λ (x : Nursery). x.base) (chunk_of-set cs ds lane d lt is) ∙ base
        ∙ ap (λ (x : ℕ). (chunk_of cs x).base) (sym here) ∙ laid.base l (let n = length-chunks cs ds lane d is in omega arith)
    | inr ne ↦ ap (λ (x : Nursery). x.base) (chunk-other cs ds lane l d is ne) ∙ laid.base l (let n = length-chunks cs ds lane d is in omega arith)
  ];
  long = λ l less. elim (cases_eq l lane) [
    | inl here ↦
        ap (λ (x : ℕ). (chunk_of ds x).words) here ∙ ap (λ (x : Nursery). x.words) (chunk_of-set cs ds lane d lt is) ∙ long
        ∙ ap (λ (x : ℕ). (chunk_of cs x).words) (sym here) ∙ laid.long l (let n = length-chunks cs ds lane d is in omega arith)
    | inr ne ↦ ap (λ (x : Nursery). x.words) (chunk-other cs ds lane l d is ne) ∙ laid.long l (let n = length-chunks cs ds lane d is in omega arith)
  ];
}

-- a write to a field of an object of the chunk
pub record YoungWrite (s : Layout) (r : RootWords) (cs ds : List Nursery) (bs : List Entries) (hs : List Holder) (lane at index : ℕ) (word : Word) : Type 0 where
  pub run : IsRunning (view_of s r cs bs) hs
  pub lane_within : lane < length cs
  pub layout : IsLayout s
  pub apart : AreApart (end_of s) cs
  pub behind : end_of s ≤ at
  pub on : has_object (chunk_of cs lane) at ≡ true
  pub own : IsOwn s (chunk_of cs lane) word
  pub chunks : ds ≡ set cs lane (changed (chunk_of cs lane) at (with_young_field index word))

some_mapped : (f : ChunkObject → ChunkObject) (p : Option ChunkObject) → is_some (option_map f p) ≡ is_some p
some_mapped f None = refl
some_mapped f (Some o) = refl

some_or : (f : ChunkObject → ChunkObject) (p : Option ChunkObject) → is_some p ≡ true → object_or (option_map f p) ≡ f (object_or p)
some_or f None e = cc
some_or f (Some o) e = refl

module _ (s : Layout) (r : RootWords) (cs ds : List Nursery) (bs : List Entries) (hs : List Holder) (lane at index : ℕ) (word : Word) (w : YoungWrite s r cs ds bs hs lane at index word) where
  -- the chunk as it was, and as it is
  chunk-is : chunk_of ds lane ≡ changed (chunk_of cs lane) at (with_young_field index word)
  chunk-is = chunk_of-set cs ds lane (changed (chunk_of cs lane) at (with_young_field index word)) w.lane_within w.chunks

  object-here : object_at (chunk_of ds lane) at ≡ option_map (with_young_field index word) (object_at (chunk_of cs lane) at)
  object-here = ap (λ (c : Nursery). object_at c at) chunk-is ∙ find-changed (with_young_field index word) (λ o. refl) at (chunk_of cs lane).objects

  object-there : (a : ℕ) → a ≢ at → object_at (chunk_of ds lane) a ≡ object_at (chunk_of cs lane) a
  object-there a ne = ap (λ (c : Nursery). object_at c a) chunk-is ∙ find-kept (with_young_field index word) (λ o. refl) at a ne (chunk_of cs lane).objects

  object-other : (l a : ℕ) → l ≢ lane → object_at (chunk_of ds l) a ≡ object_at (chunk_of cs l) a
  object-other l a ne = ap (λ (c : Nursery). object_at c a) (chunk-other cs ds lane l (changed (chunk_of cs lane) at (with_young_field index word)) w.chunks ne)

  -- every chunk has objects where it had them, with the same heads
  has-same : (l a : ℕ) → has_object (chunk_of ds l) a ≡ has_object (chunk_of cs l) a
  has-same l a = elim (cases_eq l lane) [
    | inl here ↦ subst (λ (x : ℕ). has_object (chunk_of ds x) a ≡ has_object (chunk_of cs x) a) (sym here)
        (elim (cases_eq a at) [
          | inl same ↦ subst (λ (x : ℕ). has_object (chunk_of ds lane) x ≡ has_object (chunk_of cs lane) x) (sym same)
              (ap is_some object-here ∙ some_mapped (with_young_field index word) (object_at (chunk_of cs lane) at))
          | inr away ↦ ap is_some (object-there a away)
        ])
    | inr ne ↦ ap is_some (object-other l a ne)
  ]

  the-here : the_object (chunk_of ds lane) at ≡ with_young_field index word (the_object (chunk_of cs lane) at)
  the-here = ap object_or object-here ∙ some_or (with_young_field index word) (object_at (chunk_of cs lane) at) w.on

  head-same : (l a : ℕ) → (the_object (chunk_of ds l) a).head ≡ (the_object (chunk_of cs l) a).head
  head-same l a = elim (cases_eq l lane) [
    | inl here ↦ subst (λ (x : ℕ). (the_object (chunk_of ds x) a).head ≡ (the_object (chunk_of cs x) a).head) (sym here)
        (elim (cases_eq a at) [
          | inl same ↦ subst (λ (x : ℕ). (the_object (chunk_of ds lane) x).head ≡ (the_object (chunk_of cs lane) x).head) (sym same)
              (ap (λ (o : ChunkObject). o.head) the-here)
          | inr away ↦ ap (λ (p : Option ChunkObject). (object_or p).head) (object-there a away)
        ])
    | inr ne ↦ ap (λ (p : Option ChunkObject). (object_or p).head) (object-other l a ne)
  ]

  there-kept : (l a : ℕ) → IsCellOrYoung s (chunk_of cs l) a → IsCellOrYoung s (chunk_of ds l) a
  there-kept l a (inl on) = inl on
  there-kept l a (inr on) = inr (has-same l a ∙ on)

  -- what the fields of the chunks' objects refer to
  young-here : (k : ℕ) (b : Address) → get_or (set (the_object (chunk_of cs lane) at).fields index word) k Nil ≡ Ref b → IsCellOrYoung s (chunk_of cs lane) b.0
  young-here k b e = elim (cases_lt index (length (the_object (chunk_of cs lane) at).fields)) [
    | inl less ↦ elim (cases_eq k index) [
      | inl here ↦ w.own b (sym (get_or-set_same (the_object (chunk_of cs lane) at).fields index word Nil less) ∙ ap (λ (x : ℕ). get_or (set (the_object (chunk_of cs lane) at).fields index word) x Nil) (sym here) ∙ e)
      | inr ne ↦ w.run.closed.young lane at k b w.lane_within w.on (sym (get_or-set_other (the_object (chunk_of cs lane) at).fields index k word Nil ne) ∙ e)
    ]
    | inr past ↦ w.run.closed.young lane at k b w.lane_within w.on (sym (ap (λ (xs : List Word). get_or xs k Nil) (set_past (the_object (chunk_of cs lane) at).fields index word past)) ∙ e)
  ]

  young-own : (a k : ℕ) (b : Address) → has_object (chunk_of cs lane) a ≡ true → get_or (the_object (chunk_of ds lane) a).fields k Nil ≡ Ref b → IsCellOrYoung s (chunk_of cs lane) b.0
  young-own a k b on e = elim (cases_eq a at) [
    | inl same ↦
        young-here k b (sym (ap (λ (o : ChunkObject). get_or o.fields k Nil) the-here) ∙ ap (λ (x : ℕ). get_or (the_object (chunk_of ds lane) x).fields k Nil) (sym same) ∙ e)
    | inr away ↦
        w.run.closed.young lane a k b w.lane_within on (sym (ap (λ (p : Option ChunkObject). get_or (object_or p).fields k Nil) (object-there a away)) ∙ e)
  ]

  young-kept : (l a k : ℕ) (b : Address) → l < length cs → has_object (chunk_of cs l) a ≡ true → get_or (the_object (chunk_of ds l) a).fields k Nil ≡ Ref b → IsCellOrYoung s (chunk_of cs l) b.0
  young-kept l a k b lt on e = elim (cases_eq l lane) [
    | inl here ↦
        subst (λ (x : ℕ). IsCellOrYoung s (chunk_of cs x) b.0) (sym here)
        (young-own a k b (subst (λ (x : ℕ). has_object (chunk_of cs x) a ≡ true) here on) (subst (λ (x : ℕ). get_or (the_object (chunk_of ds x) a).fields k Nil ≡ Ref b) here e))
    | inr ne ↦ w.run.closed.young l a k b lt on (sym (ap (λ (p : Option ChunkObject). get_or (object_or p).fields k Nil) (object-other l a ne)) ∙ e)
  ]

  named-kept : (l a k : ℕ) (b : Address) → IsAllocated s b.0 ⊎ ((has_object (chunk_of cs l) b.0 ≡ true) × IsRecorded (buffer_of bs l) a k) → IsAllocated s b.0 ⊎ ((has_object (chunk_of ds l) b.0 ≡ true) × IsRecorded (buffer_of bs l) a k)
  named-kept l a k b (inl on) = inl on
  named-kept l a k b (inr on) = inr (has-same l b.0 ∙ on.0, on.1)

  length-same : length ds ≡ length cs
  length-same = length-chunks cs ds lane (changed (chunk_of cs lane) at (with_young_field index word)) w.chunks

  young-closed : IsClosedHeap (view_of s r ds bs) hs
  young-closed =
      let long = length-same in
      let closed = w.run.closed in
      record {
        lanes = closed.lanes ∙ sym long;
        domains = closed.domains;
        holder = λ d lt. IsHolder-as_many _ _ (holder_of hs d) long (closed.holder d lt);
        root = λ d p a lt less e. for-holder s cs ds there-kept (holder_of hs d) a.0 (closed.root d p a lt less e);
        noted = closed.noted;
        young_domain = λ l a lt on.
            let k = closed.young_domain l a (omega arith) (sym (has-same l a) ∙ on) in
            subst (λ (h : Head). (h.domain < length hs) × (holder_of hs h.domain ≡ holder.Lane l)) (sym (head-same l a)) k;
        young = λ l a k b lt on e. there-kept l b.0 (young-kept l a k b (omega arith) (sym (has-same l a) ∙ on) e);
        mature_domain = closed.mature_domain;
        mature = λ a k c b e f. named-for s s cs ds bs bs a k b.0 (λ on. on) (λ l. named-kept l a k b) (holder_of hs c.head.domain) (closed.mature a k c b e f);
        entries = closed.entries;
      }

  -- the heap as a memory
  pub young-memory : heap_memory s ds ≡ with_cell (heap_memory s cs) at (Some (memory.with_field (cell_of s (chunk_of cs lane) at) index word))
  young-memory =
      let is : object_in ds at ≡ option_map (with_young_field index word) (object_in cs at) =
      ap (λ (xs : List Nursery). object_in xs at) w.chunks
      ∙ object_in-set cs at lane (with_young_field index word) (λ o. refl) w.lane_within w.on (λ k lt. w.apart.first k lane at lt w.lane_within w.on) in
      let was : object_in cs at ≡ Some (the_object (chunk_of cs lane) at) =
      object_in-at cs at lane w.lane_within w.on (λ k lt. w.apart.first k lane at lt w.lane_within w.on) ∙ has-some (chunk_of cs lane) at w.on in
      with_cell-is (heap_memory s cs) (heap_memory s ds) at (Some (memory.with_field (cell_of s (chunk_of cs lane) at) index word))
      (memory-above s ds at w.behind ∙ ap (option_map young) (is ∙ ap (option_map (with_young_field index word)) was)
      ∙ ap (λ (x : Cell). Some (memory.with_field x index word)) (sym (cell_of-above s (chunk_of cs lane) at w.behind)))
      (λ x ne. elim (cases_lt x (end_of s)) [
        | inl lt ↦ memory-below s ds x lt ∙ sym (memory-below s cs x lt)
        | inr out ↦
            memory-above s ds x out
            ∙ ap (λ (xs : List Nursery). option_map young (object_in xs x)) w.chunks
            ∙ ap (option_map young) (object_in-set_other cs at x lane (with_young_field index word) (λ o. refl) w.lane_within ne)
            ∙ sym (memory-above s cs x out)
      ])

  pub young-births : births (heap_memory s ds) ≡ births (heap_memory s cs)
  young-births =
      ap births young-memory
      ∙ births-with_cell (heap_memory s cs) at (cell_of s (chunk_of cs lane) at) (memory.with_field (cell_of s (chunk_of cs lane) at) index word)
      (memory-there s cs lane at w.layout w.apart w.lane_within (inr w.on)) refl

  pub young-running : IsRunning (view_of s r ds bs) hs
  young-running =
      let same = young-births in
      record {
        summarised = w.run.summarised;
        none_promised = w.run.none_promised;
        laid = (
          w.run.laid.0,
          laid-kept (end_of s) w.run.laid.0 cs ds lane (changed (chunk_of cs lane) at (with_young_field index word)) w.lane_within w.chunks refl refl w.run.laid.1,
        );
        once = λ a x b e f. w.run.once a x b (sym (ap (λ (g : ℕ → Option Birth). g a) same) ∙ e) (sym (ap (λ (g : ℕ → Option Birth). g x) same) ∙ f);
        closed = young-closed;
      }
