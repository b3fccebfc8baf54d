-- A new object at the end of the lane's chunk, and a root slot that refers to it.
use Rattle.bc_model.specs.declared.values.Holder.{Holder}
use Rattle.bc_model.specs.State.{holder_of}
use Rattle.bc_whole_heap.specs.LaneChunks.{chunk_for}
use Rattle.bc_model.specs.declared.values.Holder.TheVariants as holder
use Rattle.std.proofs.Common.{◌≡◌, ◌≢◌, ◌⊎◌, ℕ, ◌+◌, ◌^◌, ◌<◌, ◌≤◌, true, false, List, [], ◌∷◌, ◌++◌, length, get_or, set, replicate, Option, Some, None, is_some, option_map, refl, sym, ap, ap₂, subst, ◌∙◌, inl, inr, arith}
use Prim.Native.Nat.{zero, suc}
use Rattle.std.proofs.Math.ListN.{get_or-map}
use Rattle.std.proofs.Math.Nat.{mul-le-mul_left}
use Rattle.std.proofs.lemmas.Bool.{cases_Bool, cases_eq, cases_lt}
use Rattle.std.proofs.lemmas.List.{map-set, length_push}
use Rattle.std.specs.Option.{option_or}
use Rattle.bc_classes.specs.Classes.{class_of}
use Rattle.bc_whole_heap.specs.Heaps.{HeapView}
use Rattle.bc_whole_heap.specs.Closed.{buffer_of, IsCellOrYoung, IsRecorded, IsClosedHeap}
use Rattle.bc_whole_heap.specs.LaneChunks.{chunk_of}
use Rattle.bc_whole_heap.specs.Heaps.{end_of, heap_memory, root_words, no_chunk, young, object_in}
use Rattle.bc_whole_heap.specs.HeapFacts.{AreApart, view_of}
use Rattle.bc_whole_heap.specs.Running.{IsRunning}
use Rattle.bc_whole_heap.specs.LaneStates.{StandsAs}
use Rattle.bc_whole_heap.proofs.ChunkLemmas.{object_in-at, object_in-none, chunk_of-set}
use Rattle.bc_whole_heap.proofs.HeapLemmas.{memory-below, memory-above}
use Rattle.bc_memory.specs.Memory.{Cell, Memory}
use Rattle.bc_memory.specs.MemoryChanges.{with_cell}
use Rattle.bc_memory.proofs.MemoryLemmas.{with_cell-is}
use Rattle.bc_model.specs.State.{State, Object, made_by, with_made, next_birth, place_of}
use Rattle.bc_model.specs.Step.{with_new}
use Rattle.bc_model.specs.declared.operations.Op.TheVariants.{New}
use Rattle.bc_model.specs.declared.operations.Reply.TheVariants as reply
use Rattle.bc_model.specs.declared.values.Birth.{Birth}
use Rattle.bc_model.specs.declared.values.Slot.{Slot}
use Rattle.bc_model.specs.declared.values.Value.TheVariants as value
use Rattle.bc_model.proofs.Objects.{same_birth, length-with_made}
use Rattle.bc_model.proofs.States.{IsState-with_new}
use Rattle.bc_nursery.specs.Entries.{Entries}
use Rattle.bc_nursery.specs.Objects.{has_object, the_object, object_or, new_object, with_young_object, left_of}
use Rattle.bc_nursery.specs.Nurseries.{ChunkObject, Nursery, object_at}
use Rattle.bc_nursery.specs.Objects as nursery
use Rattle.bc_nursery.proofs.ObjectLemmas.{IsChunk-object, class_of-two, words-inside, none-has, object_at-end, object_at-new, object_at-others}
use Rattle.bc_standing.specs.Standing.{birth_of, births, Stands, AllBorn}
use Rattle.bc_standing.proofs.Making.{Stands-new, AllBorn-new, births-put_here, births-put_other}
use Rattle.bc_standing.proofs.Reading.{replicate_default}
use Rattle.bc_superpages.specs.Layout.{Layout}
use Rattle.bc_superpages.specs.LayoutAt.{IsAllocated}
use Rattle.bc_superpages.specs.RootWords.{RootWords}
use Rattle.bc_word.specs.HeadBits.{FitsHead}
use Rattle.bc_word.specs.declared.addresses.Address.{Address}
use Rattle.bc_word.specs.declared.heads.Head.{Head}
use Rattle.bc_word.specs.declared.words.Word.{Word}
use Rattle.bc_word.specs.declared.words.Word.TheVariants.{Nil, Ref}
use Rattle.bc_mutator.specs.Effects.{with_root, DidAct}
use Rattle.bc_mutator.specs.Objects.{MayOperate, AreWhole, IsOwn, own_chunk}
use Rattle.bc_mutator.specs.Operations.{NoneLater}
use Rattle.bc_model.proofs.Holders.{IsHolder-as_many}
use Rattle.bc_mutator.proofs.HolderLemmas.{for-holder, named-for}
use Rattle.bc_mutator.proofs.MeaningLemmas.{same_place}
use Rattle.bc_mutator.proofs.RootLemmas.{buffers-same, running-root, root_words-set, slots-other}
use Rattle.bc_mutator.proofs.YoungLemmas.{chunk-other, chunks-whole, length-chunks, laid-kept}

-- a new object of the lane's chunk, which has room for it
pub record MakesYoung (s : Layout) (r : RootWords) (cs ds : List Nursery) (bs : List Entries) (hs : List Holder) (lane : ℕ) (head : Head) : Type 0 where
  pub run : IsRunning (view_of s r cs bs) hs
  pub lane_within : lane < length cs
  pub whole : AreWhole cs
  pub apart : AreApart (end_of s) cs
  pub room : class_of head.fields ≤ left_of (chunk_of cs lane)
  pub within : head.domain < length hs
  pub held : holder_of hs head.domain ≡ holder.Lane lane
  pub chunks : ds ≡ set cs lane (with_young_object (chunk_of cs lane) head)

-- at another address the chunks hold what they held
object_in-replaced : (cs : List Nursery) (n a : ℕ) (d : Nursery) → object_at d a ≡ object_at (get_or cs n no_chunk) a → object_in (set cs n d) a ≡ object_in cs a
object_in-replaced [] n a d e = refl
object_in-replaced (c ∷ cs) zero a d e = ap (λ (p : Option ChunkObject). option_or p (object_in cs a)) e
object_in-replaced (c ∷ cs) (suc n) a d e = ap (option_or (object_at c a)) (object_in-replaced cs n a d e)

module _ (s : Layout) (r : RootWords) (cs ds : List Nursery) (bs : List Entries) (hs : List Holder) (lane : ℕ) (head : Head) (w : MakesYoung s r cs ds bs hs lane head) where
  -- where the object lies
  abbrev pub made_at : ℕ
  made_at = nursery.chunk_end (chunk_of cs lane)

  chunk-is : chunk_of ds lane ≡ with_young_object (chunk_of cs lane) head
  chunk-is = chunk_of-set cs ds lane (with_young_object (chunk_of cs lane) head) w.lane_within w.chunks

  object-new : object_at (chunk_of ds lane) made_at ≡ Some (new_object made_at head)
  object-new = ap (λ (c : Nursery). object_at c made_at) chunk-is ∙ object_at-new (chunk_of cs lane) (w.whole lane w.lane_within) head

  object-there : (a : ℕ) → a ≢ made_at → object_at (chunk_of ds lane) a ≡ object_at (chunk_of cs lane) a
  object-there a ne = ap (λ (c : Nursery). object_at c a) chunk-is ∙ object_at-others (chunk_of cs lane) head a ne

  object-other : (l a : ℕ) → l ≢ lane → object_at (chunk_of ds l) a ≡ object_at (chunk_of cs l) a
  object-other l a ne = ap (λ (c : Nursery). object_at c a) (chunk-other cs ds lane l (with_young_object (chunk_of cs lane) head) w.chunks ne)

  -- what a chunk had it has
  pub has-new : has_object (chunk_of ds lane) made_at ≡ true
  has-new = ap is_some object-new

  has-own : (a : ℕ) → has_object (chunk_of cs lane) a ≡ true → has_object (chunk_of ds lane) a ≡ true
  has-own a on = elim (cases_eq a made_at) [
    | inl same ↦ subst (λ (x : ℕ). has_object (chunk_of ds lane) x ≡ true) (sym same) has-new
    | inr away ↦ ap is_some (object-there a away) ∙ on
  ]

  has-kept : (l a : ℕ) → has_object (chunk_of cs l) a ≡ true → has_object (chunk_of ds l) a ≡ true
  has-kept l a on = elim (cases_eq l lane) [
    | inl here ↦
        subst (λ (x : ℕ). has_object (chunk_of ds x) a ≡ true) (sym here)
        (has-own a (subst (λ (x : ℕ). has_object (chunk_of cs x) a ≡ true) here on))
    | inr ne ↦ ap is_some (object-other l a ne) ∙ on
  ]

  there-kept : (l a : ℕ) → IsCellOrYoung s (chunk_of cs l) a → IsCellOrYoung s (chunk_of ds l) a
  there-kept l a (inl on) = inl on
  there-kept l a (inr on) = inr (has-kept l a on)

  -- an object of a chunk is the new one, or one that was there
  object_cases : (P : ℕ → ℕ → Option ChunkObject → Type 0) → P lane made_at (Some (new_object made_at head)) → ((l a : ℕ) → P l a (object_at (chunk_of cs l) a)) → (l a : ℕ) → P l a (object_at (chunk_of ds l) a)
  object_cases P new old l a = elim (cases_eq l lane) [
    | inl here ↦ subst (λ (x : ℕ). P x a (object_at (chunk_of ds x) a)) (sym here)
        (elim (cases_eq a made_at) [
          | inl same ↦ subst (λ (x : ℕ). P lane x (object_at (chunk_of ds lane) x)) (sym same) (subst (P lane made_at) (sym object-new) new)
          | inr away ↦ subst (P lane a) (sym (object-there a away)) (old lane a)
        ])
    | inr ne ↦ subst (P l a) (sym (object-other l a ne)) (old l a)
  ]

  new-names : {X : Type 0} (k : ℕ) (b : Address) → get_or (replicate head.fields Nil) k Nil ≡ Ref b → X
  new-names k b e = no b (sym (replicate_default head.fields k Nil) ∙ e)
    where
      no : {Y : Type 0} (x : Address) → Nil ≡ Ref x → Y
      no x f = cc

  made-young_domain : (l a : ℕ) → l < length cs → has_object (chunk_of ds l) a ≡ true → ((the_object (chunk_of ds l) a).head.domain < length hs) × (holder_of hs (the_object (chunk_of ds l) a).head.domain ≡ holder.Lane l)
  made-young_domain l a lt on =
      object_cases
      (λ (x y : ℕ) (p : Option ChunkObject). x < length cs → is_some p ≡ true → ((object_or p).head.domain < length hs) × (holder_of hs (object_or p).head.domain ≡ holder.Lane x))
      (λ _ _. (w.within, w.held))
      (λ x y less has. w.run.closed.young_domain x y less has)
      l a lt on

  made-young : (l a k : ℕ) (b : Address) → l < length cs → has_object (chunk_of ds l) a ≡ true → get_or (the_object (chunk_of ds l) a).fields k Nil ≡ Ref b → IsCellOrYoung s (chunk_of cs l) b.0
  made-young l a k b lt on e =
      object_cases
      (λ (x y : ℕ) (p : Option ChunkObject). x < length cs → is_some p ≡ true → get_or (object_or p).fields k Nil ≡ Ref b → IsCellOrYoung s (chunk_of cs x) b.0)
      (λ _ _ f. new-names k b f)
      (λ x y less has f. w.run.closed.young x y k b less has f)
      l a lt on e

  named-kept : (l a k : ℕ) (b : Address) → IsAllocated s b.0 ⊎ ((has_object (chunk_of cs l) b.0 ≡ true) × IsRecorded (buffer_of bs l) a k) → IsAllocated s b.0 ⊎ ((has_object (chunk_of ds l) b.0 ≡ true) × IsRecorded (buffer_of bs l) a k)
  named-kept l a k b (inl on) = inl on
  named-kept l a k b (inr on) = inr (has-kept l b.0 on.0, on.1)

  made-closed : IsClosedHeap (view_of s r ds bs) hs
  made-closed =
      let long = length-chunks cs ds lane (with_young_object (chunk_of cs lane) head) w.chunks in
      let closed = w.run.closed in
      record {
        lanes = closed.lanes ∙ sym long;
        domains = closed.domains;
        holder = λ d lt. IsHolder-as_many _ _ (holder_of hs d) long (closed.holder d lt);
        root = λ d p a lt less e. for-holder s cs ds there-kept (holder_of hs d) a.0 (closed.root d p a lt less e);
        noted = closed.noted;
        young_domain = λ l a lt on. made-young_domain l a (omega arith) on;
        young = λ l a k b lt on e. there-kept l b.0 (made-young l a k b (omega arith) on e);
        mature_domain = closed.mature_domain;
        mature = λ a k c b e f. named-for s s cs ds bs bs a k b.0 (λ on. on) (λ l. named-kept l a k b) (holder_of hs c.head.domain) (closed.mature a k c b e f);
        entries = closed.entries;
      }

  -- the address was free
  pub made-behind : end_of s ≤ made_at
  made-behind = let base = w.run.laid.1.base lane w.lane_within in omega arith

  none-there : (k : ℕ) → k < length cs → has_object (chunk_of cs k) made_at ≡ false
  none-there k lt = elim (cases_Bool (has_object (chunk_of cs k) made_at)) [
    | inl on ↦
        let words = w.run.laid.0 in
        let inside = words-inside (chunk_of cs k) (w.whole k lt) made_at on in
        let two = class_of-two (the_object (chunk_of cs k) made_at).head.fields in
        let base = w.run.laid.1.base lane w.lane_within in
        let base_k = w.run.laid.1.base k lt in
        let long = w.run.laid.1.long lane w.lane_within in
        let long_k = w.run.laid.1.long k lt in
        let room = w.room in
        let some = class_of-two head.fields in
        elim (cases_eq k lane) [
          | inl here ↦ none-has (chunk_of cs k) made_at (subst (λ (x : ℕ). object_at (chunk_of cs x) made_at ≡ None) (sym here) (object_at-end (chunk_of cs lane) (w.whole lane w.lane_within)))
          | inr ne ↦ elim (cases_lt k lane) [
            | inl less ↦ absurd (let more = mul-le-mul_left words (let step : k + 1 ≤ lane = omega arith in step) in omega arith)
            | inr out ↦ absurd (let more = mul-le-mul_left words (let step : lane + 1 ≤ k = omega arith in step) in omega arith)
          ]
        ]
    | inr off ↦ off
  ]

  pub made-free : heap_memory s cs made_at ≡ None
  made-free = memory-above s cs made_at made-behind ∙ ap (option_map young) (object_in-none cs made_at none-there)

  -- the heap as a memory
  pub made-memory : heap_memory s ds ≡ with_cell (heap_memory s cs) made_at (Some (young (new_object made_at head)))
  made-memory =
      let long = length-chunks cs ds lane (with_young_object (chunk_of cs lane) head) w.chunks in
      let is : object_in ds made_at ≡ Some (new_object made_at head) =
      object_in-at ds made_at lane (let lt = w.lane_within in omega arith) has-new
      (λ k lt. ap is_some (object-other k made_at (omega arith)) ∙ none-there k (let less = w.lane_within in omega arith)) ∙ object-new in
      with_cell-is (heap_memory s cs) (heap_memory s ds) made_at (Some (young (new_object made_at head)))
      (memory-above s ds made_at made-behind ∙ ap (option_map young) is)
      (λ x ne. elim (cases_lt x (end_of s)) [
        | inl lt ↦ memory-below s ds x lt ∙ sym (memory-below s cs x lt)
        | inr out ↦
            memory-above s ds x out
            ∙ ap (λ (xs : List Nursery). option_map young (object_in xs x)) w.chunks
            ∙ ap (option_map young) (object_in-replaced cs lane x (with_young_object (chunk_of cs lane) head) (object_at-others (chunk_of cs lane) head x ne))
            ∙ sym (memory-above s cs x out)
      ])

  made-birth : births (heap_memory s ds) made_at ≡ Some (birth_of head)
  made-birth = ap (λ (m : Memory). births m made_at) made-memory ∙ births-put_here (heap_memory s cs) made_at (young (new_object made_at head))

  other-births : (a : ℕ) → a ≢ made_at → births (heap_memory s ds) a ≡ births (heap_memory s cs) a
  other-births a ne = ap (λ (m : Memory). births m a) made-memory ∙ births-put_other (heap_memory s cs) made_at a (young (new_object made_at head)) ne

  one_birth : (x y : Birth) → Some x ≡ Some y → x ≡ y
  one_birth x y e = cc

  -- no other object is of the new birth
  none-such : {X : Type 0} (a n : ℕ) (b : Birth) → head.lane ≡ lane → head.serial ≡ n + 1 → NoneLater s cs lane n → births (heap_memory s cs) a ≡ Some b → births (heap_memory s ds) made_at ≡ Some b → X
  none-such a n b by next none e f =
      let is : birth_of head ≡ b = one_birth (birth_of head) b (sym made-birth ∙ f) in
      let same : b.lane ≡ lane = sym (ap (λ (x : Birth). x.lane) is) ∙ by in
      let later : b.serial ≡ n + 1 = sym (ap (λ (x : Birth). x.serial) is) ∙ next in
      let most = none a b e same in
      absurd (omega arith)

  made-once : (n : ℕ) → head.lane ≡ lane → head.serial ≡ n + 1 → NoneLater s cs lane n → (a x : ℕ) (b : Birth) → births (heap_memory s ds) a ≡ Some b → births (heap_memory s ds) x ≡ Some b → a ≡ x
  made-once n by next none a x b e f = elim (cases_eq a made_at) [
    | inl here ↦ elim (cases_eq x made_at) [
      | inl too ↦ here ∙ sym too
      | inr away ↦ none-such x n b by next none (sym (other-births x away) ∙ f) (subst (λ (y : ℕ). births (heap_memory s ds) y ≡ Some b) here e)
    ]
    | inr ne ↦ elim (cases_eq x made_at) [
      | inl too ↦ none-such a n b by next none (sym (other-births a ne) ∙ e) (subst (λ (y : ℕ). births (heap_memory s ds) y ≡ Some b) too f)
      | inr away ↦ w.run.once a x b (sym (other-births a ne) ∙ e) (sym (other-births x away) ∙ f)
    ]
  ]

  pub made-running : (n : ℕ) → head.lane ≡ lane → head.serial ≡ n + 1 → NoneLater s cs lane n → IsRunning (view_of s r ds bs) hs
  made-running n by next none = record {
    summarised = w.run.summarised;
    none_promised = w.run.none_promised;
    laid = (w.run.laid.0, laid-kept (end_of s) w.run.laid.0 cs ds lane (with_young_object (chunk_of cs lane) head) w.lane_within w.chunks refl refl w.run.laid.1);
    once = made-once n by next none;
    closed = made-closed;
  }

  -- later births
  pub made-later : (n : ℕ) → head.serial ≡ n + 1 → NoneLater s cs lane n → NoneLater s ds lane (n + 1)
  made-later n next none a b e by = elim (cases_eq a made_at) [
    | inl here ↦
        let is : birth_of head ≡ b = one_birth (birth_of head) b (sym made-birth ∙ subst (λ (y : ℕ). births (heap_memory s ds) y ≡ Some b) here e) in
        let serial = ap (λ (x : Birth). x.serial) is in
        omega arith
    | inr ne ↦ let most = none a b (sym (other-births a ne) ∙ e) by in omega arith
  ]

  pub made-others_later : (l n : ℕ) → head.lane ≡ lane → l ≢ lane → NoneLater s cs l n → NoneLater s ds l n
  made-others_later l n by ne none a b e same = elim (cases_eq a made_at) [
    | inl here ↦
        let is : birth_of head ≡ b = one_birth (birth_of head) b (sym made-birth ∙ subst (λ (y : ℕ). births (heap_memory s ds) y ≡ Some b) here e) in
        absurd (ne (sym same ∙ sym (ap (λ (x : Birth). x.lane) is) ∙ by))
    | inr away ↦ none a b (sym (other-births a away) ∙ e) same
  ]

  -- the heap stands for the state with a new object
  pub stands-new : (serials : List ℕ) (state : State) (p : Slot) → head.lane ≡ lane → head.serial ≡ get_or serials lane 0 + 1 → head.domain ≡ p.domain → head.fields ≤ 127 → StandsAs (view_of s r cs bs) hs serials state → StandsAs (view_of s (with_root r p (Ref (record { 0 = made_at }))) ds bs) hs (set serials lane (get_or serials lane 0 + 1)) (with_new state lane p head.fields)
  stands-new serials state p by next domain few h =
      let m = heap_memory s cs in
      let made = state.made in
      let c : Cell = young (new_object made_at head) in
      let o : Object = record { domain = p.domain; fields = replicate head.fields value.Nil } in
      let lane_in : lane < length made = (let lanes = h.lanes in let lt = w.lane_within in omega arith) in
      let count : get_or serials lane 0 ≡ length (made_by made lane) = sym (ap (λ (xs : List ℕ). get_or xs lane 0) h.births) ∙ get_or-map length made lane [] in
      let birth : birth_of c.head ≡ next_birth made lane = same_birth (birth_of head) (next_birth made lane) by (next ∙ ap (λ (n : ℕ). n + 1) count) in
      let same : with_made made lane (record { domain = head.domain; fields = replicate head.fields value.Nil }) ≡ with_made made lane o =
      ap (λ (d : ℕ). with_made made lane (record { domain = d; fields = replicate head.fields value.Nil })) domain in
      let words : root_words (with_root r p (Ref (record { 0 = made_at }))) ≡ set (root_words r) (place_of state.width p) (Ref (record { 0 = made_at })) =
      root_words-set r p (Ref (record { 0 = made_at })) ∙ ap (λ (i : ℕ). let to : Address = record { 0 = made_at } in set (root_words r) i (Ref to)) (same_place r state.width p h.slots) in
      record {
        consistent = IsState-with_new state lane p head.fields h.consistent lane_in (let lt = w.within in let held = ap length h.held in omega arith) few;
        stands = subst (λ (n : Memory). Stands n (root_words (with_root r p (Ref (record { 0 = made_at })))) (with_new state lane p head.fields).slots (with_made made lane o)) (sym made-memory)
            (subst (λ (ws : List Word). Stands (with_cell m made_at (Some c)) ws (with_new state lane p head.fields).slots (with_made made lane o)) (sym words)
            (subst (λ (ls : List (List Object)). Stands (with_cell m made_at (Some c)) (set (root_words r) (place_of state.width p) (Ref (record { 0 = made_at }))) (with_new state lane p head.fields).slots ls) same
            (Stands-new m (root_words r) state.slots made made_at lane (place_of state.width p) c h.stands h.born lane_in made-free birth refl)));
        born = subst (λ (n : Memory). AllBorn n (with_made made lane o)) (sym made-memory) (AllBorn-new m made made_at lane c o lane_in birth h.born);
        held = h.held;
        births = map-set length made lane (made_by made lane ++ o ∷ [])
            ∙ ap₂ (λ (xs : List ℕ) (n : ℕ). set xs lane n) h.births (length_push (made_by made lane) o ∙ ap (λ (n : ℕ). n + 1) (sym count));
        domains = h.domains;
        slots = h.slots;
        lanes = length-chunks cs ds lane (with_young_object (chunk_of cs lane) head) w.chunks ∙ h.lanes ∙ sym (length-with_made made lane o);
      }

-- how many births a lane has had
pub births-count : {h : HeapView} (hs : List Holder) (serials : List ℕ) (lane : ℕ) (state : State) → StandsAs h hs serials state → get_or serials lane 0 ≡ length (made_by state.made lane)
births-count hs serials lane state st = sym (ap (λ (xs : List ℕ). get_or xs lane 0) st.births) ∙ get_or-map length state.made lane []

-- and none is later
pub none-later : (h : HeapView) (hs : List Holder) (serials : List ℕ) (state : State) → StandsAs h hs serials state → (lane : ℕ) → NoneLater h.space h.chunks lane (get_or serials lane 0)
none-later h hs serials state st lane a b e same =
    let born = (st.born a b e).serial in
    let here : length (made_by state.made b.lane) ≡ length (made_by state.made lane) = ap (λ (l : ℕ). length (made_by state.made l)) same in
    let count = births-count hs serials lane state st in
    omega arith

-- so a new object is done
pub done-new : (h : HeapView) (chunks : List Nursery) (roots : RootWords) (hs : List Holder) (lane serial n : ℕ) (p : Slot) (object : Address) → MayOperate h hs lane → p.domain < h.roots.domains → p.slot < h.roots.slots → n ≤ 127 → lane < 16 → serial + 1 < 2 ^ 32 → holder_of hs p.domain ≡ holder.Lane lane → class_of n ≤ left_of (own_chunk h lane) → chunks ≡ set h.chunks lane (with_young_object (own_chunk h lane) (record { lane = lane; serial = serial + 1; domain = p.domain; fields = n })) → object.0 ≡ nursery.chunk_end (own_chunk h lane) → roots ≡ with_root h.roots p (Ref object) → DidAct h (record h { roots = roots; chunks = chunks }) hs lane serial (serial + 1) (New p n) (reply.Obj (record { lane = lane; serial = serial + 1 }))
done-new h chunks roots hs lane serial n p object ready domain slot few lanes serials held room is at written =
    subst (λ (r : RootWords). DidAct h (record h { roots = r; chunks = chunks }) hs lane serial (serial + 1) (New p n) (reply.Obj (record { lane = lane; serial = serial + 1 }))) (sym root_is) (record {
      step = λ serials state means e. (
        ap (λ (k : ℕ). let b : Birth = record { lane = lane; serial = k + 1 } in reply.Obj b) (sym (births-count hs serials lane state means) ∙ e),
        subst (λ (k : ℕ). StandsAs (view_of h.space root chunks h.buffers) hs (set serials lane (k + 1)) (with_new state lane p n)) e
            (stands-new h.space h.roots h.chunks chunks h.buffers hs lane head makes serials state p refl (ap (λ (k : ℕ). k + 1) (sym e)) refl few means),
      );
      running = λ none.
          running-root h.space h.roots chunks h.buffers hs p (Ref to)
          (made-running h.space h.roots h.chunks chunks h.buffers hs lane head makes serial refl refl none) slot own;
      later = λ none. made-later h.space h.roots h.chunks chunks h.buffers hs lane head makes serial refl none;
      others_later = λ l k ne none. made-others_later h.space h.roots h.chunks chunks h.buffers hs lane head makes l k refl ne none;
      layout = ready.layout;
      whole = chunks-whole h.chunks chunks lane (with_young_object (own_chunk h lane) head) ready.lane_within is
          (IsChunk-object (own_chunk h lane) head fits room (ready.whole lane ready.lane_within)) ready.whole;
      leaves = record {
        chunks = is ∙ ap (λ (c : Nursery). set h.chunks lane c) (sym chunk_is);
        buffers = buffers-same h.buffers lane;
        space = refl;
        pages = λ page off. (refl, refl);
        roots = refl;
        slots = λ q off less. slots-other h.roots hs lane p q (Ref to) held slot off less;
        chunk = chunk_is ∙ ap (λ (os : List ChunkObject). record (own_chunk h lane) { objects = os }) (sym (ap (λ (x : Nursery). x.objects) chunk_is));
        capacity = refl;
        unrecorded = λ none. (refl, refl);
      };
      recorded = (refl, refl);
      changed = inl (
        to.0,
        made-free h.space h.roots h.chunks chunks h.buffers hs lane head makes,
        refl,
        made-memory h.space h.roots h.chunks chunks h.buffers hs lane head makes,
      );
    })
  where
    head : Head
    head = record { lane = lane; serial = serial + 1; domain = p.domain; fields = n }

    fits : FitsHead head
    fits = record { lane = lanes; serial = serials; domain = (let few_domains = ready.few_domains in omega arith); fields = omega arith }

    to : Address
    to = record { 0 = nursery.chunk_end (own_chunk h lane) }

    root : RootWords
    root = with_root h.roots p (Ref to)

    root_is : roots ≡ root
    root_is = written ∙ ap (λ (k : ℕ). let a : Address = record { 0 = k } in with_root h.roots p (Ref a)) at

    chunk_is : chunk_of chunks lane ≡ with_young_object (own_chunk h lane) head
    chunk_is = chunk_of-set h.chunks chunks lane (with_young_object (own_chunk h lane) head) ready.lane_within is

    makes : MakesYoung h.space h.roots h.chunks chunks h.buffers hs lane head
    makes = record {
      run = ready.running;
      lane_within = ready.lane_within;
      whole = ready.whole;
      apart = ready.apart;
      room = room;
      within = (let same = ready.running.closed.domains in omega arith);
      held = held;
      chunks = is;
    }

    own : IsOwn h.space (chunk_for chunks (holder_of hs p.domain)) (Ref to)
    own = λ a e. inr (subst (λ (x : Address). has_object (chunk_for chunks (holder_of hs p.domain)) x.0 ≡ true) (one_address to a e)
        (subst (λ (x : Holder). has_object (chunk_for chunks x) to.0 ≡ true) (sym held)
        (has-new h.space h.roots h.chunks chunks h.buffers hs lane head makes)))
      where
        one_address : (x y : Address) → Ref x ≡ Ref y → x ≡ y
        one_address x y f = cc
