-- Parts that an engine can go on with stand for a state, and what an engine that goes on with them stands for.
use Rattle.std.proofs.Common.{◌≡◌, ℕ, ◌+◌, ◌-◌, ◌*◌, ◌/◌, ◌%◌, ◌^◌, ◌<◌, ◌≤◌, ◌==◌, Bool, true, false, if◌then◌else◌, List, [], ◌∷◌, length, map, get_or, option_map, Some, None, refl, sym, ◌∙◌, ap, subst, inl, inr, arith}
use Prim.Native.Nat.{suc}
use Rattle.std.proofs.Math.Path.{fun_ext}
use Rattle.std.proofs.Math.ListN.{get_or-map}
use Rattle.std.proofs.lemmas.Bool.{cases_lt, cases_Bool}
use Rattle.std.proofs.lemmas.List.{get_or_past, length-map}
use Rattle.bc_image.proofs.HasState.{AreInRange, IsClosedWord, IsNumberWord, IsWhole, birth_on, found_below, made-state, made_in, mapped-at, numbers-length, stands-for, value_of}
use Rattle.bc_memory.specs.Memory.{Cell, Memory}
use Rattle.bc_model.specs.State.{Object, State, holder_of, made_by, numbers_below}
use Rattle.bc_model.specs.declared.traces.Setup.{Setup}
use Rattle.bc_model.specs.declared.values.Birth.{Birth}
use Rattle.bc_model.specs.declared.values.Holder.{Holder}
use Rattle.bc_standing.specs.Standing.{AllBorn, StandsFor, birth_of, births}
use Rattle.bc_standing.proofs.Homes.{births-cell}
use Rattle.bc_superpages.specs.Kept.{IsLayout}
use Rattle.bc_superpages.specs.Layout.{Layout, superpages, content_at, is_cell}
use Rattle.bc_superpages.specs.LayoutAt.{IsAllocated, word_at}
use Rattle.bc_superpages.specs.Memory.{cell_at, memory}
use Rattle.bc_superpages.specs.RootSlots.{root_place}
use Rattle.bc_superpages.specs.RootWords.{RootWords}
use Rattle.bc_superpages.proofs.CellLemmas.{is_cell-bit}
use Rattle.bc_superpages.proofs.HandLemmas.{allocated-few, allocated-object, allocated-superpage, field-page}
use Rattle.bc_superpages.proofs.MemoryLemmas.{memory_of-cell, memory_of-none}
use Rattle.bc_whole_heap.specs.Closed.{buffer_of}
use Rattle.bc_whole_heap.specs.Heaps.{end_of, heap_memory, root_words, young}
use Rattle.bc_whole_heap.specs.HeapFacts.{AreChunks, view_of}
use Rattle.bc_whole_heap.specs.Running.{IsRunning}
use Rattle.bc_whole_heap.specs.LaneChunks.{chunk_of}
use Rattle.bc_whole_heap.specs.LaneStates.{StandsAs}
use Rattle.bc_whole_heap.proofs.ChunkLemmas.{object_in-none}
use Rattle.bc_whole_heap.proofs.ClosedLemmas.{root-word}
use Rattle.bc_whole_heap.proofs.HeapLemmas.{memory-above, memory-below}
use Rattle.bc_nursery.specs.Entries.{Entries}
use Rattle.bc_nursery.specs.Nurseries.{Nursery}
use Rattle.bc_nursery.specs.Objects.{has_object}
use Rattle.bc_word.specs.Addresses.{offset_of, page_of}
use Rattle.bc_word.specs.Heads.{fields_of_bits}
use Rattle.bc_word.specs.WordBits.{IsPacked}
use Rattle.bc_word.specs.Words.{word_of_bits}
use Rattle.bc_word.specs.declared.addresses.Address.{Address}
use Rattle.bc_word.specs.declared.words.Word.{Word}
use Rattle.bc_word.specs.declared.words.Word.TheVariants.{Nil, Num, Ref}
use Rattle.bc_word.proofs.WordsLemmas.{get_or-words_from, length-words_from}
use Rattle.bc_model.proofs.Holders.{IsHolder-as_many}
use Rattle.bc_engine.specs.Parts.{CanAdopt, PartsStand}

-- ---- what lies in a space, and nothing in chunks

pub none-in : (c : Nursery) (a : ℕ) → c.objects ≡ [] → has_object c a ≡ false
none-in c a none = grind (arith, none)

pub empty-memory : (s : Layout) (chunks : List Nursery) → IsLayout s → ((l : ℕ) → (chunk_of chunks l).objects ≡ []) → heap_memory s chunks ≡ memory s
empty-memory s chunks kept empty = fun_ext (λ a. elim (cases_lt a (end_of s)) [
  | inl below ↦ memory-below s chunks a below
  | inr above ↦
      memory-above s chunks a above
      ∙ ap (option_map young) (object_in-none chunks a (λ k lt. none-in (chunk_of chunks k) a (empty k)))
      ∙ sym (memory_of-none s.classes s.cells s.pages a (beyond s a kept above))
])
  where
    beyond : (t : Layout) (b : ℕ) → IsLayout t → end_of t ≤ b → is_cell t.classes t.cells b ≡ false
    beyond t b k le = elim (cases_Bool (is_cell t.classes t.cells b)) [
      | inl on ↦ absurd (let lt = allocated-superpage t b k on in omega arith)
      | inr off ↦ off
    ]

-- ---- objects of a space

pub cell-there : (s : Layout) (a : ℕ) (c : Cell) → memory s a ≡ Some c → IsAllocated s a × (c ≡ cell_at s.pages a)
cell-there s a c there = elim (cases_Bool (is_cell s.classes s.cells a)) [
  | inl on ↦ (on, (let e : Some (cell_at s.pages a) ≡ Some c = sym (memory_of-cell s.classes s.cells s.pages a on) ∙ there in cc))
  | inr off ↦ absurd (let e : None ≡ Some c = sym (memory_of-none s.classes s.cells s.pages a off) ∙ there in cc)
]

birth-there : (s : Layout) (a : ℕ) → IsAllocated s a → (b : Birth) × (births (memory s) a ≡ Some b)
birth-there s a on = (birth_of (cell_at s.pages a).head, ap (option_map (λ (c : Cell). birth_of c.head)) (memory_of-cell s.classes s.cells s.pages a on))

pub birth-allocated : (s : Layout) (a : ℕ) (b : Birth) → births (memory s) a ≡ Some b → IsAllocated s a
birth-allocated s a b is = (let c = births-cell (memory s) a b is in (cell-there s a c.0 c.1).0)

word-closed : (s : Layout) (w : Word) → ((a : Address) → w ≡ Ref a → IsAllocated s a.0) → IsClosedWord (memory s) w
word-closed s Nil h = tt
word-closed s (Num n) h = tt
word-closed s (Ref a) h = birth-there s a.0 (h a refl)

bits-nil : word_of_bits 0 ≡ Nil
unfolding word_of_bits
bits-nil = refl

number-word : (n : ℕ) (t0 t1 : Bool) → n < 2 ^ 64 → IsNumberWord (if t0 then Nil else if t1 then Num (n / 2) else Ref (record { 0 = n / 2 - 1 }))
number-word n true t1 lt = tt
number-word n false true lt = omega arith
number-word n false false lt = tt

bits-number : (n : ℕ) → n < 2 ^ 64 → IsNumberWord (word_of_bits n)
unfolding word_of_bits
bits-number n lt = number-word n (n == 0) (n % 2 == 1) lt

nil-ref : {a : Address} → Nil ≡ Ref a → ⊥
nil-ref e = cc

-- the superpage of an object is in use for the object's domain
pub record OfSuperpage (s : Layout) (c : Cell) : Type 0 where
  pub superpage : ℕ
  pub used : get_or s.used superpage false ≡ true
  pub domain : get_or s.domains superpage 0 ≡ c.head.domain

pub of-superpage : (s : Layout) (a : ℕ) (c : Cell) → IsLayout s → memory s a ≡ Some c → OfSuperpage s c
of-superpage s a c k there =
    let at = cell-there s a c there in
    let lt = allocated-superpage s a k at.0 in
    let object = allocated-object s a k at.0 in
    record {
      superpage = a / 2048;
      used = ((k.each (a / 2048) lt).cells_used _ (is_cell-bit s.classes s.cells a at.0)).0;
      domain = sym object.of_domain ∙ ap (λ (x : Cell). x.head.domain) (sym at.1);
    }

-- a word of an object has bits
pub packed-field : (s : Layout) (a : ℕ) (i : ℕ) → IsLayout s → IsAllocated s a → IsNumberWord (get_or (cell_at s.pages a).fields i Nil)
packed-field s a i k on = elim (cases_lt i (fields_of_bits (word_at s.pages a))) [
  | inl lt ↦
      let object = allocated-object s a k on in
      let page = field-page s a i k on lt in
      let few = allocated-few s a k on in
      let offset : offset_of (a + 1 + i) ≡ offset_of a + 1 + i = (let same : (a + 1 + i) / 512 ≡ a / 512 = page in omega arith) in
      let word : word_at s.pages (a + 1 + i) ≡ get_or (content_at s.pages (page_of a)) (offset_of a + 1 + i) 0 =
      ap (λ (p : ℕ). get_or (content_at s.pages p) (offset_of (a + 1 + i)) 0) page ∙ ap (λ (o : ℕ). get_or (content_at s.pages (page_of a)) o 0) offset in
      let is : get_or (cell_at s.pages a).fields i Nil ≡ word_of_bits (word_at s.pages (a + 1 + i)) =
      get_or-words_from (content_at s.pages (page_of a)) (offset_of a + 1) (fields_of_bits (word_at s.pages a)) i Nil lt ∙ ap word_of_bits (sym word) in
      subst IsNumberWord (sym is) (bits-number (word_at s.pages (a + 1 + i)) (object.fields i lt).0)
  | inr past ↦
      let long : length (cell_at s.pages a).fields ≡ fields_of_bits (word_at s.pages a) = length-words_from (content_at s.pages (page_of a)) (offset_of a + 1) (fields_of_bits (word_at s.pages a)) in
      subst IsNumberWord (sym (get_or_past (cell_at s.pages a).fields i Nil (omega (arith, past, long)))) tt
]

-- ---- the state that the parts stand for

same-counts : (counts : List ℕ) (mss : List (List Object)) → length counts ≡ length mss → ((j : ℕ) → j < length counts → length (made_by mss j) ≡ get_or counts j 0) → map (λ (made : List Object). length made) mss ≡ counts
same-counts [] [] long at = refl
same-counts [] (ms ∷ mss) long at = absurd (omega arith)
same-counts (n ∷ counts) [] long at = absurd (omega arith)
same-counts (n ∷ counts) (ms ∷ mss) long at =
    let first = at 0 (omega arith) in
    let rest = same-counts counts mss (omega arith) (λ j lt. at (suc j) (omega arith)) in
    ap (λ (x : ℕ). x ∷ map (λ (made : List Object). length made) mss) first ∙ ap (λ (xs : List ℕ). n ∷ xs) rest

module _ (setup : Setup) (holders : List Holder) (serials : List ℕ) (r : RootWords) (s : Layout) (can : CanAdopt setup holders serials r s) (kept : IsLayout s) where
  whole : IsWhole (memory s) (root_words r) setup.lanes (2048 * superpages s) serials
  whole = record {
    roots_closed = λ i. word-closed s (get_or (root_words r) i Nil) (λ a e. elim (cases_lt i (length r.words)) [
      | inl lt ↦ can.root i a lt (sym (root-word r i) ∙ e)
      | inr past ↦ absurd (nil-ref (sym (get_or_past (root_words r) i Nil (omega (arith, past, length-map r.words word_of_bits))) ∙ e))
    ]);
    fields_closed = λ a c there i. word-closed s (get_or c.fields i Nil) (λ b e. can.field a i c b there e);
    fields_counted = λ a c there.
        let at = cell-there s a c there in
        subst (λ (x : Cell). x.head.fields ≡ length x.fields) (sym at.1) (sym (length-words_from (content_at s.pages (page_of a)) (offset_of a + 1) (fields_of_bits (word_at s.pages a))));
    once = can.once;
    below = λ a b is. (let lt = allocated-superpage s a kept (birth-allocated s a b is) in omega arith);
    lane = λ a b is. (let lt = (can.born a b is).lane in let n = can.lanes in omega arith);
    serial = λ a b is. ((can.born a b is).positive, (can.born a b is).serial);
  }

  range : ((k : ℕ) → IsPacked (get_or r.words k 0)) → AreInRange (memory s) (root_words r) (length holders)
  range packed = record {
    roots = λ i. subst IsNumberWord (sym (root-word r i)) (bits-number (get_or r.words i 0) (packed i).0);
    numbers = λ a c there i. (let at = cell-there s a c there in subst (λ (x : Cell). IsNumberWord (get_or x.fields i Nil)) (sym at.1) (packed-field s a i kept at.0));
    domains = λ a c there.
        let of = of-superpage s a c kept there in
        let lt = can.used of.superpage of.used in
        let same = of.domain in
        let n = can.domains in
        omega (arith, lt, same, n);
    fields = λ a c there.
        let at = cell-there s a c there in
        let long : length (cell_at s.pages a).fields ≡ fields_of_bits (word_at s.pages a) = length-words_from (content_at s.pages (page_of a)) (offset_of a + 1) (fields_of_bits (word_at s.pages a)) in
        subst (λ (x : Cell). length x.fields ≤ 127) (sym at.1) (omega (arith, long));
  }

  abbrev pub adopted_state : State
  adopted_state = record {
    width = setup.slots;
    made = made_in (memory s) (2048 * superpages s) setup.lanes serials;
    slots = map (value_of (memory s)) (root_words r);
    holders = holders;
  }

  lanes-made : length (made_in (memory s) (2048 * superpages s) setup.lanes serials) ≡ setup.lanes
  lanes-made = length-map (numbers_below setup.lanes) _ ∙ numbers-length setup.lanes

  counts-at : (j : ℕ) → j < setup.lanes → length (made_by (made_in (memory s) (2048 * superpages s) setup.lanes serials) j) ≡ get_or serials j 0
  counts-at j lt =
      ap length (mapped-at (λ i. map (λ n. found_below (memory s) (birth_on i n) (2048 * superpages s)) (numbers_below (get_or serials i 0))) setup.lanes j [] lt)
      ∙ length-map (numbers_below (get_or serials j 0)) (λ n. found_below (memory s) (birth_on j n) (2048 * superpages s)) ∙ numbers-length (get_or serials j 0)

  pub parts-stand : ((k : ℕ) → IsPacked (get_or r.words k 0)) → length r.words ≡ r.domains * r.slots → PartsStand setup holders serials r s adopted_state
  parts-stand packed long =
      let lanes = can.range.lanes.1 in
      let domains = can.range.domains in
      let some = domains.0 in
      let few = domains.1 in
      let slots = can.range.slots.1 in
      let count = can.domains in
      record {
        consistent = made-state (memory s) (root_words r) setup.lanes (2048 * superpages s) serials whole setup.slots holders lanes (omega arith) (omega arith) slots
            (length-map r.words word_of_bits ∙ long ∙ ap (λ (n : ℕ). n * r.slots) can.rooted ∙ ap (λ (n : ℕ). setup.domains * n) can.slots ∙ turned setup.domains setup.slots ∙ ap (λ (n : ℕ). setup.slots * n) (sym can.domains))
            (range packed) can.holder;
        stands = stands-for (memory s) (root_words r) setup.lanes (2048 * superpages s) serials whole;
        sizes = record { lanes = lanes-made; domains = can.domains; slots = refl };
        held = refl;
        made = same-counts serials (made_in (memory s) (2048 * superpages s) setup.lanes serials) (can.lanes ∙ sym lanes-made) (λ j lt. counts-at j (let n = can.lanes in omega arith));
      }
    where
      turned : (x y : ℕ) → x * y ≡ y * x
      turned x y = omega arith

  -- ---- what an engine stands for that goes on with them

  module _ (chunks : List Nursery) (buffers : List Entries) (empty : (l : ℕ) → (chunk_of chunks l).objects ≡ []) where
    pub bare-memory : heap_memory s chunks ≡ memory s
    bare-memory = empty-memory s chunks kept empty

    pub stands-adopted : length chunks ≡ setup.lanes → (state : State) → PartsStand setup holders serials r s state → StandsAs (view_of s r chunks buffers) holders serials state
    stands-adopted count state st = record {
      consistent = st.consistent;
      stands = subst (λ (m : Memory). StandsFor m (root_words r) state) (sym bare-memory) st.stands;
      born = subst (λ (m : Memory). AllBorn m state.made) (sym bare-memory) (λ a b is.
          let from = can.born a b is in
          let lane = from.lane in
          let serial = from.serial in
          let long : length state.made ≡ length serials = sym (length-map state.made (λ (objects : List Object). length objects)) ∙ ap length st.made in
          let at : get_or serials b.lane 0 ≡ length (made_by state.made b.lane) =
          ap (λ (ns : List ℕ). get_or ns b.lane 0) (sym st.made) ∙ get_or-map (λ (objects : List Object). length objects) state.made b.lane [] in
          record { lane = omega (arith, lane, long); positive = from.positive; serial = omega (arith, serial, at) });
      held = st.held;
      births = st.made;
      domains = can.rooted ∙ sym can.domains ∙ ap length (sym st.held);
      slots = can.slots ∙ sym st.sizes.slots;
      lanes = count ∙ sym st.sizes.lanes;
    }

    pub runs-adopted : length chunks ≡ setup.lanes → length buffers ≡ setup.lanes → ((l : ℕ) → (buffer_of buffers l).entries ≡ []) → (words : ℕ) → AreChunks (end_of s) words chunks
        → IsRunning (view_of s r chunks buffers) holders
    runs-adopted count buffered bare words laid = record {
      summarised = can.summarised;
      none_promised = can.none_promised;
      laid = (words, laid);
      once = subst (λ (m : Memory). (a x : ℕ) → (b : Birth) → births m a ≡ Some b → births m x ≡ Some b → a ≡ x) (sym bare-memory) can.once;
      closed = record {
        lanes = buffered ∙ sym count;
        domains = can.domains ∙ sym can.rooted;
        holder = λ d lt. IsHolder-as_many _ _ (holder_of holders d) count (can.holder d lt);
        root = λ d t a in_domains in_slots is. inl (root-allocated (root_place r d t) a is);
        noted = λ k a lt is. inl (can.root k a lt is);
        young_domain = λ l a lt on. absurd (true-false (sym on ∙ none-in (chunk_of chunks l) a (empty l)));
        young = λ l a k b lt on is. absurd (true-false (sym on ∙ none-in (chunk_of chunks l) a (empty l)));
        mature_domain = λ a c there.
            let of = of-superpage s a c kept there in
            let lt = can.used of.superpage of.used in
            let same = of.domain in
            let n = can.domains in
            omega (arith, lt, same, n);
        mature = λ a k c b there is. inl (can.field a k c b there is);
        entries = λ l i lt less. absurd (omega (arith, less, ap length (bare l)));
      };
    }
      where
        true-false : true ≡ false → ⊥
        true-false e = cc

        root-allocated : (k : ℕ) (a : Address) → word_of_bits (get_or r.words k 0) ≡ Ref a → IsAllocated s a.0
        root-allocated k a is = elim (cases_lt k (length r.words)) [
          | inl lt ↦ can.root k a lt is
          | inr past ↦ absurd (nil-ref (sym bits-nil ∙ ap word_of_bits (sym (get_or_past r.words k 0 past)) ∙ is))
        ]
