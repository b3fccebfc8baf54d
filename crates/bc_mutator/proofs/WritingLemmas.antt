-- A field of an object is written.
use Rattle.bc_model.specs.declared.values.Holder.{Holder}
use Rattle.bc_model.specs.State.{holder_of}
use Rattle.bc_model.specs.declared.values.Holder.TheVariants as holder
use Rattle.std.proofs.Common.{◌≡◌, ◌≢◌, ℕ, ◌+◌, ◌-◌, ◌/◌, ◌<◌, ◌==◌, true, false, List, [], length, map, get_or, set, Option, Some, is_some, refl, sym, ap, subst, ◌∙◌, inl, inr, arith, get_or-set_other, length-set}
use Rattle.std.proofs.Math.Seq.{map-set_same}
use Rattle.std.proofs.lemmas.List.{set-get_or}
use Rattle.std.specs.List.{find}
use Rattle.bc_whole_heap.specs.Heaps.{HeapView}
use Rattle.bc_whole_heap.specs.HeapFacts.{view_of}
use Rattle.bc_whole_heap.specs.Closed.{no_buffer, buffer_of}
use Rattle.bc_whole_heap.specs.Heaps.{end_of, heap_memory, root_words}
use Rattle.bc_whole_heap.specs.Running.{IsRunning}
use Rattle.bc_whole_heap.specs.LaneStates.{StandsAs}
use Rattle.bc_whole_heap.proofs.ChunkLemmas.{chunk_of-set}
use Rattle.bc_memory.specs.Memory.{Cell, Memory}
use Rattle.bc_memory.specs.MemoryChanges.{with_cell}
use Rattle.bc_memory.specs.MemoryChanges as memory
use Rattle.bc_model.specs.Reached.{Reached}
use Rattle.bc_model.specs.State.{State, Object, object_of, slot_of, with_born, with_value, with_born_field, made_by}
use Rattle.bc_model.specs.Step.{act}
use Rattle.bc_model.specs.declared.operations.Op.{Op}
use Rattle.bc_model.specs.declared.operations.Reply.{Reply}
use Rattle.bc_model.specs.declared.operations.Reply.TheVariants.{Done}
use Rattle.bc_model.specs.declared.values.Birth.{Birth}
use Rattle.bc_model.specs.declared.values.Slot.{Slot}
use Rattle.bc_model.specs.declared.values.Value.{Value}
use Rattle.bc_model.proofs.States.{IsState-with_field}
use Rattle.bc_nursery.specs.Entries.{Entries}
use Rattle.bc_nursery.specs.Objects.{has_object, changed}
use Rattle.bc_nursery.specs.Nurseries.{ChunkObject, Nursery}
use Rattle.bc_nursery.specs.Objects as nursery
use Rattle.bc_standing.specs.Standing.{birth_of, births, Stands, AllBorn}
use Rattle.bc_standing.proofs.Homes.{births-there}
use Rattle.bc_standing.proofs.Moving.{AllBorn-set}
use Rattle.bc_standing.proofs.Writing.{Stands-set}
use Rattle.bc_nursery.proofs.ObjectLemmas.{IsChunk-changed, IsWhole-field}
use Rattle.bc_superpages.specs.declared.headers.PageState.{PageState}
use Rattle.bc_superpages.specs.Calls.{fields_at}
use Rattle.bc_superpages.specs.Kept.{IsLayout}
use Rattle.bc_superpages.specs.Layout.{Layout, content_at}
use Rattle.bc_superpages.specs.LayoutAt.{IsAllocated, word_at, state_at, with_word}
use Rattle.bc_superpages.proofs.HandLemmas.{allocated-object, field-page}
use Rattle.bc_superpages.proofs.MemoryLemmas.{memory_of-cell}
use Rattle.bc_superpages.specs.Memory as space
use Rattle.bc_superpages.specs.RootWords.{RootWords}
use Rattle.bc_word.proofs.WordsLemmas.{length-words_from}
use Rattle.bc_word.specs.Addresses.{page_of, offset_of, superpage_of}
use Rattle.bc_word.specs.Heads.{fields_of_bits}
use Rattle.bc_word.specs.WordBits.{FitsWord, word_bits}
use Rattle.bc_word.specs.declared.addresses.Address.{Address}
use Rattle.bc_word.specs.declared.words.Word.{Word}
use Rattle.bc_mutator.specs.Effects.{HasRecorded, RefersBehind, Records, WroteMature, WroteYoung, Wrote, Writes, HasChanged, Leaves, Answers, DidAct}
use Rattle.bc_mutator.specs.Objects.{AreWhole, MayOperate, IsRead, IsOwn, IsOwnOfLane, ActsOnOwnField, RefusesOwnField, whole_memory, own_chunk, cell_of, slot_word}
use Rattle.bc_mutator.proofs.LayoutLemmas.{IsLayout-field, IsLayout-remembered}
use Rattle.bc_mutator.proofs.MatureLemmas.{MatureWrite, mature-memory, mature-births, mature-running}
use Rattle.bc_mutator.proofs.MeaningLemmas.{read-ref}
use Rattle.bc_mutator.proofs.ObjectLemmas.{there-below, there-above, cell_of-below, memory-there}
use Rattle.bc_mutator.proofs.RootLemmas.{buffers-same, chunks-same, value-held, same_serials}
use Rattle.bc_mutator.proofs.TellingLemmas.{word-read}
use Rattle.bc_mutator.proofs.YoungLemmas.{YoungWrite, young-memory, young-births, young-running, chunks-whole}

-- a field that a lane may write
pub record CanWrite (h : HeapView) (hs : List Holder) (lane : ℕ) (target : Word) (at : Address) (index : ℕ) (word : Word) : Type 0 where
  pub ready : MayOperate h hs lane
  pub mine : IsOwnOfLane h hs lane target at
  pub less : index < (cell_of h.space (own_chunk h lane) at.0).head.fields
  pub own : IsOwn h.space (own_chunk h lane) word

-- the cell of such a field
pub record OwnCell (h : HeapView) (hs : List Holder) (lane : ℕ) (at : Address) (index : ℕ) : Type 0 where
  pub on : IsAllocated h.space at.0
  pub held : holder_of hs (space.cell_at h.space.pages at.0).head.domain ≡ holder.Lane lane
  pub less : index < length (space.cell_at h.space.pages at.0).fields

pub own-cell : (h : HeapView) (hs : List Holder) (lane : ℕ) (target : Word) (at : Address) (index : ℕ) (word : Word) → CanWrite h hs lane target at index word → at.0 < end_of h.space → OwnCell h hs lane at index
own-cell h hs lane target at index word can below =
    let is = cell_of-below h.space (own_chunk h lane) at.0 below in
    let few : index < (space.cell_at h.space.pages at.0).head.fields = subst (λ (x : Cell). index < x.head.fields) is can.less in
    let long = length-words_from (content_at h.space.pages (page_of at.0)) (offset_of at.0 + 1) (fields_of_bits (word_at h.space.pages at.0)) in
    record {
      on = there-below h.space (own_chunk h lane) at.0 can.ready.behind can.mine.of.there below;
      held = subst (λ (x : Cell). holder_of hs x.head.domain ≡ holder.Lane lane) is can.mine.own;
      less = omega arith;
    }

mature-write : (h k : HeapView) (hs : List Holder) (lane : ℕ) (target : Word) (at : Address) (index : ℕ) (word : Word) → CanWrite h hs lane target at index word → WroteMature h k lane at index word → MatureWrite h.space k.space h.roots h.chunks h.buffers k.buffers hs lane at index word
mature-write h k hs lane target at index word can wrote =
    let own = own-cell h hs lane target at index word can wrote.below in
    record {
      run = can.ready.running;
      lane_within = can.ready.lane_within;
      lies_behind = can.ready.behind;
      on = own.on;
      held = own.held;
      less = own.less;
      own = can.own;
      wrote = wrote.cell;
      buffers = wrote.buffers;
    }

young-write : (h k : HeapView) (hs : List Holder) (lane : ℕ) (target : Word) (at : Address) (index : ℕ) (word : Word) → CanWrite h hs lane target at index word → WroteYoung h k lane at index word → YoungWrite h.space h.roots h.chunks k.chunks h.buffers hs lane at.0 index word
young-write h k hs lane target at index word can wrote = record {
  run = can.ready.running;
  lane_within = can.ready.lane_within;
  layout = can.ready.layout;
  apart = can.ready.apart;
  behind = wrote.behind;
  on = there-above h.space (own_chunk h lane) at.0 can.ready.layout can.mine.of.there wrote.behind;
  own = can.own;
  chunks = wrote.chunks;
}

-- the heap as a memory after the write
pub written-memory : (h k : HeapView) (hs : List Holder) (lane : ℕ) (target : Word) (at : Address) (index : ℕ) (word : Word) → CanWrite h hs lane target at index word → Wrote h k lane at index word → whole_memory k ≡ with_cell (whole_memory h) at.0 (Some (memory.with_field (cell_of h.space (own_chunk h lane) at.0) index word))
written-memory h k hs lane target at index word can (inl wrote) =
    ap whole_memory wrote.rest
    ∙ mature-memory h.space k.space h.roots h.chunks h.buffers k.buffers hs lane at index word (mature-write h k hs lane target at index word can wrote) can.ready.layout
written-memory h k hs lane target at index word can (inr wrote) =
    ap whole_memory wrote.rest
    ∙ young-memory h.space h.roots h.chunks k.chunks h.buffers hs lane at.0 index word (young-write h k hs lane target at index word can wrote)

pub written-births : (h k : HeapView) (hs : List Holder) (lane : ℕ) (target : Word) (at : Address) (index : ℕ) (word : Word) → CanWrite h hs lane target at index word → Wrote h k lane at index word → births (whole_memory k) ≡ births (whole_memory h)
written-births h k hs lane target at index word can (inl wrote) =
    ap (λ (x : HeapView). births (whole_memory x)) wrote.rest
    ∙ mature-births h.space k.space h.roots h.chunks h.buffers k.buffers hs lane at index word (mature-write h k hs lane target at index word can wrote) can.ready.layout can.ready.apart
written-births h k hs lane target at index word can (inr wrote) =
    ap (λ (x : HeapView). births (whole_memory x)) wrote.rest
    ∙ young-births h.space h.roots h.chunks k.chunks h.buffers hs lane at.0 index word (young-write h k hs lane target at index word can wrote)

-- it runs on
pub written-runs : (h k : HeapView) (hs : List Holder) (lane : ℕ) (target : Word) (at : Address) (index : ℕ) (word : Word) → CanWrite h hs lane target at index word → Wrote h k lane at index word → IsRunning k hs
written-runs h k hs lane target at index word can (inl wrote) =
    subst (λ (x : HeapView). IsRunning x hs) (sym wrote.rest)
    (mature-running h.space k.space h.roots h.chunks h.buffers k.buffers hs lane at index word (mature-write h k hs lane target at index word can wrote) can.ready.layout can.ready.apart)
written-runs h k hs lane target at index word can (inr wrote) =
    subst (λ (x : HeapView). IsRunning x hs) (sym wrote.rest)
    (young-running h.space h.roots h.chunks k.chunks h.buffers hs lane at.0 index word (young-write h k hs lane target at index word can wrote))

-- a chunk without objects is referred to by nobody
none-young : (c : Nursery) (a : ℕ) → c.objects ≡ [] → has_object c a ≡ true → ⊥
none-young c a none on = no (sym on ∙ ap (λ (os : List ChunkObject). is_some (find (λ o. o.address == a) os)) none)
  where
    no : true ≡ false → ⊥
    no e = cc

pub refers-young : (h : HeapView) (hs : List Holder) (lane : ℕ) (word : Word) → MayOperate h hs lane → IsOwn h.space (own_chunk h lane) word → (b : RefersBehind h.space word) → has_object (own_chunk h lane) b.to.0 ≡ true
refers-young h hs lane word ready own b = there-above h.space (own_chunk h lane) b.to.0 ready.layout (own b.to b.refers) b.behind

-- it leaves the rest
mature-capacity : (s t : Layout) (b e : Entries) (at : Address) (index : ℕ) (word : Word) → Records s t b e at index word → e.capacity ≡ b.capacity
mature-capacity s t b e at index word (inl r) = ap (λ (x : Entries). x.capacity) r.1.0
mature-capacity s t b e at index word (inr r) = ap (λ (x : Entries). x.capacity) r.1.0

mature-unrecorded : (h k : HeapView) (hs : List Holder) (lane : ℕ) (at : Address) (index : ℕ) (word : Word) → MayOperate h hs lane → IsOwn h.space (own_chunk h lane) word → k.buffers ≡ set h.buffers lane (buffer_of k.buffers lane) → (own_chunk h lane).objects ≡ [] → Records h.space k.space (buffer_of h.buffers lane) (buffer_of k.buffers lane) at index word → (k.buffers ≡ h.buffers) × (k.space.states ≡ h.space.states)
mature-unrecorded h k hs lane at index word ready own buffers none (inl r) = (
  buffers ∙ ap (λ (x : Entries). set h.buffers lane x) r.1.0 ∙ set-get_or h.buffers lane no_buffer,
  r.1.1,
)
mature-unrecorded h k hs lane at index word ready own buffers none (inr r) =
    absurd (none-young (own_chunk h lane) r.0.to.0 none (refers-young h hs lane word ready own r.0))

-- a page of no domain that the lane holds isn't the cell's
page-apart : (h : HeapView) (hs : List Holder) (lane : ℕ) (at : Address) (index page : ℕ) → MayOperate h hs lane → OwnCell h hs lane at index
    → (get_or h.space.domains (page / 4) 0 < length hs → holder_of hs (get_or h.space.domains (page / 4) 0) ≢ holder.Lane lane) → page ≢ page_of at.0
page-apart h hs lane at index page ready own off e =
    let same : page / 4 ≡ superpage_of at.0 = omega arith in
    let domain : (space.cell_at h.space.pages at.0).head.domain ≡ get_or h.space.domains (page / 4) 0 =
    (allocated-object h.space at.0 ready.layout own.on).of_domain ∙ sym (ap (λ (q : ℕ). get_or h.space.domains q 0) same) in
    let within = ready.running.closed.mature_domain at.0 (space.cell_at h.space.pages at.0) (memory_of-cell h.space.classes h.space.cells h.space.pages at.0 own.on) in
    off (subst (λ (d : ℕ). d < length hs) domain within) (sym (ap (λ (d : ℕ). holder_of hs d) domain) ∙ own.held)

own-within : (h : HeapView) (hs : List Holder) (lane : ℕ) (at : Address) (index : ℕ) → OwnCell h hs lane at index → index < fields_at h.space at.0
own-within h hs lane at index own =
    let long = length-words_from (content_at h.space.pages (page_of at.0)) (offset_of at.0 + 1) (fields_of_bits (word_at h.space.pages at.0)) in
    let less = own.less in
    omega arith

state-elsewhere : (s t : Layout) (b e : Entries) (at : Address) (index page : ℕ) (word : Word) → page ≢ page_of at.0 → Records s t b e at index word → state_at t.states page ≡ state_at s.states page
state-elsewhere s t b e at index page word apart (inl r) = ap (λ (x : List (List PageState)). state_at x page) r.1.1
state-elsewhere s t b e at index page word apart (inr r) = r.1.1.others page apart

content-elsewhere : (h : HeapView) (hs : List Holder) (lane : ℕ) (at : Address) (index page : ℕ) (t : Layout) (word : Word) → IsLayout h.space → OwnCell h hs lane at index → page ≢ page_of at.0 → t.pages ≡ with_word h.space.pages (at.0 + 1 + index) (word_bits word) → content_at t.pages page ≡ content_at h.space.pages page
content-elsewhere h hs lane at index page t word k own apart words =
    let here = field-page h.space at.0 index k own.on (own-within h hs lane at index own) in
    let to = at.0 + 1 + index in
    ap (λ (ps : List (List ℕ)). content_at ps page) words
    ∙ get_or-set_other h.space.pages (page_of to) page (set (content_at h.space.pages (page_of to)) (offset_of to) (word_bits word)) [] (λ e. apart (e ∙ here))

-- the space stays a layout, and the chunks stay chunks
states-layout : (s t : Layout) (b e : Entries) (at : Address) (index : ℕ) (word : Word) → Records s t b e at index word → IsLayout s → IsLayout (record s { states = t.states })
states-layout s t b e at index word (inl r) k = subst (λ (x : List (List PageState)). IsLayout (record s { states = x })) (sym r.1.1) k
states-layout s t b e at index word (inr r) k = subst (λ (x : List (List PageState)). IsLayout (record s { states = x })) (sym r.1.1.same) (IsLayout-remembered s (page_of at.0) k)

pub written-layout : (h k : HeapView) (hs : List Holder) (lane : ℕ) (target : Word) (at : Address) (index : ℕ) (word : Word) → CanWrite h hs lane target at index word → FitsWord word → Wrote h k lane at index word → IsLayout k.space
written-layout h k hs lane target at index word can fits (inl wrote) =
    let own = own-cell h hs lane target at index word can wrote.below in
    let s = record (h.space) { states = k.space.states } in
    let middle : IsLayout s = states-layout h.space k.space (buffer_of h.buffers lane) (buffer_of k.buffers lane) at index word wrote.cell.entry can.ready.layout in
    subst IsLayout (sym (wrote.cell.space ∙ ap (λ (ps : List (List ℕ)). record s { pages = ps }) wrote.cell.words))
    (IsLayout-field s at.0 index word middle own.on (own-within h hs lane at index own) fits)
written-layout h k hs lane target at index word can fits (inr wrote) = subst (λ (x : HeapView). IsLayout x.space) (sym wrote.rest) can.ready.layout

pub written-whole : (h k : HeapView) (hs : List Holder) (lane : ℕ) (target : Word) (at : Address) (index : ℕ) (word : Word) → CanWrite h hs lane target at index word → FitsWord word → Wrote h k lane at index word → AreWhole k.chunks
written-whole h k hs lane target at index word can fits (inl wrote) = subst (λ (x : HeapView). AreWhole x.chunks) (sym wrote.rest) can.ready.whole
written-whole h k hs lane target at index word can fits (inr wrote) =
    chunks-whole h.chunks k.chunks lane (changed (own_chunk h lane) at.0 (nursery.with_young_field index word)) can.ready.lane_within wrote.chunks
    (IsChunk-changed (own_chunk h lane) (nursery.with_young_field index word) at.0 (λ o. refl) (λ o. refl) (λ o whole. IsWhole-field o index word fits whole) (can.ready.whole lane can.ready.lane_within)) can.ready.whole

pub written-leaves : (h k : HeapView) (hs : List Holder) (lane : ℕ) (target : Word) (at : Address) (index : ℕ) (word : Word) → CanWrite h hs lane target at index word → Wrote h k lane at index word → Leaves hs lane h k
written-leaves h k hs lane target at index word can (inl wrote) = subst (λ (x : HeapView). Leaves hs lane h x) (sym wrote.rest) (record {
  chunks = chunks-same h.chunks lane;
  buffers = wrote.buffers;
  space = wrote.cell.space;
  pages = λ page off.
      let own = own-cell h hs lane target at index word can wrote.below in
      let apart = page-apart h hs lane at index page can.ready own off in (
        content-elsewhere h hs lane at index page k.space word can.ready.layout own apart wrote.cell.words,
        state-elsewhere h.space k.space (buffer_of h.buffers lane) (buffer_of k.buffers lane) at index page word apart wrote.cell.entry,
      );
  roots = refl;
  slots = λ p off less. refl;
  chunk = refl;
  capacity = mature-capacity h.space k.space (buffer_of h.buffers lane) (buffer_of k.buffers lane) at index word wrote.cell.entry;
  unrecorded = λ none. mature-unrecorded h k hs lane at index word can.ready can.own wrote.buffers none wrote.cell.entry;
})
written-leaves h k hs lane target at index word can (inr wrote) = subst (λ (x : HeapView). Leaves hs lane h x) (sym wrote.rest)
    (let d = changed (own_chunk h lane) at.0 (nursery.with_young_field index word) in
    let is = chunk_of-set h.chunks k.chunks lane d can.ready.lane_within wrote.chunks in
    record {
      chunks = wrote.chunks ∙ ap (λ (x : Nursery). set h.chunks lane x) (sym is);
      buffers = buffers-same h.buffers lane;
      space = refl;
      pages = λ page off. (refl, refl);
      roots = refl;
      slots = λ p off less. refl;
      chunk = is ∙ ap (λ (os : List ChunkObject). record (own_chunk h lane) { objects = os }) (sym (ap (λ (x : Nursery). x.objects) is));
      capacity = refl;
      unrecorded = λ none. (refl, refl);
    })

-- the heap stands for the state with the value in the object's field
births-same : (made : List (List Object)) (b : Birth) (o : Object) → map length (with_born made b o) ≡ map length made
births-same made b o =
    map-set_same length made b.lane (set (made_by made b.lane) (b.serial - 1) o) [] (length-set (made_by made b.lane) (b.serial - 1) o)

pub stands-field : {bs es : List Entries} (s t : Layout) (r : RootWords) (cs ds : List Nursery) (hs : List Holder) (serials : List ℕ) (state : State) (a i : ℕ) (c : Cell) (w : Word) (v : Value) → StandsAs (view_of s r cs bs) hs serials state → heap_memory t ds ≡ with_cell (heap_memory s cs) a (Some (memory.with_field c i w)) → heap_memory s cs a ≡ Some c → length ds ≡ length cs → Reached state.slots state.made (birth_of c.head) → FitsWord w → IsRead (heap_memory s cs) state w v → StandsAs (view_of t r ds es) hs serials (with_born_field state (birth_of c.head) i v)
stands-field s t r cs ds hs serials state a i c w v h is there long reached fits read =
    let b = birth_of c.head in
    let m = heap_memory s cs in
    let o : Object = with_value (object_of state.made b) i v in
    record {
      consistent = IsState-with_field state b i v h.consistent (h.born a b (births-there m a c there)) (value-held m (root_words r) state w v h.stands h.born fits read);
      stands = subst (λ (n : Memory). Stands n (root_words r) state.slots (with_born state.made b o)) (sym is)
          (Stands-set m (root_words r) state.slots state.made a i c w v h.stands h.born reached there read.value read.reached);
      born = subst (λ (n : Memory). AllBorn n (with_born state.made b o)) (sym is) (AllBorn-set m state.made a i c w o there h.born);
      held = h.held;
      births = births-same state.made b o ∙ h.births;
      domains = h.domains;
      slots = h.slots;
      lanes = long ∙ h.lanes ∙ sym (length-set state.made b.lane (set (made_by state.made b.lane) (b.serial - 1) o));
    }

written-roots : (h k : HeapView) (lane : ℕ) (at : Address) (index : ℕ) (word : Word) → Wrote h k lane at index word → k.roots ≡ h.roots
written-roots h k lane at index word (inl wrote) = ap (λ (x : HeapView). x.roots) wrote.rest
written-roots h k lane at index word (inr wrote) = ap (λ (x : HeapView). x.roots) wrote.rest

-- so an operation that writes a field is done
pub done-field : (h k : HeapView) (hs : List Holder) (lane serial : ℕ) (target : Word) (at : Address) (index : ℕ) (word : Word) (op : Op) (reply : Reply) → CanWrite h hs lane target at index word → Wrote h k lane at index word → FitsWord word → ((serials : List ℕ) → (state : State) → StandsAs h hs serials state → (v : Value) × IsRead (whole_memory h) state word v × Reached state.slots state.made (birth_of (cell_of h.space (own_chunk h lane) at.0).head) × (act state lane op ≡ (with_born_field state (birth_of (cell_of h.space (own_chunk h lane) at.0).head) index v, reply))) → HasRecorded h k hs lane op reply → HasChanged h k hs lane serial op reply → DidAct h k hs lane serial serial op reply
done-field h k hs lane serial target at index word op reply can wrote fits effect recorded changed =
    let leaves = written-leaves h k hs lane target at index word can wrote in
    let there = memory-there h.space h.chunks lane at.0 can.ready.layout can.ready.apart can.ready.lane_within can.mine.of.there in
    let is = written-memory h k hs lane target at index word can wrote in
    let same = written-births h k hs lane target at index word can wrote in
    record {
      step = λ serials state means e.
          let f = effect serials state means in (
            ap (λ (x : State × Reply). x.1) f.3,
            subst (λ (xs : List ℕ). StandsAs k hs xs (act state lane op).0) (sym (same_serials serials lane serial e))
                (subst (λ (x : State). StandsAs k hs serials x) (sym (ap (λ (x : State × Reply). x.0) f.3))
                (subst (λ (r : RootWords). StandsAs (view_of k.space r k.chunks k.buffers) hs serials (with_born_field state (birth_of (cell_of h.space (own_chunk h lane) at.0).head) index f.0)) (sym (written-roots h k lane at index word wrote))
                (stands-field h.space k.space h.roots h.chunks k.chunks hs serials state at.0 index (cell_of h.space (own_chunk h lane) at.0) word f.0 means is there (ap length leaves.chunks ∙ length-set h.chunks lane (own_chunk k lane)) f.2 fits f.1))),
          );
      running = λ none. written-runs h k hs lane target at index word can wrote;
      later = λ none a b e. none a b (sym (ap (λ (g : ℕ → Option Birth). g a) same) ∙ e);
      others_later = λ l n ne none a b e. none a b (sym (ap (λ (g : ℕ → Option Birth). g a) same) ∙ e);
      layout = written-layout h k hs lane target at index word can fits wrote;
      whole = written-whole h k hs lane target at index word can fits wrote;
      leaves = leaves;
      recorded = recorded;
      changed = changed;
    }

-- the object of a slot is written, or the operation changes nothing
pub write-effect : (h : HeapView) (hs : List Holder) (serials : List ℕ) (lane i : ℕ) (p : Slot) (target word : Word) (a : Address) (op : Op) (state : State) → MayOperate h hs lane → target ≡ slot_word h.roots p → IsOwnOfLane h hs lane target a → ActsOnOwnField h hs lane target i a → Writes h hs lane p i word op → StandsAs h hs serials state → (v : Value) × IsRead (whole_memory h) state word v × Reached state.slots state.made (birth_of (cell_of h.space (own_chunk h lane) a.0).head) × (act state lane op ≡ (with_born_field state (birth_of (cell_of h.space (own_chunk h lane) a.0).head) i v, Done))
write-effect h hs serials lane i p target word a op state ready e of acts writes means =
    let c = cell_of h.space (own_chunk h lane) a.0 in
    let k = writes serials state means in
    let read = word-read h hs serials state p target e means in
    let at = memory-there h.space h.chunks lane a.0 ready.layout ready.apart ready.lane_within of.of.there in (
      k.0,
      k.1,
      read.reached (birth_of c.head) (read-ref (whole_memory h) state target (slot_of state p) a c of.of.refers at read),
      k.2 ∙ acts serials state (slot_of state p) means read (λ b. (with_born_field state b i k.0, Done)),
    )

pub write-refuses : (h : HeapView) (hs : List Holder) (lane i : ℕ) (p : Slot) (target word : Word) (op : Op) (r : Reply) → target ≡ slot_word h.roots p → RefusesOwnField h hs lane target i r → Writes h hs lane p i word op → Answers h hs lane op r
write-refuses h hs lane i p target word op r e refuses writes = λ serials state means.
    let k = writes serials state means in
    k.2 ∙ refuses serials state (slot_of state p) means (word-read h hs serials state p target e means) (λ b. (with_born_field state b i k.0, Done))
