-- A root slot becomes another word: the heap stays closed, and it stands for the state with that value in the slot.
use Rattle.bc_model.specs.declared.values.Holder.{Holder}
use Rattle.bc_model.specs.State.{holder_of}
use Rattle.bc_model.specs.State.{lets_read}
use Rattle.bc_whole_heap.specs.LaneChunks.{chunk_for}
use Rattle.bc_model.specs.declared.values.Holder.TheVariants as holder
use Rattle.std.proofs.Common.{◌≡◌, ◌≢◌, ◌⊎◌, true, ℕ, ◌<◌, List, length, get_or, set, Some, refl, sym, ap, subst, ◌∙◌, inl, inr, arith, get_or-set_same, get_or-set_other, length-set}
use Rattle.std.proofs.lemmas.Bool.{cases_eq, cases_lt}
use Rattle.std.proofs.lemmas.List.{set-get_or, set_past, map-set}
use Rattle.std.proofs.lemmas.Nat.{same_from_place}
use Rattle.bc_whole_heap.specs.Closed.{buffer_of, no_buffer, IsCellOrYoung}
use Rattle.bc_whole_heap.specs.LaneChunks.{chunk_of}
use Rattle.bc_whole_heap.specs.Heaps.{HeapView, end_of, heap_memory, no_chunk, root_words}
use Rattle.bc_whole_heap.specs.HeapFacts.{view_of}
use Rattle.bc_whole_heap.specs.Running.{IsRunning}
use Rattle.bc_whole_heap.specs.LaneStates.{StandsAs}
use Rattle.bc_memory.specs.Memory.{Cell, Memory}
use Rattle.bc_model.specs.Consistent.{IsValue}
use Rattle.bc_model.specs.State.{State, place_of, slot_of, field_of, with_slot}
use Rattle.bc_model.specs.Step.{act, loaded}
use Rattle.bc_model.specs.declared.operations.Op.{Op}
use Rattle.bc_model.specs.declared.operations.Op.TheVariants.{Load}
use Rattle.bc_model.specs.declared.operations.Reply.{Reply}
use Rattle.bc_model.specs.declared.values.Birth.{Birth}
use Rattle.bc_model.specs.declared.values.Slot.{Slot}
use Rattle.bc_model.specs.declared.values.Value.{Value}
use Rattle.bc_model.specs.declared.values.Value.TheVariants as value
use Rattle.bc_model.proofs.States.{IsState-with_slot}
use Rattle.bc_nursery.specs.Entries.{Entries}
use Rattle.bc_nursery.specs.Nurseries.{Nursery}
use Rattle.bc_reach.specs.Distinct.{Has}
use Rattle.bc_standing.specs.Standing.{birth_of, births, Stands, StandsFor, AllBorn}
use Rattle.bc_standing.proofs.Keeping.{AllBorn-reached}
use Rattle.bc_standing.proofs.Reading.{read_birth}
use Rattle.bc_standing.proofs.Writing.{Stands-slot}
use Rattle.bc_superpages.specs.Layout.{Layout}
use Rattle.bc_superpages.specs.LayoutAt.{IsAllocated}
use Rattle.bc_superpages.specs.Memory as space
use Rattle.bc_superpages.specs.RootWords.{RootWords}
use Rattle.bc_superpages.specs.RootSlots.{root_at, root_place, with_note}
use Rattle.bc_superpages.proofs.MemoryLemmas.{memory_of-cell}
use Rattle.bc_superpages.proofs.NoteLemmas.{Has-noted, Has-with_note}
use Rattle.bc_word.proofs.WordLemmas.{word_of_bits-word_bits}
use Rattle.bc_word.specs.Words.{word_of_bits}
use Rattle.bc_word.specs.WordBits.{word_bits, FitsWord}
use Rattle.bc_word.specs.declared.addresses.Address.{Address}
use Rattle.bc_word.specs.declared.words.Word.{Word}
use Rattle.bc_word.specs.declared.words.Word.TheVariants as word
use Rattle.bc_mutator.specs.Effects.{with_root, Answers, Leaves, HasRecorded, HasChanged, DoesAs, DidAct}
use Rattle.bc_mutator.specs.Objects.{MayOperate, IsRead, IsOwn, IsOfLane, ActsOnField, RefusesField, whole_memory, own_chunk, cell_of, slot_word, loaded_as}
use Rattle.bc_mutator.proofs.HolderLemmas.{read-named}
use Rattle.bc_mutator.proofs.MeaningLemmas.{same_place, read-nil, read-num, read-ref, read-field, home-ref}
use Rattle.bc_mutator.proofs.ObjectLemmas.{there-below, there-above, cell_of-below, cell_of-above, memory-there}
use Rattle.bc_mutator.proofs.TellingLemmas.{word-read, is-object}

-- a word of the list is as before, or it is the one that is written
set_cases : (ws : List ℕ) (i n k : ℕ) (P : ℕ → Type 0) → P (get_or ws k 0) → (k ≡ i → P n) → P (get_or (set ws i n) k 0)
set_cases ws i n k P old new = elim (cases_eq k i) [
  | inl e ↦ elim (cases_lt i (length ws)) [
    | inl within ↦ subst (λ (j : ℕ). P (get_or (set ws i n) j 0)) (sym e) (subst P (sym (get_or-set_same ws i n 0 within)) (new e))
    | inr past ↦ subst (λ (xs : List ℕ). P (get_or xs k 0)) (sym (set_past ws i n past)) old
  ]
  | inr ne ↦ subst P (sym (get_or-set_other ws i k n 0 ne)) old
]

-- the heap stays closed
pub running-root : (s : Layout) (r : RootWords) (cs : List Nursery) (bs : List Entries) (hs : List Holder) (p : Slot) (w : Word) → IsRunning (view_of s r cs bs) hs → p.slot < r.slots → IsOwn s (chunk_for cs (holder_of hs p.domain)) w → IsRunning (view_of s (with_root r p w) cs bs) hs
running-root s r cs bs hs p w run within own = record {
  summarised = run.summarised;
  none_promised = run.none_promised;
  laid = run.laid;
  once = run.once;
  closed = record {
    lanes = run.closed.lanes;
    domains = run.closed.domains;
    holder = run.closed.holder;
    root = λ d t a lt fits. set_cases r.words (root_place r p.domain p.slot) (word_bits w) (root_place r d t)
        (λ (n : ℕ). word_of_bits n ≡ word.Ref a → IsCellOrYoung s (chunk_for cs (holder_of hs d)) a.0)
        (run.closed.root d t a lt fits) (λ e. here d t a fits e);
    noted = λ k a lt. set_cases r.words (root_place r p.domain p.slot) (word_bits w) k
        (λ (n : ℕ). word_of_bits n ≡ word.Ref a → IsAllocated s a.0 ⊎ Has (with_note r.noted (root_place r p.domain p.slot)) k)
        (λ is. still k (run.closed.noted k a (let long = length-set r.words (root_place r p.domain p.slot) (word_bits w) in omega arith) is))
        (λ e is. inr (subst (Has (with_note r.noted (root_place r p.domain p.slot))) (sym e) (Has-noted r.noted (root_place r p.domain p.slot))));
    young_domain = run.closed.young_domain;
    young = run.closed.young;
    mature_domain = run.closed.mature_domain;
    mature = run.closed.mature;
    entries = run.closed.entries;
  };
}
  where
    here : (d t : ℕ) (a : Address) → t < r.slots → root_place r d t ≡ root_place r p.domain p.slot → word_of_bits (word_bits w) ≡ word.Ref a → IsCellOrYoung s (chunk_for cs (holder_of hs d)) a.0
    here d t a fits e is =
        subst (λ (x : ℕ). IsCellOrYoung s (chunk_for cs (holder_of hs x)) a.0) (sym (same_from_place d t p.domain p.slot r.slots fits within e).0)
        (own a (sym (word_of_bits-word_bits w) ∙ is))

    still : {X : Type 0} (k : ℕ) → X ⊎ Has r.noted k → X ⊎ Has (with_note r.noted (root_place r p.domain p.slot)) k
    still k (inl cell) = inl cell
    still k (inr noted) = inr (Has-with_note r.noted (root_place r p.domain p.slot) k noted)

-- what a word is read as may be held
pub value-held : (m : Memory) (roots : List Word) (state : State) (w : Word) (v : Value) → StandsFor m roots state → AllBorn m state.made → FitsWord w → IsRead m state w v → IsValue state.made v
value-held m roots state w value.Nil stands born fits h = tt
value-held m roots state word.Nil (value.Num n) stands born fits h = absurd (none h.value)
  where
    none : Some value.Nil ≡ Some (value.Num n) → ⊥
    none e = cc
value-held m roots state (word.Num k) (value.Num n) stands born fits h = let e = same h.value in omega arith
  where
    same : Some (value.Num k) ≡ Some (value.Num n) → k ≡ n
    same e = cc
value-held m roots state (word.Ref a) (value.Num n) stands born fits h = let f = read_birth (births m a.0) (value.Num n) h.value in absurd (none f.0 f.2)
  where
    none : (b : Birth) → value.Num n ≡ value.Obj b → ⊥
    none b e = cc
value-held m roots state w (value.Obj b) stands born fits h = AllBorn-reached m roots state.slots state.made b stands born (h.reached b refl)

-- the root words
pub root_words-set : (r : RootWords) (p : Slot) (w : Word) → root_words (with_root r p w) ≡ set (root_words r) (root_place r p.domain p.slot) w
root_words-set r p w =
    map-set word_of_bits r.words (root_place r p.domain p.slot) (word_bits w)
    ∙ ap (λ (x : Word). set (root_words r) (root_place r p.domain p.slot) x) (word_of_bits-word_bits w)

-- the heap stands for the state with the value in the slot
pub stands-root : {bs : List Entries} (s : Layout) (r : RootWords) (cs : List Nursery) (hs : List Holder) (serials : List ℕ) (state : State) (p : Slot) (w : Word) (v : Value) → StandsAs (view_of s r cs bs) hs serials state → FitsWord w → IsRead (heap_memory s cs) state w v → StandsAs (view_of s (with_root r p w) cs bs) hs serials (with_slot state p v)
stands-root s r cs hs serials state p w v h fits read = record {
  consistent = IsState-with_slot state p v h.consistent (value-held m (root_words r) state w v h.stands h.born fits read);
  stands = subst (λ (ws : List Word). Stands m ws (set state.slots (place_of state.width p) v) state.made) (sym words)
      (Stands-slot m (root_words r) state.slots state.made (place_of state.width p) w v h.stands read.value read.reached);
  born = h.born;
  held = h.held;
  births = h.births;
  domains = h.domains;
  slots = h.slots;
  lanes = h.lanes;
}
  where
    m : Memory
    m = heap_memory s cs

    words : root_words (with_root r p w) ≡ set (root_words r) (place_of state.width p) w
    words = root_words-set r p w ∙ ap (λ (i : ℕ). set (root_words r) i w) (same_place r state.width p h.slots)

-- the list of births stays where a lane's number stays
pub same_serials : (serials : List ℕ) (lane serial : ℕ) → get_or serials lane 0 ≡ serial → set serials lane serial ≡ serials
same_serials serials lane serial e = sym (ap (λ (n : ℕ). set serials lane n) e) ∙ set-get_or serials lane 0

-- chunks or buffers in which a lane's own is written back
pub chunks-same : (cs : List Nursery) (lane : ℕ) → cs ≡ set cs lane (chunk_of cs lane)
chunks-same cs lane = sym (set-get_or cs lane no_chunk)

pub buffers-same : (bs : List Entries) (lane : ℕ) → bs ≡ set bs lane (buffer_of bs lane)
buffers-same bs lane = sym (set-get_or bs lane no_buffer)

-- a slot of a domain that another lane holds
pub slots-other : (r : RootWords) (hs : List Holder) (lane : ℕ) (p q : Slot) (w : Word) → holder_of hs p.domain ≡ holder.Lane lane → p.slot < r.slots → holder_of hs q.domain ≢ holder.Lane lane → q.slot < r.slots → root_at (with_root r p w) q.domain q.slot ≡ root_at r q.domain q.slot
slots-other r hs lane p q w held within off less =
    get_or-set_other r.words (root_place r p.domain p.slot) (root_place r q.domain q.slot) (word_bits w) 0
    (λ e. off (ap (λ (d : ℕ). holder_of hs d) (same_from_place q.domain q.slot p.domain p.slot r.slots less within e).0 ∙ held))

Leaves-root : (h : HeapView) (r : RootWords) (hs : List Holder) (lane : ℕ) → r ≡ record (h.roots) { words = r.words; noted = r.noted } → ((p : Slot) → holder_of hs p.domain ≢ holder.Lane lane → p.slot < h.roots.slots → root_at r p.domain p.slot ≡ root_at h.roots p.domain p.slot) → Leaves hs lane h (record h { roots = r })
Leaves-root h r hs lane same others = record {
  chunks = chunks-same h.chunks lane;
  buffers = buffers-same h.buffers lane;
  space = refl;
  pages = λ page off. (refl, refl);
  roots = same;
  slots = others;
  chunk = refl;
  capacity = refl;
  unrecorded = λ none. (refl, refl);
}

-- an operation that changes nothing is done
pub done-nothing : (does : State → State × Reply) (h : HeapView) (hs : List Holder) (lane serial : ℕ) (op : Op) (reply : Reply) → MayOperate h hs lane → ((serials : List ℕ) → (state : State) → StandsAs h hs serials state → does state ≡ (state, reply)) → HasRecorded h h hs lane op reply → HasChanged h h hs lane serial op reply → DoesAs does h h hs lane serial serial op reply
done-nothing does h hs lane serial op reply ready answers recorded changed = record {
  step = λ serials state means e.
      let is = answers serials state means in (
        ap (λ (x : State × Reply). x.1) is,
        subst (λ (xs : List ℕ). StandsAs h hs xs (does state).0) (sym (same_serials serials lane serial e))
            (subst (λ (x : State). StandsAs h hs serials x) (sym (ap (λ (x : State × Reply). x.0) is)) means),
      );
  running = λ none. ready.running;
  later = λ none. none;
  others_later = λ l n ne none. none;
  layout = ready.layout;
  whole = ready.whole;
  leaves = Leaves-root h h.roots hs lane refl (λ p off less. refl);
  recorded = recorded;
  changed = changed;
}

pub done-answers : (h : HeapView) (hs : List Holder) (lane serial : ℕ) (op : Op) (reply : Reply) → MayOperate h hs lane → Answers h hs lane op reply → HasRecorded h h hs lane op reply → HasChanged h h hs lane serial op reply → DidAct h h hs lane serial serial op reply
done-answers h hs lane serial op reply ready answers recorded changed = done-nothing (λ state. act state lane op) h hs lane serial op reply ready answers recorded changed

-- so is one that writes a root slot
pub done-root : (h : HeapView) (r : RootWords) (hs : List Holder) (lane serial : ℕ) (p : Slot) (w : Word) (op : Op) (reply : Reply) → MayOperate h hs lane → r ≡ with_root h.roots p w → p.slot < h.roots.slots → holder_of hs p.domain ≡ holder.Lane lane → IsOwn h.space (own_chunk h lane) w → FitsWord w → ((serials : List ℕ) → (state : State) → StandsAs h hs serials state → (v : Value) × IsRead (whole_memory h) state w v × (act state lane op ≡ (with_slot state p v, reply))) → HasRecorded h h hs lane op reply → HasChanged h h hs lane serial op reply → DidAct h (record h { roots = r }) hs lane serial serial op reply
done-root h r hs lane serial p w op reply ready is within held own fits effect recorded changed = subst (λ (x : RootWords). DidAct h (record h { roots = x }) hs lane serial serial op reply) (sym is) (record {
  step = λ serials state means e.
      let k = effect serials state means in (
        ap (λ (x : State × Reply). x.1) k.2,
        subst (λ (xs : List ℕ). StandsAs (view_of h.space (with_root h.roots p w) h.chunks h.buffers) hs xs (act state lane op).0) (sym (same_serials serials lane serial e))
            (subst (λ (x : State). StandsAs (view_of h.space (with_root h.roots p w) h.chunks h.buffers) hs serials x) (sym (ap (λ (x : State × Reply). x.0) k.2))
            (stands-root h.space h.roots h.chunks hs serials state p w k.0 means fits k.1)),
      );
  running = λ none. running-root h.space h.roots h.chunks h.buffers hs p w ready.running within
      (subst (λ (x : Holder). IsOwn h.space (chunk_for h.chunks x) w) (sym held) own);
  later = λ none. none;
  others_later = λ l n ne none. none;
  layout = ready.layout;
  whole = ready.whole;
  leaves = Leaves-root h (with_root h.roots p w) hs lane refl (λ q off less. slots-other h.roots hs lane p q w held within off less);
  recorded = recorded;
  changed = changed;
})

-- nil is nobody's reference, and is read as nil
pub own-nil : (s : Layout) (c : Nursery) → IsOwn s c word.Nil
own-nil s c = λ a e. absurd (none a e)
  where
    none : (b : Address) → word.Nil ≡ word.Ref b → ⊥
    none b f = cc

pub own-num : (s : Layout) (c : Nursery) (n : ℕ) → IsOwn s c (word.Num n)
own-num s c n = λ a e. absurd (none a e)
  where
    none : (b : Address) → word.Num n ≡ word.Ref b → ⊥
    none b f = cc

pub nil-read : (m : Memory) (state : State) → IsRead m state word.Nil value.Nil
nil-read m state = record { value = refl; reached = λ b e. absurd (none b e) }
  where
    none : (c : Birth) → value.Nil ≡ value.Obj c → ⊥
    none c f = cc

pub num-read : (m : Memory) (state : State) (n : ℕ) → IsRead m state (word.Num n) (value.Num n)
num-read m state n = record { value = refl; reached = λ b e. absurd (none b e) }
  where
    none : (c : Birth) → value.Num n ≡ value.Obj c → ⊥
    none c f = cc

-- a field of an object of the lane's has a word of the lane's
pub own-field : (h : HeapView) (hs : List Holder) (lane i : ℕ) (w : Word) (a : Address) → MayOperate h hs lane → IsOfLane h hs lane w a → IsOwn h.space (own_chunk h lane) (get_or (cell_of h.space (own_chunk h lane) a.0).fields i word.Nil)
own-field h hs lane i w a ready of = λ b e. elim (cases_lt a.0 (end_of h.space)) [
  | inl below ↦
      let on = there-below h.space (own_chunk h lane) a.0 ready.behind of.there below in
      let is = cell_of-below h.space (own_chunk h lane) a.0 below in
      let c = space.cell_at h.space.pages a.0 in
      let held : lets_read (holder_of hs c.head.domain) lane ≡ true = subst (λ (x : Cell). lets_read (holder_of hs x.head.domain) lane ≡ true) is of.held in
      read-named h.space h.chunks h.buffers (holder_of hs c.head.domain) lane a.0 i b.0 held (ready.running.closed.mature a.0 i c b (memory_of-cell h.space.classes h.space.cells h.space.pages a.0 on)
      (subst (λ (x : Cell). get_or x.fields i word.Nil ≡ word.Ref b) is e))
  | inr above ↦
      let on = there-above h.space (own_chunk h lane) a.0 ready.layout of.there above in
      ready.running.closed.young lane a.0 i b ready.lane_within on
      (subst (λ (x : Cell). get_or x.fields i word.Nil ≡ word.Ref b) (cell_of-above h.space (own_chunk h lane) a.0 above) e)
]

-- what is returned of what is loaded
pub loaded-read : (m : Memory) (state : State) (w : Word) (v : Value) → IsRead m state w v → loaded v ≡ loaded_as w
loaded-read m state word.Nil v h = ap loaded (read-nil m state word.Nil v refl h)
loaded-read m state (word.Num n) v h = ap loaded (read-num m state (word.Num n) v n refl h)
loaded-read m state (word.Ref a) v h = ap loaded (is-object m state (word.Ref a) v a refl h).1

-- a load, where it is done: the field's word goes to the second slot
pub load-effect : (h : HeapView) (hs : List Holder) (serials : List ℕ) (lane i : ℕ) (p q : Slot) (w : Word) (a : Address) (reply : Reply) (state : State) → MayOperate h hs lane → w ≡ slot_word h.roots p → IsOfLane h hs lane w a → ActsOnField h hs lane w i a → reply ≡ loaded_as (get_or (cell_of h.space (own_chunk h lane) a.0).fields i word.Nil) → StandsAs h hs serials state → (v : Value) × IsRead (whole_memory h) state (get_or (cell_of h.space (own_chunk h lane) a.0).fields i word.Nil) v × (act state lane (Load p i q) ≡ (with_slot state q v, reply))
load-effect h hs serials lane i p q w a reply state ready e of acts is means =
    let c = cell_of h.space (own_chunk h lane) a.0 in
    let b = birth_of c.head in
    let read = word-read h hs serials state p w e means in
    let at = memory-there h.space h.chunks lane a.0 ready.layout ready.apart ready.lane_within of.there in
    let home = home-ref (whole_memory h) (root_words h.roots) state w (slot_of state p) a c means.stands of.refers at read in
    let reached = read.reached b (read-ref (whole_memory h) state w (slot_of state p) a c of.refers at read) in
    let field = read-field (whole_memory h) state b a.0 i c reached home in (
      field_of state b i,
      field,
      acts serials state (slot_of state p) means read (λ x. (with_slot state q (field_of state x i), loaded (field_of state x i)))
          ∙ ap (λ (r : Reply). let pair : State × Reply = (with_slot state q (field_of state b i), r) in pair) (loaded-read (whole_memory h) state (get_or c.fields i word.Nil) (field_of state b i) field ∙ sym is),
    )

pub load-refuses : (h : HeapView) (hs : List Holder) (lane i : ℕ) (p q : Slot) (w : Word) (r : Reply) → w ≡ slot_word h.roots p → RefusesField h hs lane w i r → Answers h hs lane (Load p i q) r
load-refuses h hs lane i p q w r e refuses = λ serials state means.
    refuses serials state (slot_of state p) means (word-read h hs serials state p w e means) (λ x. (with_slot state q (field_of state x i), loaded (field_of state x i)))
