-- The parts of a lane that are taken out of a whole heap and put back.
use Rattle.std.specs.Result.{IfOk, OnErr}
use Rattle.std.proofs.Common.{◌≡◌, ◌≢◌, ℕ, ◌/◌, ◌<◌, Bool, true, inl, inr, Result, Ok, Err, List, length, get_or, set, Some, refl, sym, ap, subst, ◌∙◌, arith}
use Rattle.std.proofs.lemmas.List.{get_or_read, set-get_or}
use Rattle.std.specs.Global.{Vec}
use Rattle.std.specs.Vec.{with_item}
use Rattle.bc_cycle.specs.Emptying.{heap_view}
use Rattle.bc_cycle.specs.declared.heaps.Heap.{Heap}
use Rattle.bc_model.specs.Consistent.{IsHolder}
use Rattle.bc_model.specs.State.{holder_of}
use Rattle.bc_model.specs.WellFormed.{IsSlot}
use Rattle.bc_model.specs.declared.operations.Op.{Op}
use Rattle.bc_model.specs.declared.operations.Op.TheVariants.{New, Who, Len, Set, Cut, Link, Load, Copy, Clear, Same}
use Rattle.bc_model.specs.declared.operations.Reply.{Reply}
use Rattle.bc_model.specs.declared.values.Holder.{Holder}
use Rattle.bc_model.specs.declared.values.Holder.TheVariants.{Lane, Frozen}
use Rattle.bc_model.specs.declared.values.Slot.{Slot}
use Rattle.bc_nursery.specs.Entries.{Entries}
use Rattle.bc_nursery.specs.Nurseries.{Nursery}
use Rattle.bc_superpages.specs.Headers.{is_resident}
use Rattle.bc_superpages.specs.Layout.{Layout, content_at}
use Rattle.bc_superpages.specs.LayoutAt.{IsAllocated, state_at}
use Rattle.bc_superpages.specs.RootSlots.{root_at}
use Rattle.bc_superpages.specs.RootWords.{RootWords}
use Rattle.bc_whole_heap.specs.Closed.{buffer_of, no_buffer, IsCellOrYoung}
use Rattle.bc_whole_heap.specs.LaneChunks.{chunk_for, chunk_of}
use Rattle.bc_whole_heap.specs.Heaps.{HeapView, end_of, no_chunk}
use Rattle.bc_whole_heap.specs.HeapFacts.{view_of}
use Rattle.bc_whole_heap.proofs.HeapLemmas.{allocated-here}
use Rattle.bc_whole_heap.proofs.HolderLemmas.{none-young}
use Rattle.bc_word.specs.Addresses.{superpage_of}
use Rattle.bc_word.specs.declared.words.Word.TheVariants.{Ref}
use Rattle.bc_mutator.specs.Effects.{DidOperation, Leaves}
use Rattle.bc_mutator.specs.Objects.{LieBehind, MayOperate, own_chunk, slot_word}
use Rattle.bc_mutator.specs.Operations.{IsOpOf, NeedsEntry, setup_of}
use Rattle.bc_mutator.specs.Parts.{IsPartOf, LooksInHand, Serves, SlotLeadsToHandIn, touched_slot}
use Rattle.bc_running.specs.Touching.{LooksHere}
use Rattle.bc_mutator.proofs.ObjectLemmas.{LieBehind-laid, there-below}
use Rattle.bc_mutator.proofs.VecLemmas.{with_item-same}

-- the spaces and the root words that a whole space and whole root words show
abbrev pub IsIt : {X : Type 0} → X → X → Type 0
IsIt x y = y ≡ x

-- what a word of a domain of this holder refers to below the end of the superpages is a cell
pub cell-of_holder : (s : Layout) (cs : List Nursery) (x : Holder) (a : ℕ) → ((l : ℕ) → l < length cs → LieBehind s (chunk_of cs l)) → IsHolder (length cs) x → IsCellOrYoung s (chunk_for cs x) a → a < end_of s → IsAllocated s a
cell-of_holder s cs (Lane l) a behind within there below = there-below s (chunk_of cs l) a (behind l within) there below
cell-of_holder s cs Frozen a behind within (inl on) below = on
cell-of_holder s cs Frozen a behind within (inr on) below = absurd (none-young a on)

-- what a slot refers to is in hand, where it isn't on a Gone page
slot-hand : (h : HeapView) (hs : List Holder) (lane : ℕ) (right : ℕ → Bool) (p : Slot) → MayOperate h hs lane → IsSlot (setup_of h.roots) p → LooksHere h.space h.roots right (Some p) → SlotLeadsToHandIn (IsIt h.space) (IsIt h.roots) (λ page. is_resident (state_at h.space.states page) ≡ true) right p
slot-hand h hs lane right p ready slot here r same at e s is lt may =
    let closed = ready.running.closed in
    let within : p.domain < length hs = subst (λ (n : ℕ). p.domain < n) (sym closed.domains) slot.0 in
    let word : slot_word h.roots p ≡ Ref at = sym (ap (λ (x : RootWords). slot_word x p) same) ∙ e in
    let below : at.0 < end_of h.space = subst (λ (x : Layout). at.0 < end_of x) is lt in
    let cell = cell-of_holder h.space h.chunks (holder_of hs p.domain) at.0 (λ l lt. LieBehind-laid h.space ready.running.laid.0 h.chunks l ready.running.laid.1 lt (ready.whole l lt))
    (closed.holder p.domain within) (closed.root p.domain p.slot at slot.0 slot.1 word) below in
    (allocated-here h.space at.0 ready.layout (here at word below (ap (λ (x : Layout). right (get_or x.domains (superpage_of at.0) 0)) (sym is) ∙ may)) cell).resident

pub looks-in_hand : (h : HeapView) (hs : List Holder) (lane : ℕ) (right : ℕ → Bool) (op : Op) → MayOperate h hs lane → IsOpOf h.roots op → LooksHere h.space h.roots right (touched_slot op) → LooksInHand (IsIt h.space) (IsIt h.roots) (λ page. is_resident (state_at h.space.states page) ≡ true) right (touched_slot op)
looks-in_hand h hs lane right (New p n) ready fits here = tt
looks-in_hand h hs lane right (Who p) ready fits here = slot-hand h hs lane right p ready fits here
looks-in_hand h hs lane right (Len p) ready fits here = slot-hand h hs lane right p ready fits here
looks-in_hand h hs lane right (Set p i v) ready fits here = slot-hand h hs lane right p ready fits.0 here
looks-in_hand h hs lane right (Cut p i) ready fits here = slot-hand h hs lane right p ready fits.0 here
looks-in_hand h hs lane right (Link p i q) ready fits here = slot-hand h hs lane right p ready fits.0 here
looks-in_hand h hs lane right (Load p i q) ready fits here = slot-hand h hs lane right p ready fits.0 here
looks-in_hand h hs lane right (Copy p q) ready fits here = tt
looks-in_hand h hs lane right (Clear p) ready fits here = tt
looks-in_hand h hs lane right (Same p q) ready fits here = tt

-- the lane's parts of a heap
pub whole-serves : (h : HeapView) (hs : List Holder) (lane : ℕ) (op : Op) (c : Nursery) (b : Entries) → MayOperate h hs lane → IsOpOf h.roots op → c ≡ get_or h.chunks lane c → b ≡ get_or h.buffers lane b → Serves (IsIt h.space) (IsIt h.roots) c b hs lane op h
whole-serves h hs lane op c b ready fits chunk buffer =
    let lanes = ready.running.closed.lanes in
    let within = ready.lane_within in
    record {
      ready = ready;
      fits = fits;
      part = record {
        space = refl;
        roots = refl;
        chunk_is = sym (get_or_read h.chunks lane c ready.lane_within chunk no_chunk);
        buffer_is = sym (get_or_read h.buffers lane b (omega arith) buffer no_buffer);
      };
    }

pub whole-needs : {cells : Layout → Type 0} {slots : RootWords → Type 0} {chunk : Nursery} {buffer : Entries} {lane : ℕ} {h : HeapView} (hs : List Holder) (op : Op) → IsPartOf cells slots chunk buffer lane h → NeedsEntry hs lane h.space h.roots chunk buffer op → NeedsEntry hs lane h.space h.roots (own_chunk h lane) (buffer_of h.buffers lane) op
whole-needs {chunk = chunk} {lane = lane} {h = h} hs op part needs =
    subst (λ (c : Nursery). NeedsEntry hs lane h.space h.roots c (buffer_of h.buffers lane) op) (sym part.chunk_is)
    (subst (λ (b : Entries). NeedsEntry hs lane h.space h.roots chunk b op) (sym part.buffer_is) needs)

-- the heap that they belong to then is the one in which they are put back
pub put-back : (h k : HeapView) (hs : List Holder) (lane : ℕ) (s : Layout) (r : RootWords) (c : Nursery) (b : Entries) → IsPartOf (IsIt s) (IsIt r) c b lane k → Leaves hs lane h k → k ≡ view_of s r (set h.chunks lane c) (set h.buffers lane b)
put-back h k hs lane s r c b part leaves =
    let chunks : k.chunks ≡ set h.chunks lane c = leaves.chunks ∙ ap (λ (x : Nursery). set h.chunks lane x) part.chunk_is in
    let buffers : k.buffers ≡ set h.buffers lane b = leaves.buffers ∙ ap (λ (x : Entries). set h.buffers lane x) part.buffer_is in
    λ i. record { space = part.space i; roots = part.roots i; chunks = chunks i; buffers = buffers i }

pub did-whole : (h k : HeapView) (hs : List Holder) (lane serial next : ℕ) (op : Op) (reply : Reply) (s : Layout) (r : RootWords) (c : Nursery) (b : Entries) → IsPartOf (IsIt s) (IsIt r) c b lane k → DidOperation h k hs lane serial next op reply → DidOperation h (view_of s r (set h.chunks lane c) (set h.buffers lane b)) hs lane serial next op reply
did-whole h k hs lane serial next op reply s r c b part done =
    subst (λ (x : HeapView). DidOperation h x hs lane serial next op reply) (put-back h k hs lane s r c b part done.leaves) done

-- pages and root slots of domains that the lane doesn't hold are as they were
pub record LeavesOthers (hs : List Holder) (lane : ℕ) (h k : HeapView) : Type 0 where
  pub pages : (page : ℕ) → holder_of hs (get_or h.space.domains (page / 4) 0) ≢ Lane lane → content_at k.space.pages page ≡ content_at h.space.pages page
  pub slots : (p : Slot) → holder_of hs p.domain ≢ Lane lane → p.slot < h.roots.slots → root_at k.roots p.domain p.slot ≡ root_at h.roots p.domain p.slot

pub leaves-others : {E : Type 0} (h k : HeapView) (hs : List Holder) (lane serial next : ℕ) (op : Op) (result : Result Reply E) → IfOk result (λ reply. DidOperation h k hs lane serial next op reply) → OnErr result (k ≡ h) → LeavesOthers hs lane h k
leaves-others h k hs lane serial next op (Ok reply) done same = record { pages = λ page ne. (done.leaves.pages page (λ within. ne)).0; slots = λ p ne less. done.leaves.slots p ne less }
leaves-others h k hs lane serial next op (Err e) done same = subst (λ (x : HeapView). LeavesOthers hs lane h x) (sym same) (record { pages = λ page ne. refl; slots = λ p ne less. refl })

-- where nothing has changed, the heap is as it was
back-item : {X : Type 0} (v : Vec X) (lane : ℕ) (x y d : X) → lane < length v.items → x ≡ get_or v.items lane x → y ≡ x → with_item v lane y ≡ v
back-item v lane x y d within read same =
    let here : y ≡ get_or v.items lane d = same ∙ get_or_read v.items lane x within read d in
    with_item-same v lane y (ap (λ z. set v.items lane z) here ∙ set-get_or v.items lane d)

pub back-same : (h : Heap) (hs : List Holder) (lane : ℕ) (c : Nursery) (b : Entries) (s : Layout) (r : RootWords) (d : Nursery) (e : Entries) → MayOperate (heap_view h) hs lane → c ≡ get_or h.chunks.items lane c → b ≡ get_or h.buffers.items lane b → s ≡ h.space → r ≡ h.roots → d ≡ c → e ≡ b
    → record h { space = s; roots = r; chunks = with_item h.chunks lane d; buffers = with_item h.buffers lane e } ≡ h
back-same h hs lane c b s r d e ready chunk buffer space roots chunk_same buffer_same =
    let lanes = ready.running.closed.lanes in
    let within = ready.lane_within in
    let chunks = back-item h.chunks lane c d no_chunk within chunk chunk_same in
    let buffers = back-item h.buffers lane b e no_buffer (omega arith) buffer buffer_same in
    λ i. record h { space = space i; roots = roots i; chunks = chunks i; buffers = buffers i }
