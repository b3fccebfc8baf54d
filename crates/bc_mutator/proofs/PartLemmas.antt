-- From what a lane has in hand to the whole heap that it belongs to.
use Rattle.bc_model.proofs.Holders.{read-default, write-default}
use Rattle.bc_model.specs.declared.values.Holder.{Holder}
use Rattle.bc_model.specs.declared.values.Holder.TheVariants.{Lane}
use Rattle.bc_model.specs.State.{holder_of, lets_read, lets_write}
use Rattle.std.proofs.Common.{◌≡◌, ◌⊎◌, ℕ, ◌+◌, ◌<◌, ◌≤◌, Bool, Option, Some, None, false, List, length, get_or, set, refl, sym, ap, subst, ◌∙◌, inl, inr, arith, get_or-set_same, true}
use Rattle.bc_model.specs.WellFormed.{IsSlot}
use Rattle.bc_model.specs.declared.operations.Op.{Op}
use Rattle.bc_model.specs.declared.values.Slot.{Slot}
use Rattle.bc_nursery.specs.Entries.{Entries}
use Rattle.bc_nursery.specs.Objects.{changed, head_at}
use Rattle.bc_nursery.specs.Nurseries.{Nursery}
use Rattle.bc_nursery.specs.Objects as nursery
use Rattle.bc_superpages.specs.declared.headers.PageState.TheVariants.{Remembered}
use Rattle.bc_superpages.specs.Headers.{is_gone}
use Rattle.bc_superpages.specs.Layout.{Layout}
use Rattle.bc_superpages.specs.Kept.{IsLayout}
use Rattle.bc_superpages.specs.LayoutAt.{IsAllocated, state_at, with_state, with_word, word_at}
use Rattle.bc_superpages.specs.Memory as space
use Rattle.bc_superpages.specs.RootWords.{RootWords}
use Rattle.bc_superpages.proofs.FieldLemmas.{field-memory}
use Rattle.bc_superpages.proofs.HandLemmas.{allocated-object, allocated-page}
use Rattle.bc_whole_heap.specs.Closed.{buffer_of, no_buffer, IsCellOrYoung}
use Rattle.bc_whole_heap.specs.Heaps.{HeapView, end_of, no_chunk}
use Rattle.bc_memory.specs.Memory.{Cell}
use Rattle.bc_word.specs.Addresses.{page_of, superpage_of}
use Rattle.bc_word.specs.Heads.{head_of_bits}
use Rattle.bc_word.specs.WordBits.{word_bits}
use Rattle.bc_word.specs.declared.addresses.Address.{Address}
use Rattle.bc_word.specs.declared.heads.Head.{Head}
use Rattle.bc_word.specs.declared.words.Word.{Word}
use Rattle.bc_word.specs.declared.words.Word.TheVariants.{Nil, Ref}
use Rattle.bc_mutator.specs.Effects.{RefersBehind, RefersBelow, StoresWord, WroteCell, Wrote, with_entry}
use Rattle.bc_mutator.specs.Objects.{LieBehind, IsOwnOfLane, IsOwn, cell_of, own_chunk, slot_word}
use Rattle.bc_mutator.specs.Operations.{NeedsEntry, setup_of}
use Rattle.bc_mutator.specs.Parts.{CanStore, HasAllocated, HasField, HasWord, IsCellOrBehind, IsInHand, IsPartOf, IsSpaceOf, LeadsToHandIn, LooksInHand, MayHold, Sees, Serves, ServesField, TouchesHand}
use Rattle.bc_mutator.proofs.LayoutLemmas.{IsLayout-remembered}
use Rattle.bc_mutator.proofs.MeaningLemmas.{own-slot}
use Rattle.bc_mutator.proofs.ObjectLemmas.{cell_of-above, cell_of-below, domain-there, one_address, there-below}
use Rattle.bc_mutator.proofs.StateLemmas.{remembers-home}
use Rattle.bc_mutator.proofs.WritingLemmas.{CanWrite}

-- an object below the end of the superpages is a cell, with its head
pub cell-there : {cells : Layout → Type 0} {chunk : Nursery} {s : Layout} (a : ℕ) → IsSpaceOf cells chunk s → IsCellOrYoung s chunk a → a < end_of s → HasAllocated s a
cell-there {chunk = chunk} {s = s} a is there lt = record { layout = is.layout; allocated = there-below s chunk a is.behind there lt }

pub field-there : {cells : Layout → Type 0} {chunk : Nursery} {s : Layout} (a index : ℕ) → IsSpaceOf cells chunk s → IsCellOrYoung s chunk a → index < (cell_of s chunk a).head.fields → a < end_of s → HasField s a index
field-there {chunk = chunk} {s = s} a index is there less lt = record {
  layout = is.layout;
  allocated = there-below s chunk a is.behind there lt;
  within = subst (λ (c : Cell). index < c.head.fields) (cell_of-below s chunk a lt) less;
}

pub head-below : (s : Layout) (chunk : Nursery) (a : ℕ) (head : Head) → a < end_of s → head ≡ head_of_bits (word_at s.pages a) → head ≡ (cell_of s chunk a).head
head-below s chunk a head lt read = read ∙ sym (ap (λ (c : Cell). c.head) (cell_of-below s chunk a lt))

pub head-above : (s : Layout) (chunk : Nursery) (a : ℕ) (head : Head) → end_of s ≤ a → head ≡ head_at chunk a → head ≡ (cell_of s chunk a).head
head-above s chunk a head le read = read ∙ sym (ap (λ (c : Cell). c.head) (cell_of-above s chunk a le))

pub field-above : (s : Layout) (chunk : Nursery) (a index : ℕ) (word : Word) → end_of s ≤ a → word ≡ nursery.field_at chunk a index → word ≡ get_or (cell_of s chunk a).fields index Nil
field-above s chunk a index word le read = read ∙ sym (ap (λ (c : Cell). get_or c.fields index Nil) (cell_of-above s chunk a le))

-- a cell's field is written, and recorded where the word refers past the superpages
pub plain-cell : (s : Layout) (b : Entries) (cell : Address) (index : ℕ) (word : Word) → HasField s cell.0 index → is_gone (state_at s.states (page_of cell.0)) ≡ false → RefersBelow s word → WroteCell s (record s { pages = with_word s.pages (cell.0 + 1 + index) (word_bits word) }) b b cell index word
plain-cell s b cell index word has here below = record {
  space = refl;
  words = refl;
  memory = field-memory s cell.0 index word has.layout has.allocated has.within;
  entry = inl (below, (refl, refl));
  here = here;
}

pub recorded-cell : (s : Layout) (b e : Entries) (cell : Address) (index : ℕ) (word : Word) → HasField s cell.0 index → is_gone (state_at s.states (page_of cell.0)) ≡ false → RefersBehind s word → e ≡ with_entry b cell index → WroteCell s (record s { states = with_state s.states (page_of cell.0) Remembered; pages = with_word s.pages (cell.0 + 1 + index) (word_bits word) }) b e cell index word
recorded-cell s b e cell index word has here young entry = record {
  space = refl;
  words = refl;
  memory = field-memory s cell.0 index word has.layout has.allocated has.within;
  entry = inr (
    young,
    (entry, (remembers-home s (record s { states = with_state s.states (page_of cell.0) Remembered }) (page_of cell.0) has.layout (allocated-page s cell.0 has.layout has.allocated) refl).states),
  );
  here = here;
}

-- the field after its page was remembered, and what it may hold then
pub field-remembered : (s : Layout) (page cell index : ℕ) → HasField s cell index → HasField (record s { states = with_state s.states page Remembered }) cell index
field-remembered s page cell index has = record { layout = IsLayout-remembered s page has.layout; allocated = has.allocated; within = has.within }

pub holds-behind : (s : Layout) (cell index : ℕ) (word : Word) → HasField s cell index → RefersBehind s word → MayHold (record s { states = with_state s.states (page_of cell) Remembered }) cell word
holds-behind s cell index word has young = λ to e. inr (
  subst (λ (a : Address). end_of s ≤ a.0) (one_address young.to to (sym young.refers ∙ e)) young.behind,
  (remembers-home s (record s { states = with_state s.states (page_of cell) Remembered }) (page_of cell) has.layout (allocated-page s cell has.layout has.allocated) refl).states.here,
)

pub holds-below : (s : Layout) (cell : ℕ) (word : Word) → IsCellOrBehind s word → RefersBelow s word → MayHold s cell word
holds-below s cell word names below = λ to e. elim (names to e) [
  | inl on ↦ inl on
  | inr le ↦ absurd (let lt = below to e in omega arith)
]

pub cell-or-behind : {cells : Layout → Type 0} {chunk : Nursery} {s : Layout} (word : Word) → IsSpaceOf cells chunk s → IsOwn s chunk word → IsCellOrBehind s word
cell-or-behind word is own = λ to e. elim (own to e) [
  | inl on ↦ inl on
  | inr young ↦ inr (is.behind to.0 young)
]

-- what a lane knows of a word that it has
pub space-of : {cells : Layout → Type 0} {chunk : Nursery} {hs : List Holder} {lane : ℕ} {word : Word} {h : HeapView} → HasWord cells chunk hs lane word h → IsSpaceOf cells chunk h.space
space-of {h = h} w = record { shown = w.space; layout = w.ready.layout; behind = subst (λ (c : Nursery). LieBehind h.space c) w.chunk_is w.ready.behind }

pub there-of : {cells : Layout → Type 0} {chunk : Nursery} {hs : List Holder} {lane : ℕ} {word : Word} {h : HeapView} (a : ℕ) → HasWord cells chunk hs lane word h → IsCellOrYoung h.space (own_chunk h lane) a → IsCellOrYoung h.space chunk a
there-of {h = h} a w there = subst (λ (c : Nursery). IsCellOrYoung h.space c a) w.chunk_is there

pub own-of : {cells : Layout → Type 0} {chunk : Nursery} {hs : List Holder} {lane : ℕ} {word : Word} {h : HeapView} → HasWord cells chunk hs lane word h → IsOwn h.space (own_chunk h lane) word
own-of {word = word} {h = h} w = subst (λ (c : Nursery). IsOwn h.space c word) (sym w.chunk_is) w.own

pub head-of : {cells : Layout → Type 0} {chunk : Nursery} {hs : List Holder} {lane : ℕ} {word : Word} {h : HeapView} (a : ℕ) (head : Head) → HasWord cells chunk hs lane word h → ((s : Layout) → IsSpaceOf cells chunk s → IsCellOrYoung s chunk a → head ≡ (cell_of s chunk a).head) → IsCellOrYoung h.space (own_chunk h lane) a → head ≡ (cell_of h.space (own_chunk h lane) a).head
head-of {h = h} a head w read there =
    read h.space (space-of w) (there-of a w there) ∙ sym (ap (λ (c : Nursery). (cell_of h.space c a).head) w.chunk_is)

pub field-of : {cells : Layout → Type 0} {chunk : Nursery} {hs : List Holder} {lane : ℕ} {word : Word} {h : HeapView} (a index : ℕ) (held : Word) → HasWord cells chunk hs lane word h → ((s : Layout) → IsSpaceOf cells chunk s → IsCellOrYoung s chunk a → index < (cell_of s chunk a).head.fields → held ≡ get_or (cell_of s chunk a).fields index Nil) → IsCellOrYoung h.space (own_chunk h lane) a → index < (cell_of h.space chunk a).head.fields → held ≡ get_or (cell_of h.space (own_chunk h lane) a).fields index Nil
field-of {h = h} a index held w read there less =
    read h.space (space-of w) (there-of a w there) less ∙ sym (ap (λ (c : Nursery). get_or (cell_of h.space c a).fields index Nil) w.chunk_is)

-- the word of a slot of a domain that the lane holds
pub slot-sees : {cells : Layout → Type 0} {slots : RootWords → Type 0} {chunk : Nursery} {hs : List Holder} {lane : ℕ} {op : Op} {h : HeapView} (p : Slot) (word : Word) → Sees cells slots chunk hs lane op h → IsSlot (setup_of h.roots) p → lets_read (holder_of hs p.domain) lane ≡ true → word ≡ slot_word h.roots p → HasWord cells chunk hs lane word h
slot-sees {chunk = chunk} {hs = hs} {lane = lane} {h = h} p word sees slot held e = record {
  ready = sees.ready;
  space = sees.space;
  chunk_is = sees.chunk_is;
  own = subst (λ (c : Nursery). IsOwn h.space c word) sees.chunk_is
      (subst (λ (w : Word). IsOwn h.space (own_chunk h lane) w) (sym e) (own-slot h hs lane p sees.ready.running slot.0 slot.1 held));
}

-- what was written belongs to the whole heap with it written
pub part-wrote : (old new : Layout → Type 0) (slots : RootWords → Type 0) (c d : Nursery) (b e : Entries) (lane : ℕ) (h : HeapView) (t : Layout) (at : Address) (index : ℕ) (word : Word) → IsPartOf old slots c b lane h → lane < length h.chunks → lane < length h.buffers → new t → StoresWord h.space t c d b e at index word
    → (k : HeapView) × IsPartOf new slots d e lane k × Wrote h k lane at index word
part-wrote old new slots c d b e lane h t at index word part chunk_in buffer_in shown (inl w) =
    let after : buffer_of (set h.buffers lane e) lane ≡ e = get_or-set_same h.buffers lane e no_buffer buffer_in in (
      record h { space = t; buffers = set h.buffers lane e },
      record { space = shown; roots = part.roots; chunk_is = part.chunk_is ∙ sym w.chunk; buffer_is = after },
      inl (record {
        below = w.below;
        cell = subst (λ (x : Entries). WroteCell h.space t (buffer_of h.buffers lane) x at index word) (sym after)
            (subst (λ (x : Entries). WroteCell h.space t x e at index word) (sym part.buffer_is) w.cell);
        buffers = ap (λ (x : Entries). set h.buffers lane x) (sym after);
        rest = refl;
      }),
    )
part-wrote old new slots c d b e lane h t at index word part chunk_in buffer_in shown (inr w) = (
  record h { chunks = set h.chunks lane d },
  record {
    space = subst new w.space shown;
    roots = part.roots;
    chunk_is = get_or-set_same h.chunks lane d no_chunk chunk_in;
    buffer_is = part.buffer_is ∙ sym w.buffer;
  },
  inr (record {
    behind = w.behind;
    chunks = ap (λ (x : Nursery). set h.chunks lane x) (w.chunk ∙ sym (ap (λ (x : Nursery). changed x at.0 (nursery.with_young_field index word)) part.chunk_is));
    rest = refl;
  }),
)

-- a lane that may write a word to a field of a slot's object
pub field-serves : {cells : Layout → Type 0} {slots : RootWords → Type 0} {chunk : Nursery} {buffer : Entries} {hs : List Holder} {lane : ℕ} {p : Slot} {word : Word} {h : HeapView} (target : Word) → ServesField cells slots chunk buffer hs lane p word h → lets_read (holder_of hs p.domain) lane ≡ true → target ≡ slot_word h.roots p → HasWord cells chunk hs lane target h
field-serves {hs = hs} {lane = lane} {p = p} {h = h} target s held e = record {
  ready = s.ready;
  space = s.part.space;
  chunk_is = s.part.chunk_is;
  own = subst (λ (c : Nursery). IsOwn h.space c target) s.part.chunk_is
      (subst (λ (w : Word). IsOwn h.space (own_chunk h lane) w) (sym e) (own-slot h hs lane p s.ready.running s.slot.0 s.slot.1 held));
}

pub can-store : {cells : Layout → Type 0} {slots : RootWords → Type 0} {chunk : Nursery} {buffer : Entries} {hs : List Holder} {lane : ℕ} {p : Slot} {word : Word} {h : HeapView} (target : Word) (at : Address) (index : ℕ) → ServesField cells slots chunk buffer hs lane p word h → HasWord cells chunk hs lane target h → IsOwnOfLane h hs lane target at → index < (cell_of h.space chunk at.0).head.fields → CanStore h.space chunk at index word
can-store target at index s w of less = record { there = there-of at.0 w of.of.there; less = less; own = s.own }

pub can-write : {cells : Layout → Type 0} {slots : RootWords → Type 0} {chunk : Nursery} {buffer : Entries} {hs : List Holder} {lane : ℕ} {p : Slot} {word : Word} {h : HeapView} (target : Word) (at : Address) (index : ℕ) → ServesField cells slots chunk buffer hs lane p word h → IsOwnOfLane h hs lane target at → index < (cell_of h.space chunk at.0).head.fields → CanWrite h hs lane target at index word
can-write {word = word} {h = h} target at index s of less = record {
  ready = s.ready;
  mine = of;
  less = subst (λ (c : Nursery). index < (cell_of h.space c at.0).head.fields) (sym s.part.chunk_is) less;
  own = subst (λ (c : Nursery). IsOwn h.space c word) (sym s.part.chunk_is) s.own;
}

-- what stops an operation, of the lane's own chunk and buffer
pub needs-part : {cells : Layout → Type 0} {slots : RootWords → Type 0} {chunk : Nursery} {buffer : Entries} {lane : ℕ} {h : HeapView} (hs : List Holder) (op : Op) → IsPartOf cells slots chunk buffer lane h → NeedsEntry hs lane h.space h.roots (own_chunk h lane) (buffer_of h.buffers lane) op → NeedsEntry hs lane h.space h.roots chunk buffer op
needs-part {chunk = chunk} {lane = lane} {h = h} hs op part needs =
    subst (λ (b : Entries). NeedsEntry hs lane h.space h.roots chunk b op) part.buffer_is
    (subst (λ (c : Nursery). NeedsEntry hs lane h.space h.roots c (buffer_of h.buffers lane) op) part.chunk_is needs)

-- the word of another slot of the lane's
pub link-serves : {cells : Layout → Type 0} {slots : RootWords → Type 0} {chunk : Nursery} {buffer : Entries} {hs : List Holder} {lane : ℕ} {op : Op} {h : HeapView} (p q : Slot) (word : Word) → Serves cells slots chunk buffer hs lane op h → IsSlot (setup_of h.roots) p → IsSlot (setup_of h.roots) q → lets_read (holder_of hs q.domain) lane ≡ true → word ≡ slot_word h.roots q → ServesField cells slots chunk buffer hs lane p word h
link-serves {hs = hs} {lane = lane} {h = h} p q word s slot from held e = record {
  ready = s.ready;
  slot = slot;
  own = subst (λ (c : Nursery). IsOwn h.space c word) s.part.chunk_is
      (subst (λ (w : Word). IsOwn h.space (own_chunk h lane) w) (sym e) (own-slot h hs lane q s.ready.running from.0 from.1 held));
  part = s.part;
}

pub own-part : {cells : Layout → Type 0} {slots : RootWords → Type 0} {chunk : Nursery} {buffer : Entries} {hs : List Holder} {lane : ℕ} {p : Slot} {word : Word} {h : HeapView} → ServesField cells slots chunk buffer hs lane p word h → IsOwn h.space (own_chunk h lane) word
own-part {word = word} {h = h} s = subst (λ (c : Nursery). IsOwn h.space c word) (sym s.part.chunk_is) s.own

-- what an operation looks at is in hand where what its slot refers to is, whoever has the right to it
pub looks-touching : (cells : Layout → Type 0) (slots : RootWords → Type 0) (hand : ℕ → Type 0) (right : ℕ → Bool) (o : Option Slot) → TouchesHand cells slots hand o → LooksInHand cells slots hand right o
looks-touching cells slots hand right None touches = tt
looks-touching cells slots hand right (Some p) touches = λ r shown at e s there lt may. touches r shown at e s there lt

-- where it is true of all pages it is true of those that an operation touches
pub touches-all : (cells : Layout → Type 0) (slots : RootWords → Type 0) (hand : ℕ → Type 0) (o : Option Slot) → ((page : ℕ) → hand page) → TouchesHand cells slots hand o
touches-all cells slots hand None all = tt
touches-all cells slots hand (Some p) all = λ r shown at e s there lt. all (page_of at.0)

-- a cell is of its superpage's domain
pub cell-domain : (s : Layout) (a : ℕ) → IsLayout s → IsAllocated s a → (space.cell_at s.pages a).head.domain ≡ get_or s.domains (superpage_of a) 0
cell-domain s a k on = (allocated-object s a k on).of_domain

-- the domain of an object that the lane comes to, and who may read and write it
pub domain-of : {cells : Layout → Type 0} {chunk : Nursery} {hs : List Holder} {lane : ℕ} {word : Word} {h : HeapView} (a domain : ℕ) → HasWord cells chunk hs lane word h → ((s : Layout) → IsSpaceOf cells chunk s → IsCellOrYoung s chunk a → domain ≡ (cell_of s chunk a).head.domain) → IsCellOrYoung h.space (own_chunk h lane) a → domain ≡ (cell_of h.space (own_chunk h lane) a).head.domain
domain-of {h = h} a domain w is there =
    is h.space (space-of w) (there-of a w there) ∙ sym (ap (λ (c : Nursery). (cell_of h.space c a).head.domain) w.chunk_is)

pub domain-within : {cells : Layout → Type 0} {chunk : Nursery} {hs : List Holder} {lane : ℕ} {word : Word} {h : HeapView} (a domain : ℕ) → HasWord cells chunk hs lane word h → ((s : Layout) → IsSpaceOf cells chunk s → IsCellOrYoung s chunk a → domain ≡ (cell_of s chunk a).head.domain) → IsCellOrYoung h.space (own_chunk h lane) a → domain < length hs
domain-within {hs = hs} {lane = lane} {h = h} a domain w is there =
    subst (λ (d : ℕ). d < length hs) (sym (domain-of a domain w is there))
    (domain-there h.space h.roots h.chunks h.buffers hs lane a w.ready.running.closed w.ready.layout w.ready.behind w.ready.lane_within there)

pub reads-of : {cells : Layout → Type 0} {chunk : Nursery} {hs : List Holder} {lane : ℕ} {word : Word} {h : HeapView} (a domain : ℕ) → HasWord cells chunk hs lane word h → ((s : Layout) → IsSpaceOf cells chunk s → IsCellOrYoung s chunk a → domain ≡ (cell_of s chunk a).head.domain) → IsCellOrYoung h.space (own_chunk h lane) a → lets_read (holder_of hs (cell_of h.space (own_chunk h lane) a).head.domain) lane ≡ lets_read (get_or hs domain (Lane 0)) lane
reads-of {hs = hs} {lane = lane} a domain w is there =
    sym (read-default hs domain lane (domain-within a domain w is there) ∙ ap (λ (d : ℕ). lets_read (holder_of hs d) lane) (domain-of a domain w is there))

pub writes-of : {cells : Layout → Type 0} {chunk : Nursery} {hs : List Holder} {lane : ℕ} {word : Word} {h : HeapView} (a domain : ℕ) → HasWord cells chunk hs lane word h → ((s : Layout) → IsSpaceOf cells chunk s → IsCellOrYoung s chunk a → domain ≡ (cell_of s chunk a).head.domain) → IsCellOrYoung h.space (own_chunk h lane) a → lets_write (holder_of hs (cell_of h.space (own_chunk h lane) a).head.domain) lane ≡ lets_write (get_or hs domain (Lane 0)) lane
writes-of {hs = hs} {lane = lane} a domain w is there =
    sym (write-default hs domain lane (domain-within a domain w is there) ∙ ap (λ (d : ℕ). lets_write (holder_of hs d) lane) (domain-of a domain w is there))

-- the object's page is in hand, where the lane has the right to its domain
pub in-hand : {cells : Layout → Type 0} {chunk : Nursery} {hs : List Holder} {lane : ℕ} {word : Word} {h : HeapView} (hand : ℕ → Type 0) (right : ℕ → Bool) (at : Address) (domain : ℕ) → HasWord cells chunk hs lane word h → word ≡ Ref at → LeadsToHandIn cells hand right word
    → ((s : Layout) → cells s → at.0 < end_of s) ⊎ ((s : Layout) → cells s → end_of s ≤ at.0) → ((s : Layout) → IsSpaceOf cells chunk s → IsCellOrYoung s chunk at.0 → domain ≡ (cell_of s chunk at.0).head.domain) → right domain ≡ true → IsInHand cells hand at
in-hand {chunk = chunk} {h = h} hand right at domain w e leads (inl below) is may = λ s shown lt.
    let there = w.own at e in
    let here = below h.space w.space in
    let on = there-below h.space chunk at.0 (space-of w).behind there here in
    let same : domain ≡ get_or h.space.domains (superpage_of at.0) 0 =
    is h.space (space-of w) there ∙ ap (λ (c : Cell). c.head.domain) (cell_of-below h.space chunk at.0 here) ∙ cell-domain h.space at.0 w.ready.layout on in
    leads at e h.space w.space here (subst (λ (d : ℕ). right d ≡ true) same may)
in-hand hand right at domain w e leads (inr above) is may = λ s shown lt. absurd (let le = above s shown in omega arith)
