-- What a write to a field records, and so what a link does.
use Rattle.std.proofs.Common.{◌≡◌, ℕ, ◌+◌, ◌<◌, true, false, List, length, refl, sym, ap, subst, ◌∙◌, inl, inr, arith}
use Rattle.std.proofs.lemmas.Option.{same_Some}
use Rattle.std.specs.List.{list_all}
use Rattle.bc_whole_heap.specs.Heaps.{HeapView}
use Rattle.bc_whole_heap.specs.Closed.{buffer_of}
use Rattle.bc_whole_heap.specs.Heaps.{end_of}
use Rattle.bc_whole_heap.proofs.HeapLemmas.{allocated-below}
use Rattle.bc_memory.specs.Memory.{Cell}
use Rattle.bc_model.specs.State.{holder_of, lets_read}
use Rattle.bc_model.specs.Step.{domains_of}
use Rattle.bc_model.specs.declared.values.Holder.{Holder}
use Rattle.bc_model.specs.declared.values.Holder.TheVariants as holder
use Rattle.bc_model.specs.declared.operations.Op.{Op}
use Rattle.bc_model.specs.declared.operations.Op.TheVariants.{New, Who, Len, Set, Cut, Link, Load, Copy, Clear, Same}
use Rattle.bc_model.specs.declared.operations.Reply.{Reply}
use Rattle.bc_model.specs.declared.operations.Reply.TheVariants.{Done}
use Rattle.bc_model.specs.declared.values.Slot.{Slot}
use Rattle.bc_superpages.proofs.MemoryLemmas.{memory_of-cell}
use Rattle.bc_superpages.specs.Layout.{content_at}
use Rattle.bc_superpages.specs.LayoutAt.{word_at}
use Rattle.bc_superpages.specs.Memory as space
use Rattle.bc_word.proofs.WordsLemmas.{length-words_from}
use Rattle.bc_word.specs.Addresses.{page_of, offset_of}
use Rattle.bc_word.specs.Heads.{fields_of_bits}
use Rattle.bc_word.specs.declared.addresses.Address.{Address}
use Rattle.bc_word.specs.declared.words.Word.{Word}
use Rattle.bc_word.specs.declared.words.Word.TheVariants.{Ref}
use Rattle.bc_mutator.specs.Effects.{HasRecorded, FindsFull, Records, RecordsField, RecordsNothing, RecordsWrite, StoresAt, StopsAt, Wrote}
use Rattle.bc_mutator.specs.Objects.{MayOperate, IsOwn, IsOwnOfLane, own_chunk, cell_of, slot_word}
use Rattle.bc_mutator.specs.Operations.{NeedsEntry, RefersToField, StoresYoung, target_open}
use Rattle.bc_model.proofs.Holders.{reads-held}
use Rattle.bc_mutator.proofs.ObjectLemmas.{cell_of-below, one_address}
use Rattle.bc_mutator.proofs.WritingLemmas.{CanWrite, own-cell, refers-young}

-- a field of a cell that the lane may write is one that the slot refers to
pub field-named : (h : HeapView) (hs : List Holder) (lane : ℕ) (p : Slot) (target : Word) (at : Address) (index : ℕ) (word : Word) → CanWrite h hs lane target at index word → target ≡ slot_word h.roots p → at.0 < end_of h.space → (f : RefersToField hs lane h.space h.roots p index) × (f.cell ≡ at)
field-named h hs lane p target at index word can e below =
    let own = own-cell h hs lane target at index word can below in (
      record {
        cell = at;
        to = sym e ∙ can.mine.of.refers;
        mature = own.on;
        content = space.cell_at h.space.pages at.0;
        is = memory_of-cell h.space.classes h.space.cells h.space.pages at.0 own.on;
        held = own.held;
        less = own.less;
      },
      refl,
    )

-- what the slot refers to, if it is such a field
field-below : (h : HeapView) (hs : List Holder) (lane : ℕ) (p : Slot) (target : Word) (at : Address) (index : ℕ) → MayOperate h hs lane → target ≡ slot_word h.roots p → target ≡ Ref at → RefersToField hs lane h.space h.roots p index → at.0 < end_of h.space
field-below h hs lane p target at index ready e refers f =
    subst (λ (a : Address). a.0 < end_of h.space) (one_address f.cell at (sym f.to ∙ sym e ∙ refers)) (allocated-below h.space f.cell.0 ready.layout f.mature)

field-found : (h : HeapView) (hs : List Holder) (lane : ℕ) (p : Slot) (target : Word) (index : ℕ) → MayOperate h hs lane → target ≡ slot_word h.roots p → ((a : Address) → IsOwnOfLane h hs lane target a → index < (cell_of h.space (own_chunk h lane) a.0).head.fields → ⊥) → RefersToField hs lane h.space h.roots p index → ⊥
field-found h hs lane p target index ready e none f =
    let below = allocated-below h.space f.cell.0 ready.layout f.mature in
    let is : f.content ≡ space.cell_at h.space.pages f.cell.0 =
    same_Some f.content (space.cell_at h.space.pages f.cell.0) (sym f.is ∙ memory_of-cell h.space.classes h.space.cells h.space.pages f.cell.0 f.mature) in
    let there : f.content ≡ cell_of h.space (own_chunk h lane) f.cell.0 = is ∙ sym (cell_of-below h.space (own_chunk h lane) f.cell.0 below) in
    let less : index < length (space.cell_at h.space.pages f.cell.0).fields = subst (λ (c : Cell). index < length c.fields) is f.less in
    let long = length-words_from (content_at h.space.pages (page_of f.cell.0)) (offset_of f.cell.0 + 1) (fields_of_bits (word_at h.space.pages f.cell.0)) in
    let few : index < (space.cell_at h.space.pages f.cell.0).head.fields = omega arith in
    none f.cell
    (let own : holder_of hs (cell_of h.space (own_chunk h lane) f.cell.0).head.domain ≡ holder.Lane lane = subst (λ (c : Cell). holder_of hs c.head.domain ≡ holder.Lane lane) there f.held in
    record { of = record { refers = e ∙ f.to; there = inl f.mature; held = reads-held _ lane own }; own = own })
    (subst (λ (c : Cell). index < c.head.fields) (sym (cell_of-below h.space (own_chunk h lane) f.cell.0 below)) few)

-- what the write records
mature-records : (h k : HeapView) (hs : List Holder) (lane : ℕ) (p : Slot) (target : Word) (at : Address) (index : ℕ) (word : Word) → CanWrite h hs lane target at index word → target ≡ slot_word h.roots p → at.0 < end_of h.space → Records h.space k.space (buffer_of h.buffers lane) (buffer_of k.buffers lane) at index word → RecordsWrite h k hs lane p index word Done
mature-records h k hs lane p target at index word can e below (inl r) =
    inr (λ stores. absurd (let lt = r.0 stores.1.to stores.1.refers in let le = stores.1.behind in omega arith), r.1)
mature-records h k hs lane p target at index word can e below (inr r) =
    let f = field-named h hs lane p target at index word can e below in
    inl (
      (f.0, r.0),
      refl,
      subst (λ (a : Address). RecordsField a index (buffer_of h.buffers lane) (buffer_of k.buffers lane) h.space.states k.space.states) (sym f.1) r.1,
    )

pub written-records : (h k : HeapView) (hs : List Holder) (lane : ℕ) (p : Slot) (target : Word) (at : Address) (index : ℕ) (word : Word) → CanWrite h hs lane target at index word → target ≡ slot_word h.roots p → Wrote h k lane at index word → RecordsWrite h k hs lane p index word Done
written-records h k hs lane p target at index word can e (inl wrote) = mature-records h k hs lane p target at index word can e wrote.below wrote.cell.entry
written-records h k hs lane p target at index word can e (inr wrote) = inr (
  λ stores. absurd (let lt = field-below h hs lane p target at index can.ready e can.mine.of.refers stores.0 in let le = wrote.behind in omega arith),
  (ap (λ (x : HeapView). buffer_of x.buffers lane) wrote.rest, ap (λ (x : HeapView). x.space.states) wrote.rest),
)

pub refused-records : (h : HeapView) (hs : List Holder) (lane : ℕ) (p : Slot) (target : Word) (index : ℕ) (word : Word) (reply : Reply) → MayOperate h hs lane → target ≡ slot_word h.roots p → ((a : Address) → IsOwnOfLane h hs lane target a → index < (cell_of h.space (own_chunk h lane) a.0).head.fields → ⊥) → RecordsWrite h h hs lane p index word reply
refused-records h hs lane p target index word reply ready e none = inr (λ stores. field-found h hs lane p target index ready e none stores.0, (refl, refl))

pub write-stops : (h : HeapView) (hs : List Holder) (lane : ℕ) (p : Slot) (target : Word) (at : Address) (index : ℕ) (word : Word) → CanWrite h hs lane target at index word → target ≡ slot_word h.roots p → FindsFull h.space (buffer_of h.buffers lane) at word → StopsAt h hs lane p index word
write-stops h hs lane p target at index word can e finds =
    (((field-named h hs lane p target at index word can e finds.below).0, finds.young), finds.full)

-- a word that is no reference is stored unrecorded
pub plain-records : (h k : HeapView) (hs : List Holder) (lane : ℕ) (p : Slot) (index : ℕ) (word : Word) (reply : Reply) → ((a : Address) → word ≡ Ref a → ⊥) → RecordsWrite h k hs lane p index word reply → RecordsNothing (buffer_of h.buffers lane) (buffer_of k.buffers lane) h.space.states k.space.states
plain-records h k hs lane p index word reply plain (inl r) = absurd (plain r.0.1.to r.0.1.refers)
plain-records h k hs lane p index word reply plain (inr r) = r.1

-- a link, of whose slots the lane holds the domains
link-stores : (h : HeapView) (hs : List Holder) (lane index : ℕ) (p q : Slot) (word : Word) → MayOperate h hs lane → (lets_read (holder_of hs p.domain) lane ≡ true) × (lets_read (holder_of hs q.domain) lane ≡ true) → word ≡ slot_word h.roots q → IsOwn h.space (own_chunk h lane) word → (stores : StoresAt h hs lane p index word) → (y : StoresYoung hs lane h.space h.roots (own_chunk h lane) p index q) × (y.target ≡ stores.0)
link-stores h hs lane index p q word ready held e own stores = (
  record {
    slots = held;
    target = stores.0;
    young = stores.1.to;
    stored = sym e ∙ stores.1.refers;
    there = refers-young h hs lane word ready own stores.1;
  },
  refl,
)

pub link-records : (h k : HeapView) (hs : List Holder) (lane index : ℕ) (p q : Slot) (word : Word) (reply : Reply) → MayOperate h hs lane → (lets_read (holder_of hs p.domain) lane ≡ true) × (lets_read (holder_of hs q.domain) lane ≡ true) → word ≡ slot_word h.roots q → IsOwn h.space (own_chunk h lane) word → RecordsWrite h k hs lane p index word reply → HasRecorded h k hs lane (Link p index q) reply
link-records h k hs lane index p q word reply ready held e own (inl r) =
    let y = link-stores h hs lane index p q word ready held e own r.0 in
    inl (
      y.0,
      r.1,
      subst (λ (f : RefersToField hs lane h.space h.roots p index). RecordsField f.cell index (buffer_of h.buffers lane) (buffer_of k.buffers lane) h.space.states k.space.states) (sym y.1) r.2,
    )
link-records h k hs lane index p q word reply ready held e own (inr r) = inr (
  λ y. r.0 (y.target, record { to = y.young; refers = e ∙ y.stored; behind = ready.behind y.young.0 y.there }),
  r.1,
)

-- what stops a link
pub link-stops : (h : HeapView) (hs : List Holder) (lane index : ℕ) (p q : Slot) (word : Word) → MayOperate h hs lane → (lets_read (holder_of hs p.domain) lane ≡ true) × (lets_read (holder_of hs q.domain) lane ≡ true) → word ≡ slot_word h.roots q → IsOwn h.space (own_chunk h lane) word → StopsAt h hs lane p index word → NeedsEntry hs lane h.space h.roots (own_chunk h lane) (buffer_of h.buffers lane) (Link p index q)
link-stops h hs lane index p q word ready held e own stops = ((link-stores h hs lane index p q word ready held e own stops.0).0, stops.1)

-- an operation that names a domain that the lane doesn't hold records nothing
pub foreign-records : (h : HeapView) (hs : List Holder) (lane : ℕ) (op : Op) (reply : Reply) → list_all (λ d. lets_read (holder_of hs d) lane) (domains_of op) ≡ false → HasRecorded h h hs lane op reply
foreign-records h hs lane (New p n) reply foreign = (refl, refl)
foreign-records h hs lane (Who p) reply foreign = (refl, refl)
foreign-records h hs lane (Len p) reply foreign = (refl, refl)
foreign-records h hs lane (Set p i v) reply foreign = (refl, refl)
foreign-records h hs lane (Cut p i) reply foreign = (refl, refl)
foreign-records h hs lane (Link p i q) reply foreign = inr (λ y. no (sym (both y.slots.0 y.slots.1) ∙ foreign), (refl, refl))
  where
    both : lets_read (holder_of hs p.domain) lane ≡ true → lets_read (holder_of hs q.domain) lane ≡ true → list_all (λ d. lets_read (holder_of hs d) lane) (domains_of (Link p i q)) ≡ true
    both a b = rw (a, b) grind arith

    no : true ≡ false → ⊥
    no e = cc
foreign-records h hs lane (Load p i q) reply foreign = (refl, refl)
foreign-records h hs lane (Copy p q) reply foreign = (refl, refl)
foreign-records h hs lane (Clear p) reply foreign = (refl, refl)
foreign-records h hs lane (Same p q) reply foreign = (refl, refl)

-- nor does one that would write a slot of a frozen domain
pub frozen-records : (h : HeapView) (hs : List Holder) (lane : ℕ) (op : Op) (reply : Reply) → target_open hs lane op ≡ false → HasRecorded h h hs lane op reply
frozen-records h hs lane (New p n) reply off = (refl, refl)
frozen-records h hs lane (Who p) reply off = (refl, refl)
frozen-records h hs lane (Len p) reply off = (refl, refl)
frozen-records h hs lane (Set p i v) reply off = (refl, refl)
frozen-records h hs lane (Cut p i) reply off = (refl, refl)
frozen-records h hs lane (Link p i q) reply off = absurd (cc)
frozen-records h hs lane (Load p i q) reply off = (refl, refl)
frozen-records h hs lane (Copy p q) reply off = (refl, refl)
frozen-records h hs lane (Clear p) reply off = (refl, refl)
frozen-records h hs lane (Same p q) reply off = (refl, refl)
