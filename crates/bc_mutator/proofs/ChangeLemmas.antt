-- What an operation changes in the heap as one memory: the field that it writes, or nothing.
use Rattle.std.proofs.Common.{◌≡◌, ◌≢◌, ℕ, ◌+◌, true, List, length, refl, sym, subst, ◌∙◌, inl, inr, arith}
use Rattle.std.proofs.lemmas.Bool.{cases_lt}
use Rattle.bc_memory.specs.Memory.{Cell}
use Rattle.bc_model.specs.Refusals.{IsRefusal}
use Rattle.bc_model.specs.declared.operations.Op.{Op}
use Rattle.bc_model.specs.declared.operations.Op.TheVariants.{New, Who, Len, Set, Cut, Link, Load, Copy, Clear, Same}
use Rattle.bc_model.specs.declared.operations.Reply.{Reply}
use Rattle.bc_model.specs.declared.operations.Reply.TheVariants.{Done, Foreign, Frozen}
use Rattle.bc_model.specs.declared.values.Holder.{Holder}
use Rattle.bc_model.specs.declared.values.Slot.{Slot}
use Rattle.bc_nursery.specs.Objects.{IsChunk, has_object, the_object}
use Rattle.bc_nursery.specs.Nurseries.{ChunkObject, Nursery}
use Rattle.bc_nursery.proofs.ObjectLemmas.{has-number, the_object-number}
use Rattle.bc_superpages.specs.Layout.{content_at}
use Rattle.bc_superpages.specs.LayoutAt.{word_at}
use Rattle.bc_whole_heap.specs.Closed.{IsCellOrYoung}
use Rattle.bc_whole_heap.specs.Heaps.{HeapView, end_of}
use Rattle.bc_word.proofs.WordsLemmas.{length-words_from}
use Rattle.bc_word.specs.Addresses.{page_of, offset_of}
use Rattle.bc_word.specs.Heads.{fields_of_bits}
use Rattle.bc_word.specs.declared.addresses.Address.{Address}
use Rattle.bc_word.specs.declared.words.Word.{Word}
use Rattle.bc_mutator.specs.Effects.{ChangesField, HasChanged, Wrote}
use Rattle.bc_mutator.specs.Objects.{MayOperate, cell_of, whole_memory, own_chunk, slot_word}
use Rattle.bc_mutator.proofs.ObjectLemmas.{cell_of-above, cell_of-below, memory-there, there-above}
use Rattle.bc_mutator.proofs.WritingLemmas.{CanWrite, written-memory}

-- an object has as many fields as its head says
young-filled : (c : Nursery) (a : ℕ) → IsChunk c → has_object c a ≡ true → length (the_object c a).fields ≡ (the_object c a).head.fields
young-filled c a whole on =
    let n = has-number c a on in
    subst (λ (o : ChunkObject). length o.fields ≡ o.head.fields) (sym (the_object-number c a n.0 whole n.1)) (whole.whole n.0).filled

filled : (h : HeapView) (hs : List Holder) (lane a : ℕ) → MayOperate h hs lane → IsCellOrYoung h.space (own_chunk h lane) a → length (cell_of h.space (own_chunk h lane) a).fields ≡ (cell_of h.space (own_chunk h lane) a).head.fields
filled h hs lane a ready there = elim (cases_lt a (end_of h.space)) [
  | inl below ↦
      subst (λ (c : Cell). length c.fields ≡ c.head.fields) (sym (cell_of-below h.space (own_chunk h lane) a below))
      (length-words_from (content_at h.space.pages (page_of a)) (offset_of a + 1) (fields_of_bits (word_at h.space.pages a)))
  | inr above ↦
      subst (λ (c : Cell). length c.fields ≡ c.head.fields) (sym (cell_of-above h.space (own_chunk h lane) a above))
      (young-filled (own_chunk h lane) a (ready.whole lane ready.lane_within) (there-above h.space (own_chunk h lane) a ready.layout there above))
]

-- a field that is written
pub written-changes : (h k : HeapView) (hs : List Holder) (lane : ℕ) (p : Slot) (target : Word) (at : Address) (index : ℕ) (word : Word) → CanWrite h hs lane target at index word → target ≡ slot_word h.roots p → Wrote h k lane at index word → ChangesField hs lane (whole_memory h) (whole_memory k) h.roots p index word Done
written-changes h k hs lane p target at index word can e wrote =
    let long = filled h hs lane at.0 can.ready can.mine.of.there in
    let few = can.less in
    inl (
      record {
        at = at;
        to = sym e ∙ can.mine.of.refers;
        content = cell_of h.space (own_chunk h lane) at.0;
        is = memory-there h.space h.chunks lane at.0 can.ready.layout can.ready.apart can.ready.lane_within can.mine.of.there;
        held = can.mine.own;
        less = omega arith;
      },
      refl,
      written-memory h k hs lane target at index word can wrote,
    )

-- an operation that isn't done is answered otherwise
not-done : (reply : Reply) → IsRefusal reply → reply ≢ Done
not-done reply (inl e) f = cc
not-done reply (inr (inl e)) f = cc
not-done reply (inr (inr (inl e))) f = cc
not-done reply (inr (inr (inr e))) f = cc

pub refused-changes : (h : HeapView) (hs : List Holder) (lane : ℕ) (p : Slot) (index : ℕ) (word : Word) (reply : Reply) → IsRefusal reply → ChangesField hs lane (whole_memory h) (whole_memory h) h.roots p index word reply
refused-changes h hs lane p index word reply refusal = inr (not-done reply refusal, refl)

foreign-done : Foreign ≢ Done
foreign-done e = cc

pub foreign-changes : (h : HeapView) (hs : List Holder) (lane serial : ℕ) (op : Op) → HasChanged h h hs lane serial op Foreign
foreign-changes h hs lane serial (New p n) = inr (inl refl, refl)
foreign-changes h hs lane serial (Who p) = refl
foreign-changes h hs lane serial (Len p) = refl
foreign-changes h hs lane serial (Set p i v) = inr (foreign-done, refl)
foreign-changes h hs lane serial (Cut p i) = inr (foreign-done, refl)
foreign-changes h hs lane serial (Link p i q) = inr (foreign-done, refl)
foreign-changes h hs lane serial (Load p i q) = refl
foreign-changes h hs lane serial (Copy p q) = refl
foreign-changes h hs lane serial (Clear p) = refl
foreign-changes h hs lane serial (Same p q) = refl

frozen-done : Frozen ≢ Done
frozen-done e = cc

pub frozen-changes : (h : HeapView) (hs : List Holder) (lane serial : ℕ) (op : Op) → HasChanged h h hs lane serial op Frozen
frozen-changes h hs lane serial (New p n) = inr (inr refl, refl)
frozen-changes h hs lane serial (Who p) = refl
frozen-changes h hs lane serial (Len p) = refl
frozen-changes h hs lane serial (Set p i v) = inr (frozen-done, refl)
frozen-changes h hs lane serial (Cut p i) = inr (frozen-done, refl)
frozen-changes h hs lane serial (Link p i q) = inr (frozen-done, refl)
frozen-changes h hs lane serial (Load p i q) = refl
frozen-changes h hs lane serial (Copy p q) = refl
frozen-changes h hs lane serial (Clear p) = refl
frozen-changes h hs lane serial (Same p q) = refl
