-- The objects that a lane may look at, in the heap as one memory.
use Rattle.bc_model.specs.declared.values.Holder.{Holder}
use Rattle.std.proofs.Common.{◌≡◌, ℕ, ◌+◌, ◌<◌, ◌≤◌, true, false, inl, inr, List, length, get_or, Some, option_map, refl, sym, ap, subst, ◌∙◌, arith}
use Rattle.std.proofs.lemmas.Bool.{cases_lt, lt-ltb, le-ltb}
use Rattle.std.proofs.lemmas.List.{get_or_read}
use Rattle.bc_whole_heap.specs.Closed.{IsCellOrYoung, IsClosedHeap}
use Rattle.bc_whole_heap.specs.LaneChunks.{chunk_of}
use Rattle.bc_whole_heap.specs.Heaps.{end_of, heap_memory, young, no_chunk}
use Rattle.bc_whole_heap.specs.HeapFacts.{AreChunks, AreApart, view_of}
use Rattle.bc_whole_heap.proofs.ChunkLemmas.{object_in-at}
use Rattle.bc_whole_heap.proofs.HeapLemmas.{memory-below, memory-above, allocated-here, allocated-below}
use Rattle.bc_memory.specs.Memory.{Cell}
use Rattle.bc_nursery.specs.Entries.{Entries}
use Rattle.bc_nursery.specs.Objects.{IsChunk, has_object, the_object}
use Rattle.bc_nursery.specs.Nurseries.{Nursery}
use Rattle.bc_nursery.proofs.ObjectLemmas.{words-inside}
use Rattle.bc_nursery.proofs.MappedLemmas.{has-some}
use Rattle.bc_superpages.specs.Calls.{IsAtHand}
use Rattle.bc_superpages.specs.Headers.{is_gone}
use Rattle.bc_superpages.specs.Kept.{IsLayout}
use Rattle.bc_superpages.specs.Layout.{Layout, content_at}
use Rattle.bc_superpages.specs.LayoutAt.{IsAllocated, state_at, word_at}
use Rattle.bc_superpages.specs.Memory as space
use Rattle.bc_superpages.specs.RootWords.{RootWords}
use Rattle.bc_word.proofs.WordsLemmas.{length-words_from}
use Rattle.bc_superpages.proofs.MemoryLemmas.{memory_of-cell}
use Rattle.bc_word.specs.Addresses.{page_of, offset_of}
use Rattle.bc_word.specs.Heads.{fields_of_bits}
use Rattle.bc_word.specs.declared.addresses.Address.{Address}
use Rattle.bc_word.specs.declared.words.Word.{Word}
use Rattle.bc_word.specs.declared.words.Word.TheVariants.{Nil, Ref}
use Rattle.bc_mutator.specs.Objects.{LieBehind, cell_of}

pub one_address : (x y : Address) → Ref x ≡ Ref y → x ≡ y
one_address x y e = cc

-- the lane's chunk lies past the superpages
pub LieBehind-laid : (s : Layout) (words : ℕ) (cs : List Nursery) (l : ℕ) → AreChunks (end_of s) words cs → l < length cs → IsChunk (chunk_of cs l) → LieBehind s (chunk_of cs l)
LieBehind-laid s words cs l laid lt whole = λ a on.
    let base = laid.base l lt in
    let inside = words-inside (get_or cs l no_chunk) whole a on in
    omega arith

pub cell_of-below : (s : Layout) (c : Nursery) (a : ℕ) → a < end_of s → cell_of s c a ≡ space.cell_at s.pages a
cell_of-below s c a lt = rw (lt-ltb a (end_of s) lt) refl

pub cell_of-above : (s : Layout) (c : Nursery) (a : ℕ) → end_of s ≤ a → cell_of s c a ≡ young (the_object c a)
cell_of-above s c a le = rw (le-ltb a (end_of s) le) refl

-- where the object lies determines what it is
pub there-below : (s : Layout) (c : Nursery) (a : ℕ) → LieBehind s c → IsCellOrYoung s c a → a < end_of s → IsAllocated s a
there-below s c a behind (inl on) lt = on
there-below s c a behind (inr on) lt = absurd (let le = behind a on in omega arith)

pub there-above : (s : Layout) (c : Nursery) (a : ℕ) → IsLayout s → IsCellOrYoung s c a → end_of s ≤ a → has_object c a ≡ true
there-above s c a k (inl on) le = absurd (let lt = allocated-below s a k on in omega arith)
there-above s c a k (inr on) le = on

-- the memory at such an address
pub memory-there : (s : Layout) (cs : List Nursery) (l a : ℕ) → IsLayout s → AreApart (end_of s) cs → l < length cs → IsCellOrYoung s (chunk_of cs l) a → heap_memory s cs a ≡ Some (cell_of s (chunk_of cs l) a)
memory-there s cs l a k apart lt there = elim (cases_lt a (end_of s)) [
  | inl below ↦
      let on = there-below s (chunk_of cs l) a (λ x. apart.behind l x lt) there below in
      memory-below s cs a below ∙ memory_of-cell s.classes s.cells s.pages a on ∙ sym (ap (λ (c : Cell). Some c) (cell_of-below s (chunk_of cs l) a below))
  | inr above ↦
      let on = there-above s (chunk_of cs l) a k there above in
      memory-above s cs a above
      ∙ ap (option_map young) (object_in-at cs a l lt on (λ i less. apart.first i l a less lt on) ∙ has-some (chunk_of cs l) a on)
      ∙ sym (ap (λ (c : Cell). Some c) (cell_of-above s (chunk_of cs l) a above))
]

-- a cell is at hand where its page isn't Gone, and its field is what is read
pub at_hand-there : (s : Layout) (c : Nursery) (a : ℕ) → IsLayout s → is_gone (state_at s.states (page_of a)) ≡ false → LieBehind s c → IsCellOrYoung s c a → a < end_of s → IsAtHand s a
at_hand-there s c a k here behind there lt = allocated-here s a k here (there-below s c a behind there lt)

pub field-below : (s : Layout) (c : Nursery) (a i : ℕ) (w : Word) → a < end_of s → i < (cell_of s c a).head.fields → w ≡ get_or (space.cell_at s.pages a).fields i w → w ≡ get_or (cell_of s c a).fields i Nil
field-below s c a i w lt less read =
    let is = cell_of-below s c a lt in
    let few : i < (space.cell_at s.pages a).head.fields = subst (λ (x : Cell). i < x.head.fields) is less in
    let long = length-words_from (content_at s.pages (page_of a)) (offset_of a + 1) (fields_of_bits (word_at s.pages a)) in
    get_or_read (space.cell_at s.pages a).fields i w (omega arith) read Nil ∙ sym (ap (λ (x : Cell). get_or x.fields i Nil) is)

-- its domain is one of the domains
pub domain-there : (s : Layout) (r : RootWords) (cs : List Nursery) (bs : List Entries) (hs : List Holder) (l a : ℕ) → IsClosedHeap (view_of s r cs bs) hs → IsLayout s → LieBehind s (chunk_of cs l) → l < length cs → IsCellOrYoung s (chunk_of cs l) a → (cell_of s (chunk_of cs l) a).head.domain < length hs
domain-there s r cs bs hs l a closed k behind lt there = elim (cases_lt a (end_of s)) [
  | inl below ↦
      let on = there-below s (chunk_of cs l) a behind there below in
      subst (λ (x : Cell). x.head.domain < length hs) (sym (cell_of-below s (chunk_of cs l) a below))
      (closed.mature_domain a (space.cell_at s.pages a) (memory_of-cell s.classes s.cells s.pages a on))
  | inr above ↦
      let on = there-above s (chunk_of cs l) a k there above in
      subst (λ (x : Cell). x.head.domain < length hs) (sym (cell_of-above s (chunk_of cs l) a above)) (closed.young_domain l a lt on).0
]
