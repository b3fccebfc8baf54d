-- The heap with all laid back is the one that the lanes' operations made.
use Rattle.std.proofs.Common.{◌≡◌, ◌⊎◌, ℕ, ◌+◌, ◌*◌, ◌<◌, ◌/◌, ◌%◌, List, length, get_or, None, inl, inr, ap, sym, subst, ◌∙◌, arith}
use Rattle.std.proofs.lemmas.List.{ext_get_or}
use Rattle.bc_lane.specs.Back.{heap_back}
use Rattle.bc_lane.specs.Turns.{IsWhole}
use Rattle.bc_lane.specs.declared.turns.LaneTurn.{LaneTurn}
use Rattle.bc_model.specs.State.{holder_of}
use Rattle.bc_model.specs.declared.operations.Reply.{Reply}
use Rattle.bc_model.specs.declared.values.Holder.{Holder}
use Rattle.bc_model.specs.declared.values.Holder.TheVariants.{Lane}
use Rattle.bc_mutator.specs.Objects.{own_chunk}
use Rattle.bc_pins.specs.declared.views.View.{View}
use Rattle.bc_reach.specs.Distinct.{Has}
use Rattle.bc_superpages.specs.Layout.{Layout}
use Rattle.bc_superpages.specs.LayoutAt.{IsAllocated}
use Rattle.bc_superpages.specs.RootSlots.{root_at}
use Rattle.bc_superpages.specs.RootWords.{RootWords}
use Rattle.bc_turn.proofs.BusyLemmas.{find-index}
use Rattle.bc_turn.proofs.HolderLemmas.{find-holder}
use Rattle.bc_turn.proofs.PassLemmas.{Passes}
use Rattle.bc_turn.specs.Beside.{IsLaidBack, LiesBack}
use Rattle.bc_turn.specs.Laying.{AreLaidBack}
use Rattle.bc_whole_heap.specs.Closed.{IsClosedHeap, buffer_of, no_buffer}
use Rattle.bc_whole_heap.specs.Heaps.{HeapView, no_chunk}
use Rattle.bc_whole_heap.proofs.ClosedLemmas.{root-place}
use Rattle.bc_word.specs.declared.addresses.Address.{Address}
use Rattle.bc_word.specs.declared.words.Word.TheVariants.{Ref}
use Rattle.bc_word.specs.Words.{word_of_bits}

module _ (h m k : HeapView) (hs : List Holder) (busy serials nexts : List ℕ) (before told : List (List Reply)) (turn : ℕ → LaneTurn) (view : ℕ → View) (end : ℕ)
    (closed : IsClosedHeap h hs) (words_long : length h.roots.words ≡ h.roots.domains * h.roots.slots) (made_long : length m.roots.words ≡ m.roots.domains * m.roots.slots)
    (holders : (i : ℕ) → i < length busy → (turn i).part.holders.items ≡ hs) (lanes : (i : ℕ) → i < length busy → (turn i).part.lane ≡ get_or busy i 0)
    (whole : (i : ℕ) → i < length busy → IsWhole (turn i).part (view i) None end m) (passes : Passes hs (Has busy) (heap_back h) m)
    (laid : AreLaidBack hs busy turn (length busy) h serials before k nexts told) (pages : LiesBack m.space k.space) where
  -- the words of the root slots
  slot-same : (d t : ℕ) → d < length hs → t < h.roots.slots → root_at k.roots d t ≡ root_at m.roots d t
  slot-same d t within less = elim (find-holder busy (holder_of hs d)) [
    | inl r ↦
        let w = (whole r.0 r.1).belongs.roots in
        let held : holder_of (turn r.0).part.holders.items d ≡ Lane (turn r.0).part.lane = ap (λ (l : List Holder). holder_of l d) (holders r.0 r.1) ∙ r.2 ∙ sym (ap Lane (lanes r.0 r.1)) in
        let inside : d < length (turn r.0).part.holders.items = subst (λ (l : List Holder). d < length l) (sym (holders r.0 r.1)) within in
        let slots = ap (λ (x : RootWords). x.slots) passes.roots in
        let slots_are = w.slots_are d inside held in
        laid.words r.0 d t r.1 within r.2 less ∙ sym (w.same d t inside held (omega arith))
    | inr none ↦ laid.words_else d t within none less ∙ sym (passes.slots (record { domain = d; slot = t }) none less)
  ]

  word-same : (x : ℕ) → x < length k.roots.words → get_or k.roots.words x 0 ≡ get_or m.roots.words x 0
  word-same x lt =
      let long = laid.words_long in
      let place = root-place h.roots x words_long (omega arith) in
      let d : ℕ = x / h.roots.slots in
      let t : ℕ = x % h.roots.slots in
      let domains = closed.domains in
      let inside = place.domain in
      let at_k : root_at k.roots d t ≡ get_or k.roots.words x 0 = ap (λ (r : RootWords). get_or k.roots.words (d * r.slots + t) 0) laid.roots ∙ ap (λ (y : ℕ). get_or k.roots.words y 0) place.place in
      let at_m : root_at m.roots d t ≡ get_or m.roots.words x 0 = ap (λ (r : RootWords). get_or m.roots.words (d * r.slots + t) 0) passes.roots ∙ ap (λ (y : ℕ). get_or m.roots.words y 0) place.place in
      sym at_k ∙ slot-same d t (omega arith) place.slot ∙ at_m

  words-same : k.roots.words ≡ m.roots.words
  words-same =
      let domains = ap (λ (x : RootWords). x.domains) passes.roots in
      let slots = ap (λ (x : RootWords). x.slots) passes.roots in
      let long : length m.roots.words ≡ h.roots.domains * h.roots.slots = made_long ∙ ap (λ (n : ℕ). n * m.roots.slots) domains ∙ ap (λ (n : ℕ). h.roots.domains * n) slots in
      let long_k = laid.words_long in
      ext_get_or 0 k.roots.words m.roots.words (omega arith) word-same

  roots-same : k.roots ≡ record (m.roots) { noted = k.roots.noted }
  roots-same =
      laid.roots ∙ ap (λ (ws : List ℕ). record (h.roots) { words = ws; noted = k.roots.noted }) words-same
      ∙ ap (λ (r : RootWords). record r { noted = k.roots.noted }) (sym passes.roots)

  allocated : (a : ℕ) → IsAllocated h.space a → IsAllocated k.space a
  allocated a on = subst (λ (s : Layout). IsAllocated s a) (sym pages.same) (subst (λ (s : Layout). IsAllocated s a) (sym passes.space) on)

  noted : (i : ℕ) → (a : Address) → i < length k.roots.words → word_of_bits (get_or k.roots.words i 0) ≡ Ref a → IsAllocated k.space a.0 ⊎ Has k.roots.noted i
  noted i a lt is = elim (laid.written i) [
    | inl same ↦ elim (closed.noted i a (let long = laid.words_long in omega arith) (ap word_of_bits (sym same) ∙ is)) [
      | inl on ↦ inl (allocated a.0 on)
      | inr note ↦ inr (laid.kept i note)
    ]
    | inr note ↦ inr note
  ]

  chunks-same : k.chunks ≡ m.chunks
  chunks-same = ext_get_or no_chunk k.chunks m.chunks (laid.chunks_long ∙ sym passes.chunks) (λ l lt. elim (find-index busy l) [
    | inl r ↦ ap (own_chunk k) (sym r.2) ∙ laid.chunk r.0 r.1 ∙ sym (ap (own_chunk m) (sym r.2 ∙ sym (lanes r.0 r.1)) ∙ (whole r.0 r.1).belongs.chunk_is)
    | inr none ↦ laid.chunk_else l none ∙ sym (passes.chunk l none)
  ])

  buffers-same : k.buffers ≡ m.buffers
  buffers-same = ext_get_or no_buffer k.buffers m.buffers (laid.buffers_long ∙ sym passes.buffers) (λ l lt. elim (find-index busy l) [
    | inl r ↦ ap (buffer_of k.buffers) (sym r.2) ∙ laid.buffer r.0 r.1 ∙ sym (ap (buffer_of m.buffers) (sym r.2 ∙ sym (lanes r.0 r.1)) ∙ (whole r.0 r.1).belongs.buffer_is)
    | inr none ↦ laid.buffer_else l none ∙ sym (passes.buffer l none)
  ])

  pub laid-back : IsLaidBack m k
  laid-back = record { pages = pages; roots = roots-same; noted = noted; chunks = chunks-same; buffers = buffers-same }
