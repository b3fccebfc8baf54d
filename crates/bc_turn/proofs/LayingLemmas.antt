-- What lanes took into a turn, laid back one lane after another.
use Rattle.std.proofs.Common.{◌≡◌, ◌⊎◌, ℕ, ◌+◌, ◌<◌, List, [], length, get_or, set, inl, inr, ap, sym, subst, ◌∙◌, arith, length-set, get_or-set_same, get_or-set_other}
use Rattle.std.proofs.lemmas.Bool.{cases_eq, cases_lt}
use Rattle.bc_lane.specs.declared.turns.LaneTurn.{LaneTurn}
use Rattle.bc_model.proofs.Holders.{same-lane as lanes-same}
use Rattle.bc_model.specs.State.{holder_of}
use Rattle.bc_model.specs.declared.operations.Reply.{Reply}
use Rattle.bc_model.specs.declared.values.Holder.{Holder}
use Rattle.bc_model.specs.declared.values.Holder.TheVariants.{Lane}
use Rattle.bc_mutator.specs.Objects.{own_chunk}
use Rattle.bc_reach.specs.Distinct.{Has}
use Rattle.bc_superpages.specs.Layout.{Layout}
use Rattle.bc_superpages.specs.RootSlots.{root_at}
use Rattle.bc_superpages.specs.RootWords.{RootWords}
use Rattle.bc_turn.specs.Begun.{of_lane}
use Rattle.bc_turn.specs.Laying.{AreLaidBack, LaysBack}
use Rattle.bc_whole_heap.specs.Closed.{buffer_of, no_buffer}
use Rattle.bc_whole_heap.specs.Heaps.{HeapView, no_chunk}
use Rattle.bc_reach.proofs.Pushed.{Has-get_or}

-- an element of a list of which one is replaced
replaced-here : {A : Type 0} (xs ys : List A) (l m : ℕ) (x d : A) → ys ≡ set xs l x → l < length xs → m ≡ l → get_or ys m d ≡ x
replaced-here xs ys l m x d is lt e = ap (λ zs. get_or zs m d) is ∙ ap (λ (j : ℕ). get_or (set xs l x) j d) e ∙ get_or-set_same xs l x d lt

replaced-else : {A : Type 0} (xs ys : List A) (l m : ℕ) (x d : A) → ys ≡ set xs l x → (m ≡ l → ⊥) → get_or ys m d ≡ get_or xs m d
replaced-else xs ys l m x d is off = ap (λ zs. get_or zs m d) is ∙ get_or-set_other xs l m x d off

module _ (hs : List Holder) (busy : List ℕ) (turn : ℕ → LaneTurn) (n : ℕ) (h : HeapView) (serials : List ℕ) (before : List (List Reply)) (g : HeapView) (births : List ℕ) (told : List (List Reply)) (k : HeapView) (nexts : List ℕ) (after : List (List Reply))
    (laid : AreLaidBack hs busy turn n h serials before g births told) (one : LaysBack hs (turn n) g births told k nexts after) (lane_is : (turn n).part.lane ≡ get_or busy n 0) (lt : n < length busy)
    (rising : (i j : ℕ) → i < j → j < length busy → get_or busy i 0 < get_or busy j 0)
    (in_chunks : get_or busy n 0 < length h.chunks) (in_buffers : get_or busy n 0 < length h.buffers) (in_births : get_or busy n 0 < length serials) (in_replies : get_or busy n 0 < length before) where
  abbrev l : ℕ
  l = (turn n).part.lane

  has-last : Has busy l
  has-last = subst (Has busy) (sym lane_is) (Has-get_or busy n lt)

  not-has : (m : ℕ) → (Has busy m → ⊥) → m ≡ l → ⊥
  not-has m none e = none (subst (Has busy) (sym e) has-last)

  earlier : (i : ℕ) → i < n + 1 → (i ≡ n → ⊥) → i < n
  earlier i less ne = elim (cases_lt i n) [
    | inl x ↦ x
    | inr le ↦ absurd (ne (omega arith))
  ]

  not-last : (i : ℕ) → i < n → get_or busy i 0 ≡ l → ⊥
  not-last i less e = let up = rising i n less lt in let is = lane_is in absurd (omega arith)

  same-lane : (i : ℕ) → i ≡ n → get_or busy i 0 ≡ l
  same-lane i e = ap (λ (j : ℕ). get_or busy j 0) e ∙ sym lane_is

  chunk : (i : ℕ) → i < n + 1 → (i ≡ n) ⊎ (i ≡ n → ⊥) → own_chunk k (get_or busy i 0) ≡ (turn i).part.chunk
  chunk i less (inl e) =
      replaced-here g.chunks k.chunks l (get_or busy i 0) (turn n).part.chunk no_chunk one.chunks (let long = laid.chunks_long in let is = lane_is in omega arith) (same-lane i e)
      ∙ ap (λ (j : ℕ). (turn j).part.chunk) (sym e)
  chunk i less (inr ne) =
      let before_it = earlier i less ne in
      replaced-else g.chunks k.chunks l (get_or busy i 0) (turn n).part.chunk no_chunk one.chunks (not-last i before_it) ∙ laid.chunk i before_it

  buffer : (i : ℕ) → i < n + 1 → (i ≡ n) ⊎ (i ≡ n → ⊥) → buffer_of k.buffers (get_or busy i 0) ≡ (turn i).part.buffer
  buffer i less (inl e) =
      replaced-here g.buffers k.buffers l (get_or busy i 0) (turn n).part.buffer no_buffer one.buffers (let long = laid.buffers_long in let is = lane_is in omega arith) (same-lane i e)
      ∙ ap (λ (j : ℕ). (turn j).part.buffer) (sym e)
  buffer i less (inr ne) =
      let before_it = earlier i less ne in
      replaced-else g.buffers k.buffers l (get_or busy i 0) (turn n).part.buffer no_buffer one.buffers (not-last i before_it) ∙ laid.buffer i before_it

  serial : (i : ℕ) → i < n + 1 → (i ≡ n) ⊎ (i ≡ n → ⊥) → get_or nexts (get_or busy i 0) 0 ≡ (turn i).part.serial
  serial i less (inl e) =
      replaced-here births nexts l (get_or busy i 0) (turn n).part.serial 0 one.births (let long = laid.births_long in let is = lane_is in omega arith) (same-lane i e)
      ∙ ap (λ (j : ℕ). (turn j).part.serial) (sym e)
  serial i less (inr ne) =
      let before_it = earlier i less ne in
      replaced-else births nexts l (get_or busy i 0) (turn n).part.serial 0 one.births (not-last i before_it) ∙ laid.births i before_it

  reply : (i : ℕ) → i < n + 1 → (i ≡ n) ⊎ (i ≡ n → ⊥) → of_lane after (get_or busy i 0) ≡ (turn i).replies.items
  reply i less (inl e) =
      replaced-here told after l (get_or busy i 0) (turn n).replies.items [] one.replies (let long = laid.replies_long in let is = lane_is in omega arith) (same-lane i e)
      ∙ ap (λ (j : ℕ). (turn j).replies.items) (sym e)
  reply i less (inr ne) =
      let before_it = earlier i less ne in
      replaced-else told after l (get_or busy i 0) (turn n).replies.items [] one.replies (not-last i before_it) ∙ laid.replies i before_it

  small-there : (t : ℕ) → t < h.roots.slots → t < g.roots.slots
  small-there t small = subst (λ (s : ℕ). t < s) (sym (ap (λ (r : RootWords). r.slots) laid.roots)) small

  word : (i d t : ℕ) → i < n + 1 → (i ≡ n) ⊎ (i ≡ n → ⊥) → d < length hs → holder_of hs d ≡ Lane (get_or busy i 0) → t < h.roots.slots
      → root_at k.roots d t ≡ get_or (turn i).part.words.items (get_or (turn i).part.starts.items d 0 + t) 0
  word i d t less (inl e) within held small =
      one.roots.own d t within (held ∙ ap Lane (same-lane i e)) (small-there t small)
      ∙ ap (λ (j : ℕ). get_or (turn j).part.words.items (get_or (turn j).part.starts.items d 0 + t) 0) (sym e)
  word i d t less (inr ne) within held small =
      let before_it = earlier i less ne in
      one.roots.others d t within (λ e. not-last i before_it (lanes-same (get_or busy i 0) l (sym held ∙ e))) (small-there t small) ∙ laid.words i d t before_it within held small

  pub laid-next : AreLaidBack hs busy turn (n + 1) h serials before k nexts after
  laid-next = record {
    chunks_long = ap length one.chunks ∙ length-set g.chunks l (turn n).part.chunk ∙ laid.chunks_long;
    buffers_long = ap length one.buffers ∙ length-set g.buffers l (turn n).part.buffer ∙ laid.buffers_long;
    births_long = ap length one.births ∙ length-set births l (turn n).part.serial ∙ laid.births_long;
    replies_long = ap length one.replies ∙ length-set told l (turn n).replies.items ∙ laid.replies_long;
    words_long = one.roots.long ∙ laid.words_long;
    roots = one.roots.same ∙ ap (λ (r : RootWords). record r { words = k.roots.words; noted = k.roots.noted }) laid.roots;
    chunk = λ i less. chunk i less (cases_eq i n);
    buffer = λ i less. buffer i less (cases_eq i n);
    births = λ i less. serial i less (cases_eq i n);
    replies = λ i less. reply i less (cases_eq i n);
    words = λ i d t less. word i d t less (cases_eq i n);
    chunk_else = λ m none. replaced-else g.chunks k.chunks l m (turn n).part.chunk no_chunk one.chunks (not-has m none) ∙ laid.chunk_else m none;
    buffer_else = λ m none. replaced-else g.buffers k.buffers l m (turn n).part.buffer no_buffer one.buffers (not-has m none) ∙ laid.buffer_else m none;
    births_else = λ m none. replaced-else births nexts l m (turn n).part.serial 0 one.births (not-has m none) ∙ laid.births_else m none;
    replies_else = λ m none. replaced-else told after l m (turn n).replies.items [] one.replies (not-has m none) ∙ laid.replies_else m none;
    words_else = λ d t within none small. one.roots.others d t within (λ is. none l is has-last) (small-there t small) ∙ laid.words_else d t within none small;
    kept = λ i note. one.roots.kept i (laid.kept i note);
    written = λ i. elim (one.roots.written i) [
      | inl same ↦ elim (laid.written i) [
        | inl first ↦ inl (same ∙ first)
        | inr note ↦ inr (one.roots.kept i note)
      ]
      | inr note ↦ inr note
    ];
  }

-- where the space is put back besides
pub laid-space : (hs : List Holder) (busy : List ℕ) (turn : ℕ → LaneTurn) (n : ℕ) (h : HeapView) (serials : List ℕ) (before : List (List Reply)) (k : HeapView) (nexts : List ℕ) (after : List (List Reply)) (t : Layout) → AreLaidBack hs busy turn n h serials before k nexts after
    → AreLaidBack hs busy turn n h serials before (record k { space = t }) nexts after
laid-space hs busy turn n h serials before k nexts after t laid = record {
  chunks_long = laid.chunks_long;
  buffers_long = laid.buffers_long;
  births_long = laid.births_long;
  replies_long = laid.replies_long;
  words_long = laid.words_long;
  roots = laid.roots;
  chunk = laid.chunk;
  buffer = laid.buffer;
  births = laid.births;
  replies = laid.replies;
  words = laid.words;
  chunk_else = laid.chunk_else;
  buffer_else = laid.buffer_else;
  births_else = laid.births_else;
  replies_else = laid.replies_else;
  words_else = laid.words_else;
  kept = laid.kept;
  written = laid.written;
}
