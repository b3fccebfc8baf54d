-- A heap without chunks whose root slots are all nil: its cells can be collected.
use Rattle.std.proofs.Common.{◌≡◌, ℕ, ◌*◌, ◌<◌, ◌≤◌, ◌⊎◌, true, false, inl, inr, List, [], ◌∷◌, length, map, replicate, get_or, Some, None, refl, ap, sym, subst, ◌∙◌, arith}
use Prim.Native.Nat.{zero, suc}
use Rattle.std.proofs.lemmas.Bool.{both_ways, cases_lt}
use Rattle.std.proofs.lemmas.List.{get_or_past}
use Rattle.bc_bookmarks.specs.Moves.{MovesPages}
use Rattle.bc_bookmarks.specs.Targets.{is_target}
use Rattle.bc_bookmarks.proofs.SoundLemmas.{IsSound}
use Rattle.bc_bookmarks.proofs.TargetLemmas.{refers-target}
use Rattle.bc_mark.specs.Beginning.{CanCollect}
use Rattle.bc_memory.specs.Memory.{Cell, Memory}
use Rattle.bc_nursery.specs.Nurseries.{ChunkObject}
use Rattle.bc_pins.specs.Opening.{IsOpenable}
use Rattle.bc_superpages.specs.Calls.{CanName}
use Rattle.bc_superpages.specs.Layout.{Layout, is_cell, superpages}
use Rattle.bc_superpages.specs.LayoutAt.{IsAllocated}
use Rattle.bc_superpages.specs.Memory.{memory}
use Rattle.bc_superpages.specs.RootWords.{RootWords}
use Rattle.bc_whole_heap.specs.HeapFacts.{view_of}
use Rattle.bc_word.specs.Addresses.{page_of}
use Rattle.bc_word.specs.declared.addresses.Address.{Address}
use Rattle.bc_word.specs.declared.words.Word.{Word}
use Rattle.bc_word.specs.declared.words.Word.TheVariants.{Nil, Ref}
use Rattle.bc_word.specs.Words.{word_of_bits}

nil_ref : (a : Address) → Nil ≡ Ref a → ⊥
nil_ref a e = cc

none_some : (o : ChunkObject) → None ≡ Some o → ⊥
none_some o e = cc

nil_roots : (n i : ℕ) → get_or (map word_of_bits (replicate n 0)) i Nil ≡ Nil
unfolding word_of_bits
nil_roots zero i = refl
nil_roots (suc n) zero = refl
nil_roots (suc n) (suc i) = nil_roots n i

pub can-rooted : (s t : Layout) (r : RootWords) (n : ℕ) → IsSound s → MovesPages s t → IsOpenable t → r.words ≡ replicate n 0 → CanCollect (view_of t r [] [])
can-rooted s t r n sound moves open_t nil = record {
  summarised = open_t.summarised;
  none_promised = open_t.promised;
  apart = record { behind = λ l a lt on. absurd (omega arith); first = λ k l a less lt on. absurd (omega arith) };
  traced = record {
    root = λ a named. absurd (nil_ref (record { 0 = a }) (sym (ap (λ (ws : List ℕ). get_or (map word_of_bits ws) named.0 Nil) nil ∙ nil_roots n named.0) ∙ named.1));
    young = λ a b o there marked named. absurd (none_some o there);
    mature = λ a k c b there is. inl (cell a k c b there is (cases_lt k (length c.fields)));
    entries = λ l i lt within. absurd (omega arith);
  };
}
  where
    same : memory t ≡ memory s
    same = ap memory moves.same

    cell : (a k : ℕ) (c : Cell) (b : Address) → memory t a ≡ Some c → get_or c.fields k Nil ≡ Ref b → (k < length c.fields) ⊎ (length c.fields ≤ k) → IsAllocated t b.0
    cell a k c b there is (inr past) = absurd (nil_ref b (sym (get_or_past c.fields k Nil past) ∙ is))
    cell a k c b there is (inl within) = elim (subst (CanName t) is (open_t.closed a c there k within)) [
      | inl on ↦ on
      | inr other ↦ elim other [
        | inl promised ↦ absurd (both_ways (is_cell t.classes t.promised b.0) (open_t.promised b.0) promised)
        | inr past ↦
            let target : is_target (memory t) (page_of a) b.0 ≡ true = refers-target (memory t) (page_of a) b.0 (record { address = a; on = refl; object = c; is = there; index = k; within = within; refers = is }) in
            let below = sound.2 (page_of a) b.0 (ap (λ (m : Memory). is_target m (page_of a) b.0) (sym same) ∙ target) in
            let long = ap superpages moves.same in
            let far = past in
            absurd (omega arith)
      ]
    ]
