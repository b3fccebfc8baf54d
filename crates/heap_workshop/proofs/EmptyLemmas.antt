-- Chunks that are empty, by their first objects.
use Rattle.std.proofs.Common.{◌≡◌, ℕ, ◌<◌, true, false, inl, inr, List, [], ◌∷◌, length, get_or, Option, None, sym, ap, ◌∙◌, refl}
use Rattle.std.proofs.lemmas.Bool.{cases_lt, both_ways}
use Rattle.std.proofs.lemmas.List.{get_or_past, get_or_read}
use Rattle.std.specs.List.{find}
use Rattle.std.specs.Option.{is_some, option_map}
use Rattle.bc_nursery.specs.Nurseries.{ChunkObject, Nursery}
use Rattle.bc_nursery.specs.Objects.{address_of, is_after, next_of}
use Rattle.bc_whole_heap.specs.Heaps.{no_chunk}
use Rattle.bc_whole_heap.specs.LaneChunks.{chunk_of}
use Rattle.bc_word.specs.declared.addresses.Address.{Address}

first-none : (os : List ChunkObject) → is_some (option_map address_of (find (λ o. is_after None o.address) os)) ≡ false → os ≡ []
first-none [] off = refl
first-none (o ∷ os) off = absurd (let e : true ≡ false = off in cc)

-- the chunk at a place of the list has no first object, so it is empty
pub empty-one : (cs : List Nursery) (k : ℕ) (c : Nursery) (first : Option Address) → k < length cs → c ≡ get_or cs k c → first ≡ next_of c None → is_some first ≡ false → (chunk_of cs k).objects ≡ []
empty-one cs k c first lt is next off =
    let here : (chunk_of cs k).objects ≡ c.objects = ap (λ (x : Nursery). x.objects) (sym (get_or_read cs k c lt is no_chunk)) in
    here ∙ first-none c.objects (ap is_some (sym next) ∙ off)

-- it has one, so not all are empty
pub none-empty : (cs : List Nursery) (k : ℕ) (c : Nursery) (first : Option Address) → k < length cs → c ≡ get_or cs k c → first ≡ next_of c None → is_some first ≡ true → ((l : ℕ) → (chunk_of cs l).objects ≡ []) → ⊥
none-empty cs k c first lt is next on empty =
    let here : c.objects ≡ [] = ap (λ (x : Nursery). x.objects) (get_or_read cs k c lt is no_chunk) ∙ empty k in
    let off : is_some first ≡ false = ap is_some next ∙ ap (λ (os : List ChunkObject). is_some (option_map address_of (find (λ o. is_after None o.address) os))) here in
    both_ways (is_some first) off on

-- after the last chunk of the list there is an empty one
pub all-empty : (cs : List Nursery) → ((k : ℕ) → k < length cs → (chunk_of cs k).objects ≡ []) → (l : ℕ) → (chunk_of cs l).objects ≡ []
all-empty cs each l = elim (cases_lt l (length cs)) [
  | inl lt ↦ each l lt
  | inr past ↦ ap (λ (x : Nursery). x.objects) (get_or_past cs l no_chunk past)
]
