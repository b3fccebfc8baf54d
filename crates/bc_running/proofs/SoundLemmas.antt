-- A heap that lanes run on stays in order: after an operation, after a collection and after an emptying.
use Rattle.std.proofs.Common.{◌≡◌, ◌≢◌, ℕ, ◌<◌, ◌==◌, Bool, true, false, List, [], ◌∷◌, length, map, get_or, set, refl, vec_capacity, Result, OnOk, Ok, Err, sym, ap, subst, ◌∙◌, inl, inr, arith}
use Rattle.std.proofs.Math.ListN.{get_or-map}
use Rattle.std.specs.List.{find}
use Rattle.std.specs.Option.{is_some}
use Rattle.std.proofs.lemmas.Bool.{cases_eq}
use Rattle.std.proofs.lemmas.List.{get_or-set_same, get_or-set_other, length-set, length-map}
use Rattle.bc_cycle.specs.Causes.{IfOutOfHeap}
use Rattle.bc_model.specs.declared.values.Holder.{Holder}
use Rattle.bc_cycle.specs.Emptying.{outline_nursery, outline_object, HasRoomToList, IsEmptied, KeepsMeaning}
use Rattle.bc_cycle.specs.declared.heaps.Heap.{Heap}
use Rattle.bc_promotion.proofs.ListingLemmas.{words_in-same}
use Rattle.bc_whole_heap.specs.LaneChunks.{chunk_of}
use Rattle.bc_cycle.specs.declared.emptying.CycleError.{CycleError}
use Rattle.bc_cycle.specs.declared.emptying.CycleError.TheVariants.{OutOfHeap, NoMemory}
use Rattle.bc_whole_heap.specs.Heaps.{HeapView, no_chunk}
use Rattle.bc_whole_heap.specs.HeapFacts.{HasTwoFrames}
use Rattle.bc_whole_heap.specs.Running.{IsRunning, IsRunningForSurvivors}
use Rattle.bc_whole_heap.proofs.ChunkLemmas.{length-alike}
use Rattle.bc_whole_heap.proofs.ClosedLemmas.{running-survivors}
use Rattle.bc_mutator.specs.Operations.{NoneLater}
use Rattle.bc_nursery.specs.Objects.{emptied, has_object}
use Rattle.bc_nursery.specs.Nurseries.{ChunkObject, Nursery}
use Rattle.bc_running.specs.Running.{RunningView}
use Rattle.bc_running.specs.RunningFacts.{IsSound, Collects, running_of}

-- after a collection
pub sound-collected : (r : RunningView) (k : HeapView) → IsSound r → Collects r.heap k r.holders → IsSound (running_of k r.holders r.serials)
sound-collected r k h c = record {
  running = c.running;
  later = λ l lt a b there lane. let from = c.born a b there in h.later l lt from.0 b from.1 lane;
  frames = c.frames h.frames;
  lanes = c.lanes ∙ h.lanes;
  few = h.few;
}

-- what an operation leaves
pub record Operates (r : RunningView) (lane : ℕ) (k : HeapView) (n : ℕ) : Type 0 where
  pub running : NoneLater r.heap.space r.heap.chunks lane (get_or r.serials lane 0) → IsRunning k r.holders
  pub later : NoneLater r.heap.space r.heap.chunks lane (get_or r.serials lane 0) → NoneLater k.space k.chunks lane n
  pub others : (l m : ℕ) → l ≢ lane → NoneLater r.heap.space r.heap.chunks l m → NoneLater k.space k.chunks l m
  pub space : k.space ≡ record r.heap.space { states = k.space.states; pages = k.space.pages }
  pub long : length k.chunks ≡ length r.heap.chunks

pub sound-operated : (r : RunningView) (lane : ℕ) (k : HeapView) (n : ℕ) → lane < length r.serials → IsSound r → Operates r lane k n → IsSound (running_of k r.holders (set r.serials lane n))
sound-operated r lane k n within h o = record {
  running = o.running (h.later lane within);
  later = later;
  frames = subst HasTwoFrames (sym o.space) h.frames;
  lanes = o.long ∙ h.lanes ∙ sym (length-set r.serials lane n);
  few = let same = length-set r.serials lane n in let few = h.few in omega arith;
}
  where
    later : (l : ℕ) → l < length (set r.serials lane n) → NoneLater k.space k.chunks l (get_or (set r.serials lane n) l 0)
    later l lt = elim (cases_eq l lane) [
      | inl e ↦
          subst (λ (x : ℕ). NoneLater k.space k.chunks x (get_or (set r.serials lane n) x 0)) (sym e)
          (subst (λ (m : ℕ). NoneLater k.space k.chunks lane m) (sym (get_or-set_same r.serials lane n 0 within)) (o.later (h.later lane within)))
      | inr ne ↦
          subst (λ (m : ℕ). NoneLater k.space k.chunks l m) (sym (get_or-set_other r.serials lane l n 0 ne))
          (o.others l (get_or r.serials l 0) ne (h.later l (let same = length-set r.serials lane n in omega arith)))
    ]

-- the list of survivors has room still
pub room-operated : (lane : ℕ) (h k : Heap) → k ≡ record h { space = k.space; roots = k.roots; chunks = k.chunks; buffers = k.buffers } → ((l : ℕ) → l ≢ lane → chunk_of k.chunks.items l ≡ chunk_of h.chunks.items l) → chunk_of k.chunks.items lane ≡ record (chunk_of h.chunks.items lane) { objects = (chunk_of k.chunks.items lane).objects } → length k.chunks.items ≡ length h.chunks.items → HasRoomToList h → HasRoomToList k
room-operated lane h k rest others own long room =
    let words = words_in-same h.chunks.items k.chunks.items long same in
    let list : vec_capacity k.survivors ≡ vec_capacity h.survivors = ap (λ (x : Heap). vec_capacity x.survivors) rest in
    omega (arith, words, list, room)
  where
    same : (l : ℕ) → l < length h.chunks.items → (chunk_of k.chunks.items l).words ≡ (chunk_of h.chunks.items l).words
    same l lt = elim (cases_eq l lane) [
      | inl e ↦ ap (λ (n : ℕ). (chunk_of k.chunks.items n).words) e ∙ ap (λ (c : Nursery). c.words) own ∙ ap (λ (n : ℕ). (chunk_of h.chunks.items n).words) (sym e)
      | inr ne ↦ ap (λ (c : Nursery). c.words) (others l ne)
    ]

-- an emptying leaves what a collection does, and so does one that was refused, since it collected cells
emptied-collects : (h k : HeapView) (hs : List Holder) → IsRunning h hs → IsEmptied h k → Collects h k hs
emptied-collects h k hs order is = record {
  running = is.order hs (running-survivors h hs order);
  born = is.born;
  frames = λ f. let frames = is.sizes.frames in let nursery = is.sizes.nursery in omega arith;
  lanes = ap length is.cleared ∙ length-map h.chunks emptied;
}

kept-collects : (h k : HeapView) (hs : List Holder) → KeepsMeaning h k → IsRunning k hs → Collects h k hs
kept-collects h k hs is order = record {
  running = order;
  born = is.born;
  frames = λ f. let frames = is.sizes.frames in let nursery = is.sizes.nursery in omega arith;
  lanes = length-alike outline_nursery h.chunks k.chunks is.chunks;
}

pub sound-emptied : (r : RunningView) (k : HeapView) → IsSound r → IsEmptied r.heap k → IsSound (running_of k r.holders r.serials)
sound-emptied r k h is = sound-collected r k h (emptied-collects r.heap k r.holders h.running is)

pub sound-kept : (r : RunningView) (k : HeapView) → IsSound r → KeepsMeaning r.heap k → ((hs : List Holder) → IsRunningForSurvivors r.heap hs → IsRunning k hs) → IsSound (running_of k r.holders r.serials)
sound-kept r k h is order = sound-collected r k h (kept-collects r.heap k r.holders is (order r.holders (running-survivors r.heap r.holders h.running)))

-- so lanes can run on whichever answer there is
pub sound-answered : {T : Type 0} (result : Result T CycleError) (r : RunningView) (k : HeapView) → IsSound r → OnOk result (IsEmptied r.heap k) → IfOutOfHeap result (λ need. KeepsMeaning r.heap k)
    → IfOutOfHeap result (λ need. (hs : List Holder) → IsRunningForSurvivors r.heap hs → IsRunning k hs) → result ≢ Err NoMemory → IsSound (running_of k r.holders r.serials)
sound-answered (Ok x) r k h emptied kept order memory = sound-emptied r k h emptied
sound-answered (Err (OutOfHeap need)) r k h emptied kept order memory = sound-kept r k h kept order
sound-answered (Err NoMemory) r k h emptied kept order memory = absurd (memory refl)

-- an empty chunk has no object
pub none-young : {X : Type 0} (c : Nursery) (a : ℕ) → c.objects ≡ [] → has_object c a ≡ true → X
none-young c a none has =
    absurd (false_true (sym (ap (λ (os : List ChunkObject). is_some (find (λ o. nat_same o.address a) os)) none) ∙ has))
  where
    nat_same : ℕ → ℕ → Bool
    nat_same x y = x == y

    false_true : false ≡ true → ⊥
    false_true e = cc

-- chunks that differ only in fields and in what is kept beside their objects are empty alike
pub empty-alike : (cs ds : List Nursery) → map outline_nursery ds ≡ map outline_nursery cs → ((l : ℕ) → (chunk_of cs l).objects ≡ []) → (l : ℕ) → (chunk_of ds l).objects ≡ []
empty-alike cs ds same none l = none-bare (chunk_of ds l).objects (
    ap (λ (c : Nursery). c.objects) (sym (get_or-map outline_nursery ds l no_chunk))
    ∙ ap (λ (xs : List Nursery). (chunk_of xs l).objects) same
    ∙ ap (λ (c : Nursery). c.objects) (get_or-map outline_nursery cs l no_chunk)
    ∙ ap (map outline_object) (none l)
    )
  where
    some_none : (o : ChunkObject) (os : List ChunkObject) → o ∷ os ≡ [] → ⊥
    some_none o os e = cc

    none-bare : (os : List ChunkObject) → map outline_object os ≡ [] → os ≡ []
    none-bare [] e = refl
    none-bare (o ∷ os) e = absurd (some_none (outline_object o) (map outline_object os) e)
