-- What a lane's operations leave of what other lanes have.
use Rattle.std.proofs.Common.{◌≡◌, ℕ, ◌/◌, ◌<◌, List, [], ◌∷◌, length, get_or, set, refl, ap, sym, subst, ◌∙◌, length-set, get_or-set_same, get_or-set_other}
use Rattle.std.proofs.lemmas.List.{set-get_or, set-set}
use Rattle.bc_lane.specs.Doing.{DidAll}
use Rattle.bc_model.specs.State.{State, holder_of}
use Rattle.bc_model.specs.Step.{step}
use Rattle.bc_model.specs.declared.operations.Op.{Op}
use Rattle.bc_model.specs.declared.operations.Reply.{Reply}
use Rattle.bc_model.specs.declared.values.Holder.{Holder}
use Rattle.bc_model.specs.declared.values.Slot.{Slot}
use Rattle.bc_mutator.specs.Effects.{DidOperation, Leaves}
use Rattle.bc_mutator.specs.Objects.{MayOperate, own_chunk}
use Rattle.bc_mutator.specs.Operations.{NoneLater}
use Rattle.bc_mutator.proofs.NewLemmas.{none-later}
use Rattle.bc_mutator.proofs.ObjectLemmas.{LieBehind-laid}
use Rattle.bc_mutator.proofs.StepLemmas.{next-ready}
use Rattle.bc_nursery.specs.Entries.{Entries}
use Rattle.bc_nursery.specs.Nurseries.{Nursery}
use Rattle.bc_superpages.specs.Layout.{Layout, content_at}
use Rattle.bc_superpages.specs.LayoutAt.{state_at}
use Rattle.bc_superpages.specs.RootSlots.{root_at}
use Rattle.bc_superpages.specs.RootWords.{RootWords}
use Rattle.bc_turn.proofs.HolderLemmas.{NoneHolds}
use Rattle.bc_whole_heap.specs.Closed.{buffer_of, no_buffer}
use Rattle.bc_whole_heap.specs.Heaps.{HeapView, no_chunk}
use Rattle.bc_whole_heap.specs.LaneChunks.{chunk_of}
use Rattle.bc_whole_heap.specs.LaneStates.{StandsAs}

-- the page is of no domain that one of these lanes holds
abbrev pub IsOthersPage : Layout → List Holder → (ℕ → Type 0) → ℕ → Type 0
IsOthersPage s hs Mine page = NoneHolds Mine (holder_of hs (get_or s.domains (page / 4) 0))

-- from the heap h to the heap k nothing changed but what is these lanes'
pub record Passes (hs : List Holder) (Mine : ℕ → Type 0) (h k : HeapView) : Type 0 where
  pub space : k.space ≡ record (h.space) { states = k.space.states; pages = k.space.pages }
  pub pages : (page : ℕ) → IsOthersPage h.space hs Mine page
      → (content_at k.space.pages page ≡ content_at h.space.pages page) × (state_at k.space.states page ≡ state_at h.space.states page)
  pub roots : k.roots ≡ record (h.roots) { words = k.roots.words; noted = k.roots.noted }
  pub slots : (p : Slot) → NoneHolds Mine (holder_of hs p.domain) → p.slot < h.roots.slots → root_at k.roots p.domain p.slot ≡ root_at h.roots p.domain p.slot
  pub chunks : length k.chunks ≡ length h.chunks
  pub chunk : (l : ℕ) → (Mine l → ⊥) → chunk_of k.chunks l ≡ chunk_of h.chunks l
  pub buffers : length k.buffers ≡ length h.buffers
  pub buffer : (l : ℕ) → (Mine l → ⊥) → buffer_of k.buffers l ≡ buffer_of h.buffers l

pub passes-none : (hs : List Holder) (Mine : ℕ → Type 0) (h : HeapView) → Passes hs Mine h h
passes-none hs Mine h = record {
  space = refl;
  pages = λ page off. (refl, refl);
  roots = refl;
  slots = λ p off less. refl;
  chunks = refl;
  chunk = λ l off. refl;
  buffers = refl;
  buffer = λ l off. refl;
}

-- so does one operation
passes-one : (hs : List Holder) (lane : ℕ) (h k : HeapView) → Leaves hs lane h k → Passes hs (λ l. l ≡ lane) h k
passes-one hs lane h k leaves = record {
  space = leaves.space;
  pages = λ page off. leaves.pages page (λ within is. off lane is refl);
  roots = leaves.roots;
  slots = λ p off. leaves.slots p (λ is. off lane is refl);
  chunks = ap length leaves.chunks ∙ length-set h.chunks lane (own_chunk k lane);
  chunk = λ l off. ap (λ (cs : List Nursery). chunk_of cs l) leaves.chunks ∙ get_or-set_other h.chunks lane l (own_chunk k lane) no_chunk off;
  buffers = ap length leaves.buffers ∙ length-set h.buffers lane (buffer_of k.buffers lane);
  buffer = λ l off. ap (λ (bs : List Entries). buffer_of bs l) leaves.buffers ∙ get_or-set_other h.buffers lane l (buffer_of k.buffers lane) no_buffer off;
}

-- so do lists of operations one after another, and of more lanes
pub passes-then : (hs : List Holder) (Mine : ℕ → Type 0) (h m k : HeapView) → Passes hs Mine h m → Passes hs Mine m k → Passes hs Mine h k
passes-then hs Mine h m k x y = record {
  space = y.space ∙ ap (λ (s : Layout). record s { states = k.space.states; pages = k.space.pages }) x.space;
  pages = λ page off.
      let there : IsOthersPage m.space hs Mine page = subst (λ (ds : List ℕ). NoneHolds Mine (holder_of hs (get_or ds (page / 4) 0))) (sym (ap (λ (s : Layout). s.domains) x.space)) off in
      let a = x.pages page off in
      let b = y.pages page there in
      (b.0 ∙ a.0, b.1 ∙ a.1);
  roots = y.roots ∙ ap (λ (r : RootWords). record r { words = k.roots.words; noted = k.roots.noted }) x.roots;
  slots = λ p off less. y.slots p off (subst (λ (n : ℕ). p.slot < n) (sym (ap (λ (r : RootWords). r.slots) x.roots)) less) ∙ x.slots p off less;
  chunks = y.chunks ∙ x.chunks;
  chunk = λ l off. y.chunk l off ∙ x.chunk l off;
  buffers = y.buffers ∙ x.buffers;
  buffer = λ l off. y.buffer l off ∙ x.buffer l off;
}

pub passes-wider : (hs : List Holder) (Mine More : ℕ → Type 0) (h k : HeapView) → ((l : ℕ) → Mine l → More l) → Passes hs Mine h k → Passes hs More h k
passes-wider hs Mine More h k wider x = record {
  space = x.space;
  pages = λ page off. x.pages page (λ l is mine. off l is (wider l mine));
  roots = x.roots;
  slots = λ p off. x.slots p (λ l is mine. off l is (wider l mine));
  chunks = x.chunks;
  chunk = λ l off. x.chunk l (λ mine. off (wider l mine));
  buffers = x.buffers;
  buffer = λ l off. x.buffer l (λ mine. off (wider l mine));
}

-- where one lane may operate, each may
pub ready-each : (h : HeapView) (hs : List Holder) (lane l : ℕ) → MayOperate h hs lane → l < length h.chunks → MayOperate h hs l
ready-each h hs lane l ready lt = record {
  running = ready.running;
  layout = ready.layout;
  few_domains = ready.few_domains;
  lane_within = lt;
  whole = ready.whole;
  apart = ready.apart;
  behind = LieBehind-laid h.space ready.running.laid.0 h.chunks l ready.running.laid.1 lt (ready.whole l lt);
}

-- a heap after operations of a lane: what it stands for, where the lane has n births
pub record Passed (hs : List Holder) (lane : ℕ) (h k : HeapView) (serials : List ℕ) (n : ℕ) : Type 0 where
  pub state : State
  pub stands : StandsAs k hs (set serials lane n) state
  pub ready : MayOperate k hs lane
  pub passes : Passes hs (λ l. l ≡ lane) h k

pub passed : (hs : List Holder) (lane : ℕ) (ops : List Op) (replies : List Reply) (h k : HeapView) (s n : ℕ) (serials : List ℕ) (state : State) → DidAll hs lane ops replies h s k n → StandsAs h hs serials state → get_or serials lane 0 ≡ s → lane < length serials → MayOperate h hs lane → Passed hs lane h k serials n
passed hs lane [] [] h k s n serials state did stands e lt ready = record {
  state = state;
  stands = subst (λ (x : HeapView). StandsAs x hs (set serials lane n) state) (sym did.0)
      (subst (λ (x : List ℕ). StandsAs h hs x state) (sym (ap (λ (q : ℕ). set serials lane q) (did.1 ∙ sym e) ∙ set-get_or serials lane 0)) stands);
  ready = subst (λ (x : HeapView). MayOperate x hs lane) (sym did.0) ready;
  passes = subst (λ (x : HeapView). Passes hs (λ l. l ≡ lane) h x) (sym did.0) (passes-none hs (λ l. l ≡ lane) h);
}
passed hs lane [] (reply ∷ replies) h k s n serials state did stands e lt ready = absurd did
passed hs lane (op ∷ ops) [] h k s n serials state did stands e lt ready = absurd did
passed hs lane (op ∷ ops) (reply ∷ replies) h k s n serials state did stands e lt ready =
    let m : HeapView = did.0 in
    let t : ℕ = did.1 in
    let one : DidOperation h m hs lane s t op reply = did.2 in
    let none : NoneLater h.space h.chunks lane s = subst (NoneLater h.space h.chunks lane) e (none-later h hs serials state stands lane) in
    let rest = passed hs lane ops replies m k t n (set serials lane t) (step state lane op).0 did.3 (one.step serials state stands e).1
    (get_or-set_same serials lane t 0 lt) (subst (λ (l : ℕ). lane < l) (sym (length-set serials lane t)) lt)
    (next-ready h m hs lane s t op reply ready one none) in
    record {
      state = rest.state;
      stands = subst (λ (x : List ℕ). StandsAs k hs x rest.state) (set-set serials lane t n) rest.stands;
      ready = rest.ready;
      passes = passes-then hs (λ l. l ≡ lane) h m k (passes-one hs lane h m one.leaves) rest.passes;
    }
