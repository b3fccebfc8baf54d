-- What an operation and an emptying leave as it was: the sizes of a heap, and which operations fit it.
use Rattle.std.proofs.Common.{◌≡◌, ℕ, ◌+◌, ◌*◌, ◌≤◌, List, [], ◌∷◌, None, sym, ap, subst, ◌∙◌, inl, inr, arith}
use Rattle.std.proofs.lemmas.Bool.{cases_eq}
use Rattle.bc_bookmarks.specs.Moves.{MovesPages}
use Rattle.bc_whole_heap.specs.Closed.{buffer_of}
use Rattle.bc_whole_heap.specs.LaneChunks.{chunk_of}
use Rattle.bc_whole_heap.specs.Heaps.{object_in, HeapView}
use Rattle.bc_whole_heap.proofs.ChunkLemmas.{object_in-none}
use Rattle.bc_model.specs.WellFormed.{IsOp}
use Rattle.bc_model.specs.declared.operations.Op.{Op}
use Rattle.bc_model.specs.declared.traces.Setup.{Setup}
use Rattle.bc_mutator.specs.Operations.{IsOpOf}
use Rattle.bc_nursery.specs.Entries.{Entries}
use Rattle.bc_nursery.specs.Nurseries.{Nursery}
use Rattle.bc_promotion.specs.Promises.{HasDomainsBelow}
use Rattle.bc_superpages.specs.Layout.{Layout, superpages}
use Rattle.bc_superpages.specs.RootWords.{RootWords}
use Rattle.bc_running.specs.Running.{RunningView}
use Rattle.bc_running.specs.RunningFacts.{StaysBut}
use Rattle.bc_running.proofs.BesideLemmas.{KeepsSizesOf}
use Rattle.std.specs.List.{AllByRecursion}
use Rattle.bc_engine.specs.EngineFacts.{HasSetup}
use Rattle.bc_cycle.proofs.OpeningLemmas.{none-in}

-- an operation fits whatever has as many domains and slots
made_up : ℕ → ℕ → Setup
made_up d w = record { lanes = 0; domains = d; slots = w; superpages = 0; nursery = 0; buffer = 0; frames = 0 }

op-like : (s : Setup) (d w : ℕ) (o : Op) → d ≡ s.domains → w ≡ s.slots → IsOp s o → IsOp (made_up d w) o
unfolding made_up
op-like s d w o domains slots h =
    subst (λ (n : ℕ). IsOp (made_up n w) o) (sym domains) (subst (λ (n : ℕ). IsOp (made_up s.domains n) o) (sym slots) h)

pub op-of_heap : (setup : Setup) (h : HeapView) (o : Op) → HasSetup h setup → IsOp setup o → IsOpOf h.roots o
unfolding made_up
op-of_heap setup h o fits op = op-like setup h.roots.domains h.roots.slots o fits.domains fits.slots op

-- so do operations of all lanes
ops-of_heap : (setup : Setup) (h : HeapView) (ops : List Op) → HasSetup h setup → AllByRecursion (IsOp setup) ops → AllByRecursion (IsOpOf h.roots) ops
ops-of_heap setup h [] fits all = tt
ops-of_heap setup h (op ∷ ops) fits all = (op-of_heap setup h op fits all.0, ops-of_heap setup h ops fits all.1)

pub lanes-of_heap : (setup : Setup) (h : HeapView) (lanes : List (List Op)) → HasSetup h setup → AllByRecursion (AllByRecursion (IsOp setup)) lanes → AllByRecursion (AllByRecursion (IsOpOf h.roots)) lanes
lanes-of_heap setup h [] fits all = tt
lanes-of_heap setup h (ops ∷ lanes) fits all = (ops-of_heap setup h ops fits all.0, lanes-of_heap setup h lanes fits all.1)

-- the frames that no page may use, and all frames, stay
pub nursery-same : (setup : Setup) (s t : Layout) → t.nursery ≡ s.nursery → setup.lanes * setup.nursery ≤ s.nursery → setup.lanes * setup.nursery ≤ t.nursery
nursery-same setup s t same fits = subst (λ (n : ℕ). setup.lanes * setup.nursery ≤ n) (sym same) fits

pub two-same : (s t : Layout) → t.nursery ≡ s.nursery → t.frames ≡ s.frames → s.nursery + 2 ≤ s.frames → t.nursery + 2 ≤ t.frames
two-same s t nursery frames two = omega (arith, nursery, frames, two)

-- an operation of a lane leaves the sizes
pub fits-step : (setup : Setup) {lane : ℕ} {r q : RunningView} → StaysBut lane r q → HasSetup r.heap setup → HasSetup q.heap setup
fits-step setup {lane} {r} {q} stays fits = record {
  supers = ap (λ (s : Layout). superpages s) stays.space ∙ fits.supers;
  domains = ap (λ (x : RootWords). x.domains) stays.roots ∙ fits.domains;
  slots = ap (λ (x : RootWords). x.slots) stays.roots ∙ fits.slots;
  lanes = stays.chunks ∙ fits.lanes;
  words = λ l lt. elim (cases_eq l lane) [
    | inl e ↦ ap (λ (n : ℕ). (chunk_of q.heap.chunks n).words) e ∙ ap (λ (c : Nursery). c.words) stays.chunk ∙ ap (λ (n : ℕ). (chunk_of r.heap.chunks n).words) (sym e) ∙ fits.words l lt
    | inr ne ↦ ap (λ (c : Nursery). c.words) (stays.others l ne).0 ∙ fits.words l lt
  ];
  entries = λ l lt. elim (cases_eq l lane) [
    | inl e ↦ ap (λ (n : ℕ). (buffer_of q.heap.buffers n).capacity) e ∙ stays.capacity ∙ ap (λ (n : ℕ). (buffer_of r.heap.buffers n).capacity) (sym e) ∙ fits.entries l lt
    | inr ne ↦ ap (λ (b : Entries). b.capacity) (stays.others l ne).1 ∙ fits.entries l lt
  ];
  nursery = nursery-same setup r.heap.space q.heap.space (ap (λ (s : Layout). s.nursery) stays.space) fits.nursery;
  two = two-same r.heap.space q.heap.space (ap (λ (s : Layout). s.nursery) stays.space) (ap (λ (s : Layout). s.frames) stays.space) fits.two;
  frames = ap (λ (s : Layout). s.frames) stays.space ∙ fits.frames;
  used = subst (λ (s : Layout). HasDomainsBelow s setup.domains) (sym stays.space) fits.used;
}

-- nor do pages that move
pub fits-moved : (setup : Setup) {h : HeapView} {t : Layout} → MovesPages h.space t → HasSetup h setup → HasSetup (record h { space = t }) setup
fits-moved setup {h} {t} moves fits = record {
  supers = ap (λ (s : Layout). superpages s) moves.same ∙ fits.supers;
  domains = fits.domains;
  slots = fits.slots;
  lanes = fits.lanes;
  words = fits.words;
  entries = fits.entries;
  nursery = nursery-same setup h.space t (ap (λ (s : Layout). s.nursery) moves.same) fits.nursery;
  two = two-same h.space t (ap (λ (s : Layout). s.nursery) moves.same) (ap (λ (s : Layout). s.frames) moves.same) fits.two;
  frames = ap (λ (s : Layout). s.frames) moves.same ∙ fits.frames;
  used = subst (λ (s : Layout). HasDomainsBelow s setup.domains) (sym moves.same) fits.used;
}

-- nor does a turn of the lanes
pub fits-beside : (setup : Setup) {h k : HeapView} → KeepsSizesOf h k → HasSetup h setup → HasSetup k setup
fits-beside setup {h} {k} sizes fits = record {
  supers = ap (λ (s : Layout). superpages s) sizes.space ∙ fits.supers;
  domains = ap (λ (x : RootWords). x.domains) sizes.roots ∙ fits.domains;
  slots = ap (λ (x : RootWords). x.slots) sizes.roots ∙ fits.slots;
  lanes = sizes.chunks ∙ fits.lanes;
  words = λ l lt. sizes.words l ∙ fits.words l lt;
  entries = λ l lt. sizes.capacity l ∙ fits.entries l lt;
  nursery = nursery-same setup h.space k.space (ap (λ (s : Layout). s.nursery) sizes.space) fits.nursery;
  two = two-same h.space k.space (ap (λ (s : Layout). s.nursery) sizes.space) (ap (λ (s : Layout). s.frames) sizes.space) fits.two;
  frames = ap (λ (s : Layout). s.frames) sizes.space ∙ fits.frames;
  used = subst (λ (s : Layout). HasDomainsBelow s setup.domains) (sym sizes.space) fits.used;
}

-- an empty chunk has no object, nor has a list of empty chunks
pub no-object : (cs : List Nursery) → ((l : ℕ) → (chunk_of cs l).objects ≡ []) → (a : ℕ) → object_in cs a ≡ None
no-object cs none a = object_in-none cs a (λ k lt. none-in (chunk_of cs k) a (none k))
