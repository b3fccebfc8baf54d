-- What an emptying of the nurseries, or its refusal, means to an engine.
use Rattle.std.proofs.Common.{Vec, Global, ◌≡◌, ℕ, ◌<◌, ◌≤◌, Bool, true, false, inl, inr, List, [], length, map, refl, sym, ap, subst, ◌∙◌, arith}
use Rattle.std.proofs.Math.ListN.{get_or-map}
use Rattle.std.proofs.lemmas.List.{append-nil, length-map}
use Rattle.bc_cycle.specs.Collecting.{CollectsBeside}
use Rattle.bc_cycle.specs.Emptying.{outline_nursery, IsEmptied, KeepsMeaning}
use Rattle.bc_cycle.proofs.ChunkLists.{chunk-emptied}
use Rattle.bc_marking.specs.declared.lines.Cursor.{Cursor}
use Rattle.bc_whole_heap.specs.Closed.{buffer_of, no_buffer}
use Rattle.bc_whole_heap.specs.LaneChunks.{chunk_of}
use Rattle.bc_whole_heap.specs.Heaps.{no_chunk, HeapView}
use Rattle.bc_whole_heap.proofs.ChunkLemmas.{length-alike}
use Rattle.bc_whole_heap.proofs.ClosedLemmas.{running-survivors}
use Rattle.bc_whole_heap.specs.LaneStates.{StandsAs}
use Rattle.bc_model.specs.State.{State}
use Rattle.bc_model.specs.declared.traces.Setup.{Setup}
use Rattle.bc_nursery.specs.Entries.{Entries}
use Rattle.bc_nursery.specs.Buffers.{without_entries}
use Rattle.bc_nursery.specs.Objects.{emptied}
use Rattle.bc_nursery.specs.Nurseries.{Nursery}
use Rattle.bc_pager.specs.declared.answers.Answer.{Answer}
use Rattle.bc_promotion.specs.Promises.{HasDomainsBelow}
use Rattle.bc_superpages.specs.RootWords.{RootWords}
use Rattle.bc_model.specs.declared.operations.Op.{Op}
use Rattle.bc_model.specs.declared.operations.Reply.{Reply}
use Rattle.bc_model.specs.declared.values.Holder.{Holder}
use Rattle.bc_running.proofs.ShortLemmas.{short-for-more}
use Rattle.bc_running.proofs.StartLemmas.{stands-emptied}
use Rattle.bc_running.specs.Frames.{IsShortOfFrames}
use Rattle.bc_running.specs.Running.{RunningView, RunningStands}
use Rattle.bc_running.specs.RunningFacts.{running_of, IsSound}
use Rattle.bc_whole_heap.specs.Running.{IsRunning}
use Rattle.bc_engine.specs.Lanes.{LanesRan, LanesWentOn}
use Rattle.bc_engine.proofs.GoingLemmas.{goes-none}
use Rattle.bc_engine.proofs.RunLemmas.{runs-none, runs-same, runs-then}
use Rattle.bc_engine.proofs.Sizes.{nursery-same, two-same}
use Rattle.bc_engine.specs.Engines.{HasEmptyChunks}
use Rattle.bc_engine.specs.EngineFacts.{HasSetup, CanRunLanes, IsUnrecorded}
use Rattle.bc_engine.specs.Counting.{CountsEarly, left_since}
use Rattle.bc_engine.specs.Rounds.{CollectsAnd, EmptiesNurseries, MayCollect, SameLanes}
use Rattle.bc_engine.specs.declared.counters.Counters.{Counters}

-- what is true of a heap with the holders and births that there were is true with those that there are, which are the same
through : (r q : RunningView) (P : RunningView → Type 0) → q.holders ≡ r.holders → q.serials ≡ r.serials → P (running_of q.heap r.holders r.serials) → P q
through r q P held same p =
    subst (λ (ns : List ℕ). P (running_of q.heap q.holders ns)) (sym same) (subst (λ (hs : List Holder). P (running_of q.heap hs r.serials)) (sym held) p)

buffer-emptied : (bs : List Entries) (l : ℕ) → buffer_of (map without_entries bs) l ≡ without_entries (buffer_of bs l)
buffer-emptied bs l = get_or-map without_entries bs l no_buffer

-- chunks that differ only in fields and in what is kept beside their objects have as many words
words-alike : (cs ds : List Nursery) (l : ℕ) → map outline_nursery ds ≡ map outline_nursery cs → (chunk_of ds l).words ≡ (chunk_of cs l).words
words-alike cs ds l e =
    ap (λ (c : Nursery). c.words) (sym (get_or-map outline_nursery ds l no_chunk)) ∙ ap (λ (xs : List Nursery). (chunk_of xs l).words) e ∙ ap (λ (c : Nursery). c.words) (get_or-map outline_nursery cs l no_chunk)

pub empty-chunks : {h k : HeapView} → IsEmptied h k → HasEmptyChunks k
empty-chunks {h} is l = ap (λ (cs : List Nursery). (chunk_of cs l).objects) is.cleared ∙ ap (λ (c : Nursery). c.objects) (chunk-emptied h.chunks l)

pub slots-emptied : {h k : HeapView} → IsEmptied h k → k.roots.slots ≡ h.roots.slots
slots-emptied is = ap (λ (x : RootWords). x.slots) is.sizes.roots

pub empty-buffers : {h k : HeapView} → IsEmptied h k → IsUnrecorded k
empty-buffers {h} is = record {
  entries = λ l. ap (λ (bs : List Entries). (buffer_of bs l).entries) is.unrecorded ∙ ap (λ (b : Entries). b.entries) (buffer-emptied h.buffers l);
  remembered = is.none_remembered;
}

-- superpages in use stay within the setup's domains
used-kept : (setup : Setup) (h k : HeapView) → h.roots.domains ≡ setup.domains → (HasDomainsBelow h.space h.roots.domains → HasDomainsBelow k.space h.roots.domains) → HasDomainsBelow h.space setup.domains → HasDomainsBelow k.space setup.domains
used-kept setup h k domains keeps used =
    subst (λ (n : ℕ). HasDomainsBelow k.space n) domains (keeps (subst (λ (n : ℕ). HasDomainsBelow h.space n) (sym domains) used))

fits-emptied : (setup : Setup) {h k : HeapView} → IsEmptied h k → HasSetup h setup → HasSetup k setup
fits-emptied setup {h} {k} is fits = record {
  supers = is.sizes.supers ∙ fits.supers;
  domains = ap (λ (x : RootWords). x.domains) is.sizes.roots ∙ fits.domains;
  slots = ap (λ (x : RootWords). x.slots) is.sizes.roots ∙ fits.slots;
  lanes = ap length is.cleared ∙ length-map h.chunks emptied ∙ fits.lanes;
  words = λ l lt. ap (λ (cs : List Nursery). (chunk_of cs l).words) is.cleared ∙ ap (λ (c : Nursery). c.words) (chunk-emptied h.chunks l) ∙ fits.words l lt;
  entries = λ l lt. ap (λ (bs : List Entries). (buffer_of bs l).capacity) is.unrecorded ∙ ap (λ (b : Entries). b.capacity) (buffer-emptied h.buffers l) ∙ fits.entries l lt;
  nursery = nursery-same setup h.space k.space is.sizes.nursery fits.nursery;
  two = two-same h.space k.space is.sizes.nursery is.sizes.frames fits.two;
  frames = is.sizes.frames ∙ fits.frames;
  used = used-kept setup h k fits.domains is.domains fits.used;
}

ready-emptied : {hs : List Holder} {serials : List ℕ} {h k : HeapView} (setup : Setup) → IsEmptied h k → CanRunLanes setup (running_of h hs serials) → CanRunLanes setup (running_of k hs serials)
ready-emptied {hs} {serials} {h} setup is ready = record {
  range = ready.range;
  order = is.order hs (running-survivors h hs ready.order);
  fits = fits-emptied setup is ready.fits;
  lanes = ready.lanes;
  meant = (ready.meant.0, stands-emptied ready.meant.0 is ready.meant.1);
}

-- so lanes can run on
pub runs-emptied : (lanes : List (List Op)) {r q : RunningView} (told : List (Vec Reply Global)) → q.holders ≡ r.holders → q.serials ≡ r.serials → IsEmptied r.heap q.heap → LanesRan lanes r told q told
runs-emptied lanes {r} {q} told held same is =
    runs-none lanes r q told held same (λ state st. through r q (λ (x : RunningView). RunningStands x state) held same (stands-emptied state is st))
    (λ setup ready. through r q (CanRunLanes setup) held same (ready-emptied setup is ready))

-- a heap whose nurseries couldn't be emptied stands for what it stood for
stands-refused : {hs : List Holder} {serials : List ℕ} {h k : HeapView} (state : State) → KeepsMeaning h k → StandsAs h hs serials state → StandsAs k hs serials state
stands-refused {hs} {serials} {h} {k} state is st = record {
  consistent = st.consistent;
  stands = is.keeps state.slots state.made st.stands;
  born = λ a b e. let from = is.born a b e in st.born from.0 b from.1;
  held = st.held;
  births = st.births;
  domains = ap (λ (x : RootWords). x.domains) is.sizes.roots ∙ st.domains;
  slots = ap (λ (x : RootWords). x.slots) is.sizes.roots ∙ st.slots;
  lanes = length-alike outline_nursery h.chunks k.chunks is.chunks ∙ st.lanes;
}

ready-kept : {hs : List Holder} {serials : List ℕ} {h k : HeapView} (setup : Setup) → KeepsMeaning h k → IsRunning k hs → CanRunLanes setup (running_of h hs serials) → CanRunLanes setup (running_of k hs serials)
ready-kept {hs} {serials} {h} {k} setup is order ready = record {
  range = ready.range;
  order = order;
  fits = record {
    supers = is.sizes.supers ∙ ready.fits.supers;
    domains = ap (λ (x : RootWords). x.domains) is.sizes.roots ∙ ready.fits.domains;
    slots = ap (λ (x : RootWords). x.slots) is.sizes.roots ∙ ready.fits.slots;
    lanes = length-alike outline_nursery h.chunks k.chunks is.chunks ∙ ready.fits.lanes;
    words = λ l lt. words-alike h.chunks k.chunks l is.chunks ∙ ready.fits.words l lt;
    entries = λ l lt. ap (λ (bs : List Entries). (buffer_of bs l).capacity) is.entries ∙ ready.fits.entries l lt;
    nursery = nursery-same setup h.space k.space is.sizes.nursery ready.fits.nursery;
    two = two-same h.space k.space is.sizes.nursery is.sizes.frames ready.fits.two;
    frames = is.sizes.frames ∙ ready.fits.frames;
    used = used-kept setup h k ready.fits.domains is.domains ready.fits.used;
  };
  lanes = ready.lanes;
  meant = (ready.meant.0, stands-refused ready.meant.0 is ready.meant.1);
}

-- so the lanes went on up to there
pub goes-refused : (lanes : List (List Op)) {r q : RunningView} (told : List (List Reply)) → q.holders ≡ r.holders → q.serials ≡ r.serials → KeepsMeaning r.heap q.heap → LanesWentOn lanes r told q told
goes-refused lanes {r} {q} told held same is =
    goes-none lanes r q told (λ state st. through r q (λ (x : RunningView). RunningStands x state) held same (stands-refused state is st))

-- and lanes can run on it still
pub ready-refused : (setup : Setup) {r q : RunningView} → q.holders ≡ r.holders → q.serials ≡ r.serials → KeepsMeaning r.heap q.heap → IsSound q → CanRunLanes setup r → CanRunLanes setup q
ready-refused setup {r} {q} held same is sound ready =
    through r q (CanRunLanes setup) held same (ready-kept setup is (subst (IsRunning q.heap) held sound.running) ready)

-- what came between a turn and its minor collection, as the call answers it
pub may-collect : {few n : ℕ} {from to : Cursor} {lines : List (List ℕ)} {before after : List Answer} {r q : RunningView} {c d : Counters} (early : Bool) → few ≤ n
    → (early ≡ true → IsShortOfFrames r.heap.space few × CollectsBeside lines r.heap from before q.heap to after)
    → (early ≡ false → (q ≡ r) × (to ≡ from) × (after ≡ before)) → CountsEarly c early (left_since (length before) after) d → SameLanes r q → IsSound q
    → MayCollect n lines r from before q to after c d
may-collect true le collected same counts lanes sound =
    let some = collected refl in
    let c = some.1 in
    record { turns = c.turns; told = c.told; uses = c.uses; way = inr (short-for-more le some.0, c.collected, counts, c.marking, c.untried); lanes = lanes; sound = sound }
may-collect {before = before} false le collected same counts lanes sound =
    let none = same refl in
    record {
      turns = 0;
      told = [];
      uses = record { answers = none.2 ∙ sym (append-nil before); next = none.1; long = refl };
      way = inl (none.0, refl, counts);
      lanes = lanes;
      sound = sound;
    }

-- what lanes can run on, and what it stands for, stays where a bookmark collection may have come
pub runs-collected : (lanes : List (List Op)) {n : ℕ} {from to : Cursor} {lines : List (List ℕ)} {before after : List Answer} {r q : RunningView} {c d : Counters} (told : List (Vec Reply Global)) → MayCollect n lines r from before q to after c d → LanesRan lanes r told q told
runs-collected lanes {r = r} {q = q} told collects = elim collects.way [
  | inl same ↦ runs-same lanes r q told same.0
  | inr collected ↦
      runs-none lanes r q told collects.lanes.0 collects.lanes.1
      (λ state st. through r q (λ (x : RunningView). RunningStands x state) collects.lanes.0 collects.lanes.1 (stands-refused state collected.1.meaning st))
      (λ setup ready. ready-refused setup collects.lanes.0 collects.lanes.1 collected.1.meaning collects.sound ready)
]

slots-collected : {n : ℕ} {from to : Cursor} {lines : List (List ℕ)} {before after : List Answer} {r q : RunningView} {c d : Counters} → MayCollect n lines r from before q to after c d → q.heap.roots.slots ≡ r.heap.roots.slots
slots-collected collects = elim collects.way [
  | inl same ↦ ap (λ (x : RunningView). x.heap.roots.slots) same.0
  | inr collected ↦ ap (λ (x : RootWords). x.slots) collected.1.meaning.sizes.roots
]

-- lanes can run on when it came and the nurseries were emptied
pub runs-minor : (lanes : List (List Op)) {n : ℕ} {from to : Cursor} {lines : List (List ℕ)} {before after : List Answer} {r q : RunningView} {c d : Counters} (told : List (Vec Reply Global)) → CollectsAnd EmptiesNurseries n lines r from before q to after c d → LanesRan lanes r told q told
runs-minor lanes told minor =
    runs-then (runs-collected lanes told minor.collects) (runs-emptied lanes told minor.next.lanes.0 minor.next.lanes.1 minor.next.emptied)

pub slots-minor : {n : ℕ} {from to : Cursor} {lines : List (List ℕ)} {before after : List Answer} {r q : RunningView} {c d : Counters} → CollectsAnd EmptiesNurseries n lines r from before q to after c d → q.heap.roots.slots ≡ r.heap.roots.slots
slots-minor minor = slots-emptied minor.next.emptied ∙ slots-collected minor.collects
