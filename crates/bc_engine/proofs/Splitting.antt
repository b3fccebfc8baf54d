-- The parts of an engine that is taken apart are such as an engine can go on with.
use Rattle.std.proofs.Common.{◌≡◌, ◌≢◌, ℕ, ◌*◌, ◌/◌, ◌%◌, ◌<◌, true, false, List, [], length, get_or, None, Some, sym, ◌∙◌, ap, subst, inl, inr, arith}
use Rattle.std.proofs.Math.ListN.{get_or-map}
use Rattle.std.proofs.lemmas.List.{length-map}
use Rattle.bc_memory.specs.Memory.{Memory}
use Rattle.bc_model.specs.State.{Object, State, holder_of, made_by}
use Rattle.bc_model.specs.declared.traces.Setup.{Setup}
use Rattle.bc_model.specs.declared.values.Birth.{Birth}
use Rattle.bc_model.specs.declared.values.Holder.{Holder}
use Rattle.bc_standing.specs.Standing.{StandsFor, births}
use Rattle.bc_nursery.specs.Nurseries.{Nursery}
use Rattle.bc_superpages.specs.Kept.{IsLayout}
use Rattle.bc_superpages.specs.Layout.{Layout}
use Rattle.bc_superpages.specs.LayoutAt.{IsAllocated}
use Rattle.bc_superpages.specs.Memory.{memory}
use Rattle.bc_superpages.specs.RootWords.{RootWords}
use Rattle.bc_whole_heap.specs.Closed.{IsCellOrYoung}
use Rattle.bc_whole_heap.specs.Heaps.{heap_memory, root_words}
use Rattle.bc_whole_heap.specs.LaneChunks.{chunk_for}
use Rattle.bc_whole_heap.proofs.ClosedLemmas.{root-place}
use Rattle.bc_word.specs.Words.{word_of_bits}
use Rattle.bc_word.specs.declared.addresses.Address.{Address}
use Rattle.bc_word.specs.declared.words.Word.TheVariants.{Ref}
use Rattle.bc_engine.specs.Engines.{EngineView}
use Rattle.bc_engine.specs.declared.engines.Ended.{Ended}
use Rattle.bc_engine.specs.declared.engines.Ended.TheVariants.{NoMemory}
use Rattle.bc_engine.specs.EngineFacts.{CanRunLanes, IsEngine, IsUnrecorded, NoneWithheld}
use Rattle.bc_running.specs.Running.{HasEmptyChunks, RunningStands, RunningView}
use Rattle.bc_engine.specs.Parts.{CanAdopt, PartsStand}
use Rattle.bc_model.proofs.Holders.{IsHolder-as_many}
use Rattle.bc_engine.proofs.Handing.{none-for}
use Rattle.bc_engine.proofs.Parting.{empty-memory, none-in}

module _ (setup : Setup) (v : RunningView) (ready : CanRunLanes setup v) (unrecorded : IsUnrecorded v.heap) (returned : NoneWithheld setup v.heap) (empty : HasEmptyChunks v.heap) (kept : IsLayout v.heap.space) (long : length v.heap.roots.words ≡ v.heap.roots.domains * v.heap.roots.slots) where
  same-memory : heap_memory v.heap.space v.heap.chunks ≡ memory v.heap.space
  same-memory = empty-memory v.heap.space v.heap.chunks kept empty

  -- where chunks are empty what is a cell or an object of a chunk is a cell
  cell : (c : Nursery) (a : ℕ) → c.objects ≡ [] → IsCellOrYoung v.heap.space c a → IsAllocated v.heap.space a
  cell c a none (inl on) = on
  cell c a none (inr young) = absurd (let e : true ≡ false = sym young ∙ none-in c a none in cc)

  root-there : (k : ℕ) (a : Address) → k < length v.heap.roots.words → word_of_bits (get_or v.heap.roots.words k 0) ≡ Ref a → IsAllocated v.heap.space a.0
  root-there k a lt is =
      let p = root-place v.heap.roots k long lt in
      cell (chunk_for v.heap.chunks (holder_of v.holders (k / v.heap.roots.slots))) a.0 (none-for v.heap.chunks (holder_of v.holders (k / v.heap.roots.slots)) empty)
      (ready.order.closed.root (k / v.heap.roots.slots) (k % v.heap.roots.slots) a p.domain p.slot (ap (λ (n : ℕ). word_of_bits (get_or v.heap.roots.words n 0)) p.place ∙ is))

  pub can-split : CanAdopt setup v.holders v.serials v.heap.roots v.heap.space
  can-split = record {
    range = ready.range;
    domains = ready.order.closed.domains ∙ ready.fits.domains;
    holder = λ d lt. IsHolder-as_many _ _ (holder_of v.holders d) (sym ready.fits.lanes) (ready.order.closed.holder d lt);
    lanes = ready.lanes;
    rooted = ready.fits.domains;
    slots = ready.fits.slots;
    supers = ready.fits.supers;
    frames = ready.fits.frames;
    nursery = returned;
    used = ready.fits.used;
    summarised = ready.order.summarised;
    none_promised = ready.order.none_promised;
    none_remembered = unrecorded.remembered;
    root = root-there;
    field = λ a k c b there is. elim (ready.order.closed.mature a k c b there is) [
      | inl on ↦ on
      | inr young ↦
          let x = holder_of v.holders c.head.domain in
          cell (chunk_for v.heap.chunks x) b.0 (none-for v.heap.chunks x empty) (inr young.0)
    ];
    once = subst (λ (m : Memory). (a x : ℕ) → (b : Birth) → births m a ≡ Some b → births m x ≡ Some b → a ≡ x) same-memory ready.order.once;
    born = λ a b is.
        let state = ready.meant.0 in
        let st = ready.meant.1 in
        let from = st.born a b (subst (λ (m : Memory). births m a ≡ Some b) (sym same-memory) is) in
        let lane = from.lane in
        let serial = from.serial in
        let many : length state.made ≡ length v.serials = sym (length-map state.made (λ (objects : List Object). length objects)) ∙ ap length st.births in
        let at : get_or v.serials b.lane 0 ≡ length (made_by state.made b.lane) =
        ap (λ (ns : List ℕ). get_or ns b.lane 0) (sym st.births) ∙ get_or-map (λ (objects : List Object). length objects) state.made b.lane [] in
        record { lane = omega (arith, lane, many); positive = from.positive; serial = omega (arith, serial, at) };
  }

  pub stands-split : (state : State) → RunningStands v state → PartsStand setup v.holders v.serials v.heap.roots v.heap.space state
  stands-split state st = record {
    consistent = st.consistent;
    stands = subst (λ (m : Memory). StandsFor m (root_words v.heap.roots) state) same-memory st.stands;
    sizes = record {
      lanes = sym st.lanes ∙ ready.fits.lanes;
      domains = sym st.domains ∙ ready.fits.domains;
      slots = sym st.slots ∙ ready.fits.slots;
    };
    held = st.held;
    made = st.births;
  }

-- the same of parts that are those of an engine which hasn't ended
module _ (e : EngineView) (sound : e.ended ≢ Some NoMemory → IsEngine e) (going : e.ended ≡ None) (empty : HasEmptyChunks e.running.heap) (s0 : Layout) (r0 : RootWords) (same_space : s0 ≡ e.running.heap.space) (same_roots : r0 ≡ e.running.heap.roots) (kept : IsLayout s0) (long : length r0.words ≡ r0.domains * r0.slots) (hs : List Holder) (ns : List ℕ) (r : RootWords) (s : Layout) (held : hs ≡ e.running.holders) (born : ns ≡ e.running.serials) (rooted : r ≡ e.running.heap.roots) (spaced : s ≡ e.running.heap.space) where
  alive : e.ended ≢ Some NoMemory
  alive bad = none-some (sym going ∙ bad)
    where
      none-some : {x : Ended} → None ≡ Some x → ⊥
      none-some f = cc

  layout : IsLayout e.running.heap.space
  layout = subst IsLayout same_space kept

  places : length e.running.heap.roots.words ≡ e.running.heap.roots.domains * e.running.heap.roots.slots
  places = subst (λ (x : RootWords). length x.words ≡ x.domains * x.slots) same_roots long

  handed : (Have : List Holder → List ℕ → RootWords → Layout → Type 0) → Have e.running.holders e.running.serials e.running.heap.roots e.running.heap.space → Have hs ns r s
  handed Have have =
      subst (λ (x : List Holder). Have x ns r s) (sym held)
      (subst (λ (x : List ℕ). Have e.running.holders x r s) (sym born)
      (subst (λ (x : RootWords). Have e.running.holders e.running.serials x s) (sym rooted)
      (subst (λ (x : Layout). Have e.running.holders e.running.serials e.running.heap.roots x) (sym spaced) have)))

  pub engine-parts : CanAdopt e.setup hs ns r s
  engine-parts = handed (CanAdopt e.setup) (can-split e.setup e.running (sound alive).ready ((sound alive).going going) ((sound alive).returned going) empty layout places)

  pub engine-stands : (state : State) → RunningStands e.running state → PartsStand e.setup hs ns r s state
  engine-stands state st = handed (λ (a : List Holder) (b : List ℕ) (c : RootWords) (d : Layout). PartsStand e.setup a b c d state)
      (stands-split e.setup e.running (sound alive).ready ((sound alive).going going) ((sound alive).returned going) empty layout places state st)
