-- A domain changes hands or is frozen while all chunks and buffers are empty: only the holders change, and no object of a chunk is there to be
-- asked.
use Rattle.std.proofs.Common.{◌≡◌, ℕ, ◌<◌, List, [], length, set, refl, sym, ap, subst, ◌∙◌, inl, inr, arith, length-set}
use Rattle.std.proofs.lemmas.Bool.{cases_eq}
use Rattle.bc_whole_heap.specs.Closed.{buffer_of, IsCellOrYoung, IsClosedHeap}
use Rattle.bc_whole_heap.specs.LaneChunks.{chunk_for, chunk_of}
use Rattle.bc_whole_heap.specs.HeapFacts.{view_of}
use Rattle.bc_running.specs.Running.{RunningView, RunningStands}
use Rattle.bc_model.specs.Consistent.{IsHolder}
use Rattle.bc_model.specs.State.{State, handed, holder_of}
use Rattle.bc_model.specs.declared.traces.Setup.{Setup}
use Rattle.bc_model.specs.declared.values.Holder.{Holder}
use Rattle.bc_model.specs.declared.values.Holder.TheVariants.{Frozen, Lane}
use Rattle.bc_model.proofs.Holders.{IsHolder-as_many, holder-set, holder-set_other}
use Rattle.bc_model.proofs.States.{IsState-handed}
use Rattle.bc_nursery.specs.Entries.{Entries}
use Rattle.bc_nursery.specs.Nurseries.{Nursery}
use Rattle.bc_superpages.specs.Layout.{Layout}
use Rattle.bc_superpages.specs.LayoutAt.{IsAllocated}
use Rattle.bc_superpages.specs.RootWords.{RootWords}
use Rattle.bc_engine.specs.Counting.{IsCounted}
use Rattle.bc_engine.specs.Engines.{EngineStands, EngineView, HasEmptyChunks}
use Rattle.bc_engine.specs.EngineFacts.{CanRunLanes, IsEngine, IsSoundEngine, IsUnrecorded, NoneWithheld}
use Rattle.bc_running.proofs.SoundLemmas.{none-young}

-- what refers to a cell or to an object of an empty chunk refers to a cell
only-cell : (s : Layout) (c : Nursery) (a : ℕ) → c.objects ≡ [] → IsCellOrYoung s c a → IsAllocated s a
only-cell s c a none h = elim h [ inl cell ↦ cell | inr young ↦ none-young c a none young ]

-- where all chunks are empty, so is the one to which words of a domain may refer, whoever holds it
pub none-for : (cs : List Nursery) (x : Holder) → ((n : ℕ) → (chunk_of cs n).objects ≡ []) → (chunk_for cs x).objects ≡ []
none-for cs (Lane l) none = none l
none-for cs Frozen none = refl

pub closed-handed : (s : Layout) (roots : RootWords) (cs : List Nursery) (bs : List Entries) (hs : List Holder) (d : ℕ) (x : Holder) → ((n : ℕ) → (chunk_of cs n).objects ≡ []) → ((n : ℕ) → (buffer_of bs n).entries ≡ []) → IsHolder (length cs) x → IsClosedHeap (view_of s roots cs bs) hs → IsClosedHeap (view_of s roots cs bs) (set hs d x)
closed-handed s roots cs bs hs d x none empty fits h =
    let long : length (set hs d x) ≡ length hs = length-set hs d x in
    record {
      lanes = h.lanes;
      domains = long ∙ h.domains;
      holder = λ n lt. elim (cases_eq n d) [
        | inl e ↦
            let at : d < length hs = omega (arith, lt, long, e) in
            subst (IsHolder (length cs)) (sym (ap (holder_of (set hs d x)) e ∙ holder-set hs d x at)) fits
        | inr ne ↦ subst (IsHolder (length cs)) (sym (holder-set_other hs d n x ne)) (h.holder n (omega (arith, lt, long)))
      ];
      root = λ n t a in_domains in_slots e. inl (only-cell s (chunk_for cs (holder_of hs n)) a.0 (none-for cs (holder_of hs n) none) (h.root n t a in_domains in_slots e));
      noted = h.noted;
      young_domain = λ m a lt has. none-young (chunk_of cs m) a (none m) has;
      young = λ m a k b lt has e. none-young (chunk_of cs m) a (none m) has;
      mature_domain = λ a c e. omega (arith, h.mature_domain a c e, long);
      mature = λ a k c b e f. elim (h.mature a k c b e f) [
        | inl cell ↦ inl cell
        | inr young ↦ none-young (chunk_for cs (holder_of hs c.head.domain)) b.0 (none-for cs (holder_of hs c.head.domain) none) young.0
      ];
      entries = λ m i lt there. absurd (omega (arith, there, ap length (empty m)));
    }

-- a holder of the setup is one of the state that a heap of it stands for
fits-state : {setup : Setup} {r : RunningView} {state : State} (x : Holder) → CanRunLanes setup r → RunningStands r state → IsHolder setup.lanes x → IsHolder (length state.made) x
fits-state x ready st fits = IsHolder-as_many _ _ x (sym st.lanes ∙ ready.fits.lanes) fits

pub stands-handed : {setup : Setup} {r : RunningView} (d : ℕ) (x : Holder) (state : State) → CanRunLanes setup r → IsHolder setup.lanes x → RunningStands r state → RunningStands (record r { holders = set r.holders d x }) (handed state d x)
stands-handed d x state ready fits st = record {
  consistent = IsState-handed state d x st.consistent (fits-state x ready st fits);
  stands = st.stands;
  born = st.born;
  held = ap (λ (xs : List Holder). set xs d x) st.held;
  births = st.births;
  domains = st.domains ∙ sym (length-set state.holders d x);
  slots = st.slots;
  lanes = st.lanes;
}

pub ready-handed : {setup : Setup} {r : RunningView} (d : ℕ) (x : Holder) → HasEmptyChunks r.heap → IsUnrecorded r.heap → IsHolder setup.lanes x → CanRunLanes setup r → CanRunLanes setup (record r { holders = set r.holders d x })
ready-handed {setup} {r} d x none empty fits ready =
    let order = ready.order in
    record {
      range = ready.range;
      order = record {
        summarised = order.summarised;
        none_promised = order.none_promised;
        laid = order.laid;
        once = order.once;
        closed = closed-handed r.heap.space r.heap.roots r.heap.chunks r.heap.buffers r.holders d x none empty.entries (IsHolder-as_many _ _ x ready.fits.lanes fits) order.closed;
      };
      fits = ready.fits;
      lanes = ready.lanes;
      meant = (handed ready.meant.0 d x, stands-handed d x ready.meant.0 ready fits ready.meant.1);
    }

-- the engine whose heap has this holder of a domain in place of the one before
module _ (e : EngineView) (q : RunningView) (d : ℕ) (x : Holder) (fits : IsHolder e.setup.lanes x) (is : q ≡ record (e.running) { holders = set e.running.holders d x }) where
  pub sound-handed : HasEmptyChunks e.running.heap → IsUnrecorded e.running.heap → IsSoundEngine e → IsSoundEngine (record e { running = q })
  sound-handed none unrecorded sound = record {
    alive = λ alive.
        let old = sound.alive alive in
        record {
          workers = old.workers;
          ready = subst (CanRunLanes e.setup) (sym is) (ready-handed d x none unrecorded fits old.ready);
          going = λ going. subst (λ (r : RunningView). IsUnrecorded r.heap) (sym is) (old.going going);
          returned = λ going. subst (λ (r : RunningView). NoneWithheld e.setup r.heap) (sym is) (old.returned going);
        };
    counted = subst (λ (r : RunningView). IsCounted e.counters r.heap.space.reads) (sym is) sound.counted;
  }

  pub means-handed : IsEngine e → (state : State) → EngineStands e state → RunningStands q (handed state d x)
  means-handed engine state st = subst (λ (r : RunningView). RunningStands r (handed state d x)) (sym is) (stands-handed d x state engine.ready fits st)
