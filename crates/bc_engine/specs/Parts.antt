-- The parts of an engine between phases: who holds each domain, the births of each lane, the root slots and the space.
use Rattle.std.specs.Prelude.{◌≡◌, ℕ, ◌*◌, ◌<◌, ◌≤◌, List, [], length, map, slice_index, slice_index_or, Some, None}
use Rattle.bc_bookmarks.specs.Summarised.{IsSummarised}
use Rattle.bc_model.specs.Consistent.{IsHolder, IsState}
use Rattle.bc_model.specs.State.{State, Object, holder_of}
use Rattle.bc_model.specs.StateSizes.{HasSizes}
use Rattle.bc_model.specs.WellFormed.{IsSetup}
use Rattle.bc_model.specs.declared.traces.Setup.{Setup}
use Rattle.bc_model.specs.declared.values.Birth.{Birth}
use Rattle.bc_model.specs.declared.values.Holder.{Holder}
use Rattle.bc_promotion.specs.Promises.{HasDomainsBelow}
use Rattle.bc_standing.specs.Standing.{StandsFor, births}
use Rattle.bc_superpages.specs.Layout.{Layout, superpages}
use Rattle.bc_superpages.specs.LayoutAt.{IsAllocated}
use Rattle.bc_superpages.specs.Memory.{Cell, memory}
use Rattle.bc_superpages.specs.RootWords.{RootWords}
use Rattle.bc_whole_heap.specs.Heaps.{root_words}
use Rattle.bc_whole_heap.specs.HeapFacts.{NonePromised, NoneRemembered}
use Rattle.bc_word.specs.Words.{word_of_bits}
use Rattle.bc_word.specs.declared.addresses.Address.{Address}
use Rattle.bc_word.specs.declared.words.Word.TheVariants.{Nil, Ref}
use Rattle.bc_running.specs.RunningFacts.{adopted_heap, running_of}
use Rattle.bc_engine.specs.Counting.{counts_from}
use Rattle.bc_engine.specs.Engines.{EngineView}

-- a birth of one of the lanes, of which each has made so many objects
pub record IsLaneBirth (serials : List ℕ) (b : Birth) : Type 0 where
  pub lane : b.lane < length serials
  pub positive : 0 < b.serial
  pub serial : b.serial ≤ slice_index serials b.lane

-- what an engine can go on with
pub record CanAdopt (setup : Setup) (holders : List Holder) (serials : List ℕ) (roots : RootWords) (s : Layout) : Type 0 where
  -- each number of the setup is in its range
  pub range : IsSetup setup
  -- each of the setup's domains has a holder
  pub domains : length holders ≡ setup.domains
  -- it is one of the lanes, or the domain is frozen
  pub holder : (d : ℕ) → d < length holders → IsHolder setup.lanes (holder_of holders d)
  -- the births of each lane are counted
  pub lanes : length serials ≡ setup.lanes
  -- the root slots are those of the setup's domains
  pub rooted : roots.domains ≡ setup.domains
  -- each domain has the setup's slots
  pub slots : roots.slots ≡ setup.slots
  -- the space has the setup's superpages
  pub supers : superpages s ≡ setup.superpages
  -- it has the setup's frames
  pub frames : s.frames ≡ setup.frames
  -- so many of them are those of the nurseries' pages, and none is withheld
  pub nursery : s.nursery ≡ setup.lanes * setup.nursery
  -- superpages are in use for the setup's domains alone
  pub used : HasDomainsBelow s setup.domains
  -- bookmarks and counters stand for the pages that left
  pub summarised : IsSummarised s
  -- no cell is promised
  pub none_promised : NonePromised s
  -- no page is remembered
  pub none_remembered : NoneRemembered s
  -- each reference in a root slot is to an allocated cell
  pub root : (k : ℕ) → (a : Address) → k < length roots.words → word_of_bits (slice_index roots.words k) ≡ Ref a → IsAllocated s a.0
  -- each reference in an allocated cell is to an allocated cell
  pub field : (a k : ℕ) → (c : Cell) → (b : Address) → memory s a ≡ Some c → slice_index_or c.fields k Nil ≡ Ref b → IsAllocated s b.0
  -- no two allocated cells are of one birth
  pub once : (a x : ℕ) → (b : Birth) → births (memory s) a ≡ Some b → births (memory s) x ≡ Some b → a ≡ x
  -- each of these births is one of its lane's
  pub born : (a : ℕ) → (b : Birth) → births (memory s) a ≡ Some b → IsLaneBirth serials b

-- the parts stand for the state: the space and the root slots do, and sizes, holders and births are the state's
pub record PartsStand (setup : Setup) (holders : List Holder) (serials : List ℕ) (roots : RootWords) (s : Layout) (state : State) : Type 0 where
  pub consistent : IsState state
  pub stands : StandsFor (memory s) (root_words roots) state
  pub sizes : HasSizes setup state
  pub held : state.holders ≡ holders
  pub made : map (λ (objects : List Object). length objects) state.made ≡ serials

-- the engine that goes on with the parts: chunks and write buffers are empty, it has no answers and no turns, and counts from here on
abbrev pub adopted_engine : Setup → ℕ → List Holder → List ℕ → RootWords → Layout → EngineView
adopted_engine setup workers holders serials roots s = record {
  running = running_of (adopted_heap setup roots s) holders serials;
  setup = setup;
  workers = workers;
  ended = None;
  answers = [];
  opened = [];
  live = [];
  counters = counts_from s.reads;
}
