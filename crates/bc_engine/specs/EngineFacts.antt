-- What is true of an engine between calls.
use Rattle.std.specs.Prelude.{◌≡◌, ◌≢◌, ℕ, ◌+◌, ◌*◌, ◌^◌, ◌<◌, ◌≤◌, List, [], length, Some, None, slice_index}
use Rattle.bc_whole_heap.specs.Closed.{buffer_of}
use Rattle.bc_whole_heap.specs.LaneChunks.{chunk_of}
use Rattle.bc_whole_heap.specs.Heaps.{HeapView}
use Rattle.bc_whole_heap.specs.HeapFacts.{NoneRemembered}
use Rattle.bc_whole_heap.specs.Running.{IsRunning}
use Rattle.bc_model.specs.State.{State}
use Rattle.bc_model.specs.WellFormed.{IsSetup}
use Rattle.bc_model.specs.declared.traces.Setup.{Setup}
use Rattle.bc_model.specs.declared.values.Holder.{Holder}
use Rattle.bc_pager.specs.declared.answers.Answer.{Answer}
use Rattle.bc_promotion.specs.Promises.{HasDomainsBelow}
use Rattle.bc_superpages.specs.Layout.{superpages}
use Rattle.bc_engine.specs.declared.engines.Ended.TheVariants.{NoMemory}
use Rattle.bc_engine.specs.declared.opened.Opened.{Opened}
use Rattle.bc_running.specs.Running.{RunningView, RunningStands}
use Rattle.bc_running.specs.RunningFacts.{new_running}
use Rattle.bc_engine.specs.Counting.{IsCounted, no_counts}
use Rattle.bc_engine.specs.Engines.{EngineView}

-- the engine that a run of this setup begins with: a new heap, no answer and no turn of any phase, and nothing counted
abbrev pub new_engine : Setup → ℕ → EngineView
new_engine setup workers =
    record { running = new_running setup; setup = setup; workers = workers; ended = None; answers = []; opened = []; live = []; counters = no_counts }

-- the engine with these holders of the domains
abbrev pub with_holders : EngineView → List Holder → EngineView
with_holders e holders = record e { running = record (e.running) { holders = holders } }

-- the engine with these answers to notices
abbrev pub with_answers : EngineView → List Answer → EngineView
with_answers e answers = record e { answers = answers }

-- the engine with these answers to the notices that live pagers took
abbrev pub with_live : EngineView → List Answer → EngineView
with_live e live = record e { live = live }

-- the engine with these answers to notices, these turns, and these answers to the notices of live pagers
abbrev pub with_turns : EngineView → List Answer → List Opened → List Answer → EngineView
with_turns e answers opened live = record e { answers = answers; opened = opened; live = live }

-- the engine as a phase begins on it: no answers and no turns
abbrev pub without_turns : EngineView → EngineView
without_turns e = with_turns e [] [] []

-- the heap has the setup's superpages, root slots, chunks, buffers and frames. Superpages are in use for the setup's domains. Of the frames no page
-- uses those of the nurseries and those that are withheld, and two are left besides
pub record HasSetup (h : HeapView) (setup : Setup) : Type 0 where
  pub supers : superpages h.space ≡ setup.superpages
  pub domains : h.roots.domains ≡ setup.domains
  pub slots : h.roots.slots ≡ setup.slots
  pub lanes : length h.chunks ≡ setup.lanes
  pub words : (l : ℕ) → l < setup.lanes → (chunk_of h.chunks l).words ≡ 512 * setup.nursery
  pub entries : (l : ℕ) → l < setup.lanes → (buffer_of h.buffers l).capacity ≡ setup.buffer
  pub nursery : setup.lanes * setup.nursery ≤ h.space.nursery
  pub two : h.space.nursery + 2 ≤ h.space.frames
  pub frames : h.space.frames ≡ setup.frames
  pub used : HasDomainsBelow h.space setup.domains

-- no frame is withheld: pages may use all but those of the nurseries
abbrev pub NoneWithheld : Setup → HeapView → Type 0
NoneWithheld setup h = h.space.nursery ≡ setup.lanes * setup.nursery

-- all write buffers are empty, and no page is remembered
pub record IsUnrecorded (h : HeapView) : Type 0 where
  pub entries : (l : ℕ) → (buffer_of h.buffers l).entries ≡ []
  pub remembered : NoneRemembered h.space

-- lanes can run: the heap is in order, it has the setup's sizes, and there is a state that it stands for
pub record CanRunLanes (setup : Setup) (r : RunningView) : Type 0 where
  pub range : IsSetup setup
  pub order : IsRunning r.heap r.holders
  pub fits : HasSetup r.heap setup
  pub lanes : length r.serials ≡ setup.lanes
  pub meant : (state : State) × RunningStands r state

-- a number of threads that may mark
abbrev pub IsWorkers : ℕ → Type 0
IsWorkers n = (1 ≤ n) × (n ≤ 16)

-- what is true of an engine whose heap is in order, that of one that hasn't run out of memory: lanes can run on the heap, and as long as the
-- engine hasn't ended nothing is recorded and no frame is withheld
pub record IsEngine (e : EngineView) : Type 0 where
  pub workers : IsWorkers e.workers
  pub ready : CanRunLanes e.setup e.running
  pub going : e.ended ≡ None → IsUnrecorded e.running.heap
  pub returned : e.ended ≡ None → NoneWithheld e.setup e.running.heap

-- every lane can make n objects more, all with serials below 2 ^ 32
abbrev pub HasRoomForBirths : EngineView → ℕ → Type 0
HasRoomForBirths e n = (j : ℕ) → slice_index e.running.serials j + n < 2 ^ 32

-- what the type keeps: until it runs out of memory an engine's heap is in order, and the page reads that it counted are the heap's
pub record IsSoundEngine (e : EngineView) : Type 0 where
  pub alive : e.ended ≢ Some NoMemory → IsEngine e
  pub counted : IsCounted e.counters e.running.heap.space.reads
