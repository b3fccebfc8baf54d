-- How the run of a trace that was read ends, by its status and its heap, and by what its sink held and counted before and after.
use Rattle.std.specs.Prelude.{◌≡◌, ◌≢◌, ◌⊎◌, ℕ, List, [], Option, Some, None, IfSome, length}
use Rattle.bc_engine.specs.Engines.{EngineView}
use Rattle.bc_feed.specs.Ends.{taken_of}
use Rattle.bc_feed.specs.declared.ends.Taker.{Taker}
use Rattle.bc_io.specs.Faults.{Rose}
use Rattle.bc_model.specs.Lists.{TraceLists}
use Rattle.bc_pager.specs.declared.answers.Answer.{Answer}
use Rattle.bc_replay.specs.Accounts.{KeepsAccount}
use Rattle.bc_replay.specs.Courses.{whole_course}
use Rattle.bc_replay.specs.Endings.{EndsDone, EndsOutOfHeap, EndsInFault, StopsBefore}
use Rattle.bc_replay.specs.Outcomes.{IfHeapless, IfStatusOutOfHeap}
use Rattle.bc_replay.specs.PartEndings.{IsEnding}
use Rattle.bc_replay.specs.declared.status.Status.{Status}
use Rattle.bc_replay.specs.declared.status.Status.TheVariants.{Done, NoMemory, WriteFault}
use Rattle.bc_live.specs.Feeds.{FedTrace}

-- what `run_trace` says of a run with so many workers. Of a sink that is as it was the last argument is true
pub record EndsRun (t : TraceLists) (workers : ℕ) (held held' : Option (List ℕ)) (faults faults' : ℕ) (status : Status) (heap : Option EngineView) (IsUntouched : Type 0) : Type 0 where
  pub ending : IsEnding status
  pub done : status ≡ Done → EndsDone (whole_course t) held held' heap
  pub out_of_heap : IfStatusOutOfHeap status (λ need. EndsOutOfHeap (whole_course t) held held' heap need)
  pub write_fault : status ≡ WriteFault → Rose faults faults' × EndsInFault (whole_course t) held held' heap
  pub firm : status ≢ WriteFault → faults' ≡ faults
  pub no_memory : status ≡ NoMemory → IsUntouched ⊎ StopsBefore (whole_course t) held held'
  pub none : IfHeapless status (heap ≡ None)
  pub workers_are : IfSome heap (λ e. e.workers ≡ workers)
  pub account : IfSome heap KeepsAccount

-- the hints that an end has taken were taken by such a run, which has one answer for each
pub record HasFed (t : TraceLists) (workers : ℕ) (taker : Taker) (answers : List Answer) (heap : Option EngineView) : Type 0 where
  pub even : length answers ≡ length (taken_of taker)
  pub fed : FedTrace t workers (taken_of taker) answers heap
