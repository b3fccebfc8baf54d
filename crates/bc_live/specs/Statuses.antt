-- Statuses of a run that is fed: what each is as the status of a run, and of which ones something is said.
use Rattle.std.specs.Prelude.{ℕ, Option}
use Rattle.bc_trace.specs.declared.fault.Cause.{Cause}
use Rattle.bc_replay.specs.declared.status.Status.{Status}
use Rattle.bc_replay.specs.declared.status.Status.TheVariants as runs
use Rattle.bc_live.specs.declared.status.LiveStatus.{LiveStatus}
use Rattle.bc_live.specs.declared.status.LiveStatus.TheVariants.{Done, BadWords, BadTrace, TooLong, ReadFault, WriteFault, OutOfHeap, NoMemory}

-- the status of a run that says this
abbrev pub as_status : LiveStatus → Status
as_status Done = runs.Done
as_status BadWords = runs.BadWords
as_status (BadTrace line cause) = runs.BadTrace line cause
as_status TooLong = runs.TooLong
as_status ReadFault = runs.ReadFault
as_status WriteFault = runs.WriteFault
as_status (OutOfHeap need) = runs.OutOfHeap need
as_status NoMemory = runs.NoMemory

-- of the statuses of a run that had read a trace and didn't run out of memory this is said, and of no others
abbrev pub IfRan : LiveStatus → Type 0 → Type 0
IfRan Done P = P
IfRan WriteFault P = P
IfRan (OutOfHeap need) P = P
IfRan _ P = Unit {0}

-- of the statuses where the words or the input were refused this is said, and of no others
abbrev pub IfUnread : LiveStatus → Type 0 → Type 0
IfUnread BadWords P = P
IfUnread (BadTrace line cause) P = P
IfUnread TooLong P = P
IfUnread ReadFault P = P
IfUnread _ P = Unit {0}
