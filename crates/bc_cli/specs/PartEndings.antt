-- With which statuses the parts of a command end.
use Rattle.bc_replay.specs.declared.status.Status.{Status}
use Rattle.bc_replay.specs.declared.status.Status.TheVariants.{Done, BadWords, BadTrace, TooLong, ReadFault, WriteFault, OutOfHeap, NoMemory, BadImage, Mismatch}

-- how a command can end that has read no image and trace that go together
abbrev pub IsUnresumedStatus : Status → Type 0
IsUnresumedStatus (BadTrace line cause) = Unit {0}
IsUnresumedStatus TooLong = Unit {0}
IsUnresumedStatus ReadFault = Unit {0}
IsUnresumedStatus NoMemory = Unit {0}
IsUnresumedStatus (BadImage at cause) = Unit {0}
IsUnresumedStatus Mismatch = Unit {0}
IsUnresumedStatus _ = ⊥

-- how `save` can end that has read a trace
abbrev pub IsSaveEnding : Status → Type 0
IsSaveEnding Done = Unit {0}
IsSaveEnding WriteFault = Unit {0}
IsSaveEnding (OutOfHeap need) = Unit {0}
IsSaveEnding NoMemory = Unit {0}
IsSaveEnding Mismatch = Unit {0}
IsSaveEnding _ = ⊥

-- how `save` can end that has read a trace and writes nothing
abbrev pub IsUnsavedStatus : Status → Type 0
IsUnsavedStatus (OutOfHeap need) = Unit {0}
IsUnsavedStatus NoMemory = Unit {0}
IsUnsavedStatus Mismatch = Unit {0}
IsUnsavedStatus _ = ⊥

-- how `save` can end
abbrev pub IsSaveStatus : Status → Type 0
IsSaveStatus BadWords = ⊥
IsSaveStatus (BadImage at cause) = ⊥
IsSaveStatus _ = Unit {0}

-- how `resume` can end
abbrev pub IsResumeStatus : Status → Type 0
IsResumeStatus BadWords = ⊥
IsResumeStatus _ = Unit {0}
