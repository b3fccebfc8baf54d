-- With which statuses the parts of a run end.
use Rattle.bc_replay.specs.declared.status.Status.{Status}
use Rattle.bc_replay.specs.declared.status.Status.TheVariants.{Done, BadTrace, TooLong, ReadFault, WriteFault, OutOfHeap, NoMemory}

-- how a run can end that has read no trace
abbrev pub IsRefusedStatus : Status → Type 0
IsRefusedStatus (BadTrace line cause) = Unit {0}
IsRefusedStatus TooLong = Unit {0}
IsRefusedStatus ReadFault = Unit {0}
IsRefusedStatus NoMemory = Unit {0}
IsRefusedStatus _ = ⊥

-- how a run can end that has read a trace
abbrev pub IsEnding : Status → Type 0
IsEnding Done = Unit {0}
IsEnding WriteFault = Unit {0}
IsEnding (OutOfHeap need) = Unit {0}
IsEnding NoMemory = Unit {0}
IsEnding _ = ⊥
