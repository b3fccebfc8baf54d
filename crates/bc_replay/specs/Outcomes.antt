-- In the theorem.
-- What each status says of the source, from its left bytes before and after, and of the sink, from its held bytes before and
-- after. Where a source or a sink doesn't make its bytes known, what is said of them holds of some bytes.
use Rattle.std.specs.Prelude.{◌≡◌, ℕ, ◌≤◌, ◌⊎◌, List, length, Option, Some, None}
use Rattle.std.specs.Io.KnownBytes.{IsAtEnd}
use Rattle.bc_engine.specs.Engines.{EngineView}
use Rattle.bc_image.specs.declared.fault.ImageCause.{ImageCause}
use Rattle.bc_io.specs.Told.{LeftFalls}
use Rattle.bc_model.specs.Lists.{TraceLists}
use Rattle.bc_trace.specs.Faults.{Fault}
use Rattle.bc_trace.specs.Lines.{Spells}
use Rattle.bc_trace.specs.declared.fault.Cause.{Cause}
use Rattle.bc_replay.specs.Courses.{whole_course}
use Rattle.bc_replay.specs.Endings.{EndsDone, EndsOutOfHeap, EndsInFault, StopsBefore, HasRunRoom}
use Rattle.bc_replay.specs.declared.status.Status.{Status}
use Rattle.bc_replay.specs.declared.status.Status.TheVariants.{BadWords, BadTrace, TooLong, ReadFault, OutOfHeap, NoMemory, BadImage, Mismatch}

-- the most bytes of a trace: 16,777,216
abbrev pub longest_trace : ℕ
longest_trace = 16777216

-- The source was read to its end, and gave these bytes, at most so many.
pub record ReadWhole (most : ℕ) (old new : Option (List ℕ)) (bytes : List ℕ) : Type 0 where
  pub falls : LeftFalls old new bytes
  pub end : IsAtEnd new
  pub short : length bytes ≤ most

-- The source was read to its end, and gave the text of this trace.
pub record ReadAsTrace (old new : Option (List ℕ)) (t : TraceLists) : Type 0 where
  pub bytes : List ℕ
  pub whole : ReadWhole longest_trace old new bytes
  pub spelled : Spells bytes t

-- A trace was read, and it is done: its whole output is written.
pub record Replayed (left left' held held' : Option (List ℕ)) (heap : Option EngineView) : Type 0 where
  pub trace : TraceLists
  pub read : ReadAsTrace left left' trace
  pub ending : EndsDone (whole_course trace) held held' heap

-- a trace was read, and one of its phases ended since the heap is too small, by this need
pub record RanOutOfHeap (left left' held held' : Option (List ℕ)) (heap : Option EngineView) (need : ℕ) : Type 0 where
  pub trace : TraceLists
  pub read : ReadAsTrace left left' trace
  pub ending : EndsOutOfHeap (whole_course trace) held held' heap need

-- a trace was read, and a prefix of what its replay writes is written
pub record ReplayedInPart (left left' held held' : Option (List ℕ)) (heap : Option EngineView) : Type 0 where
  pub trace : TraceLists
  pub read : ReadAsTrace left left' trace
  pub ending : EndsInFault (whole_course trace) held held' heap

-- A trace was read, and the whole texts of the phases before one of its phases are written.
pub record ReplayedTo (left left' held held' : Option (List ℕ)) : Type 0 where
  pub trace : TraceLists
  pub read : ReadAsTrace left left' trace
  pub ending : StopsBefore (whole_course trace) held held'

-- The source was read to its end, its bytes are no trace, and this is their first fault.
pub record Faulty (left left' : Option (List ℕ)) (line : ℕ) (cause : Cause) : Type 0 where
  pub bytes : List ℕ
  pub whole : ReadWhole longest_trace left left' bytes
  pub fault : Fault bytes line cause

-- of a status 3 with a line and a cause this is said, and of no other
abbrev pub IfBadTrace : Status → (ℕ → Cause → Type 0) → Type 0
IfBadTrace (BadTrace line cause) P = P line cause
IfBadTrace _ P = Unit {0}

-- of a status 8 this is said of its place and its cause, and of no other status
abbrev pub IfStatusBadImage : Status → (ℕ → ImageCause → Type 0) → Type 0
IfStatusBadImage (BadImage at cause) P = P at cause
IfStatusBadImage _ P = Unit {0}

-- of a status 6 this is said of its need, and of no other status
abbrev pub IfStatusOutOfHeap : Status → (ℕ → Type 0) → Type 0
IfStatusOutOfHeap (OutOfHeap need) P = P need
IfStatusOutOfHeap _ P = Unit {0}

-- the statuses of a run that hands back no heap
abbrev pub IfHeapless : Status → Type 0 → Type 0
IfHeapless BadWords P = P
IfHeapless (BadTrace line cause) P = P
IfHeapless TooLong P = P
IfHeapless ReadFault P = P
IfHeapless NoMemory P = P
IfHeapless (BadImage at cause) P = P
IfHeapless Mismatch P = P
IfHeapless _ P = Unit {0}

-- the status is this one, unless memory ran out
abbrev pub IsOrNoMemory : Status → Status → Type 0
IsOrNoMemory status wanted = (status ≡ wanted) ⊎ (status ≡ NoMemory)

-- the source may give these bytes up to its end: those that it has, or any where they aren't known
abbrev pub MayGive : Option (List ℕ) → List ℕ → Type 0
MayGive (Some left) bytes = left ≡ bytes
MayGive None bytes = Unit {0}

-- what a run on these bytes may write fits the sink's room, where that is known. Of bytes that are no trace, or too many, nothing
-- is written
abbrev pub HasRoomFor : Option (List ℕ) → Option ℕ → Type 0
HasRoomFor left room =
    (bytes : List ℕ) → (t : TraceLists) → MayGive left bytes → length bytes ≤ longest_trace → Spells bytes t → HasRunRoom room (whole_course t)
