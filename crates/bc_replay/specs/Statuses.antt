-- Statuses: where one comes from, and the exit status and the line of each.
use Rattle.std.specs.Prelude.{ℕ, List, ◌++◌, codes, Option, Some, None}
use Rattle.std.specs.Fmt.{decimal}
use Rattle.bc_image.specs.declared.fault.ReadImage.{ReadImage}
use Rattle.bc_image.specs.declared.fault.ReadImage.TheVariants as scans
use Rattle.bc_io.specs.declared.reading.ReadAll.{ReadAll}
use Rattle.bc_io.specs.declared.reading.ReadAll.TheVariants as reads
use Rattle.bc_trace.specs.Causes.{cause_text}
use Rattle.bc_trace.specs.declared.fault.ReadTrace.{ReadTrace}
use Rattle.bc_trace.specs.declared.fault.ReadTrace.TheVariants as answers
use Rattle.bc_replay.specs.declared.status.Fault.{Fault}
use Rattle.bc_replay.specs.declared.status.Fault.TheVariants as faults
use Rattle.bc_replay.specs.declared.status.Status.{Status}
use Rattle.bc_replay.specs.declared.status.Status.TheVariants.{Done, BadWords, BadTrace, TooLong, ReadFault, WriteFault, OutOfHeap, NoMemory, BadImage, Mismatch}

-- the exit status of the program, by how the run ended
abbrev pub exit_code_of : Status → ℕ
exit_code_of Done = 0
exit_code_of BadWords = 2
exit_code_of (BadTrace line cause) = 3
exit_code_of TooLong = 3
exit_code_of ReadFault = 4
exit_code_of WriteFault = 5
exit_code_of (OutOfHeap need) = 6
exit_code_of NoMemory = 7
exit_code_of (BadImage at cause) = 8
exit_code_of Mismatch = 9

-- the status of a run whose input was not read to its end
abbrev pub unread : ReadAll → Status
unread reads.TooLong = TooLong
unread reads.ReadFault = ReadFault
unread reads.NoMemory = NoMemory

-- the status of a run whose input was not read as a trace
abbrev pub refusal_of : ReadTrace → Status
refusal_of (answers.Fault f) = BadTrace f.line f.cause
refusal_of answers.NoMemory = NoMemory

-- the status of a run whose input begins with no image
abbrev pub unscanned : ReadImage → Status
unscanned (scans.Fault f) = BadImage f.at f.cause
unscanned scans.NoMemory = NoMemory

-- what is wrong with a run whose input may have so many bytes, by how it ended
abbrev pub fault_of : ℕ → Status → Option Fault
fault_of most Done = None
fault_of most BadWords = Some faults.BadWords
fault_of most (BadTrace line cause) = Some (faults.BadTrace line cause)
fault_of most TooLong = Some (faults.TooLong most)
fault_of most ReadFault = Some faults.ReadFault
fault_of most WriteFault = Some faults.WriteFault
fault_of most (OutOfHeap need) = Some (faults.OutOfHeap need)
fault_of most NoMemory = Some faults.NoMemory
fault_of most (BadImage at cause) = Some (faults.BadImage at)
fault_of most Mismatch = Some faults.Mismatch

-- the line of a status on standard error, after the program's name and without its line feed
abbrev pub message_text : Fault → List ℕ
message_text faults.BadWords = codes ": bad command line"
message_text (faults.BadTrace line cause) = codes ": line " ++ decimal line ++ codes ": " ++ cause_text cause
message_text (faults.TooLong most) = codes ": input longer than " ++ decimal most ++ codes " bytes"
message_text faults.ReadFault = codes ": read failed"
message_text faults.WriteFault = codes ": write failed"
message_text (faults.OutOfHeap need) = codes ": out of heap, " ++ decimal need ++ codes " superpages needed"
message_text faults.NoMemory = codes ": out of memory"
message_text (faults.BadImage at) = codes ": bad image at " ++ decimal at
message_text faults.Mismatch = codes ": image and trace differ"

-- the line of `bc`
abbrev pub fault_text : Fault → List ℕ
fault_text fault = codes "bc" ++ message_text fault
