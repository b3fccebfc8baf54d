-- Statuses of a view: where one comes from, and the exit status and the line of each.
use Rattle.std.specs.Prelude.{ℕ, List, ◌++◌, codes, Option, Some, None}
use Rattle.std.specs.Fmt.{decimal}
use Rattle.bc_io.specs.declared.reading.ReadAll.{ReadAll}
use Rattle.bc_io.specs.declared.reading.ReadAll.TheVariants as reads
use Rattle.bc_image.specs.declared.fault.ReadImage.{ReadImage}
use Rattle.bc_image.specs.declared.fault.ReadImage.TheVariants as answers
use Rattle.bc_heapview.specs.declared.status.ViewFault.{ViewFault}
use Rattle.bc_heapview.specs.declared.status.ViewFault.TheVariants as faults
use Rattle.bc_heapview.specs.declared.status.ViewStatus.{ViewStatus}
use Rattle.bc_heapview.specs.declared.status.ViewStatus.TheVariants.{Done, BadWords, BadImage, TooLong, ReadFault, WriteFault, NoMemory}

-- the exit status of the program, by how the view ended
abbrev pub view_exit_code : ViewStatus → ℕ
view_exit_code Done = 0
view_exit_code BadWords = 2
view_exit_code (BadImage at cause) = 8
view_exit_code TooLong = 3
view_exit_code ReadFault = 4
view_exit_code WriteFault = 5
view_exit_code NoMemory = 7

-- the status of a view whose input was not read to its end
abbrev pub unread_view : ReadAll → ViewStatus
unread_view reads.TooLong = TooLong
unread_view reads.ReadFault = ReadFault
unread_view reads.NoMemory = NoMemory

-- the status of a view whose input was not read as an image
abbrev pub image_refusal : ReadImage → ViewStatus
image_refusal (answers.Fault f) = BadImage f.at f.cause
image_refusal answers.NoMemory = NoMemory

-- what is wrong with a view, by how it ended
abbrev pub view_fault_of : ViewStatus → Option ViewFault
view_fault_of Done = None
view_fault_of BadWords = Some faults.BadWords
view_fault_of (BadImage at cause) = Some (faults.BadImage at)
view_fault_of TooLong = Some faults.TooLong
view_fault_of ReadFault = Some faults.ReadFault
view_fault_of WriteFault = Some faults.WriteFault
view_fault_of NoMemory = Some faults.NoMemory

-- the line of a status on standard error, without its line feed
abbrev pub view_fault_text : ViewFault → List ℕ
view_fault_text faults.BadWords = codes "bc_heapview: bad command line"
view_fault_text (faults.BadImage at) = codes "bc_heapview: bad image at " ++ decimal at
view_fault_text faults.TooLong = codes "bc_heapview: input longer than 134217728 bytes"
view_fault_text faults.ReadFault = codes "bc_heapview: read failed"
view_fault_text faults.WriteFault = codes "bc_heapview: write failed"
view_fault_text faults.NoMemory = codes "bc_heapview: out of memory"
