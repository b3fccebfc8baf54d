-- In the theorem.
-- Reading, as a function of the bytes.
use Rattle.std.specs.Prelude.{◌≡◌, ℕ, ◌+◌, ◌*◌, ◌/◌, if◌then◌else◌, List, length, Option, Some, None, Result, Ok, Err}
use Prim.Native.Nat.{zero, suc}
use Rattle.bc_image.specs.Bytes.{item_at}
use Rattle.bc_image.specs.Items.{is_finished}
use Rattle.bc_image.specs.Drafts.{ImageDraft, empty_draft, judged, put, ShowsLists}
use Rattle.bc_image.specs.declared.draft.Draft.{Draft}
use Rattle.bc_image.specs.declared.fault.ImageCause.{ImageCause}
use Rattle.bc_image.specs.declared.fault.ImageCause.TheVariants as causes
use Rattle.bc_image.specs.declared.fault.ImageFault.{ImageFault}
use Rattle.bc_image.specs.declared.fault.ReadImage.{ReadImage}
use Rattle.bc_image.specs.declared.fault.ReadImage.TheVariants.{Fault, NoMemory}

-- a fault of the item of this number
abbrev pub fault_at : ℕ → ImageCause → ImageFault
fault_at number cause = record { at = 8 * number; cause = cause }

-- the fault where the item has a cause, and else what follows
abbrev pub go_on : ℕ → Option ImageCause → Result (ImageDraft × ℕ) ImageFault → Result (ImageDraft × ℕ) ImageFault
go_on number (Some cause) next = Err (fault_at number cause)
go_on number None next = next

-- the draft and what is left after so many items more, of which the first has this number
unfoldable pub reading : List ℕ → ImageDraft → ℕ → ℕ → Result (ImageDraft × ℕ) ImageFault
reading bytes d number zero = if is_finished d.progress.stage then Ok (d, number) else Err (fault_at number causes.Short)
reading bytes d number (suc left) =
    if is_finished d.progress.stage then Ok (d, number) else
    go_on number (judged d (item_at bytes number)) (reading bytes (put d (item_at bytes number)) (number + 1) left)

-- what the items list, and how many they are, or the first that fails a test; references to nowhere are looked for afterwards
abbrev pub items_of_all : List ℕ → Result (ImageDraft × ℕ) ImageFault
items_of_all bytes = reading bytes empty_draft 0 (length bytes / 8)

-- the answer is that, unless memory ran out
abbrev pub GivesItems : Result (Draft × ℕ) ReadImage → Result (ImageDraft × ℕ) ImageFault → Type 0
GivesItems (Ok x) outcome = (d : ImageDraft) × ShowsLists x.0 d × (outcome ≡ Ok (d, x.1))
GivesItems (Err (Fault f)) outcome = outcome ≡ Err f
GivesItems (Err NoMemory) outcome = Unit {0}
