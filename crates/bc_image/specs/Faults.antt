-- In the theorem.
-- The first fault of bytes that begin with no image.
use Rattle.std.specs.Prelude.{◌≡◌, ◌⊎◌, ℕ, ◌+◌, ◌&&◌, Bool, true, false, not, if◌then◌else◌, List, Option, Some, None, Result, Ok, Err, Option}
use Prim.Native.Nat.{zero, suc}
use Rattle.std.specs.Option.{is_some}
use Rattle.bc_word.specs.Words.{word_of_bits}
use Rattle.bc_word.specs.declared.words.Word.{Word}
use Rattle.bc_word.specs.declared.words.Word.TheVariants.{Nil, Num, Ref}
use Rattle.bc_image.specs.Bytes.{item_at}
use Rattle.bc_image.specs.Cells.{CellList}
use Rattle.bc_image.specs.Drafts.{ImageDraft}
use Rattle.bc_image.specs.Items.{advanced, first_progress}
use Rattle.bc_image.specs.Listings.{ListingLists}
use Rattle.bc_image.specs.Memories.{number_at}
use Rattle.bc_image.specs.Reading.{items_of_all, fault_at}
use Rattle.bc_image.specs.declared.fault.ImageCause.TheVariants.{Link}
use Rattle.bc_image.specs.declared.fault.ImageFault.{ImageFault}
use Rattle.bc_image.specs.declared.fault.ReadImage.{ReadImage}
use Rattle.bc_image.specs.declared.fault.ReadImage.TheVariants.{Fault, NoMemory}
use Rattle.bc_image.specs.declared.progress.Progress.{Progress}
use Rattle.bc_image.specs.declared.progress.Stage.{Stage}
use Rattle.bc_image.specs.declared.progress.Stage.TheVariants as stages

-- an item of this stage is a word
abbrev pub is_word : Stage → Bool
is_word stages.Root = true
is_word stages.Field = true
is_word _ = false

-- a word refers to an address at which no object of the image lies
abbrev pub leads_nowhere : List CellList → Word → Bool
leads_nowhere cells Nil = false
leads_nowhere cells (Num n) = false
leads_nowhere cells (Ref a) = not (is_some (number_at cells a.0))

-- the number of the first word, among so many items from this one on, that refers to no listed object
unfoldable pub linking : List ℕ → List CellList → Progress → ℕ → ℕ → Option ℕ
linking bytes cells p number zero = None
linking bytes cells p number (suc left) =
    if is_word p.stage && leads_nowhere cells (word_of_bits (item_at bytes number)) then Some number else
    linking bytes cells (advanced p (item_at bytes number)) (number + 1) left

-- the first item that fails a test; where all pass, the first word that refers to no object of the image
abbrev pub fault_of : List ℕ → Result (ImageDraft × ℕ) ImageFault → Option ImageFault
fault_of bytes (Err f) = Some f
fault_of bytes (Ok (d, count)) = link_fault (linking bytes d.cells first_progress 0 count)
  where
    link_fault : Option ℕ → Option ImageFault
    link_fault None = None
    link_fault (Some number) = Some (fault_at number Link)

-- this is the first fault of the bytes
abbrev pub IsFault : List ℕ → ImageFault → Type 0
IsFault bytes f = fault_of bytes (items_of_all bytes) ≡ Some f

-- what ends the reading is the first fault of the bytes, or memory ran out
abbrev pub TellsImageFault : List ℕ → ReadImage → Type 0
TellsImageFault bytes (Fault f) = IsFault bytes f
TellsImageFault bytes NoMemory = Unit {0}

-- what ends the reading is this fault, or memory ran out
abbrev pub IsImageFaultOrMemory : ImageFault → ReadImage → Type 0
IsImageFaultOrMemory f e = (e ≡ Fault f) ⊎ (e ≡ NoMemory)

-- what a draft lists
abbrev pub listing_of : ImageDraft → ListingLists
listing_of d = record {
  version = d.progress.version;
  setup = d.progress.setup;
  phases = d.progress.phases;
  holders = d.holders;
  births = d.births;
  roots = d.roots;
  cells = d.cells;
}
