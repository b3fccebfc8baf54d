-- When an operation fits the root slots, and when it stops.
use Rattle.std.specs.List.{list_all}
use Rattle.std.specs.Prelude.{◌≡◌, ℕ, ◌<◌, ◌≤◌, Bool, true, List, length, Option, Some, None}
use Rattle.bc_classes.specs.Classes.{class_of}
use Rattle.bc_whole_heap.specs.Heaps.{heap_memory}
use Rattle.bc_memory.specs.Memory.{Cell}
use Rattle.bc_model.specs.State.{holder_of, lets_read, lets_write}
use Rattle.bc_model.specs.Step.{domains_of, target_of}
use Rattle.bc_model.specs.WellFormed.{IsOp}
use Rattle.bc_model.specs.declared.values.Holder.{Holder}
use Rattle.bc_model.specs.declared.values.Holder.TheVariants as holder
use Rattle.bc_model.specs.declared.operations.Op.{Op}
use Rattle.bc_model.specs.declared.operations.Op.TheVariants.{New, Who, Len, Set, Cut, Link, Load, Copy, Clear, Same}
use Rattle.bc_model.specs.declared.traces.Setup.{Setup}
use Rattle.bc_model.specs.declared.values.Birth.{Birth}
use Rattle.bc_model.specs.declared.values.Slot.{Slot}
use Rattle.bc_nursery.specs.Entries.{Entries}
use Rattle.bc_nursery.specs.Objects.{has_object}
use Rattle.bc_nursery.specs.Nurseries.{Nursery}
use Rattle.bc_standing.specs.Standing.{births}
use Rattle.bc_superpages.specs.Layout.{Layout}
use Rattle.bc_superpages.specs.LayoutAt.{IsAllocated}
use Rattle.bc_superpages.specs.Memory as cells
use Rattle.bc_superpages.specs.RootWords.{RootWords}
use Rattle.bc_superpages.specs.RootSlots.{root_at}
use Rattle.bc_word.specs.declared.addresses.Address.{Address}
use Rattle.bc_word.specs.declared.words.Word.TheVariants.{Ref}
use Rattle.bc_word.specs.Words.{word_of_bits}

-- the setup of root slots, as far as operations have to fit it
abbrev pub setup_of : RootWords → Setup
setup_of roots = record { lanes = 0; domains = roots.domains; slots = roots.slots; superpages = 0; nursery = 0; buffer = 0; frames = 0 }

-- the operation's slots, fields and numbers are in range
abbrev pub IsOpOf : RootWords → Op → Type 0
IsOpOf roots op = IsOp (setup_of roots) op

-- no object of the heap has a later birth of the lane than the one of this serial
abbrev pub NoneLater : Layout → List Nursery → ℕ → ℕ → Type 0
NoneLater s chunks lane serial =
    (a : ℕ) → (b : Birth) → births (heap_memory s chunks) a ≡ Some b → b.lane ≡ lane → b.serial ≤ serial

-- the lane may write the slot, if there is one
abbrev pub slot_open : List Holder → ℕ → Option Slot → Bool
slot_open holders lane None = true
slot_open holders lane (Some p) = lets_write (holder_of holders p.domain) lane

-- the lane may write the slot that the operation writes, if it writes one
abbrev pub target_open : List Holder → ℕ → Op → Bool
target_open holders lane op = slot_open holders lane (target_of op)

-- the lane may read all slots that the operation names, and write the one that it writes. Else the operation is answered so, and
-- looks at no object
abbrev pub MayName : List Holder → ℕ → Op → Type 0
MayName holders lane op =
    (list_all (λ d. lets_read (holder_of holders d) lane) (domains_of op) ≡ true) × (target_open holders lane op ≡ true)

-- the operation makes an object in a domain that the lane holds, and its words are more than what is left of the chunk
abbrev pub WantsMore : List Holder → ℕ → ℕ → Op → Type 0
WantsMore holders lane left (New p n) = (holder_of holders p.domain ≡ holder.Lane lane) × (left < class_of n)
WantsMore holders lane left (Who p) = ⊥
WantsMore holders lane left (Len p) = ⊥
WantsMore holders lane left (Set p i v) = ⊥
WantsMore holders lane left (Cut p i) = ⊥
WantsMore holders lane left (Link p i q) = ⊥
WantsMore holders lane left (Load p i q) = ⊥
WantsMore holders lane left (Copy p q) = ⊥
WantsMore holders lane left (Clear p) = ⊥
WantsMore holders lane left (Same p q) = ⊥

-- the slot refers to an allocated cell of a domain that the lane holds, and the cell has the field
pub record RefersToField (holders : List Holder) (lane : ℕ) (s : Layout) (roots : RootWords) (p : Slot) (index : ℕ) : Type 0 where
  pub cell : Address
  pub to : word_of_bits (root_at roots p.domain p.slot) ≡ Ref cell
  pub mature : IsAllocated s cell.0
  pub content : Cell
  pub is : cells.memory s cell.0 ≡ Some content
  pub held : holder_of holders content.head.domain ≡ holder.Lane lane
  pub less : index < length content.fields

-- the lane may read both slots, slot p refers to such a field, and slot q to an object of the chunk
pub record StoresYoung (holders : List Holder) (lane : ℕ) (s : Layout) (roots : RootWords) (chunk : Nursery) (p : Slot) (index : ℕ) (q : Slot) : Type 0 where
  pub slots : (lets_read (holder_of holders p.domain) lane ≡ true) × (lets_read (holder_of holders q.domain) lane ≡ true)
  pub target : RefersToField holders lane s roots p index
  pub young : Address
  pub stored : word_of_bits (root_at roots q.domain q.slot) ≡ Ref young
  pub there : has_object chunk young.0 ≡ true

-- the operation stores a reference to an object of the chunk in a field of a cell, and the buffer is at capacity
abbrev pub NeedsEntry : List Holder → ℕ → Layout → RootWords → Nursery → Entries → Op → Type 0
NeedsEntry holders lane s roots chunk buffer (Link p i q) =
    StoresYoung holders lane s roots chunk p i q × (length buffer.entries ≡ buffer.capacity)
NeedsEntry holders lane s roots chunk buffer (New p n) = ⊥
NeedsEntry holders lane s roots chunk buffer (Who p) = ⊥
NeedsEntry holders lane s roots chunk buffer (Len p) = ⊥
NeedsEntry holders lane s roots chunk buffer (Set p i v) = ⊥
NeedsEntry holders lane s roots chunk buffer (Cut p i) = ⊥
NeedsEntry holders lane s roots chunk buffer (Load p i q) = ⊥
NeedsEntry holders lane s roots chunk buffer (Copy p q) = ⊥
NeedsEntry holders lane s roots chunk buffer (Clear p) = ⊥
NeedsEntry holders lane s roots chunk buffer (Same p q) = ⊥
