-- What a lane has in hand of a whole heap: cells, root slots, its chunk and its write buffer. `cells` and `slots` say
-- which spaces and which root words the lane's may belong to.
use Rattle.std.specs.Prelude.{◌≡◌, ◌⊎◌, ℕ, ◌<◌, ◌≤◌, Bool, true, false, if◌then◌else◌, List, slice_index, Option, Some, None}
use Rattle.bc_model.specs.State.{holder_of, lets_read, lets_write}
use Rattle.bc_model.specs.WellFormed.{IsSlot}
use Rattle.bc_model.specs.declared.operations.Op.{Op}
use Rattle.bc_model.specs.declared.operations.Op.TheVariants.{New, Who, Len, Set, Cut, Link, Load, Copy, Clear, Same}
use Rattle.bc_model.specs.declared.values.Holder.{Holder}
use Rattle.bc_model.specs.declared.values.Holder.TheVariants as holder
use Rattle.bc_model.specs.declared.values.Slot.{Slot}
use Rattle.bc_nursery.specs.Entries.{Entries}
use Rattle.bc_nursery.specs.Nurseries.{Nursery}
use Rattle.bc_superpages.specs.declared.headers.PageState.TheVariants.{Remembered}
use Rattle.bc_superpages.specs.Calls.{fields_at}
use Rattle.bc_superpages.specs.Kept.{IsLayout}
use Rattle.bc_superpages.specs.Layout.{Layout}
use Rattle.bc_superpages.specs.LayoutAt.{IsAllocated, state_at}
use Rattle.bc_memory.specs.Memory.{Cell}
use Rattle.bc_superpages.specs.Memory as space
use Rattle.bc_superpages.specs.RootWords.{RootWords}
use Rattle.bc_whole_heap.specs.Closed.{buffer_of, IsCellOrYoung}
use Rattle.bc_whole_heap.specs.Heaps.{HeapView, end_of}
use Rattle.bc_word.specs.Addresses.{page_of, superpage_of}
use Rattle.bc_word.specs.declared.addresses.Address.{Address}
use Rattle.bc_word.specs.declared.words.Word.{Word}
use Rattle.bc_word.specs.declared.words.Word.TheVariants.{Ref}
use Rattle.bc_mutator.specs.Objects.{LieBehind, IsOwn, MayOperate, cell_of, own_chunk, slot_word}
use Rattle.bc_mutator.specs.Operations.{IsOpOf, setup_of}

-- the cell is allocated in the space
pub record HasAllocated (s : Layout) (cell : ℕ) : Type 0 where
  pub layout : IsLayout s
  pub allocated : IsAllocated s cell

-- the cell is allocated in the space, and has the field
pub record HasField (s : Layout) (cell index : ℕ) : Type 0 where
  pub layout : IsLayout s
  pub allocated : IsAllocated s cell
  pub within : index < fields_at s cell

-- what a field of the cell may refer to: an allocated cell, and past the superpages only where the cell's page is Remembered
abbrev pub MayHold : Layout → ℕ → Word → Type 0
MayHold s cell word =
    (to : Address) → word ≡ Ref to → IsAllocated s to.0 ⊎ ((end_of s ≤ to.0) × (state_at s.states (page_of cell) ≡ Remembered))

-- the word refers to an allocated cell or past the superpages, if to anything
abbrev pub IsCellOrBehind : Layout → Word → Type 0
IsCellOrBehind s word = (to : Address) → word ≡ Ref to → IsAllocated s to.0 ⊎ (end_of s ≤ to.0)

-- the space may be the one that the cells belong to, and the lane's chunk lies past it
pub record IsSpaceOf (cells : Layout → Type 0) (chunk : Nursery) (s : Layout) : Type 0 where
  pub shown : cells s
  pub layout : IsLayout s
  pub behind : LieBehind s chunk

-- an object that lies in a cell or in the chunk has the field, and the word may be written there
pub record CanStore (s : Layout) (chunk : Nursery) (at : Address) (index : ℕ) (word : Word) : Type 0 where
  pub there : IsCellOrYoung s chunk at.0
  pub less : index < (cell_of s chunk at.0).head.fields
  pub own : IsOwn s chunk word

-- if the address lies in the superpages, its page is in hand
abbrev pub IsInHand : (Layout → Type 0) → (ℕ → Type 0) → Address → Type 0
IsInHand cells hand at = (s : Layout) → cells s → at.0 < end_of s → hand (page_of at.0)

-- if what the word refers to lies in the superpages, its page is in hand
abbrev pub LeadsToHand : (Layout → Type 0) → (ℕ → Type 0) → Word → Type 0
LeadsToHand cells hand word = (at : Address) → word ≡ Ref at → IsInHand cells hand at

-- if what the slot refers to lies in the superpages, its page is in hand
abbrev pub SlotLeadsToHand : (Layout → Type 0) → (RootWords → Type 0) → (ℕ → Type 0) → Slot → Type 0
SlotLeadsToHand cells slots hand p = (r : RootWords) → slots r → LeadsToHand cells hand (slot_word r p)

-- if what the word refers to lies in a superpage of a domain of which this is true, its page is in hand
abbrev pub LeadsToHandIn : (Layout → Type 0) → (ℕ → Type 0) → (ℕ → Bool) → Word → Type 0
LeadsToHandIn cells hand right word =
    (at : Address) → word ≡ Ref at → (s : Layout) → cells s → at.0 < end_of s
    → right (slice_index s.domains (superpage_of at.0)) ≡ true → hand (page_of at.0)

-- if what the slot refers to lies in a superpage of a domain of which this is true, its page is in hand
abbrev pub SlotLeadsToHandIn : (Layout → Type 0) → (RootWords → Type 0) → (ℕ → Type 0) → (ℕ → Bool) → Slot → Type 0
SlotLeadsToHandIn cells slots hand right p = (r : RootWords) → slots r → LeadsToHandIn cells hand right (slot_word r p)

-- the slot whose object an operation looks at, if it does
abbrev pub touched_slot : Op → Option Slot
touched_slot (Who p) = Some p
touched_slot (Len p) = Some p
touched_slot (Set p i v) = Some p
touched_slot (Cut p i) = Some p
touched_slot (Link p i q) = Some p
touched_slot (Load p i q) = Some p
touched_slot (New p n) = None
touched_slot (Copy p q) = None
touched_slot (Clear p) = None
touched_slot (Same p q) = None

-- where there is such a slot, what it refers to is in hand
abbrev pub TouchesHand : (Layout → Type 0) → (RootWords → Type 0) → (ℕ → Type 0) → Option Slot → Type 0
TouchesHand cells slots hand None = Unit {0}
TouchesHand cells slots hand (Some p) = SlotLeadsToHand cells slots hand p

-- the operation writes a field of the object that it looks at
abbrev pub writes_field : Op → Bool
writes_field (Set p i v) = true
writes_field (Cut p i) = true
writes_field (Link p i q) = true
writes_field (New p n) = false
writes_field (Who p) = false
writes_field (Len p) = false
writes_field (Load p i q) = false
writes_field (Copy p q) = false
writes_field (Clear p) = false
writes_field (Same p q) = false

-- the lane may do to an object of this domain what the operation does to it: write it, or read it. Where it may not, the
-- operation is answered so for the domain of the object's superpage, and doesn't look at the object's page
abbrev pub has_right : List Holder → ℕ → Op → ℕ → Bool
has_right holders lane op domain =
    if writes_field op then lets_write (holder_of holders domain) lane else lets_read (holder_of holders domain) lane

-- where there is such a slot, and what it refers to lies in a superpage of a domain of which this is true, its page is in hand
abbrev pub LooksInHand : (Layout → Type 0) → (RootWords → Type 0) → (ℕ → Type 0) → (ℕ → Bool) → Option Slot → Type 0
LooksInHand cells slots hand right None = Unit {0}
LooksInHand cells slots hand right (Some p) = SlotLeadsToHandIn cells slots hand right p

-- a whole heap in which the lane may operate and may have the word, and whose cells and chunk are the lane's
pub record HasWord (cells : Layout → Type 0) (chunk : Nursery) (holders : List Holder) (lane : ℕ) (word : Word) (h : HeapView) : Type 0 where
  pub ready : MayOperate h holders lane
  pub space : cells h.space
  pub chunk_is : own_chunk h lane ≡ chunk
  pub own : IsOwn h.space chunk word

-- a whole heap in which the lane may do the operation, and whose cells, root slots and chunk are the lane's
pub record Sees (cells : Layout → Type 0) (slots : RootWords → Type 0) (chunk : Nursery) (holders : List Holder) (lane : ℕ) (op : Op) (h : HeapView) : Type 0 where
  pub ready : MayOperate h holders lane
  pub fits : IsOpOf h.roots op
  pub space : cells h.space
  pub roots : slots h.roots
  pub chunk_is : own_chunk h lane ≡ chunk

-- the parts belong to the whole heap
pub record IsPartOf (cells : Layout → Type 0) (slots : RootWords → Type 0) (chunk : Nursery) (buffer : Entries) (lane : ℕ) (h : HeapView) : Type 0 where
  pub space : cells h.space
  pub roots : slots h.roots
  pub chunk_is : own_chunk h lane ≡ chunk
  pub buffer_is : buffer_of h.buffers lane ≡ buffer

-- the parts belong to the whole heap, and the lane may write the word there to a field of the slot's object
pub record ServesField (cells : Layout → Type 0) (slots : RootWords → Type 0) (chunk : Nursery) (buffer : Entries) (holders : List Holder) (lane : ℕ) (p : Slot) (word : Word) (h : HeapView) : Type 0 where
  pub ready : MayOperate h holders lane
  pub slot : IsSlot (setup_of h.roots) p
  pub own : IsOwn h.space chunk word
  pub part : IsPartOf cells slots chunk buffer lane h

-- the parts belong to the whole heap, and the lane may do the operation there
pub record Serves (cells : Layout → Type 0) (slots : RootWords → Type 0) (chunk : Nursery) (buffer : Entries) (holders : List Holder) (lane : ℕ) (op : Op) (h : HeapView) : Type 0 where
  pub ready : MayOperate h holders lane
  pub fits : IsOpOf h.roots op
  pub part : IsPartOf cells slots chunk buffer lane h

-- what is in hand of the lane's own domains may be written: a page in hand is so if it has a cell of such a domain
abbrev pub OwnsPages : (Layout → Type 0) → List Holder → ℕ → (ℕ → Type 0) → (ℕ → Type 0) → Type 0
OwnsPages cells holders lane hand own =
    (s : Layout) → (a : ℕ) → (c : Cell) → cells s → IsLayout s → space.memory s a ≡ Some c → holder_of holders c.head.domain ≡ holder.Lane lane
    → hand (page_of a) → own (page_of a)
