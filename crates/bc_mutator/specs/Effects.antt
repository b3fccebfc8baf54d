-- What an operation of a lane does to the heap.
use Rattle.std.specs.Prelude.{◌≡◌, ◌≢◌, ◌⊎◌, ℕ, ◌+◌, ◌/◌, ◌<◌, ◌≤◌, false, List, [], ◌∷◌, ◌++◌, length, replicate, slice_index, slice_set, Some, None}
use Rattle.bc_whole_heap.specs.Closed.{buffer_of}
use Rattle.bc_whole_heap.specs.Heaps.{HeapView, end_of}
use Rattle.bc_whole_heap.specs.Running.{IsRunning}
use Rattle.bc_whole_heap.specs.LaneStates.{StandsAs}
use Rattle.bc_memory.specs.Memory.{Cell, Memory}
use Rattle.bc_memory.specs.MemoryChanges.{with_cell, with_field}
use Rattle.bc_model.specs.State.{State, holder_of, slot_of}
use Rattle.bc_model.specs.State.{with_born_field as value_in_field}
use Rattle.bc_model.specs.Step.{act, step, on_own_field}
use Rattle.bc_model.specs.declared.operations.Op.{Op}
use Rattle.bc_model.specs.declared.operations.Op.TheVariants.{New, Who, Len, Set, Cut, Link, Load, Copy, Clear, Same}
use Rattle.bc_model.specs.declared.operations.Reply.{Reply}
use Rattle.bc_model.specs.declared.operations.Reply.TheVariants.{Done, Foreign, Frozen, Obj}
use Rattle.bc_model.specs.declared.values.Holder.{Holder}
use Rattle.bc_model.specs.declared.values.Holder.TheVariants as holder
use Rattle.bc_model.specs.declared.values.Slot.{Slot}
use Rattle.bc_model.specs.declared.values.Value.{Value}
use Rattle.bc_nursery.specs.Entries.{Entries}
use Rattle.bc_nursery.specs.Nurseries.{Nursery}
use Rattle.bc_nursery.specs.Objects as nursery
use Rattle.bc_superpages.specs.declared.headers.PageState.{PageState}
use Rattle.bc_superpages.specs.declared.headers.PageState.TheVariants.{Remembered}
use Rattle.bc_superpages.specs.Headers.{is_gone}
use Rattle.bc_superpages.specs.Kept.{IsLayout}
use Rattle.bc_superpages.specs.Layout.{Layout, content_at}
use Rattle.bc_superpages.specs.LayoutAt.{state_at, with_state, with_word}
use Rattle.bc_superpages.specs.Memory as cells
use Rattle.bc_superpages.specs.RootWords.{RootWords}
use Rattle.bc_superpages.specs.RootSlots.{root_at, root_place, with_note}
use Rattle.bc_word.specs.Addresses.{page_of}
use Rattle.bc_word.specs.WordBits.{word_bits}
use Rattle.bc_word.specs.declared.addresses.Address.{Address}
use Rattle.bc_word.specs.declared.words.Word.{Word}
use Rattle.bc_word.specs.declared.heads.Head.{Head}
use Rattle.bc_word.specs.declared.words.Word.TheVariants.{Nil, Num, Ref}
use Rattle.bc_mutator.specs.Objects.{AreWhole, IsRead, own_chunk, whole_memory, slot_word}
use Rattle.bc_mutator.specs.Operations.{NoneLater, RefersToField, StoresYoung}

-- the root slots with another word in one of them, which is noted
abbrev pub with_root : RootWords → Slot → Word → RootWords
with_root r p word =
    record r { words = slice_set r.words (root_place r p.domain p.slot) (word_bits word); noted = with_note r.noted (root_place r p.domain p.slot) }

-- an operation that changes nothing is answered this
abbrev pub Answers : HeapView → List Holder → ℕ → Op → Reply → Type 0
Answers h holders lane op reply =
    (serials : List ℕ) → (state : State) → StandsAs h holders serials state → act state lane op ≡ (state, reply)

-- what a lane's operation leaves as it was: what isn't the lane's, be it chunks, buffers, pages or root slots, and all sizes
pub record Leaves (holders : List Holder) (lane : ℕ) (old new : HeapView) : Type 0 where
  pub chunks : new.chunks ≡ slice_set old.chunks lane (own_chunk new lane)
  pub buffers : new.buffers ≡ slice_set old.buffers lane (buffer_of new.buffers lane)
  pub space : new.space ≡ record old.space { states = new.space.states; pages = new.space.pages }
  pub pages : (page : ℕ) → (slice_index old.space.domains (page / 4) < length holders → holder_of holders (slice_index old.space.domains (page / 4)) ≢ holder.Lane lane)
      → (content_at new.space.pages page ≡ content_at old.space.pages page) × (state_at new.space.states page ≡ state_at old.space.states page)
  pub roots : new.roots ≡ record old.roots { words = new.roots.words; noted = new.roots.noted }
  pub slots : (p : Slot) → holder_of holders p.domain ≢ holder.Lane lane → p.slot < old.roots.slots → root_at new.roots p.domain p.slot ≡ root_at old.roots p.domain p.slot
  pub chunk : own_chunk new lane ≡ record (own_chunk old lane) { objects = (own_chunk new lane).objects }
  pub capacity : (buffer_of new.buffers lane).capacity ≡ (buffer_of old.buffers lane).capacity
  pub unrecorded : (own_chunk old lane).objects ≡ [] → (new.buffers ≡ old.buffers) × (new.space.states ≡ old.space.states)

-- the buffer with one entry more
abbrev pub with_entry : Entries → Address → ℕ → Entries
with_entry b cell index = record b { entries = b.entries ++ (cell, index) ∷ [] }

-- the page is Remembered, and all else of the states is as it was
pub record BecomesRemembered (old new : List (List PageState)) (page : ℕ) : Type 0 where
  pub same : new ≡ with_state old page Remembered
  pub here : state_at new page ≡ Remembered
  pub others : (p : ℕ) → p ≢ page → state_at new p ≡ state_at old p

-- a field of a cell is recorded: the entry is the buffer's last, and the cell's page is Remembered
abbrev pub RecordsField : Address → ℕ → Entries → Entries → List (List PageState) → List (List PageState) → Type 0
RecordsField cell index b e old new = (e ≡ with_entry b cell index) × BecomesRemembered old new (page_of cell.0)

-- nothing is recorded
abbrev pub RecordsNothing : Entries → Entries → List (List PageState) → List (List PageState) → Type 0
RecordsNothing b e old new = (e ≡ b) × (new ≡ old)

-- what an operation that is answered the reply records, where the lane's buffer was b and is e, and the states are now
-- these. A link records the field where it stores a reference to an object of the lane's chunk in a cell, and then it is
-- done. Any other link records nothing, and no other operation does.
abbrev pub IsRecordedBy : List Holder → ℕ → Layout → RootWords → Nursery → Op → Reply → Entries → Entries → List (List PageState) → Type 0
IsRecordedBy holders lane s roots chunk (Link p i q) reply b e states =
    ((stores : StoresYoung holders lane s roots chunk p i q) × (reply ≡ Done) × RecordsField stores.target.cell i b e s.states states)
    ⊎ ((StoresYoung holders lane s roots chunk p i q → ⊥) × RecordsNothing b e s.states states)
IsRecordedBy holders lane s roots chunk (New p n) reply b e states = RecordsNothing b e s.states states
IsRecordedBy holders lane s roots chunk (Who p) reply b e states = RecordsNothing b e s.states states
IsRecordedBy holders lane s roots chunk (Len p) reply b e states = RecordsNothing b e s.states states
IsRecordedBy holders lane s roots chunk (Set p i v) reply b e states = RecordsNothing b e s.states states
IsRecordedBy holders lane s roots chunk (Cut p i) reply b e states = RecordsNothing b e s.states states
IsRecordedBy holders lane s roots chunk (Load p i q) reply b e states = RecordsNothing b e s.states states
IsRecordedBy holders lane s roots chunk (Copy p q) reply b e states = RecordsNothing b e s.states states
IsRecordedBy holders lane s roots chunk (Clear p) reply b e states = RecordsNothing b e s.states states
IsRecordedBy holders lane s roots chunk (Same p q) reply b e states = RecordsNothing b e s.states states

-- what an operation that is answered the reply records, of a heap before and after it
abbrev pub HasRecorded : HeapView → HeapView → List Holder → ℕ → Op → Reply → Type 0
HasRecorded old new holders lane op reply =
    IsRecordedBy holders lane old.space old.roots (own_chunk old lane) op reply (buffer_of old.buffers lane) (buffer_of new.buffers lane) new.space.states

-- the slot refers to an object of a domain that the lane holds, and the object has the field
pub record NamesField (holders : List Holder) (lane : ℕ) (m : Memory) (roots : RootWords) (p : Slot) (index : ℕ) : Type 0 where
  pub at : Address
  pub to : slot_word roots p ≡ Ref at
  pub content : Cell
  pub is : m at.0 ≡ Some content
  pub held : holder_of holders content.head.domain ≡ holder.Lane lane
  pub less : index < length content.fields

-- where the operation is done the field of the slot's object becomes the word, and else no object changes
abbrev pub ChangesField : List Holder → ℕ → Memory → Memory → RootWords → Slot → ℕ → Word → Reply → Type 0
ChangesField holders lane m n roots p index word reply =
    ((f : NamesField holders lane m roots p index) × (reply ≡ Done) × (n ≡ with_cell m f.at.0 (Some (with_field f.content index word))))
    ⊎ ((reply ≢ Done) × (n ≡ m))

-- an object of nil fields
abbrev pub new_cell : Head → Cell
new_cell head = record { head = head; fields = replicate head.fields Nil }

-- there is an object more, where none lay, of the lane's next birth, unless the lane may not read the domain, or may
-- not write it
abbrev pub MakesObject : ℕ → ℕ → Memory → Memory → Slot → ℕ → Reply → Type 0
MakesObject lane serial m n p fields reply =
    ((a : ℕ) × (m a ≡ None) × (reply ≡ Obj (record { lane = lane; serial = serial + 1 }))
    × (n ≡ with_cell m a (Some (new_cell (record { lane = lane; serial = serial + 1; domain = p.domain; fields = fields })))))
    ⊎ (((reply ≡ Foreign) ⊎ (reply ≡ Frozen)) × (n ≡ m))

-- what a lane's operation that is answered the reply does to the heap as one memory, which was m and is n: a new object
-- lies in it, or one field holds another word, or nothing changes. `serial` is the number of the lane's births before
abbrev pub IsChangedBy : List Holder → ℕ → ℕ → Memory → Memory → RootWords → Op → Reply → Type 0
IsChangedBy holders lane serial m n roots (New p fields) reply = MakesObject lane serial m n p fields reply
IsChangedBy holders lane serial m n roots (Set p i v) reply = ChangesField holders lane m n roots p i (Num v) reply
IsChangedBy holders lane serial m n roots (Cut p i) reply = ChangesField holders lane m n roots p i Nil reply
IsChangedBy holders lane serial m n roots (Link p i q) reply = ChangesField holders lane m n roots p i (slot_word roots q) reply
IsChangedBy holders lane serial m n roots (Who p) reply = n ≡ m
IsChangedBy holders lane serial m n roots (Len p) reply = n ≡ m
IsChangedBy holders lane serial m n roots (Load p i q) reply = n ≡ m
IsChangedBy holders lane serial m n roots (Copy p q) reply = n ≡ m
IsChangedBy holders lane serial m n roots (Clear p) reply = n ≡ m
IsChangedBy holders lane serial m n roots (Same p q) reply = n ≡ m

-- what an operation that is answered the reply does to the heap as one memory, of a heap before and after it
abbrev pub HasChanged : HeapView → HeapView → List Holder → ℕ → ℕ → Op → Reply → Type 0
HasChanged old new holders lane serial op reply = IsChangedBy holders lane serial (whole_memory old) (whole_memory new) old.roots op reply

-- what an operation of a lane does to the heap and is answered, where it does this to the state: `serial` is the number of
-- the lane's births before, and `next` after
pub record DoesAs (does : State → State × Reply) (old new : HeapView) (holders : List Holder) (lane serial next : ℕ) (op : Op) (reply : Reply) : Type 0 where
  pub step : (serials : List ℕ) → (state : State) → StandsAs old holders serials state → slice_index serials lane ≡ serial
      → ((does state).1 ≡ reply) × StandsAs new holders (slice_set serials lane next) (does state).0
  pub running : NoneLater old.space old.chunks lane serial → IsRunning new holders
  pub later : NoneLater old.space old.chunks lane serial → NoneLater new.space new.chunks lane next
  pub others_later : (l n : ℕ) → l ≢ lane → NoneLater old.space old.chunks l n → NoneLater new.space new.chunks l n
  pub layout : IsLayout new.space
  pub whole : AreWhole new.chunks
  pub leaves : Leaves holders lane old new
  pub recorded : HasRecorded old new holders lane op reply
  pub changed : HasChanged old new holders lane serial op reply

-- what an operation of a lane that may read all slots that it names, and write the one that it writes, does to the heap and is
-- answered
abbrev pub DidAct : HeapView → HeapView → List Holder → ℕ → ℕ → ℕ → Op → Reply → Type 0
DidAct old new holders lane serial next op reply = DoesAs (λ state. act state lane op) old new holders lane serial next op reply

-- what an operation of a lane does to the heap and is answered
abbrev pub DidOperation : HeapView → HeapView → List Holder → ℕ → ℕ → ℕ → Op → Reply → Type 0
DidOperation old new holders lane serial next op reply = DoesAs (λ state. step state lane op) old new holders lane serial next op reply

-- this page becomes Remembered, and nothing else of the space changes
pub record Remembers (s t : Layout) (page : ℕ) : Type 0 where
  pub space : t ≡ record s { states = t.states }
  pub states : BecomesRemembered s.states t.states page

-- the word refers to an address past the superpages
pub record RefersBehind (s : Layout) (word : Word) : Type 0 where
  pub to : Address
  pub refers : word ≡ Ref to
  pub behind : end_of s ≤ to.0

-- what it refers to, if anything, lies in the superpages
abbrev pub RefersBelow : Layout → Word → Type 0
RefersBelow s word = (to : Address) → word ≡ Ref to → to.0 < end_of s

-- where the word refers past the superpages the field is recorded, and else nothing is
abbrev pub Records : Layout → Layout → Entries → Entries → Address → ℕ → Word → Type 0
Records s t b e cell index word =
    (RefersBelow s word × RecordsNothing b e s.states t.states)
    ⊎ (RefersBehind s word × RecordsField cell index b e s.states t.states)

-- a field of a cell is written, and recorded. The cell's page isn't Gone
pub record WroteCell (s t : Layout) (b e : Entries) (cell : Address) (index : ℕ) (word : Word) : Type 0 where
  pub space : t ≡ record s { states = t.states; pages = t.pages }
  pub words : t.pages ≡ with_word s.pages (cell.0 + 1 + index) (word_bits word)
  pub memory : cells.memory t ≡ with_cell (cells.memory s) cell.0 (Some (with_field (cells.cell_at s.pages cell.0) index word))
  pub entry : Records s t b e cell index word
  pub here : is_gone (state_at s.states (page_of cell.0)) ≡ false

-- a field of a cell is written. The space, the chunk and the buffer were s, c and b, and are t, d and e
pub record WritesCell (s t : Layout) (c d : Nursery) (b e : Entries) (at : Address) (index : ℕ) (word : Word) : Type 0 where
  pub below : at.0 < end_of s
  pub cell : WroteCell s t b e at index word
  pub chunk : d ≡ c

-- a field of an object of the lane's chunk is written, and nothing else. The space, the chunk and the buffer were s, c and b, and
-- are t, d and e
pub record WritesYoung (s t : Layout) (c d : Nursery) (b e : Entries) (at : Address) (index : ℕ) (word : Word) : Type 0 where
  pub behind : end_of s ≤ at.0
  pub chunk : d ≡ nursery.changed c at.0 (nursery.with_young_field index word)
  pub space : t ≡ s
  pub buffer : e ≡ b

-- a field of an object is written: of a cell, or of an object of the lane's chunk
abbrev pub StoresWord : Layout → Layout → Nursery → Nursery → Entries → Entries → Address → ℕ → Word → Type 0
StoresWord s t c d b e at index word = WritesCell s t c d b e at index word ⊎ WritesYoung s t c d b e at index word

-- a field of a cell of the heap was written
pub record WroteMature (old new : HeapView) (lane : ℕ) (at : Address) (index : ℕ) (word : Word) : Type 0 where
  pub below : at.0 < end_of old.space
  pub cell : WroteCell old.space new.space (buffer_of old.buffers lane) (buffer_of new.buffers lane) at index word
  pub buffers : new.buffers ≡ slice_set old.buffers lane (buffer_of new.buffers lane)
  pub rest : new ≡ record old { space = new.space; buffers = new.buffers }

-- a field of an object of the lane's chunk was written, and nothing else
pub record WroteYoung (old new : HeapView) (lane : ℕ) (at : Address) (index : ℕ) (word : Word) : Type 0 where
  pub behind : end_of old.space ≤ at.0
  pub chunks : new.chunks ≡ slice_set old.chunks lane (nursery.changed (own_chunk old lane) at.0 (nursery.with_young_field index word))
  pub rest : new ≡ record old { chunks = new.chunks }

-- a field of an object was written, in a cell or in the lane's chunk
abbrev pub Wrote : HeapView → HeapView → ℕ → Address → ℕ → Word → Type 0
Wrote old new lane at index word = WroteMature old new lane at index word ⊎ WroteYoung old new lane at index word

-- a word that refers past the superpages isn't written to a cell, since the lane's buffer is at capacity
pub record FindsFull (s : Layout) (buffer : Entries) (at : Address) (word : Word) : Type 0 where
  pub below : at.0 < end_of s
  pub young : RefersBehind s word
  pub full : length buffer.entries ≡ buffer.capacity

-- the operation, done to an object with that field, writes what the word is read as
abbrev pub Writes : HeapView → List Holder → ℕ → Slot → ℕ → Word → Op → Type 0
Writes h holders lane p index word op =
    (serials : List ℕ) → (state : State) → StandsAs h holders serials state
    → (v : Value) × IsRead (whole_memory h) state word v
    × (act state lane op ≡ on_own_field state lane (slot_of state p) index (λ b. (value_in_field state b index v, Done)))

-- the slot refers to a field of a cell, and the word refers past the superpages
abbrev pub StoresAt : HeapView → List Holder → ℕ → Slot → ℕ → Word → Type 0
StoresAt h holders lane p index word = RefersToField holders lane h.space h.roots p index × RefersBehind h.space word

-- the slot refers to a field of a cell, the word refers past the superpages, and the lane's buffer is at capacity
abbrev pub StopsAt : HeapView → List Holder → ℕ → Slot → ℕ → Word → Type 0
StopsAt h holders lane p index word =
    StoresAt h holders lane p index word × (length (buffer_of h.buffers lane).entries ≡ (buffer_of h.buffers lane).capacity)

-- what the write of the word to a field of the slot's object records
abbrev pub RecordsWrite : HeapView → HeapView → List Holder → ℕ → Slot → ℕ → Word → Reply → Type 0
RecordsWrite old new holders lane p index word reply =
    ((stores : StoresAt old holders lane p index word) × (reply ≡ Done)
    × RecordsField stores.0.cell index (buffer_of old.buffers lane) (buffer_of new.buffers lane) old.space.states new.space.states)
    ⊎ ((StoresAt old holders lane p index word → ⊥)
    × RecordsNothing (buffer_of old.buffers lane) (buffer_of new.buffers lane) old.space.states new.space.states)

-- the operation writes the word to a field of the slot's object
pub record IsWrite (old new : HeapView) (holders : List Holder) (lane serial : ℕ) (p : Slot) (index : ℕ) (word : Word) (op : Op) (reply : Reply) : Type 0 where
  pub writes : Writes old holders lane p index word op
  pub records : RecordsWrite old new holders lane p index word reply → HasRecorded old new holders lane op reply
  pub changes : ChangesField holders lane (whole_memory old) (whole_memory new) old.roots p index word reply → HasChanged old new holders lane serial op reply
