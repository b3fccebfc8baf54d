-- The objects that an operation of a lane may look at: allocated cells, and objects of the lane's own chunk.
use Rattle.std.specs.Prelude.{◌≡◌, ℕ, ◌<◌, ◌≤◌, nat_lt, if◌then◌else◌, true, List, length, Some}
use Rattle.bc_whole_heap.specs.Closed.{IsCellOrYoung}
use Rattle.bc_whole_heap.specs.LaneChunks.{chunk_of}
use Rattle.bc_whole_heap.specs.Heaps.{HeapView, end_of, heap_memory, young}
use Rattle.bc_whole_heap.specs.HeapFacts.{AreApart}
use Rattle.bc_whole_heap.specs.Running.{IsRunning}
use Rattle.bc_whole_heap.specs.LaneStates.{StandsAs}
use Rattle.bc_memory.specs.Memory.{Cell, Memory}
use Rattle.bc_model.specs.Reached.{Reached}
use Rattle.bc_model.specs.State.{State, holder_of, lets_read}
use Rattle.bc_model.specs.Step.{on_object, on_field, on_own_field}
use Rattle.bc_model.specs.declared.operations.Reply.{Reply}
use Rattle.bc_model.specs.declared.operations.Reply.TheVariants as reply
use Rattle.bc_model.specs.declared.values.Holder.{Holder}
use Rattle.bc_model.specs.declared.values.Holder.TheVariants as holder
use Rattle.bc_model.specs.declared.values.Birth.{Birth}
use Rattle.bc_model.specs.declared.values.Slot.{Slot}
use Rattle.bc_model.specs.declared.values.Value.{Value}
use Rattle.bc_model.specs.declared.values.Value.TheVariants.{Obj}
use Rattle.bc_nursery.specs.Objects.{IsChunk, has_object, the_object}
use Rattle.bc_nursery.specs.Nurseries.{Nursery}
use Rattle.bc_standing.specs.Standing.{birth_of, births, read}
use Rattle.bc_superpages.specs.Kept.{IsLayout}
use Rattle.bc_superpages.specs.Layout.{Layout}
use Rattle.bc_superpages.specs.Memory as space
use Rattle.bc_superpages.specs.RootWords.{RootWords}
use Rattle.bc_superpages.specs.RootSlots.{root_at}
use Rattle.bc_word.specs.declared.addresses.Address.{Address}
use Rattle.bc_word.specs.declared.words.Word.{Word}
use Rattle.bc_word.specs.declared.words.Word.TheVariants.{Nil, Num, Ref}
use Rattle.bc_word.specs.Words.{word_of_bits}

-- the chunk of a lane
abbrev pub own_chunk : HeapView → ℕ → Nursery
own_chunk h lane = chunk_of h.chunks lane

-- the heap as one memory: cells, and the objects of all chunks
abbrev pub whole_memory : HeapView → Memory
whole_memory h = heap_memory h.space h.chunks

-- the type of each chunk keeps what it does
abbrev pub AreWhole : List Nursery → Type 0
AreWhole chunks = (l : ℕ) → l < length chunks → IsChunk (chunk_of chunks l)

-- the chunk's objects lie past the superpages
abbrev pub LieBehind : Layout → Nursery → Type 0
LieBehind s chunk = (a : ℕ) → has_object chunk a ≡ true → end_of s ≤ a

-- the object at an address, of a cell or of the chunk
abbrev pub cell_of : Layout → Nursery → ℕ → Cell
cell_of s chunk a = if nat_lt a (end_of s) then space.cell_at s.pages a else young (the_object chunk a)

-- a word of the lane's: what it refers to is an allocated cell or an object of the lane's chunk
abbrev pub IsOwn : Layout → Nursery → Word → Type 0
IsOwn s chunk word = (a : Address) → word ≡ Ref a → IsCellOrYoung s chunk a.0

-- the word in a root slot
abbrev pub slot_word : RootWords → Slot → Word
slot_word roots p = word_of_bits (root_at roots p.domain p.slot)

-- what a lane is answered that loads the word
abbrev pub loaded_as : Word → Reply
loaded_as Nil = reply.Nil
loaded_as (Num n) = reply.Num n
loaded_as (Ref a) = reply.Ref

-- a lane may do an operation
pub record MayOperate (h : HeapView) (holders : List Holder) (lane : ℕ) : Type 0 where
  pub running : IsRunning h holders
  pub layout : IsLayout h.space
  pub few_domains : h.roots.domains ≤ 64
  pub lane_within : lane < length h.chunks
  pub whole : AreWhole h.chunks
  pub apart : AreApart (end_of h.space) h.chunks
  pub behind : LieBehind h.space (own_chunk h lane)

-- the word is read as the value, and what it refers to is reached
pub record IsRead (m : Memory) (state : State) (word : Word) (v : Value) : Type 0 where
  pub value : read (births m) word ≡ Some v
  pub reached : (b : Birth) → v ≡ Obj b → Reached state.slots state.made b

-- the word refers to an object of a domain that the lane may read
pub record IsOfLane (h : HeapView) (holders : List Holder) (lane : ℕ) (word : Word) (a : Address) : Type 0 where
  pub refers : word ≡ Ref a
  pub there : IsCellOrYoung h.space (own_chunk h lane) a.0
  pub held : lets_read (holder_of holders (cell_of h.space (own_chunk h lane) a.0).head.domain) lane ≡ true

-- the word refers to an object of a domain that the lane holds, so it may write it
pub record IsOwnOfLane (h : HeapView) (holders : List Holder) (lane : ℕ) (word : Word) (a : Address) : Type 0 where
  pub of : IsOfLane h holders lane word a
  pub own : holder_of holders (cell_of h.space (own_chunk h lane) a.0).head.domain ≡ holder.Lane lane

-- an operation on the object that the word is read as is done to the object at this address
abbrev pub ActsOn : HeapView → List Holder → ℕ → Word → Address → Type 0
ActsOn h holders lane word a =
    (serials : List ℕ) → (state : State) → (v : Value) → StandsAs h holders serials state → IsRead (whole_memory h) state word v
    → (next : Birth → State × Reply) → on_object state lane v next ≡ next (birth_of (cell_of h.space (own_chunk h lane) a.0).head)

-- an operation on what the word is read as changes nothing, and is answered this
abbrev pub Refuses : HeapView → List Holder → ℕ → Word → Reply → Type 0
Refuses h holders lane word reply =
    (serials : List ℕ) → (state : State) → (v : Value) → StandsAs h holders serials state → IsRead (whole_memory h) state word v
    → (next : Birth → State × Reply) → on_object state lane v next ≡ (state, reply)

-- an operation on this field of what the word is read as is done to the object at this address
abbrev pub ActsOnField : HeapView → List Holder → ℕ → Word → ℕ → Address → Type 0
ActsOnField h holders lane word index a =
    (serials : List ℕ) → (state : State) → (v : Value) → StandsAs h holders serials state → IsRead (whole_memory h) state word v
    → (next : Birth → State × Reply) → on_field state lane v index next ≡ next (birth_of (cell_of h.space (own_chunk h lane) a.0).head)

-- the reply refuses to read the field: no object, one that the lane may not read, or no such field
abbrev pub RefusesField : HeapView → List Holder → ℕ → Word → ℕ → Reply → Type 0
RefusesField h holders lane word index reply =
    (serials : List ℕ) → (state : State) → (v : Value) → StandsAs h holders serials state → IsRead (whole_memory h) state word v
    → (next : Birth → State × Reply) → on_field state lane v index next ≡ (state, reply)

-- an operation that writes this field of what the word is read as is done to the object at this address
abbrev pub ActsOnOwnField : HeapView → List Holder → ℕ → Word → ℕ → Address → Type 0
ActsOnOwnField h holders lane word index a =
    (serials : List ℕ) → (state : State) → (v : Value) → StandsAs h holders serials state → IsRead (whole_memory h) state word v
    → (next : Birth → State × Reply) → on_own_field state lane v index next ≡ next (birth_of (cell_of h.space (own_chunk h lane) a.0).head)

-- the reply refuses to write the field: no object, one that the lane may not read or not write, or no such field
abbrev pub RefusesOwnField : HeapView → List Holder → ℕ → Word → ℕ → Reply → Type 0
RefusesOwnField h holders lane word index reply =
    (serials : List ℕ) → (state : State) → (v : Value) → StandsAs h holders serials state → IsRead (whole_memory h) state word v
    → (next : Birth → State × Reply) → on_own_field state lane v index next ≡ (state, reply)
