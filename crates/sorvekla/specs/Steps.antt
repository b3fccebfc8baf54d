-- What an operation on a heap does, what everything else leaves as it was, and why something isn't done.
use Rattle.std.specs.Prelude.{◌≡◌, ◌⊎◌, ℕ, ◌+◌, ◌^◌, ◌<◌, ◌≤◌, Bool, true, false, slice_index, slice_set}
use Rattle.bc_model.specs.Need.{IsNeed}
use Rattle.bc_model.specs.Slots.{AreSlots, slots_of}
use Rattle.bc_model.specs.State.{State, frozen, given}
use Rattle.bc_model.specs.Step.{step}
use Rattle.bc_model.specs.WellFormed.{IsField, IsNumber}
use Rattle.bc_model.specs.declared.operations.Op.{Op}
use Rattle.bc_model.specs.declared.operations.Op.TheVariants as op
use Rattle.bc_model.specs.declared.operations.Reply.{Reply}
use Rattle.bc_model.specs.declared.operations.Reply.TheVariants as reply
use Rattle.bc_model.specs.declared.traces.Setup.{Setup}
use Rattle.bc_model.specs.declared.values.Holder.TheVariants.{Frozen, Lane}
use Rattle.bc_model.specs.declared.values.Value.{Value}
use Rattle.bc_model.specs.declared.values.Value.TheVariants as value
use Rattle.bc_running.specs.Running.{RunningView, RunningStands}
use Rattle.sorvekla.specs.Collected.{HasEmptied}
use Rattle.sorvekla.specs.Heaps.{CallCounts, OpenHeap, HeapStands, one_minor}
use Rattle.sorvekla.specs.declared.errors.HeapError.{HeapError}
use Rattle.sorvekla.specs.declared.errors.HeapError.TheVariants as error
use Rattle.sorvekla.specs.declared.replies.Loaded.{Loaded}
use Rattle.sorvekla.specs.declared.replies.Loaded.TheVariants as loaded

-- nothing was counted, or that the nurseries were emptied once more
abbrev pub MayEmpty : CallCounts → CallCounts → Type 0
MayEmpty before after = (after ≡ before) ⊎ (after ≡ one_minor before)

-- the lane did the operation and was answered so: whatever state the heap stood for, that is the step of it, and the heap stands for the
-- state after the step
pub record DidStep (h : OpenHeap) (lane : ℕ) (o : Op) (answer : Reply) (k : OpenHeap) : Type 0 where
  pub step : (state : State) → HeapStands h state → ((step state lane o).1 ≡ answer) × HeapStands k (step state lane o).0
  pub setup : k.setup ≡ h.setup
  pub taken : k.taken ≡ h.taken
  pub counts : MayEmpty h.counts k.counts

-- the heap stands for what it stood for, and the same root slots are handed out
pub record StaysSame (h k : OpenHeap) : Type 0 where
  pub stands : (state : State) → HeapStands h state → HeapStands k state
  pub setup : k.setup ≡ h.setup
  pub taken : k.taken ≡ h.taken

-- a heap of this size is too small for what it stands for, which needs so many superpages
pub record IsHeapTooSmall (h : OpenHeap) (need supers : ℕ) : Type 0 where
  pub there : supers ≡ h.setup.superpages
  pub above : supers < need
  pub needed : (state : State) → HeapStands h state → IsNeed state need

-- the lane has made as many objects as have numbers
abbrev pub HasNoBirthLeft : OpenHeap → ℕ → Type 0
HasNoBirthLeft h lane = slice_index h.running.serials lane + 1 ≡ 2 ^ 32

-- the operation's fields and numbers are in range
abbrev pub IsInRange : Op → Type 0
IsInRange (op.New p n) = n ≤ 127
IsInRange (op.Set p i v) = IsField i × IsNumber v
IsInRange (op.Cut p i) = IsField i
IsInRange (op.Link p i q) = IsField i
IsInRange (op.Load p i q) = IsField i
IsInRange _ = Unit {0}

-- why an operation isn't begun
abbrev pub IsOpFault : OpenHeap → ℕ → Op → HeapError → Type 0
IsOpFault h lane o error.NoLane = h.setup.lanes ≤ lane
IsOpFault h lane o error.NoSlot = AreSlots h.setup (slots_of o).0 (slots_of o).1 → ⊥
IsOpFault h lane o error.OutOfRange = IsInRange o → ⊥
IsOpFault h lane o error.NoBirthLeft = HasNoBirthLeft h lane
IsOpFault h lane o _ = ⊥

-- why an operation isn't done, and what stands then. Where it isn't begun nothing has changed. Where the heap is too small it stands for
-- what it stood for, and nothing is counted. Where the plain heap refuses it too, its reply says so
abbrev pub IsCauseOf : OpenHeap → ℕ → Op → HeapError → OpenHeap → Type 0
IsCauseOf h lane o (error.OutOfHeap need supers) k = StaysSame h k × IsHeapTooSmall h need supers × (k.counts ≡ h.counts)
IsCauseOf h lane o error.NotObject k = DidStep h lane o reply.NotObj k
IsCauseOf h lane o error.NoField k = DidStep h lane o reply.Range k
IsCauseOf h lane o error.Foreign k = DidStep h lane o reply.Foreign k
IsCauseOf h lane o error.Frozen k = DidStep h lane o reply.Frozen k
IsCauseOf h lane o e k = IsOpFault h lane o e × (k ≡ h)

-- the reply as an error
abbrev pub IsReplyFault : Reply → HeapError → Type 0
IsReplyFault r error.NotObject = r ≡ reply.NotObj
IsReplyFault r error.NoField = r ≡ reply.Range
IsReplyFault r error.Foreign = r ≡ reply.Foreign
IsReplyFault r error.Frozen = r ≡ reply.Frozen
IsReplyFault r _ = ⊥

-- why the nurseries aren't emptied, and what stands then: nothing is counted
abbrev pub IsCauseOfNone : OpenHeap → HeapError → OpenHeap → Type 0
IsCauseOfNone h (error.OutOfHeap need supers) k = StaysSame h k × IsHeapTooSmall h need supers × (k.counts ≡ h.counts)
IsCauseOfNone h _ k = ⊥

-- the nurseries were emptied, and the lane holds the domain, in every state that the heap stood for
pub record GivesTo (h : OpenHeap) (domain lane : ℕ) (k : OpenHeap) : Type 0 where
  pub stands : (state : State) → HeapStands h state → HeapStands k (given state (record { domain = domain; lane = lane }))
  pub running : k.running ≡ record (h.running) { heap = k.running.heap; holders = slice_set h.running.holders domain (Lane lane) }
  pub emptied : HasEmptied h.setup h.running.heap k.running.heap
  pub setup : k.setup ≡ h.setup
  pub taken : k.taken ≡ h.taken
  pub counts : k.counts ≡ one_minor h.counts

-- why it doesn't, and what stands then
abbrev pub IsGiveCause : OpenHeap → ℕ → ℕ → HeapError → OpenHeap → Type 0
IsGiveCause h domain lane error.NoDomain k = (h.setup.domains ≤ domain) × (k ≡ h)
IsGiveCause h domain lane error.NoLane k = (h.setup.lanes ≤ lane) × (k ≡ h)
IsGiveCause h domain lane e k = IsCauseOfNone h e k

-- the nurseries were emptied, and the domain is frozen, in every state that the heap stood for
pub record Freezes (h : OpenHeap) (domain : ℕ) (k : OpenHeap) : Type 0 where
  pub stands : (state : State) → HeapStands h state → HeapStands k (frozen state domain)
  pub running : k.running ≡ record (h.running) { heap = k.running.heap; holders = slice_set h.running.holders domain Frozen }
  pub emptied : HasEmptied h.setup h.running.heap k.running.heap
  pub setup : k.setup ≡ h.setup
  pub taken : k.taken ≡ h.taken
  pub counts : k.counts ≡ one_minor h.counts

-- why it isn't, and what stands then
abbrev pub IsFreezeCause : OpenHeap → ℕ → HeapError → OpenHeap → Type 0
IsFreezeCause h domain error.NoDomain k = (h.setup.domains ≤ domain) × (k ≡ h)
IsFreezeCause h domain e k = IsCauseOfNone h e k

-- the reply that returns a value, an object by its birth
abbrev pub reply_of : Value → Reply
reply_of value.Nil = reply.Nil
reply_of (value.Num n) = reply.Num n
reply_of (value.Obj b) = reply.Obj b

-- the reply that returns what was loaded
abbrev pub reply_of_loaded : Loaded → Reply
reply_of_loaded loaded.Nil = reply.Nil
reply_of_loaded (loaded.Num n) = reply.Num n
reply_of_loaded loaded.Object = reply.Ref

-- the reply that returns whether two slots hold the same
abbrev pub reply_of_same : Bool → Reply
reply_of_same true = reply.Yes
reply_of_same false = reply.No

-- can this be the reply to a `new`?
abbrev pub is_new_reply : Reply → Bool
is_new_reply (reply.Obj b) = true
is_new_reply reply.Foreign = true
is_new_reply reply.Frozen = true
is_new_reply _ = false

-- can this be the reply to a `who`?
abbrev pub is_who_reply : Reply → Bool
is_who_reply reply.Nil = true
is_who_reply (reply.Num n) = true
is_who_reply (reply.Obj b) = true
is_who_reply reply.Foreign = true
is_who_reply _ = false

-- can this be the reply to a `len`?
abbrev pub is_len_reply : Reply → Bool
is_len_reply (reply.Len n) = true
is_len_reply reply.NotObj = true
is_len_reply reply.Foreign = true
is_len_reply _ = false

-- can this be the reply to an operation that changes a field or a slot, and returns nothing?
abbrev pub is_change_reply : Reply → Bool
is_change_reply reply.Done = true
is_change_reply reply.NotObj = true
is_change_reply reply.Range = true
is_change_reply reply.Foreign = true
is_change_reply reply.Frozen = true
is_change_reply _ = false

-- can this be the reply to a `load`?
abbrev pub is_load_reply : Reply → Bool
is_load_reply reply.Nil = true
is_load_reply (reply.Num n) = true
is_load_reply reply.Ref = true
is_load_reply reply.NotObj = true
is_load_reply reply.Range = true
is_load_reply reply.Foreign = true
is_load_reply reply.Frozen = true
is_load_reply _ = false

-- can this be the reply to a `same`?
abbrev pub is_same_reply : Reply → Bool
is_same_reply reply.Yes = true
is_same_reply reply.No = true
is_same_reply reply.Foreign = true
is_same_reply _ = false

-- can this be the reply to the operation?
abbrev pub is_reply_to : Op → Reply → Bool
is_reply_to (op.New p n) r = is_new_reply r
is_reply_to (op.Who p) r = is_who_reply r
is_reply_to (op.Len p) r = is_len_reply r
is_reply_to (op.Set p i v) r = is_change_reply r
is_reply_to (op.Cut p i) r = is_change_reply r
is_reply_to (op.Link p i q) r = is_change_reply r
is_reply_to (op.Load p i q) r = is_load_reply r
is_reply_to (op.Copy p q) r = is_change_reply r
is_reply_to (op.Clear p) r = is_change_reply r
is_reply_to (op.Same p q) r = is_same_reply r

-- a heap of the setup that stood for what lanes run on is too small for it
pub record IsShort (setup : Setup) (r : RunningView) (need supers : ℕ) : Type 0 where
  pub there : supers ≡ setup.superpages
  pub above : supers < need
  pub needed : (state : State) → RunningStands r state → IsNeed state need

-- the error says so
abbrev pub IsShortFault : Setup → RunningView → HeapError → Type 0
IsShortFault setup r (error.OutOfHeap need supers) = IsShort setup r need supers
IsShortFault setup r _ = ⊥

-- the operation is the step of every state that what lanes run on stands for
abbrev pub IsStepOf : RunningView → ℕ → Op → Reply → RunningView → Type 0
IsStepOf r lane o answer q = (state : State) → RunningStands r state → ((step state lane o).1 ≡ answer) × RunningStands q (step state lane o).0

-- what it stands for stays
abbrev pub KeepsStanding : RunningView → RunningView → Type 0
KeepsStanding r q = (state : State) → RunningStands r state → RunningStands q state
