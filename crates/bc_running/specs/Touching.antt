-- What an operation touches: the page of the object that it looks at.
use Rattle.std.specs.Prelude.{◌≡◌, ◌↔◌, ◌⊎◌, ℕ, ◌<◌, Bool, false, true, List, Option, Some, None, slice_index}
use Rattle.bc_bookmarks.specs.Changes.{Reloaded}
use Rattle.bc_bookmarks.specs.Choices.{MadeRoom}
use Rattle.bc_bookmarks.specs.Moves.{MovesPages}
use Rattle.bc_model.specs.declared.operations.Op.{Op}
use Rattle.bc_model.specs.declared.operations.Reply.{Reply}
use Rattle.bc_model.specs.declared.values.Holder.{Holder}
use Rattle.bc_model.specs.declared.values.Slot.{Slot}
use Rattle.bc_mutator.specs.Effects.{IsRecordedBy}
use Rattle.bc_mutator.specs.Objects.{slot_word}
use Rattle.bc_mutator.specs.Operations.{MayName}
use Rattle.bc_mutator.specs.Parts.{has_right, touched_slot}
use Rattle.bc_nursery.specs.Entries.{Entries}
use Rattle.bc_nursery.specs.Nurseries.{Nursery}
use Rattle.bc_superpages.specs.declared.headers.PageState.TheVariants.{Gone, Remembered}
use Rattle.bc_superpages.specs.Headers.{is_gone}
use Rattle.bc_superpages.specs.Layout.{Layout}
use Rattle.bc_superpages.specs.LayoutAt.{IsAllocated, state_at}
use Rattle.bc_superpages.specs.RootWords.{RootWords}
use Rattle.bc_whole_heap.specs.Heaps.{end_of}
use Rattle.bc_word.specs.Addresses.{page_of, superpage_of}
use Rattle.bc_word.specs.declared.addresses.Address.{Address}
use Rattle.bc_word.specs.declared.words.Word.{Word}
use Rattle.bc_word.specs.declared.words.Word.TheVariants.{Ref}

-- what the word refers to, if anything, isn't on a page that is Gone
abbrev pub IsHere : Layout → Word → Type 0
IsHere s word = (a : Address) → word ≡ Ref a → a.0 < end_of s → is_gone (state_at s.states (page_of a.0)) ≡ false

-- what the slot refers to, where there is a slot, isn't on a page that is Gone
abbrev pub TouchesHere : Layout → RootWords → Option Slot → Type 0
TouchesHere s roots None = Unit {0}
TouchesHere s roots (Some p) = IsHere s (slot_word roots p)

-- what the slot refers to, where there is a slot, isn't on a page that is Gone, if its superpage is of a domain of which this is true
abbrev pub LooksHere : Layout → RootWords → (ℕ → Bool) → Option Slot → Type 0
LooksHere s roots right None = Unit {0}
LooksHere s roots right (Some p) =
    (a : Address) → slot_word roots p ≡ Ref a → a.0 < end_of s → right (slice_index s.domains (superpage_of a.0)) ≡ true
    → is_gone (state_at s.states (page_of a.0)) ≡ false

-- the slot, where there is one, refers to an address on this page
abbrev pub LeadsToPage : RootWords → Option Slot → ℕ → Type 0
LeadsToPage roots None page = ⊥
LeadsToPage roots (Some p) page = (a : Address) × (slot_word roots p ≡ Ref a) × (page_of a.0 ≡ page)

-- there is such a slot
abbrev pub IsTouching : Option Slot → Type 0
IsTouching None = ⊥
IsTouching (Some p) = Unit {0}

-- the object that an operation of the lane looks at lies in a cell on a page that is Gone. The lane may read the slots that the operation
-- names, and write the one that it writes, and it may do to an object of this domain what the operation does to it: write it, or read it.
-- Where it may not, the operation is answered without a look at the page
pub record LooksAtGone (holders : List Holder) (lane : ℕ) (s : Layout) (roots : RootWords) (op : Op) : Type 0 where
  pub named : MayName holders lane op
  pub slot : Slot
  pub touched : touched_slot op ≡ Some slot
  pub at : Address
  pub to : slot_word roots slot ≡ Ref at
  pub cell : IsAllocated s at.0
  pub right : has_right holders lane op (slice_index s.domains (superpage_of at.0)) ≡ true
  pub gone : state_at s.states (page_of at.0) ≡ Gone

-- the page that the operation looks at came home, by one read: a frame was free for it, or one other page was given up
pub record CameHome (holders : List Holder) (lane : ℕ) (s : Layout) (roots : RootWords) (op : Op) (t : Layout) : Type 0 where
  pub looks : LooksAtGone holders lane s roots op
  pub hint : ℕ
  pub roomy : Layout
  pub made : MadeRoom s hint roomy
  pub back : Reloaded roomy (page_of looks.at.0) t

-- the page that the operation looks at came home, if it looks at one that is Gone, and else nothing changed
abbrev pub BringsHome : List Holder → ℕ → Layout → RootWords → Op → Layout → Type 0
BringsHome holders lane s roots op t =
    CameHome holders lane s roots op t ⊎ ((LooksAtGone holders lane s roots op → ⊥) × (t ≡ s))

-- the page came home that the operation looks at, and from there on the operation recorded what it does. No other page moved
abbrev pub RecordsAfter : List Holder → ℕ → Layout → RootWords → Nursery → Op → Reply → Entries → Entries → Layout → Type 0
RecordsAfter holders lane s roots chunk op reply b e t =
    (u : Layout) × BringsHome holders lane s roots op u × MovesPages s u × (t ≡ record u { states = t.states; pages = t.pages })
    × IsRecordedBy holders lane u roots chunk op reply b e t.states

-- a page is Remembered in one space exactly if it is in the other
abbrev pub SameRemembered : Layout → Layout → Type 0
SameRemembered s t = (p : ℕ) → (state_at t.states p ≡ Remembered) ↔ (state_at s.states p ≡ Remembered)
