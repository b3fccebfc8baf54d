-- Which whole spaces the pages that a lane may read may belong to in a turn, and which root words its slots: those of its own domains,
-- and of frozen ones. The pages lie at the table, but for one that may be in the lane's hands; what its seat knows of them is the
-- seat's view.
use Rattle.std.specs.Prelude.{◌≡◌, ◌↔◌, ◌⊎◌, ℕ, ◌+◌, ◌*◌, ◌<◌, ◌≤◌, ◌==◌, true, false, List, [], length, Option, Some, None, slice_index}
use Rattle.bc_bits.specs.Counting.{one_if}
use Rattle.bc_model.specs.State.{holder_of}
use Rattle.bc_model.specs.declared.values.Holder.{Holder}
use Rattle.bc_model.specs.declared.values.Holder.TheVariants as holder
use Rattle.bc_model.specs.declared.values.Slot.{Slot}
use Rattle.bc_pins.specs.declared.holding.Held.{Held}
use Rattle.bc_pins.specs.declared.views.Hand.{Hand}
use Rattle.bc_pins.specs.declared.views.View.{View}
use Rattle.bc_pins.specs.Contents.{IsContent, RefersYoung}
use Rattle.bc_pins.specs.Key.{owner}
use Rattle.bc_pins.specs.Totals.{times}
use Rattle.bc_pins.specs.Views.{has_role, opened_content, opened_word, record_of}
use Rattle.bc_superpages.specs.declared.headers.PageState.TheVariants.{Remembered}
use Rattle.bc_superpages.specs.Headers.{is_gone}
use Rattle.bc_superpages.specs.Kept.{IsLayout}
use Rattle.bc_superpages.specs.Layout.{Layout, content_at}
use Rattle.bc_superpages.specs.LayoutAt.{state_at}
use Rattle.bc_superpages.specs.RootWords.{RootWords}
use Rattle.bc_superpages.specs.RootSlots.{root_at}
use Rattle.bc_whole_heap.specs.Heaps.{end_of}
use Rattle.bc_word.specs.WordBits.{IsPacked}

-- the seat is that of the lane which holds the page's domain
abbrev pub IsOwnPage : View → ℕ → Type 0
IsOwnPage v page = 0 < has_role v (owner v.about page)

-- nobody holds the page's domain: it is frozen, and every lane may read it
abbrev pub IsFrozenPage : View → ℕ → Type 0
IsFrozenPage v page = owner v.about page ≡ 0

-- the lane may read the page: it is its own, or one of a frozen domain
abbrev pub MayReadPage : View → ℕ → Type 0
MayReadPage v page = IsOwnPage v page ⊎ IsFrozenPage v page

-- what a space has of an own page at the table: the content that the seat records. It is Remembered exactly where it was so at the
-- opening or the seat put it back so. It isn't Gone
pub record ShowsPage (v : View) (s : Layout) (page : ℕ) : Type 0 where
  pub content : content_at s.pages page ≡ record_of v page
  pub remembered : (state_at s.states page ≡ Remembered) ↔ (0 < one_if (opened_word v.about page == 2) + times page v.recorded)
  pub here : is_gone (state_at s.states page) ≡ false

-- what a space has of a page of a frozen domain, wherever the page is: the content that it had at the opening
abbrev pub ShowsFrozenPage : View → Layout → ℕ → Type 0
ShowsFrozenPage v s page = content_at s.pages page ≡ opened_content v.about page

-- what a space has of the own page in the lane's hands: the content in its box, which may be put back. It is Remembered exactly where
-- the lane has it so, as it has it where it was
pub record ShowsHeld (v : View) (held : Held) (s : Layout) : Type 0 where
  pub own : IsOwnPage v held.page
  pub content : content_at s.pages held.page ≡ held.homed.page
  pub remembered : (state_at s.states held.page ≡ Remembered) ↔ (held.remembered ≡ true)
  pub kept : 0 < one_if (opened_word v.about held.page == 2) + times held.page v.recorded → held.remembered ≡ true
  pub here : is_gone (state_at s.states held.page) ≡ false
  pub fixed : IsContent v.about.opening held.page held.homed.page
  pub young : RefersYoung v.about.opening held.page held.homed.page → held.remembered ≡ true
  pub hand : Hand
  pub has : v.hand ≡ Some hand
  pub page_is : hand.page ≡ held.page
  pub frame : hand.frame ≡ held.homed.frame
  pub counted : hand.counted ≡ []
  pub marked : hand.marked ≡ []
  pub flag : hand.remembered ≡ true → held.remembered ≡ true

-- what a space has of the page of a frozen domain in the lane's hands: the content in its box, which is the opening's. It may be put back
-- just as it was taken
pub record ShowsFrozen (v : View) (held : Held) (s : Layout) : Type 0 where
  pub frozen : IsFrozenPage v held.page
  pub unowned : has_role v (owner v.about held.page) ≡ 0
  pub content : content_at s.pages held.page ≡ held.homed.page
  pub opened : held.homed.page ≡ opened_content v.about held.page
  pub fixed : IsContent v.about.opening held.page held.homed.page
  pub young : RefersYoung v.about.opening held.page held.homed.page → held.remembered ≡ true
  pub hand : Hand
  pub has : v.hand ≡ Some hand
  pub page_is : hand.page ≡ held.page
  pub frame : hand.frame ≡ held.homed.frame
  pub taken : held.homed.page ≡ hand.content
  pub flag : held.remembered ≡ hand.remembered
  pub counted : hand.counted ≡ []
  pub marked : hand.marked ≡ []

-- the page is in the lane's hands
abbrev pub HasPage : Option Held → ℕ → Type 0
HasPage None page = ⊥
HasPage (Some held) page = page ≡ held.page

-- what a space has of the page in the lane's hands, if there is one
abbrev pub ShowsHand : View → Option Held → Layout → Type 0
ShowsHand v None s = Unit {0}
ShowsHand v (Some held) s = ShowsHeld v held s ⊎ ShowsFrozen v held s

-- the pages that the lane may read may belong to this space: it is the one at the opening but for states and contents of pages and for
-- counters, and has of each own page what is at the table or in hand, and of each page of a frozen domain what it had at the opening. No
-- own page is Gone in it, whether or not it was so at the opening
pub record ShowsPages (v : View) (hand : Option Held) (end : ℕ) (s : Layout) : Type 0 where
  pub same : s ≡ record v.about.opening { states = s.states; pages = s.pages; incoming = s.incoming }
  pub end_is : end ≡ end_of s
  pub opening : IsLayout v.about.opening
  pub others : (page : ℕ) → IsOwnPage v page → (HasPage hand page → ⊥) → ShowsPage v s page
  pub frozen : (page : ℕ) → IsFrozenPage v page → has_role v (owner v.about page) ≡ 0 → ShowsFrozenPage v s page
  pub in_hand : ShowsHand v hand s

-- the bits of a root slot, of a domain with this holder: a frozen one's among those that all lanes share, and a lane's own among its words
abbrev pub slot_bits : Holder → List ℕ → List ℕ → RootWords → Slot → ℕ
slot_bits (holder.Lane lane) starts words shared p = slice_index words (slice_index starts p.domain + p.slot)
slot_bits holder.Frozen starts words shared p = root_at shared p.domain p.slot

-- the lane's words, a stretch for each of its domains, may belong to these root words, and so may the shared words of frozen domains. By
-- domain, `starts` has where the stretch begins, and `slots` is the number of slots of a domain
pub record ShowsSlots (holders : List Holder) (lane slots : ℕ) (shared : RootWords) (starts words : List ℕ) (r : RootWords) : Type 0 where
  pub domains_are : r.domains ≡ length holders
  pub slots_are : (d : ℕ) → d < length holders → holder_of holders d ≡ holder.Lane lane → r.slots ≡ slots
  pub long : length r.words ≡ r.domains * r.slots
  pub starts_long : length starts ≡ length holders
  pub within : (d : ℕ) → d < length holders → holder_of holders d ≡ holder.Lane lane → slice_index starts d + slots ≤ length words
  pub apart : (d e : ℕ) → d < e → e < length holders → holder_of holders d ≡ holder.Lane lane → holder_of holders e ≡ holder.Lane lane
      → slice_index starts d + slots ≤ slice_index starts e
  pub same : (d t : ℕ) → d < length holders → holder_of holders d ≡ holder.Lane lane → t < slots
      → root_at r d t ≡ slice_index words (slice_index starts d + t)
  pub packed : (k : ℕ) → IsPacked (slice_index words k)
  pub shared_sizes : (r.domains ≡ shared.domains) × (r.slots ≡ shared.slots)
  pub frozen : (d t : ℕ) → d < length holders → holder_of holders d ≡ holder.Frozen → t < r.slots → root_at r d t ≡ root_at shared d t
