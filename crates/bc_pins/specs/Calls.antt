-- What the calls of a table require and return.
use Rattle.std.specs.Prelude.{◌≡◌, ◌≢◌, ℕ, ◌-◌, ◌^◌, ◌/◌, ◌%◌, ◌<◌, ◌≤◌, ◌⊎◌, length, min, Bool, true, false, if◌then◌else◌, List, [], ◌∷◌, ◌++◌, Some, None}
use Rattle.std.specs.Int.{bit_at}
use Rattle.bc_bookmarks.specs.Targets.{HasCell}
use Rattle.bc_pins.specs.declared.key.Role.{Role}
use Rattle.bc_pins.specs.declared.key.Role.TheVariants.{Marker}
use Rattle.bc_pins.specs.declared.views.Hand.{Hand}
use Rattle.bc_pins.specs.declared.views.View.{View}
use Rattle.bc_pins.specs.declared.views.Lodged.{Lodged}
use Rattle.bc_pins.specs.declared.views.Lodged.TheVariants.{Nothing}
use Rattle.bc_pins.specs.declared.pins.Pins.{Pins}
use Rattle.bc_pins.specs.declared.pins.Seat.{Seat}
use Rattle.bc_pins.specs.declared.holding.Held.{Held}
use Rattle.bc_pins.specs.declared.taking.Want.{Want}
use Rattle.bc_pins.specs.declared.taking.Want.TheVariants.{Work, Victim}
use Rattle.bc_pins.specs.declared.taking.TakeError.{TakeError}
use Rattle.bc_pins.specs.declared.taking.TakeError.TheVariants.{Busy, Gone, Remembered, Absent}
use Rattle.bc_pins.specs.Key.{Key, pages_of, owner, IsFrozenIn, role_number, queue_at}
use Rattle.bc_pins.specs.Totals.{times}
use Rattle.bc_pins.specs.Owing.{OwesNoMore}
use Rattle.bc_pins.specs.Contents.{IsBarePage, IsContent, RefersYoung}
use Rattle.bc_pins.specs.Views.{has_role, opened_word, reads_of}
use Rattle.bc_pins.specs.Steps.{HasAllRoles, both_slots, gripping, having_read, released}

-- the key of a table
abbrev pub key_of : Pins → Key
key_of pins = pins.table.shared.key

-- what a seat knows
abbrev pub view_of : Seat → View
view_of seat = seat.inner.me.0

-- the slots that are out with a seat
abbrev pub slots_of : Seat → List (ℕ × Lodged)
slots_of seat = seat.inner.me.1

-- the seat is one of this table's, and has its role
pub record IsAt (pins : Pins) (seat : Seat) : Type 0 where
  pub table : seat.inner.table_id ≡ pins.table.shared.table_id
  pub about : (view_of seat).about ≡ key_of pins
  pub alive : (view_of seat).alive ≡ true
  pub role : 0 < has_role (view_of seat) (role_number seat.role)

-- a call leaves the seat that seat, with its role; it took no page from Gone and opened no box
pub record IsSameSeat (old new : Seat) : Type 0 where
  pub table : new.inner.table_id ≡ old.inner.table_id
  pub id : new.inner.id ≡ old.inner.id
  pub role : new.role ≡ old.role
  pub opens : new.opens ≡ old.opens
  pub about : (view_of new).about ≡ (view_of old).about
  pub alive : (view_of new).alive ≡ (view_of old).alive
  pub roles : (view_of new).roles ≡ (view_of old).roles
  pub fetched : (view_of new).fetched ≡ (view_of old).fetched

-- a call that may take a page from Gone, or open a box, leaves the seat that seat, with its role
pub record IsSameWorker (old new : Seat) : Type 0 where
  pub table : new.inner.table_id ≡ old.inner.table_id
  pub id : new.inner.id ≡ old.inner.id
  pub role : new.role ≡ old.role
  pub about : (view_of new).about ≡ (view_of old).about
  pub alive : (view_of new).alive ≡ (view_of old).alive
  pub roles : (view_of new).roles ≡ (view_of old).roles

-- the seat opened as many boxes as it took pages from Gone, up to the last value of 64 bits
abbrev pub CountsFetches : Seat → Type 0
CountsFetches seat = seat.opens ≡ min (length (view_of seat).fetched) (2 ^ 64 - 1)

-- nothing is in the seat's hands
pub record IsFree (seat : Seat) : Type 0 where
  pub hand : (view_of seat).hand ≡ None
  pub slots : slots_of seat ≡ []

-- the seat has this page in hand: as it was taken, but for what its holder wrote and remembered
pub record HoldsPage (seat : Seat) (held : Held) : Type 0 where
  pub hand : Hand
  pub has : (view_of seat).hand ≡ Some hand
  pub page : hand.page ≡ held.page
  pub inside : held.page < pages_of (view_of seat).about
  pub frame : hand.frame ≡ held.homed.frame
  pub slots : slots_of seat ≡ both_slots (view_of seat).about held.page Nothing Nothing

-- the seat has this page in hand just as it was taken, by a seat whose view was v
pub record Grasps (v : View) (seat : Seat) (page : ℕ) (held : Held) : Type 0 where
  pub is : held.page ≡ page
  pub view : view_of seat ≡ gripping v page held.remembered held.homed
  pub slots : slots_of seat ≡ both_slots v.about page Nothing Nothing

-- the role is a marker's
abbrev pub IsMarker : Role → Type 0
IsMarker role = (m : ℕ) × (role ≡ Marker m)

-- who may take a page: to work on it a marker in a mark turn, and in a turn of lanes the lane that holds its domain, or anybody where
-- nobody does, since it is frozen; to evict it anybody
abbrev pub MayWork : Seat → ℕ → Want → Type 0
MayWork seat page Work = let v : View = view_of seat in (v.about.lanes ≡ false → IsMarker seat.role) × (v.about.lanes ≡ true → (0 < has_role v (owner v.about page)) ⊎ (owner v.about page ≡ 0))
MayWork seat page Victim = Unit {0}

-- who may take a page from Gone, in a turn of lanes: the lane that holds its domain, or anybody where it is frozen
abbrev pub MayFetch : View → ℕ → Type 0
MayFetch v page = (0 < has_role v (owner v.about page)) ⊎ IsFrozenIn v.about page

-- what a seat had read before it took a page: to work on one that is remembered takes a second try
abbrev pub tried : View → ℕ → Want → Bool → View
tried v page Work remembered = if remembered then having_read v page 2 else v
tried v page Victim remembered = v

-- a page that is wanted as a victim isn't remembered
abbrev pub IsPlainVictim : Want → Held → Type 0
IsPlainVictim want held = want ≡ Victim → held.remembered ≡ false

-- the word of a page by which each refusal comes
abbrev pub refusal_word : TakeError → ℕ
refusal_word Absent = 0
refusal_word Remembered = 2
refusal_word Busy = 3
refusal_word Gone = 4

-- the refusal is what the last step on the page's word read; Remembered comes with Victim alone. What was read as Remembered
-- before is refused as that or as Busy, and what is known to be Gone as Gone. Busy is noted where the seat holds the page's domain, and
-- doesn't come to a seat that has all roles. No allocated cell lies on a page that is Absent, and one lies on a page that is Gone, which
-- wasn't Remembered at the opening
pub record IsTakeRefused (v : View) (page : ℕ) (want : Want) (no : TakeError) (w : View) : Type 0 where
  pub read : (w ≡ having_read v page (refusal_word no)) ⊎ ((want ≡ Work) × (w ≡ having_read (having_read v page 2) page (refusal_word no)))
  pub victim : no ≡ Remembered → want ≡ Victim
  pub seen : 0 < times page v.seen → (no ≡ Busy) ⊎ (no ≡ Remembered)
  pub gone : 0 < times page v.gone → no ≡ Gone
  pub busy : no ≡ Busy → 0 < has_role v (owner v.about page) → 0 < times page w.busy
  pub bare : no ≡ Absent → IsBarePage v.about.opening page
  pub there : no ≡ Gone → HasCell v.about.opening page
  pub quiet : no ≡ Gone → opened_word v.about page ≢ 2
  pub alone : HasAllRoles v → no ≢ Busy

-- the seat read the page's word as Remembered
abbrev pub WasSeen : View → ℕ → Type 0
WasSeen v page = 0 < times page v.seen

-- what may be put back: a content that keeps what is fixed in a turn, remembered where it refers to a nursery or was taken
-- so; and by a seat that isn't the lane which holds the page's domain just what it took. Nothing is counted for the page, and
-- no bookmark bit was set for it since it was taken
pub record MayPut (seat : Seat) (held : Held) : Type 0 where
  pub fixed : IsContent (view_of seat).about.opening held.page held.homed.page
  pub young : RefersYoung (view_of seat).about.opening held.page held.homed.page → held.remembered ≡ true
  pub remembered : (hand : Hand) → (view_of seat).hand ≡ Some hand → hand.remembered ≡ true → held.remembered ≡ true
  pub others : (hand : Hand) → (view_of seat).hand ≡ Some hand → has_role (view_of seat) (owner (view_of seat).about held.page) ≡ 0
      → (held.homed.page ≡ hand.content) × (held.remembered ≡ hand.remembered)
  pub counted : (hand : Hand) → (view_of seat).hand ≡ Some hand → hand.counted ≡ []
  pub marked : (hand : Hand) → (view_of seat).hand ≡ Some hand → hand.marked ≡ []

-- the view once the page was put back
abbrev pub put_back : View → Held → View
put_back v held = released v held.page held.remembered held.homed.page

-- a call that clears no queue bit stepped on queue words alone: no page is owed that wasn't
pub record OnlyQueues (v w : View) : Type 0 where
  pub same : w ≡ record v { owed = w.owed; read = w.read }
  pub less : OwesNoMore v w
  pub later : List (ℕ × ℕ)
  pub grows : w.read ≡ later ++ v.read
  pub apart : (i : ℕ) → i < queue_at v.about 0 → reads_of i later ≡ []

-- the page's queue bit, as the last step on a queue word found it, which was on its superpage's
pub record FoundBit (v : View) (page bit : ℕ) : Type 0 where
  pub found : ℕ
  pub is : bit_at found (page % 4) ≡ bit
  pub rest : List (ℕ × ℕ)
  pub read : v.read ≡ (queue_at v.about (page / 4), found) ∷ rest
