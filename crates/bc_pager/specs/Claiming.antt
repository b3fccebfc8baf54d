-- Notices that several pagers share: who claims a number at the table has the notice of that number, and no other has it.
use Rattle.std.specs.Prelude.{◌≡◌, ◌⊎◌, ℕ, ◌<◌, ◌≤◌, true, List, [], ◌∷◌, ◌++◌, length, map, slice_index, Option, Some, None, MatchOption}
use Rattle.std.specs.List.{AllByRecursion}
use Rattle.atomic_table.specs.Seated.{TableId}
use Rattle.bc_pager.specs.Answering.{IsAnswer}
use Rattle.bc_pager.specs.declared.answers.Answer.{Answer}
use Rattle.bc_pager.specs.declared.notices.Notice.{Notice}
use Rattle.bc_pins.specs.Calls.{key_of, view_of}
use Rattle.bc_pins.specs.Key.{Key, role_number}
use Rattle.bc_pins.specs.Steps.{taking_notice}
use Rattle.bc_pins.specs.Totals.{times}
use Rattle.bc_pins.specs.Views.{has_role}
use Rattle.bc_pins.specs.declared.pins.Pins.{Pins}
use Rattle.bc_pins.specs.declared.pins.Seat.{Seat}
use Rattle.bc_pins.specs.declared.views.View.{View}

-- what pagers share: a table, by its name and its key, at which numbers are claimed, and the hints out of which notices come
pub record Sharing : Type 0 where
  pub table : TableId
  pub key : Key
  pub hints : List ℕ

-- shared notices, and how often there was none
pub record SharedHints : Type 0 where
  pub sharing : Sharing
  pub ends : ℕ

-- these hints, shared at this table
abbrev pub sharing_of : Pins → List ℕ → Sharing
sharing_of pins hints = record { table = pins.table.shared.table_id; key = key_of pins; hints = hints }

-- notices that nobody shares
abbrev pub unshared : Option Sharing
unshared = None

-- notices that are shared so
abbrev pub shared_by : Sharing → Option Sharing
shared_by x = Some x

-- the seat is one of the table's at which notices are shared, and has its role
pub record IsSeatAt (x : Sharing) (seat : Seat) : Type 0 where
  pub table : seat.inner.table_id ≡ x.table
  pub about : (view_of seat).about ≡ x.key
  pub alive : (view_of seat).alive ≡ true
  pub role : 0 < has_role (view_of seat) (role_number seat.role)

-- the seat is such a one, where notices are shared
abbrev pub IsSeatOf : Option Sharing → Seat → Type 0
IsSeatOf None seat = Unit {0}
IsSeatOf (Some x) seat = IsSeatAt x seat

-- notices are shared at this table, where they are shared
abbrev pub IsSharedAt : Option Sharing → Pins → Type 0
IsSharedAt None pins = Unit {0}
IsSharedAt (Some x) pins = (x.table ≡ pins.table.shared.table_id) × (x.key ≡ key_of pins)

-- the notice is one of these hints: its number is below their count, and its hint stands at that number
abbrev pub IsNoticeOf : List ℕ → Notice → Type 0
IsNoticeOf hints notice = (notice.number < length hints) × (slice_index hints notice.number ≡ notice.hint)

-- what a call for the next notice does to the seat's view. Where notices aren't shared it does nothing. Where they are it claims one
-- number: what it found is the notice of that number, and where it found none the number is past the hints
abbrev pub ClaimsNotice : Option Sharing → Option Notice → View → View → Type 0
ClaimsNotice None found v w = w ≡ v
ClaimsNotice (Some x) found v w =
    (number : ℕ) × (w ≡ taking_notice v number) × MatchOption found (length x.hints ≤ number) (λ notice. (notice.number ≡ number) × IsNoticeOf x.hints notice)

-- the numbers of notices
abbrev pub numbers_of : List Notice → List ℕ
numbers_of notices = map (λ (notice : Notice). notice.number) notices

-- the hints of notices
abbrev pub hints_of : List Notice → List ℕ
hints_of notices = map (λ (notice : Notice). notice.hint) notices

-- the claims of a view, the last first, once these numbers were claimed in order
abbrev pub claimed : List ℕ → List ℕ → List ℕ
claimed before [] = before
claimed before (number ∷ numbers) = claimed (number ∷ before) numbers

-- each number was claimed and then answered, in order, and each answer begins at the view that claimed its number: so nothing that was
-- read before the claim counts for it. At the end one number more may have been claimed, which is past the hints
abbrev pub AreAnsweredAsClaimed : Key → List ℕ → List ℕ → List Answer → View → View → Type 0
AreAnsweredAsClaimed k hints [] [] v w = (w ≡ v) ⊎ ((past : ℕ) × (length hints ≤ past) × (w ≡ taking_notice v past))
AreAnsweredAsClaimed k hints [] (answer ∷ answers) v w = ⊥
AreAnsweredAsClaimed k hints (number ∷ numbers) [] v w = ⊥
AreAnsweredAsClaimed k hints (number ∷ numbers) (answer ∷ answers) v w =
    (number < length hints)
    × (u : View) × IsAnswer k (taking_notice v number) (slice_index hints number) answer u × AreAnsweredAsClaimed k hints numbers answers u w

-- of notices out of these hints, which are shared, each was claimed by its number and answered so. Besides them at most one number was
-- claimed, past the hints
pub record ClaimedAll (k : Key) (hints : List ℕ) (notices : List Notice) (answers : List Answer) (v w : View) : Type 0 where
  pub over : List ℕ
  pub claims : w.notices ≡ claimed v.notices (numbers_of notices ++ over)
  pub own : AllByRecursion (IsNoticeOf hints) notices
  pub past : AllByRecursion (λ n. length hints ≤ n) over
  pub few : length over ≤ 1
  pub each : AreAnsweredAsClaimed k hints (numbers_of notices) answers v w

-- the claims of a view: where notices are shared as said, and else none
abbrev pub ClaimedFor : Key → Option Sharing → List Notice → List Answer → View → View → Type 0
ClaimedFor k None notices answers v w = w.notices ≡ v.notices
ClaimedFor k (Some x) notices answers v w = ClaimedAll k x.hints notices answers v w

-- where notices are shared, a number past the hints was claimed
abbrev pub ClaimedPast : Option Sharing → View → View → Type 0
ClaimedPast None v w = Unit {0}
ClaimedPast (Some x) v w = (number : ℕ) × (length x.hints ≤ number) × (times number v.notices < times number w.notices)
