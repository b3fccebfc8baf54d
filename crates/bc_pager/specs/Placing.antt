-- The answers of a turn's pagers, in the order of their notices: each stands at the number of its notice.
use Rattle.std.specs.Prelude.{◌≡◌, ℕ, ◌<◌, ◌≤◌, List, [], ◌∷◌, length, min, nat_lt, slice_index, slice_index_or}
use Rattle.std.specs.List.{AllByRecursion}
use Rattle.bc_bits.specs.Counting.{one_if}
use Rattle.bc_pager.specs.Claiming.{AreAnsweredAsClaimed}
use Rattle.bc_pager.specs.declared.answers.Answer.{Answer}
use Rattle.bc_pager.specs.declared.answers.Answer.TheVariants.{Declined}
use Rattle.bc_pager.specs.declared.paging.Paging.{Paging}
use Rattle.bc_pins.specs.Calls.{view_of}
use Rattle.bc_pins.specs.Closing.{claims_of}
use Rattle.bc_pins.specs.Key.{Key, role_number}
use Rattle.bc_pins.specs.Steps.{fresh}
use Rattle.bc_pins.specs.Totals.{times, total}
use Rattle.bc_pins.specs.declared.key.Role.TheVariants.{Pager}
use Rattle.bc_pins.specs.declared.pins.Seat.{Seat}
use Rattle.bc_pins.specs.declared.views.View.{View}

-- what a pager has done: its answers, the numbers of their notices, and its view at the end
pub record Paged : Type 0 where
  pub numbers : List ℕ
  pub answers : List Answer
  pub end : View

-- what this pager has done
abbrev pub paged_of : Paging → Paged
paged_of paging = record { numbers = paging.answers.numbers; answers = paging.answers.list; end = view_of paging.seat }

-- the pager with this number has answered each notice that it claimed, from where it had done nothing
pub record IsPagedBy (k : Key) (hints : List ℕ) (i : ℕ) (p : Paged) : Type 0 where
  pub each : AreAnsweredAsClaimed k hints p.numbers p.answers (fresh k (role_number (Pager i) ∷ [])) p.end
  pub within : AllByRecursion (λ n. n < length hints) p.numbers
  pub claims : (n : ℕ) → n < length hints → times n p.end.notices ≡ times n p.numbers

-- each of a pager's answers stands in the list at the number of its notice
abbrev pub HavePlaces : List Answer → Paged → Type 0
HavePlaces told p = (j : ℕ) → j < length p.numbers → slice_index_or told (slice_index p.numbers j) Declined ≡ slice_index_or p.answers j Declined

-- no number stands twice among these pagers' numbers
abbrev pub AreNumberedOnce : List Paged → Type 0
AreNumberedOnce pagers = (n : ℕ) → total (λ (p : Paged). times n p.numbers) pagers ≤ 1

-- each number of this pager is below the count
abbrev pub HasNumbersBelow : ℕ → Paging → Type 0
HasNumbersBelow notices paging = AllByRecursion (λ n. n < notices) paging.answers.numbers

-- a turn's notices were answered by its pagers, at most four. Each notice is one pager's, and its answer stands in the list at its number
pub record AnsweredByPagers (k : Key) (hints : List ℕ) (pagers : List Paged) (told : List Answer) : Type 0 where
  pub few : length pagers ≡ min (length hints) 4
  pub each : (i : ℕ) → i < length pagers → (d : Paged) → IsPagedBy k hints i (slice_index_or pagers i d)
  pub once : (n : ℕ) → total (λ (p : Paged). times n p.numbers) pagers ≡ one_if (nat_lt n (length hints))
  pub long : length told ≡ length hints
  pub placed : AllByRecursion (HavePlaces told) pagers

-- these seats claimed what the others claimed, and no more
pub record ClaimAsMany (seats others : List Seat) : Type 0 where
  pub count : claims_of seats ≡ claims_of others
  pub each : (n : ℕ) → total (λ (seat : Seat). times n (view_of seat).notices) seats ≡ total (λ (seat : Seat). times n (view_of seat).notices) others
