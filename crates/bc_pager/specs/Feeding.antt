-- Notices that come from outside while a turn is under way: a pager more, the live one, takes and answers them beside the others.
use Rattle.std.specs.Prelude.{◌≡◌, ◌⊎◌, ℕ, ◌+◌, ◌≤◌, Bool, true, false, List, [], ◌∷◌, length, Option, Some, None}
use Rattle.bc_frames.specs.Places.{one_more}
use Rattle.bc_pager.specs.Answering.{AreAnswered, AreAnsweredSince, says_discarded, says_evicted}
use Rattle.bc_pager.specs.Claiming.{hints_of, numbers_of}
use Rattle.bc_pager.specs.Paging.{IsPager}
use Rattle.bc_pager.specs.Serving.{KeptAnswers, no_answers, told_with}
use Rattle.bc_pager.specs.declared.answers.Answer.{Answer}
use Rattle.bc_pager.specs.declared.notices.Notice.{Notice}
use Rattle.bc_pager.specs.declared.paging.Paging.{Paging}
use Rattle.bc_pins.specs.Calls.{IsFree, IsSameSeat, key_of, view_of}
use Rattle.bc_pins.specs.Key.{role_number}
use Rattle.bc_pins.specs.Seating.{IsDealt}
use Rattle.bc_pins.specs.Steps.{fresh}
use Rattle.bc_pins.specs.Totals.{times, total}
use Rattle.bc_pins.specs.declared.pins.Pins.{Pins}
use Rattle.bc_pins.specs.declared.views.View.{View}

-- how many notices a live pager answers at most
abbrev pub live_room : ℕ
live_room = 64

-- a source was asked until it had none, or until there were so many answers more
abbrev pub ServedOut : ℕ → ℕ → ℕ → ℕ → Type 0
ServedOut ends more_ends before after = (more_ends ≡ one_more ends) ⊎ ((more_ends ≡ ends) × (after ≡ before + live_room))

-- a live pager that begins: its seat has done nothing, no answer is kept, and there is room for so many
pub record IsLivePagerReady (pins : Pins) (paging : Paging) : Type 0 where
  pub role : IsPager paging.seat.role
  pub seat : IsDealt pins.table.shared.table_id (key_of pins) paging.seat.role paging.seat
  pub answers : paging.answers ≡ no_answers live_room

-- a live pager has answered the notices that it took, each once, in order, from where it was given. It claimed none at the table. It made
-- no page Gone or Absent but those that its answers name. Nothing is in its hands, it has no right to a frame, and it owes no page
pub record HasServedLive (pins : Pins) (told more_told : Option (List Notice)) (given more_given : Option (List View)) (old new : Paging) : Type 0 where
  pub notices : List Notice
  pub views : List View
  pub taken : more_told ≡ told_with told notices
  pub given_at : more_given ≡ told_with given views
  pub numbers : new.answers.numbers ≡ numbers_of notices
  pub each : AreAnswered (key_of pins) (hints_of notices) new.answers.list (fresh (key_of pins) (role_number old.seat.role ∷ [])) (view_of new.seat)
  pub since : AreAnsweredSince (key_of pins) (hints_of notices) new.answers.list views (fresh (key_of pins) (role_number old.seat.role ∷ [])) (view_of new.seat)
  pub unclaimed : (view_of new.seat).notices ≡ []
  pub few : length notices ≤ live_room
  pub room : new.answers.room ≡ old.answers.room
  pub left : (page : ℕ) → times page (view_of new.seat).left ≡ total (says_evicted page) new.answers.list
  pub emptied : (page : ℕ) → times page (view_of new.seat).emptied ≡ total (says_discarded page) new.answers.list
  pub same : IsSameSeat old.seat new.seat
  pub free : IsFree new.seat
  pub rights : (view_of new.seat).rights ≡ []
  pub none : (view_of new.seat).owed ≡ []

-- the live pager has answered, where there is one; where there is none nothing was taken
abbrev pub ServesLive : Pins → Option (List Notice) → Option (List Notice) → Option (List View) → Option (List View) → Option Paging → Option Paging → Type 0
ServesLive pins told more given more_given None new = (new ≡ None) × (more ≡ told) × (more_given ≡ given)
ServesLive pins told more given more_given (Some old) new = (paging : Paging) × (new ≡ Some paging) × HasServedLive pins told more given more_given old paging

-- the answers of the live pager, where there is one
abbrev pub answers_of_live : Option Paging → List Answer
answers_of_live None = []
answers_of_live (Some paging) = paging.answers.list

-- the room for its answers, where there is to be one
abbrev pub rooms_of_live : Bool → List KeptAnswers
rooms_of_live true = no_answers live_room ∷ []
rooms_of_live false = []
