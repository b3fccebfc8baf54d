-- Notices that were given, answers that were kept, and a call that serves.
use Rattle.std.specs.Prelude.{◌≡◌, ℕ, ◌+◌, List, [], ◌∷◌, ◌++◌, take, Option, Some, None}
use Rattle.bc_pins.specs.declared.views.View.{View}
use Rattle.bc_pins.specs.Key.{Key}
use Rattle.bc_pins.specs.Totals.{total, times}
use Rattle.bc_pins.specs.Owing.{OwesNoMore}
use Rattle.bc_pager.specs.declared.answers.Answer.{Answer}
use Rattle.bc_pager.specs.declared.notices.Notice.{Notice}
use Rattle.bc_pager.specs.Answering.{AreAnswered, AreAnsweredSince, says_evicted, says_discarded}
use Rattle.bc_pager.specs.Claiming.{ClaimedFor, Sharing, hints_of, numbers_of}

-- a list of hints, how many of them were given, and how often there was none
pub record HintList : Type 0 where
  pub hints : List ℕ
  pub given : ℕ
  pub ends : ℕ

-- the notices with these hints, numbered from a number on
abbrev pub numbered : ℕ → List ℕ → List Notice
numbered from [] = []
numbered from (hint ∷ hints) = record { hint = hint; number = from } ∷ numbered (from + 1) hints

-- the notices of a list that were given
abbrev pub given_of : HintList → List Notice
given_of list = take list.given (numbered 0 list.hints)

-- answers in order, the number of the notice of each, and for how many there is room
pub record KeptAnswers : Type 0 where
  pub list : List Answer
  pub numbers : List ℕ
  pub room : ℕ

-- no answer, with room for so many
abbrev pub no_answers : ℕ → KeptAnswers
no_answers room = record { list = []; numbers = []; room = room }

-- the views that a seat had when notices were given to it aren't known
abbrev pub untold : Option (List View)
untold = None

-- the notices that were given aren't known
abbrev pub unlisted : Option (List Notice)
unlisted = None

-- what was told, in order, with these after it, where it is known
abbrev pub told_with : {A : Type 0} → Option (List A) → List A → Option (List A)
told_with None more = None
told_with (Some before) more = Some (before ++ more)

-- each of the notices that were taken in a call has its answer and its number, after those that were kept before. Each answer begins at
-- the view that the seat had when its notice was given, where these views are known, and where notices are shared at the view that
-- claimed its number. No page was made Gone or Absent but those that the answers name, each once, and no page is owed that wasn't
pub record HasServed (k : Key) (shared : Option Sharing) (told more_told : Option (List Notice)) (given more_given : Option (List View)) (old new : KeptAnswers) (v w : View) : Type 0 where
  pub notices : List Notice
  pub answers : List Answer
  pub views : List View
  pub taken : more_told ≡ told_with told notices
  pub given_at : more_given ≡ told_with given views
  pub kept : new ≡ record old { list = old.list ++ answers; numbers = old.numbers ++ numbers_of notices }
  pub each : AreAnswered k (hints_of notices) answers v w
  pub since : AreAnsweredSince k (hints_of notices) answers views v w
  pub claims : ClaimedFor k shared notices answers v w
  pub left : (page : ℕ) → times page w.left ≡ times page v.left + total (says_evicted page) answers
  pub emptied : (page : ℕ) → times page w.emptied ≡ times page v.emptied + total (says_discarded page) answers
  pub less : OwesNoMore v w
