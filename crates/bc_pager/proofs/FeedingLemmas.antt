-- The answers of a live pager: what it leaves as it was, which pages it names, and how its seat comes back.
use Rattle.std.proofs.Common.{◌≡◌, ℕ, ◌≤◌, List, [], ◌∷◌, ◌++◌, length, Option, ap, sym, subst, ◌∙◌, arith}
use Rattle.std.proofs.lemmas.List.{length-map}
use Rattle.bc_pager.specs.Answering.{AreAnswered, AreAnsweredSince, says_discarded, says_evicted}
use Rattle.bc_pager.specs.Claiming.{hints_of, numbers_of, unshared}
use Rattle.bc_pager.specs.Feeding.{HasServedLive, IsLivePagerReady}
use Rattle.bc_pager.specs.Serving.{HasServed, KeptAnswers}
use Rattle.bc_pager.specs.declared.answers.Answer.{Answer}
use Rattle.bc_pager.specs.declared.notices.Notice.{Notice}
use Rattle.bc_pager.specs.declared.paging.Paging.{Paging}
use Rattle.bc_pager.proofs.DeclinedLemmas.{answered-home}
use Rattle.bc_pager.proofs.PagerLemmas.{dealt-view}
use Rattle.bc_pager.proofs.SeatedLemmas.{ArePagersTold, IsPagerBack}
use Rattle.bc_pager.proofs.ToldLemmas.{answered-even, answered-keep}
use Rattle.bc_pins.specs.Calls.{IsFree, IsSameSeat, key_of, view_of}
use Rattle.bc_pins.specs.Key.{role_number}
use Rattle.bc_pins.specs.Seating.{IsDealt}
use Rattle.bc_pins.specs.Steps.{Mine, fresh}
use Rattle.bc_pins.specs.Totals.{times, total}
use Rattle.bc_pins.specs.declared.key.Role.{Role}
use Rattle.bc_pins.specs.declared.key.Role.TheVariants.{Pager}
use Rattle.bc_pins.specs.declared.pins.Pins.{Pins}
use Rattle.bc_pins.specs.declared.views.View.{View}
use Rattle.bc_pins.proofs.AloneLemmas.{none_times}

-- a live pager's seat is back with nothing in hand
pub live-back : (pins : Pins) (told more_told : Option (List Notice)) (given more_given : Option (List View)) (number : ℕ) (old new : Paging) → IsDealt pins.table.shared.table_id (key_of pins) (Pager number) old.seat
    → HasServedLive pins told more_told given more_given old new → IsPagerBack pins number new.seat
live-back pins told more_told given more_given number old new dealt served =
    let view = ap (λ (m : Mine). m.0) dealt.me in
    let each = subst (λ (r : Role). AreAnswered (key_of pins) (hints_of served.notices) new.answers.list (fresh (key_of pins) (role_number r ∷ [])) (view_of new.seat)) dealt.its_role served.each in
    let kept = answered-keep (key_of pins) (hints_of served.notices) new.answers.list (fresh (key_of pins) (role_number (Pager number) ∷ [])) (view_of new.seat) each in
    record {
      table = served.same.table ∙ dealt.table;
      about = served.same.about ∙ ap (λ (v : View). v.about) view;
      roles = served.same.roles ∙ ap (λ (v : View). v.roles) view;
      free = served.free;
      rights = served.rights;
      fetched = kept.fetched;
      changed = kept.changed;
      recorded = kept.recorded;
      returned = kept.returned;
      opens = served.same.opens ∙ dealt.opens;
    }

-- what its answers say, said of what its seat did
pub live-told : (pins : Pins) (told more_told : Option (List Notice)) (given more_given : Option (List View)) (old new : Paging) → HasServedLive pins told more_told given more_given old new → ArePagersTold pins (new.seat ∷ []) new.answers.list
live-told pins told more_told given more_given old new served = record {
  left = λ p. let is = served.left p in omega arith;
  emptied = λ p. let is = served.emptied p in omega arith;
  homes = λ p near. let home = answered-home (key_of pins) (hints_of served.notices) new.answers.list _ (view_of new.seat) served.each p near in omega arith;
}

-- what a live pager has done that served until no notice had come, or no room for an answer was left
module _ (pins : Pins) (told more_told : Option (List Notice)) (given more_given : Option (List View)) (old new : Paging) (ready : IsLivePagerReady pins old) (same : IsSameSeat old.seat new.seat) (free : IsFree new.seat) (rights : (view_of new.seat).rights ≡ [])
    (served : HasServed (key_of pins) unshared told more_told given more_given old.answers new.answers (view_of old.seat) (view_of new.seat)) (room : length new.answers.list ≤ new.answers.room) where
  first : view_of old.seat ≡ fresh (key_of pins) (role_number old.seat.role ∷ [])
  first = dealt-view pins.table.shared.table_id (key_of pins) old.seat.role old.seat ready.seat

  list-is : new.answers.list ≡ served.answers
  list-is = ap (λ (a : KeptAnswers). a.list) served.kept ∙ ap (λ (a : KeptAnswers). a.list ++ served.answers) ready.answers

  room-same : new.answers.room ≡ old.answers.room
  room-same = ap (λ (a : KeptAnswers). a.room) served.kept

  each-from : (answers : List Answer) (v : View) → answers ≡ served.answers → view_of old.seat ≡ v → AreAnswered (key_of pins) (hints_of served.notices) answers v (view_of new.seat)
  each-from answers v a e =
      subst (λ (x : List Answer). AreAnswered (key_of pins) (hints_of served.notices) x v (view_of new.seat)) (sym a)
      (subst (λ (x : View). AreAnswered (key_of pins) (hints_of served.notices) served.answers x (view_of new.seat)) e served.each)

  since-from : (answers : List Answer) (v : View) → answers ≡ served.answers → view_of old.seat ≡ v → AreAnsweredSince (key_of pins) (hints_of served.notices) answers served.views v (view_of new.seat)
  since-from answers v a e =
      subst (λ (x : List Answer). AreAnsweredSince (key_of pins) (hints_of served.notices) x served.views v (view_of new.seat)) (sym a)
      (subst (λ (x : View). AreAnsweredSince (key_of pins) (hints_of served.notices) served.answers served.views x (view_of new.seat)) e served.since)

  pub served-live : HasServedLive pins told more_told given more_given old new
  served-live = record {
    notices = served.notices;
    views = served.views;
    taken = served.taken;
    given_at = served.given_at;
    numbers = ap (λ (a : KeptAnswers). a.numbers) served.kept ∙ ap (λ (a : KeptAnswers). a.numbers ++ numbers_of served.notices) ready.answers;
    each = each-from new.answers.list _ list-is first;
    since = since-from new.answers.list _ list-is first;
    unclaimed = served.claims ∙ ap (λ (v : View). v.notices) first;
    few =
        let even = answered-even (key_of pins) (hints_of served.notices) served.answers (view_of old.seat) (view_of new.seat) served.each in
        let long = length-map served.notices (λ (n : Notice). n.hint) in
        let is = ap (λ (l : List Answer). length l) list-is in
        let all = room-same ∙ ap (λ (a : KeptAnswers). a.room) ready.answers in
        omega arith;
    room = room-same;
    left = λ page.
        let was = served.left page in
        let none = ap (λ (v : View). times page v.left) first in
        let is = ap (total (says_evicted page)) list-is in
        omega arith;
    emptied = λ page.
        let was = served.emptied page in
        let none = ap (λ (v : View). times page v.emptied) first in
        let is = ap (total (says_discarded page)) list-is in
        omega arith;
    same = same;
    free = free;
    rights = rights;
    none = none_times (view_of new.seat).owed (λ page. let less = served.less page in let none = ap (λ (v : View). times page v.owed) first in omega arith);
  }
