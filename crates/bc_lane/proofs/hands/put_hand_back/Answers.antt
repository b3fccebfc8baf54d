use Rattle.std.proofs.Common.{◌≡◌, Option, Some, None, refl, ap, sym, ◌∙◌}
use Rattle.std.proofs.lemmas.Option.{same_Some}
use Rattle.bc_lane.proofs.HandLemmas.{hand-may, in-hand, in-none, may-put, none-laid, none-reads, put-laid, put-reads, put-unchanged, same-lane, seat-lane, shown-back, shown-none, shown-put, some-back}
use Rattle.bc_lane.proofs.PageLemmas.{shown-hand}
use Rattle.bc_lane.proofs.PassLemmas.{none-passes, put-passes, put-puts, same-puts}
use Rattle.bc_pins.specs.declared.holding.Held.{Held}
use Rattle.bc_pins.specs.Calls.{view_of}
use Rattle.bc_pins.specs.Key.{owner}
use Rattle.bc_pins.specs.Views.{has_role}
use Rattle.bc_pins.specs.declared.views.Hand.{Hand}
use Rattle.bc_pins.specs.declared.views.View.{View}
use Rattle.bc_lane.proofs.hands.put_hand_back.Goals as goal

pub put-requires-clause-held : goal.put-requires-clause-held
put-requires-clause-held c = in-hand c.args.seat.now c.args.hand.now c.in-Some.held (sym c.take.ensures.value ∙ c.in-Some.is) c.requires.hands

pub put-requires-clause-may : goal.put-requires-clause-may
put-requires-clause-may c =
    let s = c.requires.shown in
    may-put c.args.seat.now c.in-Some.held s.0 s.1 (shown-hand (view_of c.args.seat.now) c.args.hand.now c.in-Some.held s.0 s.1 (sym c.take.ensures.value ∙ c.in-Some.is) s.2)

pub returns-in-Some-clause-shows : goal.returns-in-Some-clause-shows
returns-in-Some-clause-shows c = λ end s shown.
    shown-put c.args.seat.now c.put.new.seat c.args.hand.now c.in-Some.held end s (sym c.take.ensures.value ∙ c.in-Some.is) c.put.ensures.view shown

pub returns-in-Some-clause-back : goal.returns-in-Some-clause-back
returns-in-Some-clause-back c = λ end s shown.
    let first = c.requires.shown in
    shown-back c.args.seat.now c.put.new.seat c.args.hand.now c.in-Some.held end first.0 s first.1 (sym c.take.ensures.value ∙ c.in-Some.is) c.put.ensures.view first.2 shown

pub returns-in-Some-clause-reads : goal.returns-in-Some-clause-reads
returns-in-Some-clause-reads c =
    let s = c.requires.shown in
    let is = sym c.take.ensures.value ∙ c.in-Some.is in
    put-reads c.args.seat.now (view_of c.put.new.seat) c.in-Some.held (in-hand c.args.seat.now c.args.hand.now c.in-Some.held is c.requires.hands)
    (hand-may (view_of c.args.seat.now) c.in-Some.held s.1 (shown-hand (view_of c.args.seat.now) c.args.hand.now c.in-Some.held s.0 s.1 is s.2).in_hand) c.put.ensures.view

pub returns-in-None-clause-free : goal.returns-in-None-clause-free
returns-in-None-clause-free c = in-none c.args.seat.now c.args.hand.now (sym c.take.ensures.value ∙ c.in-None.is) c.requires.hands

pub returns-in-None-clause-shows : goal.returns-in-None-clause-shows
returns-in-None-clause-shows c = λ end s shown. shown-none (view_of c.args.seat.now) c.args.hand.now end s (sym c.take.ensures.value ∙ c.in-None.is) shown

pub returns-in-None-clause-back : goal.returns-in-None-clause-back
returns-in-None-clause-back c = λ end s shown. some-back (view_of c.args.seat.now) c.args.hand.now end s (sym c.take.ensures.value ∙ c.in-None.is) shown

pub returns-in-None-clause-reads : goal.returns-in-None-clause-reads
returns-in-None-clause-reads c = none-reads (view_of c.args.seat.now)

pub returns-in-Some-clause-same : goal.returns-in-Some-clause-same
returns-in-Some-clause-same c = seat-lane c.args.seat.now c.put.new.seat c.put.ensures.same (ap (λ (v : View). v.fetched) c.put.ensures.view)

pub returns-in-None-clause-same : goal.returns-in-None-clause-same
returns-in-None-clause-same c = same-lane c.args.seat.now

pub returns-in-Some-clause-passes : goal.returns-in-Some-clause-passes
returns-in-Some-clause-passes c = λ q. put-passes (view_of c.args.seat.now) (view_of c.put.new.seat) c.in-Some.held q c.put.ensures.view

pub returns-in-None-clause-passes : goal.returns-in-None-clause-passes
returns-in-None-clause-passes c = λ q. none-passes (view_of c.args.seat.now) q

pub returns-in-Some-clause-laid : goal.returns-in-Some-clause-laid
returns-in-Some-clause-laid c = put-laid (view_of c.args.seat.now) (view_of c.put.new.seat) c.in-Some.held c.put.ensures.view

pub returns-in-None-clause-laid : goal.returns-in-None-clause-laid
returns-in-None-clause-laid c =
    none-laid (view_of c.args.seat.now) (in-none c.args.seat.now c.args.hand.now (sym c.take.ensures.value ∙ c.in-None.is) c.requires.hands).hand

pub returns-in-Some-clause-puts : goal.returns-in-Some-clause-puts
returns-in-Some-clause-puts c = put-puts (view_of c.args.seat.now) (view_of c.put.new.seat) c.args.hand.now c.in-Some.held (sym c.take.ensures.value ∙ c.in-Some.is) c.put.ensures.view

pub returns-in-None-clause-puts : goal.returns-in-None-clause-puts
returns-in-None-clause-puts c = same-puts (view_of c.args.seat.now) (view_of c.args.seat.now) c.args.hand.now refl

pub returns-in-Some-clause-idle : goal.returns-in-Some-clause-idle
returns-in-Some-clause-idle c = λ none.
    let has = (in-hand c.args.seat.now c.args.hand.now c.in-Some.held (sym c.take.ensures.value ∙ c.in-Some.is) c.requires.hands).has in
    absurd (never-both _ _ has none)
  where
    never-both : (hand : Option Hand) (h : Hand) → hand ≡ Some h → hand ≡ None → ⊥
    never-both hand h is none = cc

pub returns-in-Some-clause-foreign : goal.returns-in-Some-clause-foreign
returns-in-Some-clause-foreign c = λ held is none.
    let same : c.in-Some.held ≡ held = same_Some c.in-Some.held held (sym (sym c.take.ensures.value ∙ c.in-Some.is) ∙ is) in
    put-unchanged (view_of c.args.seat.now) (view_of c.put.new.seat) c.in-Some.held c.put.ensures.view
    (ap (λ (h : Held). has_role (view_of c.args.seat.now) (owner (view_of c.args.seat.now).about h.page)) same ∙ none)
