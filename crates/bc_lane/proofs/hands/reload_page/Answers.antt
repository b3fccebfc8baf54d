use Rattle.std.proofs.Common.{◌<◌, ◌∷◌, inl, ap, sym, subst, ◌∙◌, arith}
use Rattle.bc_lane.proofs.FrameLemmas.{none-found-reads, none-found-shows, reloaded-holds, reloaded-lane, reloaded-reads, reloaded-shows}
use Rattle.bc_lane.proofs.HandLemmas.{none-reloaded, one-reloaded, own-lane, seat-lane}
use Rattle.bc_lane.proofs.PassLemmas.{fetched-passes, none-found-passes}
use Rattle.bc_pins.specs.Calls.{view_of}
use Rattle.bc_pins.specs.Key.{Key, pages_of}
use Rattle.bc_pins.specs.declared.views.View.{View}
use Rattle.bc_pins.proofs.VisitLemmas.{at_after}
use Rattle.bc_lane.proofs.hands.reload_page.Goals as goal

pub reload-requires-clause-seat : goal.reload-requires-clause-seat
reload-requires-clause-seat c = at_after c.args.pins.now c.args.seat.now c.find_frame.new.seat c.requires.at c.find_frame.ensures.same

pub reload-requires-clause-may : goal.reload-requires-clause-may
reload-requires-clause-may c =
    inl (own-lane c.args.seat.now c.find_frame.new.seat c.args.page
    (seat-lane c.args.seat.now c.find_frame.new.seat c.find_frame.ensures.same (ap (λ (v : View). v.fetched) c.in-Some.ensures.some.view)) c.requires.own)

pub reload-requires-clause-right : goal.reload-requires-clause-right
reload-requires-clause-right c = ap (λ (v : View). v.rights) c.in-Some.ensures.some.view

pub returns-in-Ok-clause-same : goal.returns-in-Ok-clause-same
returns-in-Ok-clause-same c =
    reloaded-lane c.args.seat.now c.find_frame.new.seat c.reload.new.seat c.args.page c.in-Some.right.frame c.in-Ok.fetched c.in-Some.ensures.some c.in-Ok.ensures.ok.0 c.find_frame.ensures.same c.reload.ensures.same c.in-Ok.ensures.ok.1

pub returns-in-Ok-clause-ok : goal.returns-in-Ok-clause-ok
returns-in-Ok-clause-ok c = (
  reloaded-holds (view_of c.args.seat.now) (view_of c.find_frame.new.seat) c.reload.new.seat c.args.page c.in-Some.right.frame c.in-Ok.fetched c.in-Some.ensures.some c.in-Ok.ensures.ok.0
      (subst (λ (k : Key). c.args.page < pages_of k) (sym c.requires.at.about) c.requires.page),
  c.in-Ok.ensures.ok.0.is,
)

pub returns-in-Ok-clause-shows : goal.returns-in-Ok-clause-shows
returns-in-Ok-clause-shows c = λ end s shown.
    reloaded-shows (view_of c.args.seat.now) (view_of c.find_frame.new.seat) c.reload.new.seat c.args.page c.in-Some.right.frame c.in-Ok.fetched c.in-Some.ensures.some c.in-Ok.ensures.ok.0 end s c.requires.own shown

pub returns-in-Ok-clause-reads : goal.returns-in-Ok-clause-reads
returns-in-Ok-clause-reads c =
    reloaded-reads (view_of c.args.seat.now) (view_of c.find_frame.new.seat) c.reload.new.seat c.args.page c.in-Some.right.frame c.in-Ok.fetched c.in-Some.ensures.some c.in-Ok.ensures.ok.0 c.requires.rights (inl c.requires.own)
    (subst (λ (k : Key). c.args.page < pages_of k) (sym c.requires.at.about) c.requires.page)

-- a page that is known to be Gone is not refused
pub unreachable-requires : goal.unreachable-requires
unreachable-requires c =
    let more = c.in-Some.ensures.some.gone c.args.page in
    let gone = c.requires.gone in
    absurd (c.in-Err.ensures.known (omega arith))

pub returns-in-None-clause-same : goal.returns-in-None-clause-same
returns-in-None-clause-same c =
    seat-lane c.args.seat.now c.find_frame.new.seat c.find_frame.ensures.same (ap (λ (v : View). v.fetched) c.in-None.ensures.none.view)

pub returns-in-None-clause-still : goal.returns-in-None-clause-still
returns-in-None-clause-still c = λ end s shown. none-found-shows (view_of c.args.seat.now) (view_of c.find_frame.new.seat) end s c.in-None.ensures.none shown

pub returns-in-None-clause-reads : goal.returns-in-None-clause-reads
returns-in-None-clause-reads c = none-found-reads (view_of c.args.seat.now) (view_of c.find_frame.new.seat) c.in-None.ensures.none

pub returns-in-Ok-clause-passes : goal.returns-in-Ok-clause-passes
returns-in-Ok-clause-passes c = λ q near ne.
    fetched-passes (view_of c.args.seat.now) (view_of c.find_frame.new.seat) c.reload.new.seat c.args.page c.in-Some.right.frame q c.in-Ok.fetched near c.in-Some.ensures.some c.in-Ok.ensures.ok.0 ne

pub returns-in-None-clause-passes : goal.returns-in-None-clause-passes
returns-in-None-clause-passes c = λ q near ne. none-found-passes (view_of c.args.seat.now) (view_of c.find_frame.new.seat) q near c.in-None.ensures.none

pub returns-in-Ok-clause-changed : goal.returns-in-Ok-clause-changed
returns-in-Ok-clause-changed c = ap (λ (v : View). v.changed) c.in-Ok.ensures.ok.0.view ∙ ap (λ (v : View). v.changed) c.in-Some.ensures.some.view

pub returns-in-None-clause-changed : goal.returns-in-None-clause-changed
returns-in-None-clause-changed c = ap (λ (v : View). v.changed) c.in-None.ensures.none.view

pub returns-in-Ok-clause-once : goal.returns-in-Ok-clause-once
returns-in-Ok-clause-once c =
    one-reloaded (view_of c.args.seat.now) (view_of c.reload.new.seat) c.args.page
    (ap (λ (v : View). v.fetched) c.in-Ok.ensures.ok.0.view ∙ ap (λ (v : View). c.args.page ∷ v.fetched) c.in-Some.ensures.some.view)

pub returns-in-None-clause-once : goal.returns-in-None-clause-once
returns-in-None-clause-once c = none-reloaded (view_of c.args.seat.now) (view_of c.find_frame.new.seat) 1 (ap (λ (v : View). v.fetched) c.in-None.ensures.none.view)

pub returns-in-None-clause-refused : goal.returns-in-None-clause-refused
returns-in-None-clause-refused c = ap (λ (v : View). v.fetched) c.in-None.ensures.none.view
