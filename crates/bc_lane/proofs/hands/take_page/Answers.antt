use Rattle.std.proofs.Common.{◌≡◌, ◌<◌, true, false, Option, Some, refl, ap, sym, subst, ◌∙◌}
use Rattle.bc_lane.specs.Shown.{ShowsPages}
use Rattle.bc_lane.specs.Turns.{HasInHand}
use Rattle.bc_lane.proofs.FrameLemmas.{refused-since-then}
use Rattle.bc_lane.proofs.PassLemmas.{none-passes, passes-on, puts-on, same-puts}
use Rattle.bc_lane.proofs.HandLemmas.{at-lane, none-reads, none-reloaded, page-of_lane, reloaded-since, rights-on, same-lane, then-lane, then-reads}
use Rattle.bc_pins.specs.Calls.{HoldsPage, view_of}
use Rattle.bc_pins.specs.Contents.{IsBarePage}
use Rattle.bc_pins.specs.Key.{Key, pages_of}
use Rattle.bc_pins.specs.declared.holding.Held.{Held}
use Rattle.bc_pins.specs.declared.views.View.{View}
use Rattle.bc_lane.proofs.hands.take_page.Goals as goal

-- a test that is sure to hold doesn't fail
true-false : true ≡ false → ⊥
true-false e = cc

pub returns-then-has_page-clause-kept : goal.returns-then-has_page-clause-kept
returns-then-has_page-clause-kept g c = λ has. (refl, refl)

pub returns-in-Ok-clause-kept : goal.returns-in-Ok-clause-kept
returns-in-Ok-clause-kept g c = λ has. absurd (true-false (sym (c.has_page.ensures.all has) ∙ c.if-has_page.false))

pub returns-in-Err-clause-kept : goal.returns-in-Err-clause-kept
returns-in-Err-clause-kept g c = λ has. absurd (true-false (sym (c.has_page.ensures.all has) ∙ c.if-has_page.false))

pub returns-then-has_page-clause-reads : goal.returns-then-has_page-clause-reads
returns-then-has_page-clause-reads g c = none-reads (view_of c.args.seat.now)

pub take_or_reload-requires-clause-at : goal.take_or_reload-requires-clause-at
take_or_reload-requires-clause-at g c = at-lane c.args.pins.now c.args.seat.now c.put_hand_back.new.seat c.requires.at c.put_hand_back.ensures.same

pub take_or_reload-requires-clause-lanes : goal.take_or_reload-requires-clause-lanes
take_or_reload-requires-clause-lanes g c = subst (λ (a : Key). a.lanes ≡ true) (sym c.put_hand_back.ensures.same.worker.about) c.requires.lanes

pub take_or_reload-requires-clause-kind : goal.take_or_reload-requires-clause-kind
take_or_reload-requires-clause-kind g c = page-of_lane c.args.seat.now c.put_hand_back.new.seat c.args.page c.args.frozen c.put_hand_back.ensures.same c.requires.kind

pub take_or_reload-requires-clause-rights : goal.take_or_reload-requires-clause-rights
take_or_reload-requires-clause-rights g c = rights-on (view_of c.args.seat.now) (view_of c.put_hand_back.new.seat) c.put_hand_back.ensures.reads c.requires.rights

pub returns-then-has_page-clause-same : goal.returns-then-has_page-clause-same
returns-then-has_page-clause-same g c = same-lane c.args.seat.now

pub take_or_reload-requires-clause-cell : goal.take_or_reload-requires-clause-cell
take_or_reload-requires-clause-cell g c = subst (λ (a : Key). IsBarePage a.opening c.args.page → ⊥) (sym c.put_hand_back.ensures.same.worker.about) c.requires.cell

pub returns-in-Ok-clause-same : goal.returns-in-Ok-clause-same
returns-in-Ok-clause-same g c = then-lane c.args.seat.now c.put_hand_back.new.seat c.take_or_reload.new.seat c.put_hand_back.ensures.same c.take_or_reload.ensures.same

pub returns-in-Ok-clause-hands : goal.returns-in-Ok-clause-hands
returns-in-Ok-clause-hands g c = subst (λ (h : Held). HoldsPage c.take_or_reload.new.seat h) (sym c.note_use.ensures.same) c.in-Ok.ensures.ok.0

pub returns-in-Ok-clause-shows : goal.returns-in-Ok-clause-shows
returns-in-Ok-clause-shows g c = λ end s shown.
    subst (λ (h : Held). ShowsPages (view_of c.take_or_reload.new.seat) (Some h) end s) (sym c.note_use.ensures.same) (c.in-Ok.ensures.shows end s (c.put_hand_back.ensures.shows end s shown))

pub returns-in-Ok-clause-there : goal.returns-in-Ok-clause-there
returns-in-Ok-clause-there g c = sym (ap (λ (h : Held). h.page) c.note_use.ensures.same ∙ c.in-Ok.ensures.ok.1)

pub returns-in-Ok-clause-reads : goal.returns-in-Ok-clause-reads
returns-in-Ok-clause-reads g c = then-reads (view_of c.args.seat.now) (view_of c.put_hand_back.new.seat) (view_of c.take_or_reload.new.seat) c.put_hand_back.ensures.reads c.take_or_reload.ensures.reads

pub returns-in-Err-clause-same : goal.returns-in-Err-clause-same
returns-in-Err-clause-same g c = then-lane c.args.seat.now c.put_hand_back.new.seat c.take_or_reload.new.seat c.put_hand_back.ensures.same c.take_or_reload.ensures.same

pub returns-in-Err-clause-hands : goal.returns-in-Err-clause-hands
returns-in-Err-clause-hands g c = subst (HasInHand c.take_or_reload.new.seat) (sym c.put_hand_back.ensures.none) c.in-Err.ensures.err.0

pub returns-in-Err-clause-shows : goal.returns-in-Err-clause-shows
returns-in-Err-clause-shows g c = λ end s shown.
    subst (λ (x : Option Held). ShowsPages (view_of c.take_or_reload.new.seat) x end s) (sym c.put_hand_back.ensures.none) (c.in-Err.ensures.still end s (c.put_hand_back.ensures.shows end s shown))

pub returns-in-Err-clause-reads : goal.returns-in-Err-clause-reads
returns-in-Err-clause-reads g c = then-reads (view_of c.args.seat.now) (view_of c.put_hand_back.new.seat) (view_of c.take_or_reload.new.seat) c.put_hand_back.ensures.reads c.take_or_reload.ensures.reads

pub returns-in-Err-clause-stop : goal.returns-in-Err-clause-stop
returns-in-Err-clause-stop g c =
    refused-since-then (view_of c.args.seat.now) (view_of c.put_hand_back.new.seat) (view_of c.take_or_reload.new.seat) c.args.page c.in-Err.why c.put_hand_back.ensures.reads c.in-Err.ensures.err.1

pub returns-then-has_page-clause-passes : goal.returns-then-has_page-clause-passes
returns-then-has_page-clause-passes g c = λ q near ne. none-passes (view_of c.args.seat.now) q

pub returns-in-Ok-clause-passes : goal.returns-in-Ok-clause-passes
returns-in-Ok-clause-passes g c = λ q near ne.
    passes-on (view_of c.args.seat.now) (view_of c.put_hand_back.new.seat) (view_of c.take_or_reload.new.seat) q (c.put_hand_back.ensures.passes q)
    (c.take_or_reload.ensures.passes q (subst (λ (k : Key). q < pages_of k) (sym c.put_hand_back.ensures.same.worker.about) near) ne)

pub returns-in-Err-clause-passes : goal.returns-in-Err-clause-passes
returns-in-Err-clause-passes g c = λ q near ne.
    passes-on (view_of c.args.seat.now) (view_of c.put_hand_back.new.seat) (view_of c.take_or_reload.new.seat) q (c.put_hand_back.ensures.passes q)
    (c.take_or_reload.ensures.passes q (subst (λ (k : Key). q < pages_of k) (sym c.put_hand_back.ensures.same.worker.about) near) ne)

pub returns-then-has_page-clause-puts : goal.returns-then-has_page-clause-puts
returns-then-has_page-clause-puts g c = same-puts (view_of c.args.seat.now) (view_of c.args.seat.now) c.args.hand.now refl

pub returns-in-Ok-clause-puts : goal.returns-in-Ok-clause-puts
returns-in-Ok-clause-puts g c = puts-on (view_of c.args.seat.now) (view_of c.put_hand_back.new.seat) (view_of c.take_or_reload.new.seat) c.args.hand.now c.put_hand_back.ensures.puts c.take_or_reload.ensures.changed

pub returns-in-Err-clause-puts : goal.returns-in-Err-clause-puts
returns-in-Err-clause-puts g c = puts-on (view_of c.args.seat.now) (view_of c.put_hand_back.new.seat) (view_of c.take_or_reload.new.seat) c.args.hand.now c.put_hand_back.ensures.puts c.take_or_reload.ensures.changed

pub returns-then-has_page-clause-once : goal.returns-then-has_page-clause-once
returns-then-has_page-clause-once g c = none-reloaded (view_of c.args.seat.now) (view_of c.args.seat.now) 1 refl

pub returns-in-Ok-clause-once : goal.returns-in-Ok-clause-once
returns-in-Ok-clause-once g c =
    reloaded-since (view_of c.args.seat.now) (view_of c.put_hand_back.new.seat) (view_of c.take_or_reload.new.seat) 1 (ap (λ (v : View). v.fetched) c.put_hand_back.ensures.laid) c.take_or_reload.ensures.once

pub returns-in-Err-clause-once : goal.returns-in-Err-clause-once
returns-in-Err-clause-once g c =
    reloaded-since (view_of c.args.seat.now) (view_of c.put_hand_back.new.seat) (view_of c.take_or_reload.new.seat) 1 (ap (λ (v : View). v.fetched) c.put_hand_back.ensures.laid) c.take_or_reload.ensures.once

pub returns-in-Err-clause-refused : goal.returns-in-Err-clause-refused
returns-in-Err-clause-refused g c = c.in-Err.ensures.refused ∙ ap (λ (v : View). v.fetched) c.put_hand_back.ensures.laid
