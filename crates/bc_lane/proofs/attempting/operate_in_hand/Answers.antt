use Rattle.std.proofs.Common.{◌≡◌, true, Option, refl, ap, sym, subst, ◌∙◌}
use Rattle.bc_lane.proofs.AnswerLemmas.{brought-looked, does-brought, hands-operated, own-wants, page-of, refused-stops, stays-brought, stops-operated, touches-page, whole-moved}
use Rattle.bc_lane.specs.Shown.{HasPage}
use Rattle.bc_lane.specs.Turns.{holder_if}
use Rattle.bc_pins.specs.declared.holding.Held.{Held}
use Rattle.bc_pins.specs.Calls.{key_of, view_of}
use Rattle.bc_pins.specs.Contents.{IsBarePage}
use Rattle.bc_pins.specs.Key.{Key}
use Rattle.bc_lane.proofs.HandLemmas.{at-lane, one-page, rights-on, somebody-lane}
use Rattle.bc_lane.proofs.attempting.operate_in_hand.Goals as goal

pub take_page-requires-clause-lanes : goal.take_page-requires-clause-lanes
take_page-requires-clause-lanes g c = subst (λ (k : Key). k.lanes ≡ true) (sym c.requires.seated.at.about) c.requires.table.lanes

pub take_page-requires-clause-kind : goal.take_page-requires-clause-kind
take_page-requires-clause-kind g c =
    let part = c.args.part.now in
    page-of c.args.pins.now part.holders.items part.lane c.args.page c.args.frozen c.args.seat.now c.args.hand.now c.requires.table c.requires.seated c.requires.looks.domain c.requires.looks.owned

pub take_page-requires-clause-cell : goal.take_page-requires-clause-cell
take_page-requires-clause-cell g c = subst (λ (k : Key). IsBarePage k.opening c.args.page → ⊥) (sym c.requires.seated.at.about) c.requires.looks.cell

pub take_page-requires-clause-shown : goal.take_page-requires-clause-shown
take_page-requires-clause-shown g c = let w = c.requires.whole in (c.args.end, w.0.space, w.1.belongs.space)

pub operate-requires-clause-owners : goal.operate-requires-clause-owners
operate-requires-clause-owners g c = ap (λ (k : Key). k.owners) (c.take_page.ensures.same.worker.about ∙ c.requires.seated.at.about) ∙ c.requires.table.owners

pub operate-requires-clause-whole : goal.operate-requires-clause-whole
operate-requires-clause-whole g c =
    let w = c.requires.whole in
    (w.0, whole-moved c.args.part.now (view_of c.args.seat.now) (view_of c.take_page.new.seat) c.args.hand.now c.take_page.new.hand c.args.end w.0 c.take_page.ensures.shows w.1, w.2)

pub operate-requires-clause-hand : goal.operate-requires-clause-hand
operate-requires-clause-hand g c = λ held.
    touches-page c.args.part.now c.args.end c.args.page c.args.op.now (view_of c.take_page.new.seat) c.take_page.new.hand c.requires.looks.leads c.in-Ok.ensures.there

pub returns-in-Ok-clause-seated : goal.returns-in-Ok-clause-seated
returns-in-Ok-clause-seated g c =
    let w = c.requires.whole in
    let same = c.take_page.ensures.same in
    record {
      at = at-lane c.args.pins.now c.args.seat.now c.take_page.new.seat c.requires.seated.at same;
      role = same.worker.role ∙ c.requires.seated.role;
      somebody = somebody-lane c.args.seat.now c.take_page.new.seat same c.requires.seated.somebody;
      hands = hands-operated c.args.part.now c.operate.new.part c.take_page.new.seat c.take_page.new.hand c.operate.new.hand c.args.end c.args.op.now c.operate.result c.operate.ensures.done c.operate.ensures.still
          w.0 (whole-moved c.args.part.now (view_of c.args.seat.now) (view_of c.take_page.new.seat) c.args.hand.now c.take_page.new.hand c.args.end w.0 c.take_page.ensures.shows w.1) w.2 c.take_page.ensures.hands c.operate.ensures.page;
      rights = rights-on (view_of c.args.seat.now) (view_of c.take_page.new.seat) c.take_page.ensures.reads c.requires.seated.rights;
    }

pub returns-in-Ok-clause-done : goal.returns-in-Ok-clause-done
returns-in-Ok-clause-done g c =
    does-brought c.args.part.now c.operate.new.part c.take_page.new.seat c.take_page.new.hand c.operate.new.hand c.args.end c.args.op.now c.operate.result c.operate.ensures.done c.operate.ensures.still
    (view_of c.args.seat.now) c.args.hand.now c.take_page.ensures.shows

pub returns-in-Ok-clause-still : goal.returns-in-Ok-clause-still
returns-in-Ok-clause-still g c =
    stays-brought c.args.part.now c.operate.new.part c.take_page.new.seat c.take_page.new.hand c.operate.new.hand c.args.end c.args.op.now c.operate.result c.operate.ensures.done c.operate.ensures.still
    (view_of c.args.seat.now) c.args.hand.now c.take_page.ensures.shows

pub returns-in-Ok-clause-why : goal.returns-in-Ok-clause-why
returns-in-Ok-clause-why g c =
    stops-operated c.args.part.now c.operate.new.part c.take_page.new.seat c.take_page.new.hand c.operate.new.hand c.args.end c.args.op.now c.operate.result c.operate.ensures.done c.operate.ensures.still
    (view_of c.args.seat.now) c.take_page.ensures.reads c.operate.ensures.why

pub returns-in-Err-clause-seated : goal.returns-in-Err-clause-seated
returns-in-Err-clause-seated g c =
    let same = c.take_page.ensures.same in
    record {
      at = at-lane c.args.pins.now c.args.seat.now c.take_page.new.seat c.requires.seated.at same;
      role = same.worker.role ∙ c.requires.seated.role;
      somebody = somebody-lane c.args.seat.now c.take_page.new.seat same c.requires.seated.somebody;
      hands = c.take_page.ensures.hands;
      rights = rights-on (view_of c.args.seat.now) (view_of c.take_page.new.seat) c.take_page.ensures.reads c.requires.seated.rights;
    }

pub returns-in-Err-clause-still : goal.returns-in-Err-clause-still
returns-in-Err-clause-still g c =
    (refl, λ h w. whole-moved c.args.part.now (view_of c.args.seat.now) (view_of c.take_page.new.seat) c.args.hand.now c.take_page.new.hand c.args.end h c.take_page.ensures.shows w)

pub returns-in-Err-clause-why : goal.returns-in-Err-clause-why
returns-in-Err-clause-why g c =
    refused-stops c.args.part.now (key_of c.args.pins.now) (view_of c.args.seat.now) (view_of c.take_page.new.seat) c.take_page.new.hand c.args.end c.args.page c.args.op.now (holder_if c.args.frozen c.args.part.now.lane) c.in-Err.why (c.take_page.ensures.same.worker.about ∙ c.requires.seated.at.about) c.requires.looks c.in-Err.ensures.stop

pub returns-in-Err-clause-nursery : goal.returns-in-Err-clause-nursery
returns-in-Err-clause-nursery g c = λ wants.
    let w = c.requires.whole in
    let looks = c.requires.looks.looks (view_of c.args.seat.now) c.args.hand.now w.0 c.requires.seated.at.about w.1 w.2 in
    absurd (own-wants c.args.part.now w.0 _ c.args.page c.args.op.now looks.looks wants)

pub returns-in-Ok-clause-kept : goal.returns-in-Ok-clause-kept
returns-in-Ok-clause-kept g c = λ has. (c.take_page.ensures.kept has).1

pub returns-in-Err-clause-kept : goal.returns-in-Err-clause-kept
returns-in-Err-clause-kept g c = λ has. (c.take_page.ensures.kept has).1

pub returns-in-Ok-clause-looked : goal.returns-in-Ok-clause-looked
returns-in-Ok-clause-looked g c =
    brought-looked c.args.part.now (key_of c.args.pins.now) (view_of c.args.seat.now) (view_of c.take_page.new.seat) c.args.hand.now c.args.end c.args.page c.args.op.now (holder_if c.args.frozen c.args.part.now.lane) c.requires.seated.at.about c.requires.looks c.take_page.ensures.passes

pub returns-in-Err-clause-looked : goal.returns-in-Err-clause-looked
returns-in-Err-clause-looked g c =
    brought-looked c.args.part.now (key_of c.args.pins.now) (view_of c.args.seat.now) (view_of c.take_page.new.seat) c.args.hand.now c.args.end c.args.page c.args.op.now (holder_if c.args.frozen c.args.part.now.lane) c.requires.seated.at.about c.requires.looks c.take_page.ensures.passes

pub returns-in-Ok-clause-only : goal.returns-in-Ok-clause-only
returns-in-Ok-clause-only g c = λ q has. one-page c.operate.new.hand q c.args.page has (c.operate.ensures.page c.args.page c.in-Ok.ensures.there)

pub returns-in-Err-clause-only : goal.returns-in-Err-clause-only
returns-in-Err-clause-only g c = λ q has. absurd (subst (λ (x : Option Held). HasPage x q) c.in-Err.ensures.none has)
