use Rattle.std.proofs.Common.{inl, refl, ap, ◌∙◌}
use Rattle.bc_lane.proofs.AnswerLemmas.{foreign-does, foreign-wants, hands-operated, sealed-does, sealed-wants, stays-brought, stops-operated, touches-none}
use Rattle.bc_lane.proofs.HandLemmas.{none-reads, none-reloaded, same-lane}
use Rattle.bc_lane.proofs.PassLemmas.{none-passes, same-puts}
use Rattle.bc_pins.specs.Calls.{key_of, view_of}
use Rattle.bc_pins.specs.Key.{Key}
use Rattle.bc_lane.proofs.attempting.operate_or_stop.Goals as goal

pub looks-requires-clause-whole : goal.looks-requires-clause-whole
looks-requires-clause-whole g c =
    let w = c.requires.whole in
    (view_of c.args.seat.now, c.args.hand.now, w.0, c.requires.seated.at.about, w.1, w.2)

pub operate-requires-clause-hand : goal.operate-requires-clause-hand
operate-requires-clause-hand g c = λ held.
    touches-none c.args.part.now c.args.end c.args.op.now (view_of c.args.seat.now) c.args.hand.now (c.in-Nowhere.ensures.told held)

pub operate-requires-clause-owners : goal.operate-requires-clause-owners
operate-requires-clause-owners g c = ap (λ (k : Key). k.owners) c.requires.seated.at.about ∙ c.requires.table.owners

pub returns-in-Nowhere-clause-seated : goal.returns-in-Nowhere-clause-seated
returns-in-Nowhere-clause-seated g c =
    let w = c.requires.whole in
    record {
      at = c.requires.seated.at;
      role = c.requires.seated.role;
      somebody = c.requires.seated.somebody;
      hands = hands-operated c.args.part.now c.operate.new.part c.args.seat.now c.args.hand.now c.operate.new.hand c.args.end c.args.op.now c.operate.result c.operate.ensures.done c.operate.ensures.still
          w.0 w.1 w.2 c.requires.seated.hands c.operate.ensures.page;
      rights = c.requires.seated.rights;
    }

pub returns-in-Nowhere-clause-seat : goal.returns-in-Nowhere-clause-seat
returns-in-Nowhere-clause-seat g c = same-lane c.args.seat.now

pub returns-in-Foreign-clause-seat : goal.returns-in-Foreign-clause-seat
returns-in-Foreign-clause-seat g c = same-lane c.args.seat.now

pub returns-in-Nowhere-clause-reads : goal.returns-in-Nowhere-clause-reads
returns-in-Nowhere-clause-reads g c = none-reads (view_of c.args.seat.now)

pub returns-in-Nowhere-clause-still : goal.returns-in-Nowhere-clause-still
returns-in-Nowhere-clause-still g c =
    stays-brought c.args.part.now c.operate.new.part c.args.seat.now c.args.hand.now c.operate.new.hand c.args.end c.args.op.now c.operate.result c.operate.ensures.done c.operate.ensures.still
    (view_of c.args.seat.now) c.args.hand.now (λ e s shown. shown)

pub returns-in-Nowhere-clause-why : goal.returns-in-Nowhere-clause-why
returns-in-Nowhere-clause-why g c =
    stops-operated c.args.part.now c.operate.new.part c.args.seat.now c.args.hand.now c.operate.new.hand c.args.end c.args.op.now c.operate.result c.operate.ensures.done c.operate.ensures.still
    (view_of c.args.seat.now) (none-reads (view_of c.args.seat.now)) c.operate.ensures.why

pub returns-in-Foreign-clause-reads : goal.returns-in-Foreign-clause-reads
returns-in-Foreign-clause-reads g c = none-reads (view_of c.args.seat.now)

pub returns-in-Foreign-clause-done : goal.returns-in-Foreign-clause-done
returns-in-Foreign-clause-done g c =
    let told = c.in-Foreign.ensures.told in
    foreign-does c.args.part.now (key_of c.args.pins.now) (view_of c.args.seat.now) c.args.hand.now c.args.end c.args.op.now c.requires.seated.at.about told.0 told.1

pub returns-in-Foreign-clause-nursery : goal.returns-in-Foreign-clause-nursery
returns-in-Foreign-clause-nursery g c = λ wants.
    let w = c.requires.whole in
    let told = c.in-Foreign.ensures.told in
    absurd (foreign-wants c.args.part.now w.0 _ c.args.op.now (told.1 (view_of c.args.seat.now) c.args.hand.now w.0 c.requires.seated.at.about w.1 w.2) wants)

pub returns-in-Nowhere-clause-looked : goal.returns-in-Nowhere-clause-looked
returns-in-Nowhere-clause-looked g c = λ q near. inl (none-passes (view_of c.args.seat.now) q)

pub returns-in-Foreign-clause-looked : goal.returns-in-Foreign-clause-looked
returns-in-Foreign-clause-looked g c = λ q near. inl (none-passes (view_of c.args.seat.now) q)

pub returns-in-Nowhere-clause-puts : goal.returns-in-Nowhere-clause-puts
returns-in-Nowhere-clause-puts g c = same-puts (view_of c.args.seat.now) (view_of c.args.seat.now) c.args.hand.now refl

pub returns-in-Foreign-clause-puts : goal.returns-in-Foreign-clause-puts
returns-in-Foreign-clause-puts g c = same-puts (view_of c.args.seat.now) (view_of c.args.seat.now) c.args.hand.now refl

pub returns-in-Sealed-clause-seat : goal.returns-in-Sealed-clause-seat
returns-in-Sealed-clause-seat g c = same-lane c.args.seat.now

pub returns-in-Sealed-clause-reads : goal.returns-in-Sealed-clause-reads
returns-in-Sealed-clause-reads g c = none-reads (view_of c.args.seat.now)

pub returns-in-Sealed-clause-done : goal.returns-in-Sealed-clause-done
returns-in-Sealed-clause-done g c =
    let told = c.in-Sealed.ensures.told in
    sealed-does c.args.part.now (key_of c.args.pins.now) (view_of c.args.seat.now) c.args.hand.now c.args.end c.args.op.now c.requires.seated.at.about told.0 told.1

pub returns-in-Sealed-clause-nursery : goal.returns-in-Sealed-clause-nursery
returns-in-Sealed-clause-nursery g c = λ wants.
    let w = c.requires.whole in
    let told = c.in-Sealed.ensures.told in
    absurd (sealed-wants c.args.part.now w.0 _ c.args.op.now (told.1 (view_of c.args.seat.now) c.args.hand.now w.0 c.requires.seated.at.about w.1 w.2) wants)

pub returns-in-Sealed-clause-looked : goal.returns-in-Sealed-clause-looked
returns-in-Sealed-clause-looked g c = λ q near. inl (none-passes (view_of c.args.seat.now) q)

pub returns-in-Sealed-clause-puts : goal.returns-in-Sealed-clause-puts
returns-in-Sealed-clause-puts g c = same-puts (view_of c.args.seat.now) (view_of c.args.seat.now) c.args.hand.now refl

pub returns-in-Nowhere-clause-once : goal.returns-in-Nowhere-clause-once
returns-in-Nowhere-clause-once g c = none-reloaded (view_of c.args.seat.now) (view_of c.args.seat.now) 1 refl

pub returns-in-Foreign-clause-once : goal.returns-in-Foreign-clause-once
returns-in-Foreign-clause-once g c = none-reloaded (view_of c.args.seat.now) (view_of c.args.seat.now) 1 refl

pub returns-in-Sealed-clause-once : goal.returns-in-Sealed-clause-once
returns-in-Sealed-clause-once g c = none-reloaded (view_of c.args.seat.now) (view_of c.args.seat.now) 1 refl
