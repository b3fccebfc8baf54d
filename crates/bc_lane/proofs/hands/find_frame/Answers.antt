use Rattle.std.proofs.Common.{Option, Some, None, ap, ◌∙◌}
use Rattle.std.proofs.lemmas.Option.{IfSome_then}
use Rattle.std.specs.Option.{IfNone}
use Rattle.bc_lane.proofs.FrameLemmas.{claimed-frame, finds-none, freed-frame}
use Rattle.bc_pins.specs.Calls.{view_of}
use Rattle.bc_pins.specs.declared.views.View.{View}
use Rattle.bc_pins.proofs.VisitLemmas.{at_after, same_after}
use Rattle.bc_lane.proofs.hands.find_frame.Goals as goal

-- what follows where there is none
none-then : {X : Type 0} {A B : Type 0} (r : Option X) → (A → B) → IfNone r A → IfNone r B
none-then None follows is = follows is
none-then (Some x) follows is = tt

pub returns-in-Some-clause-free : goal.returns-in-Some-clause-free
returns-in-Some-clause-free c = record {
  hand = ap (λ (v : View). v.hand) c.in-Some.ensures.some.view ∙ c.requires.free.hand;
  slots = c.claim_frame.ensures.slots ∙ c.requires.free.slots;
}

pub returns-in-Some-clause-some : goal.returns-in-Some-clause-some
returns-in-Some-clause-some c = claimed-frame (view_of c.args.seat.now) (view_of c.claim_frame.new.seat) c.in-Some.right.frame c.in-Some.ensures.some

-- no frame was free
pub free_frame-requires-clause-seat : goal.free_frame-requires-clause-seat
free_frame-requires-clause-seat c = at_after c.args.pins.now c.args.seat.now c.claim_frame.new.seat c.requires.at c.claim_frame.ensures.same

pub free_frame-requires-clause-free : goal.free_frame-requires-clause-free
free_frame-requires-clause-free c = record {
  hand = ap (λ (v : View). v.hand) c.in_default.ensures.none.view ∙ c.requires.free.hand;
  slots = c.claim_frame.ensures.slots ∙ c.requires.free.slots;
}

pub free_frame-requires-clause-none : goal.free_frame-requires-clause-none
free_frame-requires-clause-none c = ap (λ (v : View). v.rights) c.in_default.ensures.none.view ∙ c.requires.rights

pub returns-clause-same : goal.returns-clause-same
returns-clause-same c = same_after c.args.seat.now c.claim_frame.new.seat c.free_frame.new.seat c.claim_frame.ensures.same c.free_frame.ensures.same

pub returns-clause-some : goal.returns-clause-some
returns-clause-some c =
    IfSome_then c.free_frame.result c.free_frame.ensures.some
    (λ right freed. freed-frame (view_of c.args.seat.now) (view_of c.claim_frame.new.seat) (view_of c.free_frame.new.seat) right.frame c.requires.lanes c.in_default.ensures.none freed)

pub returns-clause-none : goal.returns-clause-none
returns-clause-none c =
    none-then c.free_frame.result
    (λ none. finds-none (view_of c.args.seat.now) (view_of c.claim_frame.new.seat) (view_of c.free_frame.new.seat) c.in_default.ensures.none none)
    c.free_frame.ensures.none
