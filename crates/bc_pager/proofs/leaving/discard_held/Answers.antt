-- The page is Absent, and its frame free.
use Rattle.bc_pins.specs.Calls.{key_of, view_of}
use Rattle.bc_pager.proofs.TakenLemmas.{vacated}
use Rattle.bc_pager.proofs.leaving.discard_held.Goals as goal

pub returns-clause-vacated : goal.returns-clause-vacated
returns-clause-vacated c =
    vacated (key_of c.args.pins.now) (view_of c.args.seat.now) (view_of c.discard-right.new.seat) (view_of c.give_frame.new.seat) c.args.held c.discard-right.result.frame
    c.requires.seat.about c.requires.none c.discard-right.ensures.view c.discard-right.ensures.frame c.give_frame.ensures.given
