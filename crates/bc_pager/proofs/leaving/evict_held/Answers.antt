-- The page is Gone, and its frame free.
use Rattle.bc_pins.specs.Calls.{key_of, view_of}
use Rattle.bc_pager.proofs.TakenLemmas.{evacuated}
use Rattle.bc_pager.proofs.leaving.evict_held.Goals as goal

pub returns-clause-evacuated : goal.returns-clause-evacuated
returns-clause-evacuated c =
    let holds = c.requires.held in
    evacuated (key_of c.args.pins.now) (view_of c.args.seat.now) (view_of c.bookmark.new.seat) (view_of c.evict-right.new.seat) (view_of c.give_frame.new.seat) holds.hand c.args.held c.evict-right.result.frame
    c.requires.seat.about c.requires.none (c.bookmark.ensures.bookmarked holds.hand holds.has) c.evict-right.ensures.view c.evict-right.ensures.frame c.give_frame.ensures.given
