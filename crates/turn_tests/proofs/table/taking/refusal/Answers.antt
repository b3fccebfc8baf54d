-- What was taken may be put back as it is.
use Rattle.turn_tests.proofs.TestLemmas.{visited-held, visited-may-put}
use Rattle.turn_tests.proofs.table.taking.refusal.Goals as goal

pub put-requires-clause-held : goal.put-requires-clause-held
put-requires-clause-held c = visited-held c.args.pins.now c.args.seat.now c.take.new.seat c.args.page c.args.want c.in-Ok.held c.requires.at c.in-Ok.ensures.ok c.requires.page

pub put-requires-clause-may : goal.put-requires-clause-may
put-requires-clause-may c = visited-may-put c.args.pins.now c.args.seat.now c.take.new.seat c.args.page c.args.want c.in-Ok.held c.requires.at c.in-Ok.ensures.ok c.in-Ok.ensures.taken
