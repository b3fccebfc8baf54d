-- The page that the second lane took is in hand, and may be put back as it is.
use Rattle.bc_pins.specs.declared.taking.Want.TheVariants.{Work}
use Rattle.turn_tests.proofs.TestLemmas.{visited-held, visited-may-put}
use Rattle.turn_tests.proofs.table.taking.is_read.Goals as goal

pub put-requires-clause-held : goal.put-requires-clause-held
put-requires-clause-held c = visited-held c.args.pins.now c.args.second.now c.take.new.seat c.args.page Work c.in-Ok.held c.requires.second.0 c.in-Ok.ensures.ok c.requires.page

pub put-requires-clause-may : goal.put-requires-clause-may
put-requires-clause-may c = visited-may-put c.args.pins.now c.args.second.now c.take.new.seat c.args.page Work c.in-Ok.held c.requires.second.0 c.in-Ok.ensures.ok c.in-Ok.ensures.taken
