use Rattle.bc_picture.proofs.StreamLemmas.{on-err, puts-start, room-next, breaks-next, puts-next, puts-end}
use Rattle.bc_picture.proofs.writing.put_births.Goals as goal

pub loop-birth-init : goal.loop-birth-init
loop-birth-init g c = puts-start _

pub put-requires : goal.put-requires
put-requires g c = record { room = rw c.from.ensures (room-next _ _ c.args.births.now c.loop-birth.birth-index c.loop-birth-test.true c.requires.room c.loop-birth.invariant) }

pub returns-in_err-put-clause-breaks : goal.returns-in_err-put-clause-breaks
returns-in_err-put-clause-breaks g c =
    on-err _ c.from_residual.result (breaks-next _ _ _ c.args.births.now c.loop-birth.birth-index c.loop-birth-test.true c.loop-birth.invariant (rw c.from.ensures at c.in_err-put.ensures.breaks))

pub loop-birth-preserved : goal.loop-birth-preserved
loop-birth-preserved g c = puts-next _ _ _ c.args.births.now c.loop-birth.birth-index c.loop-birth-test.true c.loop-birth.invariant (rw c.from.ensures at c.in_ok-put.ensures.puts)

pub returns-clause-puts : goal.returns-clause-puts
returns-clause-puts g c = puts-end _ _ c.args.births.now c.loop-birth.birth-index c.loop-birth-test.false c.loop-birth.invariant
