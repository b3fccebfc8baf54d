use Rattle.bc_picture.proofs.StreamLemmas.{on-err, puts-start, room-next, breaks-next, puts-next, puts-end}
use Rattle.bc_picture.proofs.putting.put_all.Goals as goal

pub loop-item-init : goal.loop-item-init
loop-item-init g c = puts-start _

pub put-requires : goal.put-requires
put-requires g c = record { room = room-next _ _ c.args.items.now c.loop-item.item-index c.loop-item-test.true c.requires.room c.loop-item.invariant }

pub returns-in_err-put-clause-breaks : goal.returns-in_err-put-clause-breaks
returns-in_err-put-clause-breaks g c = on-err _ c.from_residual.result (breaks-next _ _ _ c.args.items.now c.loop-item.item-index c.loop-item-test.true c.loop-item.invariant c.in_err-put.ensures.breaks)

pub loop-item-preserved : goal.loop-item-preserved
loop-item-preserved g c = puts-next _ _ _ c.args.items.now c.loop-item.item-index c.loop-item-test.true c.loop-item.invariant c.in_ok-put.ensures.puts

pub returns-clause-puts : goal.returns-clause-puts
returns-clause-puts g c = puts-end _ _ c.args.items.now c.loop-item.item-index c.loop-item-test.false c.loop-item.invariant
