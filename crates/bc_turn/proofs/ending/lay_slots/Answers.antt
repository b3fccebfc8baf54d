use Rattle.std.proofs.Common.{refl, arith}
use Rattle.bc_turn.proofs.WordLemmas.{lays-more}
use Rattle.bc_turn.proofs.ending.lay_slots.Goals as goal

pub loop-slot-preserved : goal.loop-slot-preserved
loop-slot-preserved c =
    let slots = c.slots-slot-end.ensures.slots in
    let test = c.loop-slot-test.true in
    lays-more c.args.roots.now c.loop-slot.roots c.set.new.self c.args.domain c.args.words.now c.args.start c.loop-slot.slot _ c.loop-slot.invariant c.requires.domain (omega arith) c.slots-slot-end.ensures.long refl c.set.ensures.written
