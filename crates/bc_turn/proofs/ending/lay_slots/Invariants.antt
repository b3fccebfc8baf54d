use Rattle.bc_turn.specs.Taking.{LaysSlots}
use Rattle.bc_turn.proofs.ending.lay_slots.Given as goal

abbrev pub invariant-loop-slot : goal.invariant-loop-slot
invariant-loop-slot l = LaysSlots l.fn.roots l.domain l.words l.start l.slot l.roots
