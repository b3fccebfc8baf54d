use Rattle.core.specs.Mem.Slots.{slots_items}
use Rattle.bc_pins.specs.Closing.{PagesSet}
use Rattle.bc_pins.proofs.gathering.set_states.Given as goal

abbrev pub invariant-loop-place : goal.invariant-loop-place
invariant-loop-place l = PagesSet l.fn.header l.header l.superpage (slots_items l.closed.words) l.place
