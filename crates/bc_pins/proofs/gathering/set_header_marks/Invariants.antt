use Rattle.core.specs.Mem.Slots.{slots_items}
use Rattle.bc_pins.specs.Closing.{MarksSet}
use Rattle.bc_pins.proofs.gathering.set_header_marks.Given as goal

abbrev pub invariant-loop-word : goal.invariant-loop-word
invariant-loop-word l = MarksSet l.fn.header l.header l.superpage l.superpages l.start (slots_items l.closed.words) l.word
