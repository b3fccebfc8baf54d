use Rattle.core.specs.Mem.Slots.{slots_items}
use Rattle.bc_pins.specs.Closing.{SummarySet}
use Rattle.bc_pins.proofs.gathering.set_summary.Given as goal

abbrev pub invariant-loop-word : goal.invariant-loop-word
invariant-loop-word l = SummarySet l.fn.header l.header l.superpage l.superpages (slots_items l.closed.words) l.word
