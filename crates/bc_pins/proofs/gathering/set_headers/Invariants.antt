use Rattle.core.specs.Mem.Slots.{slots_items}
use Rattle.bc_pins.specs.Key.{is_lanes}
use Rattle.bc_pins.specs.Closing.{HeadersBelow}
use Rattle.bc_pins.proofs.gathering.set_headers.Given as goal

abbrev pub invariant-loop-superpage : goal.invariant-loop-superpage
invariant-loop-superpage l = HeadersBelow l.fn.headers.items l.headers.items l.superpage l.superpages l.start (is_lanes l.turn) (slots_items l.closed.words)
