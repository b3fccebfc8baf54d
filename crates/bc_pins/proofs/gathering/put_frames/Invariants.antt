use Rattle.std.proofs.Common.{◌*◌, length, min}
use Rattle.core.specs.Mem.Slots.{slots_items}
use Rattle.bc_pins.specs.Closing.{PoolSet}
use Rattle.bc_pins.proofs.gathering.put_frames.Given as goal

abbrev pub invariant-loop-word : goal.invariant-loop-word
invariant-loop-word l = PoolSet l.fn.pool l.pool (min (64 * l.word) (length l.fn.pool)) l.start (slots_items l.closed.words)
