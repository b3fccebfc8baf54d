use Rattle.std.proofs.Common.{◌≡◌, ℕ, ◌*◌, ◌<◌, ◌≤◌, true}
use Rattle.bc_bits.specs.Bits.{has}
use Rattle.bc_frames.proofs.frames.first_clear.Given as goal

abbrev pub invariant-loop-word : goal.invariant-loop-word
invariant-loop-word l = (i : ℕ) → 64 * l.from ≤ i → i < 64 * l.word → has l.words i ≡ true
