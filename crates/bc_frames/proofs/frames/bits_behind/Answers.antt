use Rattle.std.proofs.Common.{◌*◌, arith}
use Rattle.bc_frames.proofs.WordLemmas.{mask-bits}
use Rattle.bc_frames.proofs.frames.bits_behind.Goals as goal

pub returns-then-here-lt64 : goal.returns-then-here-lt64
returns-then-here-lt64 c = record { bits = λ b lt. mask-bits c.saturating_sub-here.result (64 * c.args.word) c.args.frames b c.if-here-lt64.true (omega (arith, c.saturating_sub-here.ensures)) lt }
