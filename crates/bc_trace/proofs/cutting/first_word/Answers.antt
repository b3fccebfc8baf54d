use Rattle.std.proofs.Common.{arith}
use Rattle.std.proofs.lemmas.List.{take_rest}
use Rattle.bc_trace.proofs.CutLines.{parts_at, parts_none, words_after-drop}
use Rattle.bc_trace.proofs.cutting.first_word.Goals as goal

pub returns-then-byte-eq32-clause-parts : goal.returns-then-byte-eq32-clause-parts
returns-then-byte-eq32-clause-parts c =
    rw (take_rest c.args.line.now c.loop-i.i, words_after-drop c.args.line.now c.loop-i.i c.loop-i-test.true) (parts_at c.args.line.now 32 c.loop-i.i c.loop-i-test.true c.loop-i.invariant c.if-byte-eq32.true)

pub returns-clause-parts : goal.returns-clause-parts
returns-clause-parts c = parts_none c.args.line.now 32 (λ k lt. c.loop-i.invariant k (omega arith))
