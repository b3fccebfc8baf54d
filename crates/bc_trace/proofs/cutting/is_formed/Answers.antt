use Rattle.std.proofs.Common.{sym, ◌∙◌}
use Rattle.bc_trace.proofs.CutLines.{formed-next, formed-stop, formed-end}
use Rattle.bc_trace.proofs.cutting.is_formed.Goals as goal

pub loop-byte-preserved : goal.loop-byte-preserved
loop-byte-preserved c = sym (formed-next c.args.line.now c.loop-byte.byte-index c.loop-byte.fresh c.in-Some.next c.loop-byte-test.true (sym c.in-Some.ensures)) ∙ c.loop-byte.invariant

pub returns-in-None : goal.returns-in-None
returns-in-None c = sym (formed-stop c.args.line.now c.loop-byte.byte-index c.loop-byte.fresh c.loop-byte-test.true (sym c.in-None.ensures)) ∙ c.loop-byte.invariant

pub returns : goal.returns
returns c = sym (formed-end c.args.line.now c.loop-byte.byte-index c.loop-byte.fresh c.loop-byte-test.false) ∙ c.loop-byte.invariant
