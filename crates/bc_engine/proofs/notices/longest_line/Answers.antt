use Rattle.std.proofs.Common.{arith}
use Rattle.bc_engine.proofs.TurnLemmas.{longest-all, longest-more}
use Rattle.bc_engine.proofs.notices.longest_line.Goals as goal

pub loop-line-preserved : goal.loop-line-preserved
loop-line-preserved c =
    longest-more c.args.lines.now c.loop-line.line-index c.loop-line.most c.larger-most.result c.line-item.result c.loop-line-test.true c.line-item.is (omega (arith, c.larger-most.ensures, c.notices_of.ensures)) c.loop-line.invariant

pub returns : goal.returns
returns c = longest-all c.args.lines.now c.loop-line.line-index c.loop-line.most (omega (arith, c.loop-line-test.false)) c.loop-line.invariant
