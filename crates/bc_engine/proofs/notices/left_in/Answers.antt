use Rattle.std.proofs.Common.{arith}
use Rattle.bc_engine.proofs.CountLemmas.{left-all, left-more}
use Rattle.bc_engine.proofs.notices.left_in.Goals as goal

pub loop-index-preserved : goal.loop-index-preserved
loop-index-preserved c = record {
  sum = left-more c.args.answers.now c.loop-index.index c.args.from c.loop-index.left c.names_left-left.result _ (omega arith) c.names_left-left.ensures.names c.loop-index.invariant.sum;
  few = omega (arith, c.names_left-left.ensures.few, c.loop-index.invariant.few);
}

pub returns : goal.returns
returns c = left-all c.args.answers.now c.loop-index.index c.args.from c.loop-index.left (omega (arith, c.loop-index-test.false)) c.loop-index.invariant.sum
