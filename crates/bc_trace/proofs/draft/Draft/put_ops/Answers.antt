use Rattle.std.proofs.Common.{◌∙◌, arith}
use Rattle.bc_trace.specs.Lines.{op}
use Rattle.bc_trace.specs.Drafts.{shown}
use Rattle.bc_trace.proofs.LinesAhead.{went_ahead}
use Rattle.bc_trace.proofs.draft.Draft.put_ops.Goals as goal

pub loop-op-preserved : goal.loop-op-preserved
loop-op-preserved c = record {
  progress = c.in_ok-put_op.ensures.progress ∙ c.loop-op.invariant.progress;
  count = omega (arith, c.in-Some.ensures.shorter);
  more = omega arith;
  reads = went_ahead (shown c.loop-op.self) (shown c.put_op.new.self) c.loop-op.count c.loop-op.rest.now c.in-Some.after.now (op c.in-Some.op) c.in-Some.ensures.ahead c.in_ok-put_op.ensures.put ∙ c.loop-op.invariant.reads;
}
