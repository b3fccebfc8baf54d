use Rattle.bc_trace.proofs.LinesAhead.{op_is_ahead}
use Rattle.bc_trace.proofs.operations.op_ahead.Goals as goal

pub returns-clause-ahead : goal.returns-clause-ahead
returns-clause-ahead c = op_is_ahead c.args.progress.now c.args.text.now c.in_ok-verb.rest.now c.in_ok-op.rest.now c.in_ok-rest.rest.now c.in_ok-rest.ensures c.in_ok-op.op c.in_ok-verb.verb c.requires c.in_ok-op.ensures.op c.in_ok-op.ensures.verb c.in_ok-op.ensures.numbers c.in_ok-verb.ensures c.in_ok-op.ensures.text
