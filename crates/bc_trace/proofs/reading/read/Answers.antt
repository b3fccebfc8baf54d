use Rattle.bc_trace.proofs.Answered.{is_found, is_short, is_spelled, is_fault, is_faulty}
use Rattle.bc_trace.proofs.reading.read.Goals as goal

pub returns-clause-found : goal.returns-clause-found
returns-clause-found c = is_found c.args.bytes.now c.read_lines.result c.read_lines.ensures

pub returns-clause-spelled : goal.returns-clause-spelled
returns-clause-spelled c = is_spelled c.args.bytes.now c.read_lines.result c.read_lines.ensures

pub returns-clause-short : goal.returns-clause-short
returns-clause-short c = is_short c.args.bytes.now c.read_lines.result c.read_lines.ensures

pub returns-clause-fault : goal.returns-clause-fault
returns-clause-fault c = is_fault c.args.bytes.now c.read_lines.result c.read_lines.ensures

pub returns-clause-faulty : goal.returns-clause-faulty
returns-clause-faulty c = is_faulty c.args.bytes.now c.read_lines.result c.read_lines.ensures
