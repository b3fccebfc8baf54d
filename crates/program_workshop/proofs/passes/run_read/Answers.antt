use Rattle.std.proofs.Common.{rules, ◌≡◌, arith}
use Rattle.bc_replay.proofs.Bytes.{few-read}
use Rattle.program_workshop.proofs.passes.run_read.Goals as goal

pub run_trace-requires-clause-phases : goal.run_trace-requires-clause-phases
run_trace-requires-clause-phases g c κs within = omega (arith, few-read _ _ _ c.in-Ok.ensures.found)

pub run_trace-requires-clause-ops : goal.run_trace-requires-clause-ops
run_trace-requires-clause-ops g c κs within = omega (arith, few-read _ _ _ c.in-Ok.ensures.found)
