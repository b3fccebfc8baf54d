use Rattle.std.proofs.Common.{◌≡◌, true, drop}
use Rattle.bc_trace.specs.Reading.{formed_from}
use Rattle.bc_trace.proofs.cutting.is_formed.Given as goal

abbrev pub invariant-loop-byte : goal.invariant-loop-byte
invariant-loop-byte l = formed_from l.fresh (drop l.byte-index l.line) ≡ formed_from true l.line
