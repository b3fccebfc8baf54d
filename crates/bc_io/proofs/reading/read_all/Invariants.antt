use Rattle.std.proofs.Common.{◌≡◌, ◌-◌, ◌≤◌, take, vec_len}
use Rattle.bc_io.specs.Told.{LeftFalls}
use Rattle.bc_io.proofs.reading.read_all.Given as goal

abbrev pub invariant-loop-bytes : goal.invariant-loop-bytes
invariant-loop-bytes g l = record {
  within : l.filled ≤ l.limit;
  room : l.filled ≤ vec_len l.bytes;
  given : LeftFalls (g.S.Source.left l.fn.source) (g.S.Source.left l.source) (take l.filled l.bytes.items);
  firm : g.S.Source.faults l.source ≡ g.S.Source.faults l.fn.source;
}

abbrev pub decreases-loop-bytes : goal.decreases-loop-bytes
decreases-loop-bytes g l = l.limit - l.filled
