use Rattle.std.proofs.Common.{◌≡◌, ◌+◌, ◌-◌, ◌^◌, ◌≤◌, drop, length, min}
use Rattle.std.specs.Prelude.{sum_by}
use Rattle.bc_model.specs.Rows.{lists_of}
use Rattle.bc_engine.proofs.opened.operations_of.Given as goal

abbrev pub invariant-loop-ops : goal.invariant-loop-ops
invariant-loop-ops l = record {
  sum : min (l.all + sum_by length (drop l.ops-index (lists_of l.lanes))) (2 ^ 64 - 1) ≡ min (sum_by length (lists_of l.lanes)) (2 ^ 64 - 1);
  few : l.all ≤ 2 ^ 64 - 1;
}
