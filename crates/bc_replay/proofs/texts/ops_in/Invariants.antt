use Rattle.std.proofs.Common.{◌≡◌, length, take}
use Rattle.std.specs.List.{sum_by}
use Rattle.bc_model.specs.Rows.{lists_of}
use Rattle.bc_replay.proofs.texts.ops_in.Given as goal

abbrev pub invariant-loop-ops : goal.invariant-loop-ops
invariant-loop-ops l = l.all ≡ sum_by length (take l.ops-index (lists_of l.lanes))
