use Rattle.std.proofs.Common.{◌≤◌, length, arith}
use Rattle.paging_bench.proofs.Counted.{longest-more}
use Rattle.paging_bench.proofs.phases.longest.Goals.{then-most-len, else-most-len}
use Rattle.paging_bench.proofs.phases.longest.Goals as goal

pub loop-ops-preserved : goal.loop-ops-preserved
loop-ops-preserved c =
    let up : c.loop-ops.most ≤ c.if-most-len.most = elim c.if-most-len.branch [
      | then-most-len w ↦ omega (arith, w.if-most-len.true, w.most-is, w.len-most.ensures, c.len.ensures)
      | else-most-len w ↦ omega (arith, w.most-is)
    ] in
    let here : length c.ops-item.result.items ≤ c.if-most-len.most = elim c.if-most-len.branch [
      | then-most-len w ↦ omega (arith, w.most-is, w.len-most.ensures)
      | else-most-len w ↦ omega (arith, w.if-most-len.false, w.most-is, c.len.ensures)
    ] in
    longest-more c.args.lanes.now c.loop-ops.ops-index c.ops-item.result c.loop-ops.most c.if-most-len.most c.ops-item.is c.loop-ops-test.true c.loop-ops.invariant up here
