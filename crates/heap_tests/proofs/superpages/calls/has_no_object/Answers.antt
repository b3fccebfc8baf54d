use Rattle.std.proofs.Common.{arith}
use Rattle.heap_tests.proofs.SmallLemmas.{none-cell-all}
use Rattle.heap_tests.proofs.superpages.calls.has_no_object.Goals as goal

pub returns : goal.returns
returns c = λ _.
    let count = c.superpages-superpage-end.ensures.superpages in
    let over = c.loop-superpage-test.false in
    none-cell-all c.args.space.now c.args.space.now.cells c.facts.ensures.kept.long.cells (λ q lt. c.loop-superpage.invariant q (omega arith))
