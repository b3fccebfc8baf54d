use Rattle.std.proofs.Common.{ap, ◌∙◌, arith}
use Rattle.bc_bits.specs.Bits.{has}
use Rattle.bc_bits.specs.Counting.{count_below}
use Rattle.bc_bits.proofs.CountLemmas.{count_below-le}
use Rattle.bc_superpages.specs.declared.headers.Header.{Header}
use Rattle.heap_workshop.proofs.CountLemmas.{counted-so_far}
use Rattle.heap_workshop.proofs.counts.objects_in_cells.Goals as goal

pub overflow_add-objects : goal.overflow_add-objects
overflow_add-objects c =
    let few = c.facts.ensures.kept.few in
    let most = count_below-le (has c.header.result.now.cells) 1024 in
    let count = c.count-objects.ensures.count in
    let test = c.loop-superpage-test.true in
    let inv = c.loop-superpage.invariant in
    let size = c.superpages-superpage-end.ensures.superpages in
    grind arith

pub loop-superpage-preserved : goal.loop-superpage-preserved
loop-superpage-preserved c =
    let q = c.loop-superpage.superpage in
    counted-so_far c.args.space.now.cells q c.loop-superpage.objects c.count-objects.result c.loop-superpage.invariant.0 c.loop-superpage.invariant.1
    (c.count-objects.ensures.count ∙ ap (λ (h : Header). count_below (has h.cells) 1024) c.header.ensures.header)
