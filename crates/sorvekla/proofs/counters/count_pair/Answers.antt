use Rattle.std.proofs.Common.{if◌then◌else◌, ap, ◌∙◌, arith}
use Rattle.bc_bits.specs.Bits.{has}
use Rattle.bc_bits.specs.Counting.{count_below}
use Rattle.bc_superpages.specs.declared.headers.Header.{Header}
use Rattle.bc_whole_heap.specs.Counting.{is_of_pair}
use Rattle.sorvekla.proofs.PairLemmas.{counted-pair}
use Rattle.sorvekla.proofs.counters.count_pair.Goals as goal

pub overflow_add-objects : goal.overflow_add-objects
overflow_add-objects c =
    let few = c.facts.ensures.kept.few in
    let most = c.count_in-objects.ensures.few in
    let test = c.loop-superpage-test.true in
    let inv = c.loop-superpage.invariant in
    let size = c.superpages-superpage-end.ensures.superpages in
    grind arith

pub loop-superpage-preserved : goal.loop-superpage-preserved
loop-superpage-preserved c =
    let q = c.loop-superpage.superpage in
    counted-pair c.args.space.now c.args.domain c.args.class q c.loop-superpage.objects c.count_in-objects.result c.loop-superpage.invariant.0 c.loop-superpage.invariant.1
    (c.count_in-objects.ensures.count ∙ ap (λ (h : Header). if is_of_pair c.args.domain c.args.class h then count_below (has h.cells) 1024 else 0) c.header.ensures.header)
