use Rattle.std.proofs.Common.{◌≡◌, ◌∙◌, ap, sym, take, take_all, arith}
use Rattle.std.proofs.lemmas.List.Sums.{sum_by_more, sum_by_more_le}
use Rattle.bc_heapview.specs.Counts.{superpages_of}
use Rattle.bc_heapview.specs.declared.tally.Count.{Count}
use Rattle.bc_heapview.proofs.CountLemmas.{few-sum}
use Rattle.bc_heapview.proofs.tally.superpages_in.Goals as goal

abbrev no_count : Count
no_count = record { domain = 0; class = 0; objects = 0; superpages = 0 }

pub overflow_add-need : goal.overflow_add-need
overflow_add-need c =
    let le = sum_by_more_le (λ (k : Count). k.superpages) c.args.counts.now c.loop-count.count-index no_count c.loop-count-test.true in
    let most = few-sum c.args.counts.now c.requires.few in
    let so_far = c.loop-count.invariant in
    omega arith

pub loop-count-preserved : goal.loop-count-preserved
loop-count-preserved c =
    let more = sum_by_more (λ (k : Count). k.superpages) c.args.counts.now c.loop-count.count-index no_count c.loop-count-test.true in
    let so_far = c.loop-count.invariant in
    omega arith

pub returns : goal.returns
returns c = c.loop-count.invariant ∙ ap superpages_of (take_all c.loop-count.count-index c.args.counts.now c.loop-count-test.false)
