use Rattle.std.proofs.Common.{◌≡◌, ◌++◌, ◌∙◌, ap, sym, List}
use Rattle.bc_heapview.specs.Counts.{domain_counts}
use Rattle.bc_heapview.specs.Tallies.{tally_at}
use Rattle.bc_heapview.specs.declared.tally.Count.{Count}
use Rattle.bc_heapview.proofs.CountLemmas.{domains-next}
use Rattle.bc_heapview.proofs.tally.list_counts.Goals as goal

pub loop-domain-preserved : goal.loop-domain-preserved
loop-domain-preserved c =
    c.in_ok-put_domain.ensures.counts
    ∙ ap (λ (ks : List Count). ks ++ domain_counts c.loop-domain.domain (tally_at c.args.tally.now c.loop-domain.domain)) c.loop-domain.invariant
    ∙ sym (domains-next c.loop-domain.domain (tally_at c.args.tally.now))
