use Rattle.std.proofs.Common.{◌≡◌, ℕ, List, ◌++◌, take, get_or, ap, sym, ◌∙◌}
use Rattle.std.specs.List.{flat_map}
use Rattle.std.proofs.lemmas.List.{flat_map_more, take_more}
use Rattle.bc_classes.specs.Classes.{classes}
use Rattle.bc_heapview.specs.Counts.{pair_counts}
use Rattle.bc_heapview.specs.Tallies.{tally_at}
use Rattle.bc_heapview.specs.declared.tally.Count.{Count}
use Rattle.bc_heapview.proofs.tally.put_domain.Goals as goal

pub loop-class-preserved : goal.loop-class-preserved
loop-class-preserved c =
    let f : ℕ → List Count = λ (j : ℕ). pair_counts c.args.domain j (tally_at c.args.tally.now c.args.domain j) in
    let i : ℕ = c.loop-class.class-index in
    let x : ℕ = get_or classes i 0 in
    c.in_ok-put_count.ensures.counts
    ∙ ap (λ (ks : List Count). ks ++ f x) c.loop-class.invariant
    ∙ flat_map_more f c.args.counts.now.items (take i classes) x
    ∙ ap (λ (cs : List ℕ). c.args.counts.now.items ++ flat_map f cs) (sym (take_more classes i 0 c.loop-class-test.true))
