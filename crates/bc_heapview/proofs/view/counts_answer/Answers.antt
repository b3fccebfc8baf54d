use Rattle.std.proofs.Common.{◌≡◌, ◌+◌, ◌*◌, ◌≤◌, ◌++◌, ℕ, List, [], length, ap, ◌∙◌, arith}
use Rattle.bc_heapview.specs.Counts.{AreFewCounts, superpages_of}
use Rattle.bc_heapview.specs.Texts.{counts_text}
use Rattle.bc_heapview.specs.declared.tally.Count.{Count}
use Rattle.bc_heapview.proofs.BirthLemmas.{counts-need}
use Rattle.bc_heapview.proofs.view.counts_answer.Goals as goal

pub returns : goal.returns
returns c = record {
  answer = λ s pictures. (let are = c.in_ok-counts.ensures.counts s pictures in
      record {
        counts = c.in_ok-counts.counts.items;
        need = superpages_of c.in_ok-counts.counts.items;
        are_counts = are;
        is_need = counts-need s c.in_ok-counts.counts.items are;
        text_is = c.put_counts.ensures.text ∙ ap (λ (xs : List ℕ). xs ++ counts_text c.deref-2.result.now c.superpages_in-need.result) c.in_ok-text.ensures.empty
            ∙ ap (λ (ks : List Count). counts_text ks c.superpages_in-need.result) c.deref-2.ensures.value
            ∙ ap (counts_text c.in_ok-counts.counts.items) (c.superpages_in-need.ensures ∙ ap superpages_of c.deref.ensures.value);
      });
}
