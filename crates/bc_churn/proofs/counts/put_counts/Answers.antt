use Rattle.std.proofs.Common.{◌≡◌, ◌++◌, ℕ, List, subst}
use Rattle.bc_churn.specs.Counts.{count_lines, kind_names}
use Rattle.bc_churn.proofs.Counting.{lines-made}
use Rattle.bc_churn.proofs.counts.put_counts.Goals as goal

pub returns-clause-text : goal.returns-clause-text
returns-clause-text c =
    subst (λ (kinds : List ℕ). c.put_count-11.new.out.items ≡ c.args.out.now.items ++ count_lines kind_names kinds 0) c.counts.view_is
    (lines-made c.counts.inside.kinds _ _ _ _ _ _ _ _ _ _ _ _ c.put_count.ensures.text c.put_count-2.ensures.text c.put_count-3.ensures.text c.put_count-4.ensures.text c.put_count-5.ensures.text c.put_count-6.ensures.text c.put_count-7.ensures.text c.put_count-8.ensures.text c.put_count-9.ensures.text c.put_count-10.ensures.text c.put_count-11.ensures.text)
