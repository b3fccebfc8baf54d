use Rattle.std.proofs.Common.{ℕ, List, ◌++◌, ap, subst, ◌∙◌}
use Rattle.bc_churn.specs.Counts.{churn_text}
use Rattle.bc_replay.proofs.Pieces.{front-taken}
use Rattle.bc_replay.specs.Endings.{WritesFront}
use Rattle.bc_cli.proofs.churn.put_summary.Goals as goal

pub returns-clause-write_fault : goal.returns-clause-write_fault
returns-clause-write_fault g c = λ _.
    subst (WritesFront _ _) (c.deref.ensures.value ∙ c.put_churn.ensures.text ∙ ap (λ (before : List ℕ). before ++ churn_text c.args.start c.args.ops c.args.run.counts) c.requires.empty) (front-taken _ _ _ _ _ c.in-Err.ensures.front)
