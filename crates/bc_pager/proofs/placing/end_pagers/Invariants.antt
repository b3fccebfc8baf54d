use Rattle.std.proofs.Common.{◌≡◌, ◌++◌, replicate, vec_capacity}
use Rattle.bc_pager.specs.declared.answers.Answer.TheVariants.{Declined}
use Rattle.bc_pager.proofs.placing.end_pagers.Given as goal

abbrev pub invariant-loop : goal.invariant-loop
invariant-loop l = record {
  answers : l.answers.items ≡ l.fn.answers.items ++ replicate l.counter Declined;
  room : vec_capacity l.answers ≡ vec_capacity l.fn.answers;
}
