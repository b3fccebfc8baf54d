use Rattle.std.proofs.Common.{◌≡◌, ◌++◌, take, vec_capacity}
use Rattle.bc_pager.proofs.answers.keep_answers.Given as goal

abbrev pub invariant-loop-answer : goal.invariant-loop-answer
invariant-loop-answer l = record {
  kept : l.answers.items ≡ l.initial.answers.items ++ take l.answer-index l.more;
  room : vec_capacity l.answers ≡ vec_capacity l.initial.answers;
}
