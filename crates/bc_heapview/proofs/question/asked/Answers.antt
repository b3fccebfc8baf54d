use Rattle.std.proofs.Common.{◌≡◌, rules, arith, Some, None}
use Rattle.bc_words.proofs.Lists.{no_words, two_words}
use Rattle.bc_heapview.proofs.question.asked.Goals as goal

pub returns-in-empty-clause-question : goal.returns-in-empty-clause-question
returns-in-empty-clause-question c = (search rules, no_words c.args.values.now c.in-empty.len_below)

pub returns-in_ok-serial-in-len2-clause-question : goal.returns-in_ok-serial-in-len2-clause-question
returns-in_ok-serial-in-len2-clause-question c = (
  search rules,
  two_words c.args.values.now _ _ _ c.in-len2.len_at_least c.in-len2.len_below c.in_ok-lane-in-len2.ensures.number.0 c.in_ok-serial-in-len2.ensures.number.0,
  omega (arith, c.in_ok-lane-in-len2.ensures.number.2),
  omega (arith, c.in_ok-serial-in-len2.ensures.number.1),
  omega (arith, c.in_ok-serial-in-len2.ensures.number.2),
)
