use Rattle.std.proofs.Common.{◌≡◌, rules, arith, Some, None}
use Rattle.bc_words.proofs.Lists.{no_words, one_word, two_words, asked_workers}
use Rattle.bc_words.proofs.command.asked_for.Goals as goal

pub returns-in_err-workers-clause-the_one : goal.returns-in_err-workers-clause-the_one
returns-in_err-workers-clause-the_one c = λ command asked.
    let given = asked_workers _ _ _ command asked in
    let found : c.workers_of.result ≡ Some given.0 = c.workers_of.ensures.the_one given.0 given.1 in
    let not_found : c.workers_of.result ≡ None = c.in_err-workers.was in
    absurd cc

pub returns-in-empty-clause-command : goal.returns-in-empty-clause-command
returns-in-empty-clause-command c = (search rules, no_words c.args.plain.now c.in-empty.len_below, search rules)

pub returns-in_ok-ops-in-len2-clause-command : goal.returns-in_ok-ops-in-len2-clause-command
returns-in_ok-ops-in-len2-clause-command c = (
  search rules,
  two_words c.args.plain.now _ _ _ c.in-len2.len_at_least c.in-len2.len_below c.in_ok-start-in-len2.ensures.number.0 c.in_ok-ops-in-len2.ensures.number.0,
  omega (arith, c.in_ok-start-in-len2.ensures.number.2),
  omega (arith, c.in_ok-ops-in-len2.ensures.number.2),
  search rules,
)

pub returns-in-empty-2-clause-command : goal.returns-in-empty-2-clause-command
returns-in-empty-2-clause-command c = (search rules, no_words c.args.plain.now c.in-empty.len_below, search rules)

pub returns-in_ok-phases-in-len1-clause-command : goal.returns-in_ok-phases-in-len1-clause-command
returns-in_ok-phases-in-len1-clause-command c = (
  search rules,
  one_word c.args.plain.now _ _ c.in-len1.len_at_least c.in-len1.len_below c.in_ok-phases-in-len1.ensures.number.0,
  omega (arith, c.in_ok-phases-in-len1.ensures.number.2),
  search rules,
)
