use Rattle.std.proofs.Common.{refl}
use Rattle.bc_engine.proofs.BudgetLemmas.{cut-budget, cut-kept, done-returned, last-budget, round-budget}
use Rattle.bc_engine.proofs.laws.law_budgets.Goals as goal

pub returns-clause-round : goal.returns-clause-round
returns-clause-round c = λ lanes lines e f before after line next fed r. round-budget lanes lines e f before after line next fed r

pub returns-clause-last : goal.returns-clause-last
returns-clause-last c = λ lanes lines e f before after line fed r. last-budget lanes lines e f before after line fed r

pub returns-clause-cut : goal.returns-clause-cut
returns-clause-cut c = λ lanes lines e f before after line fed r. cut-budget lanes lines e f before after line fed r

pub returns-clause-none : goal.returns-clause-none
returns-clause-none c = λ line. refl

pub returns-clause-returned : goal.returns-clause-returned
returns-clause-returned c = done-returned

pub returns-clause-kept : goal.returns-clause-kept
returns-clause-kept c = cut-kept
