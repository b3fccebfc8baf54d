use Rattle.bc_engine.proofs.OpenedLemmas.{cut-answers, cut-rounds, cut-turns, done-answers, done-rounds, done-turns, turns-counted}
use Rattle.bc_engine.proofs.laws.law_opened.Goals as goal

pub returns-clause-done : goal.returns-clause-done
returns-clause-done c = done-turns

pub returns-clause-cut : goal.returns-clause-cut
returns-clause-cut c = cut-turns

pub returns-clause-rounds : goal.returns-clause-rounds
returns-clause-rounds c = done-rounds

pub returns-clause-cut_rounds : goal.returns-clause-cut_rounds
returns-clause-cut_rounds c = cut-rounds

pub returns-clause-counted : goal.returns-clause-counted
returns-clause-counted c = turns-counted

pub returns-clause-answers : goal.returns-clause-answers
returns-clause-answers c = done-answers

pub returns-clause-cut_answers : goal.returns-clause-cut_answers
returns-clause-cut_answers c = cut-answers
