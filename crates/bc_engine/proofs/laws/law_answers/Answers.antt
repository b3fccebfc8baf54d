use Rattle.bc_engine.proofs.AnswerLemmas.{cut-answered, done-answered}
use Rattle.bc_engine.proofs.TurnLemmas.{line-number}
use Rattle.bc_engine.proofs.laws.law_answers.Goals as goal

pub returns-clause-done : goal.returns-clause-done
returns-clause-done c = done-answered

pub returns-clause-cut : goal.returns-clause-cut
returns-clause-cut c = cut-answered

pub returns-clause-lines : goal.returns-clause-lines
returns-clause-lines c = line-number
