use Rattle.bc_engine.proofs.AnswerLemmas.{cut-fed, done-fed, want-fed}
use Rattle.bc_engine.proofs.laws.law_fed.Goals as goal

pub returns-clause-done : goal.returns-clause-done
returns-clause-done c = done-fed

pub returns-clause-cut : goal.returns-clause-cut
returns-clause-cut c = cut-fed

pub returns-clause-want : goal.returns-clause-want
returns-clause-want c = want-fed
