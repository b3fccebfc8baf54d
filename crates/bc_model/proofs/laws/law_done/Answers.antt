use Rattle.bc_model.proofs.Outcomes.{change-done, new-answer, who-answer, len-answer, load-answer}
use Rattle.bc_model.proofs.laws.law_done.Goals as goal

pub returns-clause-change : goal.returns-clause-change
returns-clause-change c = change-done

pub returns-clause-new : goal.returns-clause-new
returns-clause-new c = new-answer

pub returns-clause-who : goal.returns-clause-who
returns-clause-who c = who-answer

pub returns-clause-len : goal.returns-clause-len
returns-clause-len c = len-answer

pub returns-clause-load : goal.returns-clause-load
returns-clause-load c = load-answer
