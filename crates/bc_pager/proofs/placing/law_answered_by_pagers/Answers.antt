use Rattle.bc_pager.proofs.AnsweredLemmas as lemmas
use Rattle.bc_pager.proofs.placing.law_answered_by_pagers.Goals as goal

pub returns : goal.returns
returns c = record { answered = λ pins hints old new seats told long small dealt paged claimed as_many. lemmas.answered pins hints old new seats told long small dealt paged claimed as_many }
