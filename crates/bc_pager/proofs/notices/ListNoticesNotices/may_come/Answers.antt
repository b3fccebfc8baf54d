use Rattle.bc_pager.proofs.NumberLemmas.{given-few}
use Rattle.bc_pager.proofs.notices.ListNoticesNotices.may_come.Goals as goal

pub returns-clause-few : goal.returns-clause-few
returns-clause-few c = given-few c.args.self.now
