use Rattle.bc_model.specs.declared.values.Holder.TheVariants.{Lane}
use Rattle.bc_model.proofs.StepLaws.{reads-given, writes-given, other-holder-handed}
use Rattle.bc_model.proofs.laws.law_holder_after_give.Goals as goal

pub returns-clause-reads : goal.returns-clause-reads
returns-clause-reads c = reads-given

pub returns-clause-writes : goal.returns-clause-writes
returns-clause-writes c = writes-given

pub returns-clause-others : goal.returns-clause-others
returns-clause-others c = λ s g d ne. other-holder-handed s g.domain d (Lane g.lane) ne
