use Rattle.bc_model.specs.declared.values.Holder.TheVariants.{Frozen}
use Rattle.bc_model.proofs.StepLaws.{reads-frozen, writes-frozen, other-holder-handed}
use Rattle.bc_model.proofs.laws.law_holder_after_freeze.Goals as goal

pub returns-clause-reads : goal.returns-clause-reads
returns-clause-reads c = reads-frozen

pub returns-clause-writes : goal.returns-clause-writes
returns-clause-writes c = writes-frozen

pub returns-clause-others : goal.returns-clause-others
returns-clause-others c = λ s d e ne. other-holder-handed s d e Frozen ne
