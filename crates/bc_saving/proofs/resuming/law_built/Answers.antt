use Rattle.bc_saving.proofs.BuiltParts.{adopted-built, stands-built}
use Rattle.bc_saving.proofs.resuming.law_built.Goals as goal

pub returns-clause-adopt : goal.returns-clause-adopt
returns-clause-adopt c = λ l r s is built. adopted-built l r s is built

pub returns-clause-stands : goal.returns-clause-stands
returns-clause-stands c = λ l r s is built. stands-built l r s is built
