use Rattle.bc_image.proofs.Pictured.{some-objects, some-state}
use Rattle.bc_image.proofs.laws.law_pictured.Goals as goal

pub returns-clause-objects : goal.returns-clause-objects
returns-clause-objects c = some-objects

pub returns-clause-whole : goal.returns-clause-whole
returns-clause-whole c = some-state
