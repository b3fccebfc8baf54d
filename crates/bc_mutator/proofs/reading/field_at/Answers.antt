use Rattle.std.proofs.Common.{refl}
use Rattle.bc_mutator.proofs.ObjectLemmas.{field-below}
use Rattle.bc_mutator.proofs.PartLemmas.{field-there}
use Rattle.bc_mutator.proofs.reading.field_at.Goals as goal

pub returns-in-Cell-clause-field : goal.returns-in-Cell-clause-field
returns-in-Cell-clause-field g c = λ s is there less.
    let lt = c.in-Cell.ensures.cell refl s is.shown in
    field-below s c.args.chunk.now c.args.at.0 c.args.index c.field.result lt less
    (c.field.ensures.field s is.shown (field-there c.args.at.0 c.args.index is there less lt))
