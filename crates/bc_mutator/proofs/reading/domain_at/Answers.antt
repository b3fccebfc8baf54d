use Rattle.std.proofs.Common.{refl, sym, ap, ◌∙◌}
use Rattle.bc_memory.specs.Memory.{Cell}
use Rattle.bc_mutator.proofs.ObjectLemmas.{cell_of-below, there-above}
use Rattle.bc_mutator.proofs.PartLemmas.{cell-domain, cell-there}
use Rattle.bc_mutator.proofs.reading.domain_at.Goals as goal

pub head-requires : goal.head-requires
head-requires g c =
    let t = c.requires.there in
    there-above t.0 c.args.chunk.now c.args.at.0 t.1.layout t.2 (c.in-Chunk.ensures.chunk refl t.0 t.1.shown)

pub returns-in-Cell-clause-domain : goal.returns-in-Cell-clause-domain
returns-in-Cell-clause-domain g c = λ s is there.
    let lt = c.in-Cell.ensures.cell refl s is.shown in
    let has = cell-there c.args.at.0 is there lt in
    c.domain.ensures.domain s is.shown has ∙ sym (cell-domain s c.args.at.0 is.layout has.allocated)
    ∙ sym (ap (λ (x : Cell). x.head.domain) (cell_of-below s c.args.chunk.now c.args.at.0 lt))
