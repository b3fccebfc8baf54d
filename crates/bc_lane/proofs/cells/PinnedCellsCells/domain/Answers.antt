use Rattle.std.proofs.Common.{ap, ◌∙◌}
use Rattle.bc_mutator.proofs.PartLemmas.{cell-domain}
use Rattle.bc_word.specs.declared.heads.Head.{Head}
use Rattle.bc_lane.proofs.cells.PinnedCellsCells.domain.Goals as goal

pub returns : goal.returns
returns g c = record {
  domain = λ s shown has.
      ap (λ (x : Head). x.domain) (c.head.ensures.head s shown has) ∙ cell-domain s c.args.cell.0 has.layout has.allocated;
}
