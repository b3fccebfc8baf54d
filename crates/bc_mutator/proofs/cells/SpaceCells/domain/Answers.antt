use Rattle.std.proofs.Common.{ap, arith}
use Rattle.bc_superpages.specs.Layout.{Layout, superpages}
use Rattle.bc_superpages.proofs.HandLemmas.{allocated-superpage}
use Rattle.bc_mutator.proofs.cells.SpaceCells.domain.Goals as goal

pub header-requires : goal.header-requires
header-requires c =
    let s = c.requires.cell.0 in
    let has = c.requires.cell.2 in
    let within = allocated-superpage s c.args.cell.0 has.layout has.allocated in
    let same = ap (λ (t : Layout). superpages t) c.requires.cell.1 in
    let is = c.superpage.ensures.superpage in
    omega arith
