use Rattle.std.proofs.Common.{◌≡◌, ℕ, get_or, ap, sym, subst, ◌∙◌}
use Rattle.bc_lane.proofs.PageLemmas.{hand-page, read-head, shown-hand}
use Rattle.bc_superpages.specs.LayoutAt.{word_at}
use Rattle.bc_superpages.proofs.HandLemmas.{allocated-object}
use Rattle.bc_word.specs.HeadBits.{IsPackedHead}
use Rattle.bc_lane.proofs.cells.PinnedCellsCells.head.Goals as goal

pub unpack_head-requires : goal.unpack_head-requires
unpack_head-requires g c =
    let s = c.requires.cell.0 in
    let has = c.requires.cell.2 in
    let held = c.in-Some.held in
    let is : c.word.result ≡ word_at s.pages c.args.cell.0 =
    read-head g.S.Station.view held c.args.self.now.end c.args.cell.0 c.word.result s (shown-hand _ _ held _ s c.in-Some.is c.requires.cell.1)
    (hand-page _ held _ c.in-Some.is c.requires.hand) (c.word.ensures.word ∙ ap (λ (k : ℕ). get_or held.homed.page k 0) c.offset.ensures.offset) in
    subst IsPackedHead (sym is) (allocated-object s c.args.cell.0 has.layout has.allocated).packed
