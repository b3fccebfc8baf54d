use Rattle.std.proofs.Common.{ℕ, ◌+◌, get_or, ap, ◌∙◌, arith}
use Rattle.bc_lane.proofs.PageLemmas.{hand-page, read-field, shown-hand}
use Rattle.bc_superpages.proofs.FieldLemmas.{field-room}
use Rattle.bc_lane.proofs.cells.PinnedCellsCells.field.Goals as goal

pub word-requires : goal.word-requires
word-requires g c =
    let f = c.requires.field.2 in
    let room = field-room c.requires.field.0 c.args.cell.0 c.args.index f.layout f.allocated f.within in
    let e = c.offset.ensures.offset in
    omega arith

pub returns-clause-field : goal.returns-clause-field
returns-clause-field g c = λ s shown f.
    let held = c.in-Some.held in
    read-field g.S.Station.view held c.args.self.now.end c.args.cell.0 c.args.index c.word.result s c.unpack.result (shown-hand _ _ held _ s c.in-Some.is shown)
    (hand-page _ held _ c.in-Some.is c.requires.hand) f.within c.unpack.ensures.word
    (c.word.ensures.word ∙ ap (λ (k : ℕ). get_or held.homed.page (k + 1 + c.args.index) 0) c.offset.ensures.offset)
