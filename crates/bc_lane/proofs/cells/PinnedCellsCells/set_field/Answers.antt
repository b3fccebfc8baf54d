use Rattle.std.proofs.Common.{◌≡◌, ◌+◌, ℕ, Some, set, ap, sym, subst, ◌∙◌, arith}
use Rattle.bc_lane.specs.Shown.{IsOwnPage, ShowsPages}
use Rattle.bc_lane.proofs.PageLemmas.{hand-page, shown-hand, shows-written}
use Rattle.bc_pins.specs.declared.holding.Held.{Held}
use Rattle.bc_superpages.specs.LayoutAt.{with_word}
use Rattle.bc_superpages.proofs.FieldLemmas.{field-room}
use Rattle.bc_word.specs.Addresses.{offset_of}
use Rattle.bc_word.specs.WordBits.{IsPacked, word_bits}
use Rattle.bc_lane.proofs.cells.PinnedCellsCells.set_field.Goals as goal

pub set-requires : goal.set-requires
set-requires g c =
    let f = c.requires.field.2 in
    let room = field-room c.requires.field.0 c.args.cell.0 c.args.index f.layout f.allocated f.within in
    let e = c.offset.ensures.offset in
    omega arith

pub returns-clause-written : goal.returns-clause-written
returns-clause-written g c = λ s shown f may.
    let held = c.in-Some.held in
    let at = c.args.cell.0 in
    let i = c.args.index in
    let w = c.args.word in
    let is : c.set.new.self ≡ record held { homed = record held.homed { page = set held.homed.page (offset_of at + 1 + i) (word_bits w) } } =
    c.set.ensures.written
    ∙ ap (λ (k : ℕ). record held { homed = record held.homed { page = set held.homed.page (k + 1 + i) c.pack.result } }) c.offset.ensures.offset
    ∙ ap (λ (n : ℕ). record held { homed = record held.homed { page = set held.homed.page (offset_of at + 1 + i) n } }) c.pack.ensures.bits in
    subst (λ (x : Held). ShowsPages g.S.Station.view (Some x) c.args.self.now.end (record s { pages = with_word s.pages (at + 1 + i) (word_bits w) })) (sym is)
    (shows-written g.S.Station.view held c.args.self.now.end s at i w (shown-hand _ _ held _ s c.in-Some.is shown) (hand-page _ held _ c.in-Some.is c.requires.hand) (subst (IsOwnPage g.S.Station.view) (hand-page _ held _ c.in-Some.is c.requires.hand) c.requires.own.1) f may
    (subst IsPacked c.pack.ensures.bits c.pack.ensures.packed))
