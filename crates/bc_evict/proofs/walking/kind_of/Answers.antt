-- The page's cells are some bits of its superpage.
use Rattle.std.proofs.Common.{ℕ, ◌/◌, ◌%◌, ◌<◌, List, ap, sym, subst, ◌∙◌, arith}
use Rattle.bc_bits.specs.Bits.{has}
use Rattle.bc_classes.specs.ClassNumbers.{IsClass}
use Rattle.bc_superpages.specs.Layout.{superpages}
use Rattle.bc_superpages.proofs.HeaderLemmas.{page-of_bit, bits-of_page}
use Rattle.bc_bookmarks.proofs.PageCells.{cell-on_page, none-on_page}
use Rattle.bc_pins.specs.Calls.{key_of}
use Rattle.bc_evict.proofs.walking.kind_of.Goals as goal

pub holds_cell-requires-clause-class : goal.holds_cell-requires-clause-class
holds_cell-requires-clause-class c =
    let within = c.facts.ensures.within in
    let page = c.requires.page in
    let lt : c.args.page / 4 < superpages (key_of c.args.pins.now).opening = omega arith in
    subst IsClass (sym c.header-header.ensures.class) (c.facts.ensures.layout.each (c.args.page / 4) lt).class

pub returns-then-holds_cell : goal.returns-then-holds_cell
returns-then-holds_cell c =
    let s = (key_of c.args.pins.now).opening in
    let within = c.facts.ensures.within in
    let page = c.requires.page in
    let lt : c.args.page / 4 < superpages s = omega arith in
    let class = subst IsClass (sym c.header-header.ensures.class) (c.facts.ensures.layout.each (c.args.page / 4) lt).class in
    let found = c.holds_cell.ensures.some c.if-holds_cell.true in
    let at = bits-of_page c.header-header.result.now.class (c.args.page % 4) found.0 class found.1 in
    record {
      kind = cell-on_page s.classes s.cells c.header-header.result.now.class c.args.page found.0 c.header-header.ensures.class class at.0 at.1
          (ap (λ (l : List ℕ). has l found.0) (sym c.header-header.ensures.cells) ∙ found.2);
    }

pub returns-else-holds_cell : goal.returns-else-holds_cell
returns-else-holds_cell c =
    let s = (key_of c.args.pins.now).opening in
    let within = c.facts.ensures.within in
    let page = c.requires.page in
    let lt : c.args.page / 4 < superpages s = omega arith in
    let class = subst IsClass (sym c.header-header.ensures.class) (c.facts.ensures.layout.each (c.args.page / 4) lt).class in
    record {
      kind = λ a there.
          none-on_page s.classes s.cells c.header-header.result.now.class c.args.page a c.header-header.ensures.class class
          (λ b le less. ap (λ (l : List ℕ). has l b) (sym c.header-header.ensures.cells)
          ∙ c.holds_cell.ensures.none c.if-holds_cell.false b (page-of_bit c.header-header.result.now.class (c.args.page % 4) b class le less)) there;
    }
