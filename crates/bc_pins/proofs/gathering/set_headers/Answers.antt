use Rattle.std.proofs.Common.{◌≡◌, ◌≤◌, ℕ, ◌+◌, ◌*◌, get_or, ◌∙◌, sym, subst, arith}
use Rattle.std.proofs.lemmas.List.{get_or_default}
use Rattle.core.specs.Mem.Slots.{slots_items}
use Rattle.bc_superpages.specs.Headers.{unused_header}
use Rattle.bc_pins.specs.Key.{page_at}
use Rattle.bc_pins.specs.Closing.{IsWritable}
use Rattle.bc_pins.proofs.HeaderLemmas.{headers_none, headers_more}
use Rattle.bc_pins.proofs.gathering.set_headers.Goals as goal

pub loop-superpage-init : goal.loop-superpage-init
loop-superpage-init c = headers_none _ _ _ _ _

pub set_header-requires-clause-few : goal.set_header-requires-clause-few
set_header-requires-clause-few c = λ i less.
    let lt = c.loop-superpage-test.true in
    let there : page_at (4 * c.loop-superpage.superpage + i) ≡ 16 * c.loop-superpage.superpage + i = omega arith in
    subst (λ (n : ℕ). get_or (slots_items c.args.closed.now.words) n 0 ≤ 4) there (c.requires.few (4 * c.loop-superpage.superpage + i) (omega arith))

pub set_header-requires-clause-writable : goal.set_header-requires-clause-writable
set_header-requires-clause-writable c =
    let lt = c.loop-superpage-test.true in
    let inv = c.loop-superpage.invariant in
    let size = inv.long in
    let room = c.requires.superpages in
    let is = c.index_mut.ensures.value ∙ get_or_default c.loop-superpage.headers.items c.loop-superpage.superpage _ unused_header (omega arith) ∙ inv.far c.loop-superpage.superpage (omega arith) in
    subst IsWritable (sym is) (c.requires.writable c.loop-superpage.superpage lt)

pub loop-superpage-preserved : goal.loop-superpage-preserved
loop-superpage-preserved c =
    let lt = c.loop-superpage-test.true in
    let inv = c.loop-superpage.invariant in
    let size = inv.long in
    let room = c.requires.superpages in
    headers_more _ _ c.loop-superpage.superpage _ _ _ _ _ _ inv (omega arith)
    (c.index_mut.ensures.value ∙ get_or_default c.loop-superpage.headers.items c.loop-superpage.superpage _ unused_header (omega arith)) c.set_header.ensures.set
