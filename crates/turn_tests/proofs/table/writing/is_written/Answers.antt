-- What was written may be put back.
use Rattle.std.proofs.Common.{◌≡◌, ◌<◌, ℕ, ap, sym, subst, ◌∙◌}
use Rattle.bc_pins.specs.declared.holding.Held.{Held}
use Rattle.bc_pins.specs.declared.taking.Want.TheVariants.{Work}
use Rattle.bc_pins.specs.Key.{pages_of, owner}
use Rattle.bc_pins.specs.Views.{has_role}
use Rattle.bc_pins.specs.Contents.{IsContent, RefersYoung}
use Rattle.bc_pins.specs.Calls.{key_of, view_of, HoldsPage, MayPut}
use Rattle.bc_pins.proofs.VisitLemmas.{holds_worked}
use Rattle.turn_tests.proofs.TestLemmas.{object-in-hand, may-put}
use Rattle.turn_tests.proofs.table.writing.is_written.Goals as goal

pub take-requires-clause-page : goal.take-requires-clause-page
take-requires-clause-page c = subst (λ (p : ℕ). p < pages_of (key_of c.args.pins.now)) (sym c.page.ensures.page) (c.facts.ensures.inside c.args.cell.0 c.requires.cell)

pub write_first-written-requires-clause-fixed : goal.write_first-written-requires-clause-fixed
write_first-written-requires-clause-fixed c =
    ((key_of c.args.pins.now).opening, object-in-hand c.args.pins.now c.args.seat.now c.take.new.seat c.page.result c.args.cell.0 c.in-Ok.held Work c.requires.at c.in-Ok.ensures.ok c.in-Ok.ensures.taken c.facts.ensures.layout c.requires.cell c.page.ensures.page)

pub put-requires-clause-held : goal.put-requires-clause-held
put-requires-clause-held c =
    subst (HoldsPage c.take.new.seat) (sym c.write_first-written.ensures.same)
    (holds_worked c.args.pins.now c.args.seat.now c.take.new.seat c.page.result c.in-Ok.held c.write_first-written.new.held.homed.page c.requires.at c.in-Ok.ensures.ok
    (subst (λ (p : ℕ). p < pages_of (key_of c.args.pins.now)) (sym c.page.ensures.page) (c.facts.ensures.inside c.args.cell.0 c.requires.cell)))

pub put-requires-clause-may : goal.put-requires-clause-may
put-requires-clause-may c =
    let s = (key_of c.args.pins.now).opening in
    let g = c.in-Ok.ensures.ok in
    let object = object-in-hand c.args.pins.now c.args.seat.now c.take.new.seat c.page.result c.args.cell.0 c.in-Ok.held Work c.requires.at c.in-Ok.ensures.ok c.in-Ok.ensures.taken c.facts.ensures.layout c.requires.cell c.page.ensures.page in
    let page : c.write_first-written.new.held.page ≡ c.page.result = ap (λ (h : Held). h.page) c.write_first-written.ensures.same ∙ g.is in
    subst (MayPut c.take.new.seat) (sym c.write_first-written.ensures.same)
    (may-put c.args.pins.now c.args.seat.now c.take.new.seat c.page.result c.in-Ok.held c.write_first-written.new.held.homed.page c.requires.at g c.in-Ok.ensures.taken
    (subst (λ (p : ℕ). IsContent s p c.write_first-written.new.held.homed.page) page (c.write_first-written.ensures.fixed s object).fixed)
    (λ y. subst (λ (p : ℕ). RefersYoung s p c.in-Ok.held.homed.page) g.is (c.write_first-written.ensures.young s object (subst (λ (p : ℕ). RefersYoung s p c.write_first-written.new.held.homed.page) (sym g.is) y)))
    (subst (λ (p : ℕ). 0 < has_role (view_of c.args.seat.now) (owner (key_of c.args.pins.now) p)) (sym c.page.ensures.page) c.requires.lane))
