-- A page that was taken is bookmarked and given up.
use Rattle.std.proofs.Common.{◌<◌, ℕ, ap, sym, subst, ◌∙◌}
use Rattle.bc_pins.specs.declared.views.View.{View}
use Rattle.bc_pins.specs.Key.{Key, pages_of}
use Rattle.bc_pins.specs.Calls.{key_of, view_of}
use Rattle.bc_pins.proofs.VisitLemmas.{holds_taken, may_put_taken}
use Rattle.bc_evict.proofs.BookmarkLemmas.{may-bookmark}
use Rattle.turn_tests.proofs.TestLemmas.{cell-there}
use Rattle.turn_tests.proofs.table.evicting.is_evicted.Goals as goal

pub take-requires-clause-page : goal.take-requires-clause-page
take-requires-clause-page c = subst (λ (p : ℕ). p < pages_of (key_of c.args.pins.now)) (sym c.page.ensures.page) (c.facts.ensures.inside c.args.cell.0 c.requires.cell)

pub put-requires-clause-held : goal.put-requires-clause-held
put-requires-clause-held c =
    holds_taken (view_of c.args.seat.now) c.take.new.seat c.page.result c.in-Ok.held c.in-Ok.ensures.ok
    (subst (λ (k : Key). c.page.result < pages_of k) (sym c.requires.at.about) (subst (λ (p : ℕ). p < pages_of (key_of c.args.pins.now)) (sym c.page.ensures.page) (c.facts.ensures.inside c.args.cell.0 c.requires.cell)))

pub put-requires-clause-may : goal.put-requires-clause-may
put-requires-clause-may c = may_put_taken (view_of c.args.seat.now) c.take.new.seat c.page.result c.in-Ok.held c.in-Ok.ensures.ok c.in-Ok.ensures.taken

pub give_up-requires-clause-held : goal.give_up-requires-clause-held
give_up-requires-clause-held c =
    holds_taken (view_of c.args.seat.now) c.take.new.seat c.page.result c.in-Ok.held c.in-Ok.ensures.ok
    (subst (λ (k : Key). c.page.result < pages_of k) (sym c.requires.at.about) (subst (λ (p : ℕ). p < pages_of (key_of c.args.pins.now)) (sym c.page.ensures.page) (c.facts.ensures.inside c.args.cell.0 c.requires.cell)))

pub give_up-requires-clause-may : goal.give_up-requires-clause-may
give_up-requires-clause-may c =
    may-bookmark (view_of c.args.seat.now) c.take.new.seat c.page.result c.in-Ok.held c.in-Ok.ensures.ok c.in-Ok.ensures.taken (sym c.remembered.ensures.remembered ∙ c.if-remembered.false)
    (cell-there c.args.pins.now c.args.seat.now c.page.result c.args.cell.0 c.requires.at c.requires.cell c.page.ensures.page)

pub give_up-requires-clause-none : goal.give_up-requires-clause-none
give_up-requires-clause-none c = ap (λ (v : View). v.rights) c.in-Ok.ensures.ok.view ∙ c.requires.none
