use Rattle.std.proofs.Common.{Some, sym, subst}
use Rattle.bc_lane.specs.Shown.{IsOwnPage, ShowsPages}
use Rattle.bc_lane.proofs.PageLemmas.{hand-page, shown-hand, shows-remembered}
use Rattle.bc_pins.specs.declared.holding.Held.{Held}
use Rattle.bc_superpages.specs.declared.headers.PageState.TheVariants.{Remembered}
use Rattle.bc_superpages.specs.LayoutAt.{with_state}
use Rattle.bc_lane.proofs.cells.PinnedCellsCells.remember.Goals as goal

pub returns-clause-remembered : goal.returns-clause-remembered
returns-clause-remembered g c = λ s shown l less.
    let held = c.in-Some.held in
    subst (λ (x : Held). ShowsPages g.S.Station.view (Some x) c.args.self.now.end (record s { states = with_state s.states c.args._page Remembered })) (sym c.remember.ensures.remembered)
    (shows-remembered g.S.Station.view held c.args.self.now.end s c.args._page (shown-hand _ _ held _ s c.in-Some.is shown) l less (hand-page _ held _ c.in-Some.is c.requires.hand) (subst (IsOwnPage g.S.Station.view) (hand-page _ held _ c.in-Some.is c.requires.hand) c.requires.own.1))
