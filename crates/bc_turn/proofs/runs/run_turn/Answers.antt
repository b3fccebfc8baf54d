use Rattle.std.proofs.Common.{Option, Some, refl, sym, subst}
use Rattle.bc_pager.specs.Feeding.{ServesLive}
use Rattle.bc_pager.specs.declared.paging.Paging.{Paging}
use Rattle.bc_turn.proofs.runs.run_turn.Goals as goal

pub returns-in-Some-clause-served : goal.returns-in-Some-clause-served
returns-in-Some-clause-served g c =
    subst (λ (o : Option Paging). ServesLive c.args.pins.now (g.N.Notices.taken c.args.live.now) (g.N.Notices.taken c.run_live.new.live) (g.N.Notices.since c.args.live.now) (g.N.Notices.since c.run_live.new.live) o (Some c.run_live.new.paging)) (sym c.in-Some.is)
    (c.run_live.new.paging, refl, c.run_live.ensures.served)
