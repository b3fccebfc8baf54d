use Rattle.std.proofs.Common.{◌≡◌, ℕ, ◌+◌, ◌*◌, subst, arith}
use Rattle.bc_bookmarks.specs.Withholding.{Withheld}
use Rattle.bc_engine.proofs.Attempts.{ready-sound}
use Rattle.bc_engine.proofs.BudgetLemmas.{nursery-pages, runs-withheld}
use Rattle.bc_engine.proofs.budgets.withhold.Goals as goal
use Rattle.bc_engine.proofs.budgets.withhold.Goals.{After-nursery_pages-nurseries}

-- how many frames the nurseries have
the-pages : (c : After-nursery_pages-nurseries) → c.nursery_pages-nurseries.result ≡ c.args.setup.now.lanes * c.args.setup.now.nursery
the-pages c = nursery-pages c.args.setup.now c.nursery_pages-nurseries.result c.requires.ready.range c.nursery_pages-nurseries.ensures

pub withhold-requires-clause-sound : goal.withhold-requires-clause-sound
withhold-requires-clause-sound c = ready-sound c.requires.ready

pub withhold-requires-clause-nurseries : goal.withhold-requires-clause-nurseries
withhold-requires-clause-nurseries c =
    let here = goal.at.withhold-requires-clause-nurseries c in
    omega (arith, the-pages here.After-nursery_pages-nurseries, c.requires.ready.fits.nursery)

pub withhold-requires-clause-two : goal.withhold-requires-clause-two
withhold-requires-clause-two c =
    let here = goal.at.withhold-requires-clause-two c in
    omega (arith, the-pages here.After-nursery_pages-nurseries, c.requires.ready.fits.frames, c.requires.fits)

pub returns-clause-withheld : goal.returns-clause-withheld
returns-clause-withheld c =
    let here = goal.at.returns-clause-withheld c in
    subst (λ (n : ℕ). Withheld (n + c.args.frames) c.args.running.now.heap.space c.withhold.new.self.heap.space) (the-pages here.After-nursery_pages-nurseries) c.withhold.ensures.withheld

pub returns-clause-runs : goal.returns-clause-runs
returns-clause-runs c =
    let here = goal.at.returns-clause-runs c in
    let pages = the-pages here.After-nursery_pages-nurseries in
    λ lanes told.
    runs-withheld (c.nursery_pages-nurseries.result + c.args.frames) c.requires.ready (omega (arith, pages)) (omega (arith, pages, c.requires.ready.fits.frames, c.requires.fits))
    c.withhold.ensures.withheld c.withhold.ensures.rest c.withhold.ensures.sound c.withhold.ensures.stands lanes told
