use Rattle.std.proofs.Common.{refl, inr, sym, ◌∙◌}
use Rattle.std.proofs.lemmas.Result.{on_err_weaker, on_ok_weaker}
use Rattle.bc_mutator.specs.Operations.{MayName}
use Rattle.bc_whole_heap.specs.HeapFacts.{view_of}
use Rattle.bc_whole_heap.proofs.MovingLemmas.{eligible-named}
use Rattle.bc_running.proofs.BringLemmas.{came-home, finds-gone, looks-elsewhere}
use Rattle.bc_running.proofs.touching.reload_looked_at.Goals as goal

pub reload_by_clock-requires-clause-targets : goal.reload_by_clock-requires-clause-targets
reload_by_clock-requires-clause-targets c =
    let h = c.requires.running in
    eligible-named (view_of c.args.space.now c.args.roots.now h.0 h.1) c.args.holders.now h.3.closed

pub returns-in-None-clause-brings : goal.returns-in-None-clause-brings
returns-in-None-clause-brings c = inr (looks-elsewhere c.facts.ensures.kept c.in-None.ensures.none, refl)

pub returns-in-Some-clause-brings : goal.returns-in-Some-clause-brings
returns-in-Some-clause-brings c =
    let h = c.requires.running in
    let e = c.in-Some.ensures in
    let named : MayName c.args.holders.now c.args.lane c.args.op.now = (sym c.reads_all.ensures.held ∙ c.if-not-reads_all.false, sym c.writes_target.ensures.right ∙ c.if-not-writes_target.false) in
    on_ok_weaker c.reload_by_clock.result (λ back. came-home (finds-gone h.0 h.1 c.args.op.now c.in-Some.page h.2 h.3 c.requires.op named e.within e.gone e.leads e.right) back) c.reload_by_clock.ensures.back

pub returns-in-Some-clause-looks : goal.returns-in-Some-clause-looks
returns-in-Some-clause-looks c =
    let h = c.requires.running in
    let e = c.in-Some.ensures in
    let named : MayName c.args.holders.now c.args.lane c.args.op.now = (sym c.reads_all.ensures.held ∙ c.if-not-reads_all.false, sym c.writes_target.ensures.right ∙ c.if-not-writes_target.false) in
    on_err_weaker c.reload_by_clock.result (λ same. (finds-gone h.0 h.1 c.args.op.now c.in-Some.page h.2 h.3 c.requires.op named e.within e.gone e.leads e.right).looks) c.reload_by_clock.ensures.same
