use Rattle.std.proofs.Common.{rules, ◌≡◌, ℕ, ◌∙◌, ◌<◌, ◌≤◌, List, length, ap, arith, subst, sym}
use Rattle.bc_engine.proofs.Births.{births-opened}
use Rattle.bc_engine.specs.EngineFacts.{HasRoomForBirths}
use Rattle.bc_engine.specs.Engines.{EngineView}
use Rattle.bc_engine.specs.Lanes.{of_lane}
use Rattle.bc_model.specs.Lists.{PhaseLists, TraceLists}
use Rattle.bc_model.specs.Rows.{lists_of}
use Rattle.bc_model.specs.declared.operations.Op.{Op}
use Rattle.paging_bench.proofs.Counted.{budgets-at, phase-at, room-behind, room-here}
use Rattle.paging_bench.proofs.phases.replay.Goals as goal

pub loop-index-init : goal.loop-index-init
loop-index-init g c =
    let same = c.set_pacing.ensures in
    record {
      setup = ap (λ (e : EngineView). e.setup) same ∙ c.in_ok-engine.ensures.setup.0 ∙ ap (λ (x : TraceLists). x.setup) c.trace.view_is;
      going = ap (λ (e : EngineView). e.ended) same ∙ c.in_ok-engine.ensures.setup.1;
      births = subst (λ (e : EngineView). HasRoomForBirths e _) (sym same) (births-opened c.trace.inside.setup c.in_ok-engine.engine _ (omega arith) c.in_ok-engine.ensures.opening);
      small = omega arith;
    }

pub replay_phase-requires-clause-phase : goal.replay_phase-requires-clause-phase
replay_phase-requires-clause-phase g c κs within =
    let lt : c.loop-index.index < length c.args.trace.now.phases = omega (arith, ap (λ (x : TraceLists). length x.phases) c.trace.view_is, c.len-index-end.ensures) in
    phase-at c.args.trace.now _ _ _ _ c.requires (ap (λ (x : TraceLists). x.phases) c.trace.view_is) lt c.index-phase.ensures c.loop-index.invariant.setup

pub replay_phase-requires-clause-budgets : goal.replay_phase-requires-clause-budgets
replay_phase-requires-clause-budgets g c κs within =
    let lt : c.loop-index.index < length c.args.trace.now.phases = omega (arith, ap (λ (x : TraceLists). length x.phases) c.trace.view_is, c.len-index-end.ensures) in
    budgets-at c.args.trace.now _ _ _ _ c.requires (ap (λ (x : TraceLists). x.phases) c.trace.view_is) lt c.index-phase.ensures c.loop-index.invariant.setup

pub replay_phase-requires-clause-births : goal.replay_phase-requires-clause-births
replay_phase-requires-clause-births g c κs within =
    let lanes : lists_of c.deref.result.now ≡ c.index-phase.result.now.lanes = ap lists_of c.deref.ensures.value ∙ ap (λ (p : PhaseLists). p.lanes) c.phase.view_is in
    let long : (j : ℕ) → length (of_lane c.index-phase.result.now.lanes j) ≤ c.longest-births.result =
    subst (λ (ls : List (List Op)). (j : ℕ) → length (of_lane ls j) ≤ c.longest-births.result) lanes c.longest-births.ensures in
    room-here c.loop-index.engine c.index-phase.result.now.lanes c.loop-index.left c.longest-births.result c.loop-index.invariant.births long (omega (arith, c.if-left-births.false))

pub loop-index-preserved : goal.loop-index-preserved
loop-index-preserved g c =
    let lanes : lists_of c.deref.result.now ≡ c.index-phase.result.now.lanes = ap lists_of c.deref.ensures.value ∙ ap (λ (p : PhaseLists). p.lanes) c.phase.view_is in
    let long : (j : ℕ) → length (of_lane c.index-phase.result.now.lanes j) ≤ c.longest-births.result =
    subst (λ (ls : List (List Op)). (j : ℕ) → length (of_lane ls j) ≤ c.longest-births.result) lanes c.longest-births.ensures in
    let fits : c.longest-births.result ≤ c.loop-index.left = omega (arith, c.if-left-births.false) in
    record {
      setup = c.replay_phase.ensures.setup ∙ c.loop-index.invariant.setup;
      going = search rules;
      births = c.replay_phase.ensures.births _ (room-behind c.loop-index.engine c.index-phase.result.now.lanes c.loop-index.left c.longest-births.result c.loop-index.invariant.births long fits);
      small = omega (arith, c.loop-index.invariant.small);
    }
