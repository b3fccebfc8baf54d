use Rattle.std.proofs.Common.{◌≡◌, drop}
use Rattle.bc_model.specs.Run.{after_changes}
use Rattle.bc_model.specs.State.{State}
use Rattle.bc_engine.specs.Engines.{EngineStands}
use Rattle.bc_engine.specs.EngineFacts.{with_holders}
use Rattle.bc_engine.proofs.engines.Engine.change_all.Given as goal

abbrev pub invariant-loop-change : goal.invariant-loop-change
invariant-loop-change l = record {
  changed : (s : State) → EngineStands l.initial.self s → (t : State) × EngineStands l.self t × (after_changes t (drop l.change-index l.changes) ≡ after_changes s l.changes);
  same : l.self ≡ with_holders l.initial.self l.self.running.holders;
}
