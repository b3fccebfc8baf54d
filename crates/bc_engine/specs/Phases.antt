-- What a phase does to an engine.
use Rattle.std.specs.Prelude.{◌≡◌, ℕ, ◌<◌, ◌≤◌, List, Some, None}
use Rattle.bc_engine.specs.Engines.{EngineView, EngineStands, HasEmptyChunks}
use Rattle.bc_engine.specs.declared.engines.Ended.TheVariants as ended
use Rattle.bc_model.specs.Lists.{PhaseLists}
use Rattle.bc_model.specs.Need.{IsNeed}
use Rattle.bc_model.specs.Run.{after_phase, after_lanes, replies_to_lanes, cut_lanes}
use Rattle.bc_model.specs.State.{State}
use Rattle.bc_model.specs.declared.operations.Reply.{Reply}

-- the phase was done: whatever state the engine stood for, the replies are those to the phase, and it stands for the state after
-- it. Chunks are empty, so that state has a need that is at most the number of superpages
pub record DidPhase (e : EngineView) (p : PhaseLists) (f : EngineView) (replies : List (List Reply)) : Type 0 where
  pub going : f.ended ≡ None
  pub empty : HasEmptyChunks f.running.heap
  pub stands : (s : State) → EngineStands e s → (replies ≡ replies_to_lanes s 0 p.lanes) × EngineStands f (after_phase s p)
  pub need : (s : State) → EngineStands f s → (n : ℕ) × IsNeed s n × (n ≤ f.setup.superpages)

-- the phase ended in the middle: for some cut the replies are those up to it, and the engine stands for the state there, whose need
-- this is, and it is above the number of superpages
pub record CutPhase (e : EngineView) (p : PhaseLists) (f : EngineView) (replies : List (List Reply)) (need : ℕ) : Type 0 where
  pub cause : f.ended ≡ Some (ended.OutOfHeap need)
  pub stands : (s : State) → EngineStands e s → (cut : List ℕ)
      × (replies ≡ replies_to_lanes s 0 (cut_lanes cut p.lanes))
      × EngineStands f (after_lanes s 0 (cut_lanes cut p.lanes))
      × IsNeed (after_lanes s 0 (cut_lanes cut p.lanes)) need
  pub above : f.setup.superpages < need
