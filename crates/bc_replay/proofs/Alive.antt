-- A heap that is handed back hasn't run out of memory.
use Rattle.std.proofs.Common.{◌≡◌, ◌≢◌, ℕ, inl, inr, List, Option, None, Some}
use Rattle.bc_engine.specs.Engines.{EngineView}
use Rattle.bc_engine.specs.declared.engines.Ended.TheVariants.{NoMemory}
use Rattle.bc_replay.specs.Courses.{Course}
use Rattle.bc_replay.specs.Endings.{EndsInFault, EndsOutOfHeap}

-- nor has one that goes on
pub going-alive : (e : EngineView) → e.ended ≡ None → e.ended ≢ Some NoMemory
going-alive e going = λ gone. cc

pub need-alive : (t : Course) (a b : Option (List ℕ)) (e : EngineView) (need : ℕ) → EndsOutOfHeap t a b (Some e) need → e.ended ≢ Some NoMemory
need-alive t a b e need h = λ gone. let how = h.handed.ended in cc

pub fault-alive : (t : Course) (a b : Option (List ℕ)) (e : EngineView) → EndsInFault t a b (Some e) → e.ended ≢ Some NoMemory
fault-alive t a b e (inl h) = going-alive e h.handed.ended
fault-alive t a b e (inr (inl h)) = going-alive e h.handed.ended
fault-alive t a b e (inr (inr h)) = λ gone. let how = h.handed.ended in cc
