use Rattle.std.proofs.Common.{refl}
use Rattle.bc_engine.proofs.engines.Engine.end_for_want.Goals as goal

pub invariant_of-self : goal.invariant_of-self
invariant_of-self c = record { alive = λ alive. absurd (alive refl); counted = c.self.invariant.counted }
