use Rattle.bc_engine.proofs.engines.Engine.take_live.Goals as goal

pub invariant_of-self : goal.invariant_of-self
invariant_of-self c = record {
  alive = λ alive.
      let old = c.self.invariant.alive alive in
      record { workers = old.workers; ready = old.ready; going = old.going; returned = old.returned };
  counted = c.self.invariant.counted;
}
