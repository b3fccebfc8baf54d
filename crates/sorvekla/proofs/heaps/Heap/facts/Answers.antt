use Rattle.sorvekla.proofs.heaps.Heap.facts.Goals as goal

pub returns-clause-stands : goal.returns-clause-stands
returns-clause-stands c = rw (← c.self.view_is) c.self.invariant.0.ready.meant

pub returns-clause-range : goal.returns-clause-range
returns-clause-range c = rw (← c.self.view_is) c.self.invariant.0.ready.range

pub returns-clause-kept : goal.returns-clause-kept
returns-clause-kept c = rw (← c.self.view_is) c.self.invariant.0
