use Rattle.std.proofs.Common.{subst}
use Rattle.bc_superpages.specs.Kept.{IsLayout}
use Rattle.bc_whole_heap.specs.Heaps.{HeapView}
use Rattle.bc_engine.specs.contracts.engines.Engine.{the_view}
use Rattle.bc_engine.proofs.PhaseLemmas.{has-room}
use Rattle.bc_engine.proofs.RoundLemmas.{goes-on}
use Rattle.bc_engine.proofs.engines.Engine.room_facts.Goals as goal

pub returns : goal.returns
returns c =
    let going = rw (← c.self.view_is) at c.requires.going in
    let empty = rw (← c.self.view_is) at c.requires.empty in
    let engine = c.self.invariant.alive (goes-on c.self.inside.ended going) in
    rw (← c.self.view_is) (has-room (the_view c.self.inside) c.law_room.ensures (subst (λ (h : HeapView). IsLayout h.space) c.heap.ensures c.facts.ensures.kept) engine empty)
