use Rattle.bc_heapview.specs.Searches.{SlotsNoted}
use Rattle.bc_heapview.proofs.search.note_slots.Given as goal

abbrev pub invariant-loop-place : goal.invariant-loop-place
invariant-loop-place l = SlotsNoted l.roots l.cells l.found.items l.seen.items l.place
