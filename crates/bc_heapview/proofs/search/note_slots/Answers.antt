use Rattle.std.proofs.Common.{arith, sym, None, Some, ap, subst, ◌∙◌, ℕ, ◌≤◌}
use Rattle.bc_heapview.proofs.FindLemmas.{slot-found, slot-nowhere, slots-last, target-within, target-past}
use Rattle.bc_heapview.proofs.search.note_slots.Goals as goal
use Rattle.bc_heapview.proofs.search.note_slots.Goals.{in-Some+in_ok-note, in_default}

pub note-requires : goal.note-requires
note-requires c =
    omega (arith, target-within c.args.cells.now _ c.in-Some.node (sym c.in-Some.ensures), c.loop-place.invariant.noted.sized)

pub loop-place-preserved : goal.loop-place-preserved
loop-place-preserved c = elim c.match-target.branch [
  | in-Some+in_ok-note w ↦
      let s = slot-found c.args.roots.now c.args.cells.now c.loop-place.found.items c.loop-place.seen.items c.loop-place.place w.in-Some.node w.in-Some.ensures c.loop-place.invariant in
      rw (w.found-is, w.seen-is, w.in_ok-note.ensures.found, w.in_ok-note.ensures.seen) s
  | in_default w ↦ rw (w.found-is, w.seen-is) (slot-nowhere c.args.roots.now c.args.cells.now c.loop-place.found.items c.loop-place.seen.items c.loop-place.place (w.in_default.ensures) c.loop-place.invariant)
]

pub returns : goal.returns
returns c =
    let past = λ (r : ℕ) (le : c.loop-place.place ≤ r). target-past c.args.cells.now c.args.roots.now r (omega arith) in
    slots-last c.args.roots.now c.args.cells.now c.loop-place.found.items c.loop-place.seen.items c.loop-place.place past c.loop-place.invariant
