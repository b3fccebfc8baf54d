use Rattle.std.proofs.Common.{◌≡◌, ℕ, ◌<◌, ◌≤◌, List, length, arith, sym, ap, subst, ◌∙◌}
use Rattle.bc_heapview.proofs.FindLemmas.{begun, finds-few, is-searched}
use Rattle.bc_heapview.proofs.search.search.Goals as goal

pub note_slots-requires-clause-begun : goal.note_slots-requires-clause-begun
note_slots-requires-clause-begun c = rw (c.new-found.ensures.items, c.in_ok-seen.ensures.items_if_clones_equal (λ y e. e)) (begun c.args.roots.now c.args.cells.now)

pub overflow_cast-entry : goal.overflow_cast-entry
overflow_cast-entry c =
    let few = finds-few c.args.roots.now c.args.cells.now c.loop-entry.found.items c.loop-entry.seen.items c.loop-entry.invariant.ways c.loop-entry.invariant.noted in
    omega (arith, few, c.requires.few, c.loop-entry-test.true)

pub loop-entry-smaller : goal.loop-entry-smaller
loop-entry-smaller c =
    let few = finds-few c.args.roots.now c.args.cells.now c.loop-entry.found.items c.loop-entry.seen.items c.loop-entry.invariant.ways c.loop-entry.invariant.noted in
    omega (arith, few, c.loop-entry-test.true)

pub returns-clause-searched : goal.returns-clause-searched
returns-clause-searched c = is-searched c.args.roots.now c.args.cells.now c.loop-entry.found.items c.loop-entry.seen.items c.loop-entry.entry (omega arith) c.loop-entry.invariant

pub returns-clause-few : goal.returns-clause-few
returns-clause-few c = finds-few c.args.roots.now c.args.cells.now c.loop-entry.found.items c.loop-entry.seen.items c.loop-entry.invariant.ways c.loop-entry.invariant.noted
