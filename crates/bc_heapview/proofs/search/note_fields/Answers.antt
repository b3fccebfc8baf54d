use Rattle.std.proofs.Common.{◌≡◌, ℕ, ◌<◌, ◌≤◌, List, length, get_or, None, Some, arith, sym, ap, subst, ◌∙◌}
use Rattle.bc_heapview.specs.Searches.{FieldsNoted, find_at}
use Rattle.bc_image.specs.Memories.{cell_at}
use Rattle.bc_heapview.specs.Targets.{target_of}
use Rattle.bc_heapview.specs.declared.search.Found.{Found}
use Rattle.bc_heapview.specs.declared.search.Origin.TheVariants.{Field}
use Rattle.bc_heapview.proofs.FindLemmas.{field-found, field-nowhere, fields-last, target-within, target-past, after-longer, after-kept, after-sized}
use Rattle.bc_heapview.proofs.search.note_fields.Goals as goal
use Rattle.bc_heapview.proofs.search.note_fields.Goals.{in-Some+in_ok-note, in_default}

pub note-requires : goal.note-requires
note-requires c =
    omega (arith, target-within c.args.cells.now _ c.in-Some.node (sym c.in-Some.ensures), c.loop-i.invariant.sized)

pub loop-i-preserved : goal.loop-i-preserved
loop-i-preserved c =
    let found = c.loop-i.found.items in
    let seen = c.loop-i.seen.items in
    let entry : ℕ = c.args.entry in
    let fields : c.args.fields.now ≡ (cell_at c.args.cells.now (find_at found entry).node).fields = c.requires.node ∙ ap (λ (f : Found). (cell_at c.args.cells.now f.node).fields) (sym c.loop-i.invariant.kept) in
    let within : entry < length found = omega (arith, c.requires.entry, c.loop-i.invariant.longer) in
    elim c.match-target.branch [
      | in-Some+in_ok-note w ↦
          let to = subst (λ (xs : List ℕ). Some w.in-Some.node ≡ target_of c.args.cells.now (get_or xs c.loop-i.i 0)) fields w.in-Some.ensures in
          rw (w.found-is, w.seen-is, w.in_ok-note.ensures.found, w.in_ok-note.ensures.seen) (record {
            sized = after-sized seen w.in-Some.node ∙ c.loop-i.invariant.sized;
            longer = omega (arith, c.loop-i.invariant.longer, after-longer found seen w.in-Some.node (Field entry c.loop-i.i));
            kept = after-kept found seen w.in-Some.node (Field entry c.loop-i.i) entry within ∙ c.loop-i.invariant.kept;
            noted = λ roots h. field-found roots c.args.cells.now found seen entry c.loop-i.i w.in-Some.node within to (c.loop-i.invariant.noted roots h);
          })
      | in_default w ↦
          let to = subst (λ (xs : List ℕ). None ≡ target_of c.args.cells.now (get_or xs c.loop-i.i 0)) fields (w.in_default.ensures) in
          rw (w.found-is, w.seen-is) (record {
            sized = c.loop-i.invariant.sized;
            longer = c.loop-i.invariant.longer;
            kept = c.loop-i.invariant.kept;
            noted = λ roots h. field-nowhere roots c.args.cells.now found seen entry c.loop-i.i within to (c.loop-i.invariant.noted roots h);
          })
    ]

pub returns : goal.returns
returns c roots h =
    let found = c.loop-i.found.items in
    let entry : ℕ = c.args.entry in
    let fields : c.args.fields.now ≡ (cell_at c.args.cells.now (find_at found entry).node).fields = c.requires.node ∙ ap (λ (f : Found). (cell_at c.args.cells.now f.node).fields) (sym c.loop-i.invariant.kept) in
    let within : entry < length found = omega (arith, c.requires.entry, c.loop-i.invariant.longer) in
    let past = λ (i : ℕ) (le : c.loop-i.i ≤ i). subst (λ (xs : List ℕ). target_of c.args.cells.now (get_or xs i 0) ≡ None) fields (target-past c.args.cells.now c.args.fields.now i (omega arith)) in
    fields-last roots c.args.cells.now found c.loop-i.seen.items entry c.loop-i.i within past (c.loop-i.invariant.noted roots h)
