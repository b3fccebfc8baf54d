use Rattle.std.proofs.Common.{◌≡◌, ℕ, ◌+◌, ◌*◌, ◌<◌, ◌≤◌, List, ◌++◌, slice_index, ap, sym, subst, ◌∙◌, arith}
use Rattle.std.specs.List.{flat_map}
use Rattle.std.proofs.lemmas.Grind.{flat_map-append}
use Rattle.bc_bookmarks.proofs.MovingLemmas.{MovesPages-none}
use Rattle.bc_classes.specs.Classes.{cap}
use Rattle.bc_classes.specs.ClassNumbers.{IsClass}
use Rattle.bc_image.specs.Images.{cell_items}
use Rattle.bc_io.specs.Told.{IsPrefix}
use Rattle.bc_memory.specs.Memory.{Memory}
use Rattle.bc_superpages.specs.Layout.{Layout}
use Rattle.bc_superpages.specs.Memory.{memory}
use Rattle.bc_picture.specs.SpaceListing.{listed_cell, listed_from}
use Rattle.bc_picture.proofs.StreamLemmas.{on-err, puts-start, puts-is, breaks-is, room-is, room-piece, breaks-piece, puts-piece}
use Rattle.bc_picture.proofs.CellLists.{cells-more, class-all, cells-within, cell-start, listed-start}
use Rattle.bc_picture.proofs.Parts.{cells-prefix}
use Rattle.bc_picture.proofs.ReadLemmas.{moved-memory, moved-read, moved-superpages, moved-then}
use Rattle.bc_picture.proofs.superpages.put_cells.Goals as goal

pub cap-number-end-requires : goal.cap-number-end-requires
cap-number-end-requires g c = subst IsClass (sym c.requires.class) ((c.facts.ensures.kept.each c.args.superpage c.requires.superpage).class)

pub loop-number-init : goal.loop-number-init
loop-number-init g c = record { puts = puts-is _ _ _ _ (listed-start (memory c.args.space.now) (2048 * c.args.superpage) c.args.class) (puts-start _); moves = MovesPages-none c.args.space.now c.requires.readable.summarised }

pub of_cell-requires-clause-class : goal.of_cell-requires-clause-class
of_cell-requires-clause-class g c = subst IsClass (sym c.requires.class) ((c.facts.ensures.kept.each c.args.superpage c.requires.superpage).class)

pub of_cell-requires-clause-superpage : goal.of_cell-requires-clause-superpage
of_cell-requires-clause-superpage g c = let few = c.facts.ensures.kept.few in let lt = c.requires.superpage in omega arith

pub put_at-requires-clause-readable : goal.put_at-requires-clause-readable
put_at-requires-clause-readable g c = moved-read c.args.space.now c.loop-number.space c.loop-number.invariant.moves c.requires.readable

pub put_at-requires-clause-superpage : goal.put_at-requires-clause-superpage
put_at-requires-clause-superpage g c =
    let s = c.args.space.now in
    let q = c.args.superpage in
    let k = slice_index s.classes q in
    let is_class : IsClass k = (c.facts.ensures.kept.each q c.requires.superpage).class in
    let few : c.loop-number.number < cap k = subst (λ (n : ℕ). c.loop-number.number < cap n) c.requires.class (subst (λ (n : ℕ). c.loop-number.number < n) c.cap-number-end.ensures.cells c.loop-number-test.true) in
    let h = cell-start k q c.loop-number.number is_class few in
    let at : c.of_cell.result.0 ≡ 2048 * q + k * c.loop-number.number = c.of_cell.ensures.address ∙ ap (λ (n : ℕ). 2048 * q + n * c.loop-number.number) c.requires.class in
    rw (at, h.0, moved-superpages s c.loop-number.space c.loop-number.invariant.moves) c.requires.superpage

pub put_at-requires-clause-start : goal.put_at-requires-clause-start
put_at-requires-clause-start g c =
    let s = c.args.space.now in
    let q = c.args.superpage in
    let k = slice_index s.classes q in
    let is_class : IsClass k = (c.facts.ensures.kept.each q c.requires.superpage).class in
    let few : c.loop-number.number < cap k = subst (λ (n : ℕ). c.loop-number.number < cap n) c.requires.class (subst (λ (n : ℕ). c.loop-number.number < n) c.cap-number-end.ensures.cells c.loop-number-test.true) in
    let h = cell-start k q c.loop-number.number is_class few in
    let at : c.of_cell.result.0 ≡ 2048 * q + k * c.loop-number.number = c.of_cell.ensures.address ∙ ap (λ (n : ℕ). 2048 * q + n * c.loop-number.number) c.requires.class in
    let classes : c.loop-number.space.classes ≡ s.classes = ap (λ (l : Layout). l.classes) c.loop-number.invariant.moves.same in
    rw (at, h.0, classes) h.1

pub put_at-requires-clause-room : goal.put_at-requires-clause-room
put_at-requires-clause-room g c =
    let s = c.args.space.now in
    let q = c.args.superpage in
    let k = slice_index s.classes q in
    let is_class : IsClass k = (c.facts.ensures.kept.each q c.requires.superpage).class in
    let few : c.loop-number.number < cap k = subst (λ (n : ℕ). c.loop-number.number < cap n) c.requires.class (subst (λ (n : ℕ). c.loop-number.number < n) c.cap-number-end.ensures.cells c.loop-number-test.true) in
    let step : flat_map cell_items (listed_from (memory s) (2048 * q) (k * (c.loop-number.number + 1))) ≡ (flat_map cell_items (listed_from (memory s) (2048 * q) (k * c.loop-number.number))) ++ (flat_map cell_items (listed_cell (2048 * q + k * c.loop-number.number) (memory s (2048 * q + k * c.loop-number.number)))) = ap (flat_map cell_items) (cells-more s q c.loop-number.number is_class few) ∙ flat_map-append cell_items (listed_from (memory s) (2048 * q) (k * c.loop-number.number)) (listed_cell (2048 * q + k * c.loop-number.number) (memory s (2048 * q + k * c.loop-number.number))) in
    let le : k * (c.loop-number.number + 1) ≤ 2048 = cells-within k c.loop-number.number is_class few in
    let p : IsPrefix ((flat_map cell_items (listed_from (memory s) (2048 * q) (k * c.loop-number.number))) ++ (flat_map cell_items (listed_cell (2048 * q + k * c.loop-number.number) (memory s (2048 * q + k * c.loop-number.number))))) (flat_map cell_items (listed_from (memory s) (2048 * q) 2048)) = subst (λ (ns : List ℕ). IsPrefix ns (flat_map cell_items (listed_from (memory s) (2048 * q) 2048))) step (cells-prefix (memory s) (2048 * q) (k * (c.loop-number.number + 1)) 2048 le) in
    let at : c.of_cell.result.0 ≡ 2048 * q + k * c.loop-number.number = c.of_cell.ensures.address ∙ ap (λ (n : ℕ). 2048 * q + n * c.loop-number.number) c.requires.class in
    let same = moved-memory s c.loop-number.space c.loop-number.invariant.moves in
    let e : flat_map cell_items (listed_cell (2048 * q + k * c.loop-number.number) (memory s (2048 * q + k * c.loop-number.number))) ≡ flat_map cell_items (listed_cell c.of_cell.result.0 (memory c.loop-number.space c.of_cell.result.0)) = ap (λ (y : ℕ). flat_map cell_items (listed_cell y (memory s y))) (sym at) ∙ ap (λ (m : Memory). flat_map cell_items (listed_cell c.of_cell.result.0 (m c.of_cell.result.0))) (sym same) in
    let inv = puts-is _ _ (flat_map cell_items (listed_from (memory s) (2048 * q) (k * c.loop-number.number))) (flat_map cell_items (listed_from (memory s) (2048 * q) (c.args.class * c.loop-number.number))) (ap (λ (n : ℕ). flat_map cell_items (listed_from (memory s) (2048 * q) (n * c.loop-number.number))) (sym c.requires.class)) c.loop-number.invariant.puts in
    room-is _ _ (flat_map cell_items (listed_cell (2048 * q + k * c.loop-number.number) (memory s (2048 * q + k * c.loop-number.number)))) (flat_map cell_items (listed_cell c.of_cell.result.0 (memory c.loop-number.space c.of_cell.result.0))) e (room-piece _ _ (flat_map cell_items (listed_from (memory s) (2048 * q) 2048)) (flat_map cell_items (listed_from (memory s) (2048 * q) (k * c.loop-number.number))) (flat_map cell_items (listed_cell (2048 * q + k * c.loop-number.number) (memory s (2048 * q + k * c.loop-number.number)))) p c.requires.room inv)

pub returns-in_err-put_at-clause-breaks : goal.returns-in_err-put_at-clause-breaks
returns-in_err-put_at-clause-breaks g c =
    let s = c.args.space.now in
    let q = c.args.superpage in
    let k = slice_index s.classes q in
    let is_class : IsClass k = (c.facts.ensures.kept.each q c.requires.superpage).class in
    let few : c.loop-number.number < cap k = subst (λ (n : ℕ). c.loop-number.number < cap n) c.requires.class (subst (λ (n : ℕ). c.loop-number.number < n) c.cap-number-end.ensures.cells c.loop-number-test.true) in
    let step : flat_map cell_items (listed_from (memory s) (2048 * q) (k * (c.loop-number.number + 1))) ≡ (flat_map cell_items (listed_from (memory s) (2048 * q) (k * c.loop-number.number))) ++ (flat_map cell_items (listed_cell (2048 * q + k * c.loop-number.number) (memory s (2048 * q + k * c.loop-number.number)))) = ap (flat_map cell_items) (cells-more s q c.loop-number.number is_class few) ∙ flat_map-append cell_items (listed_from (memory s) (2048 * q) (k * c.loop-number.number)) (listed_cell (2048 * q + k * c.loop-number.number) (memory s (2048 * q + k * c.loop-number.number))) in
    let le : k * (c.loop-number.number + 1) ≤ 2048 = cells-within k c.loop-number.number is_class few in
    let p : IsPrefix ((flat_map cell_items (listed_from (memory s) (2048 * q) (k * c.loop-number.number))) ++ (flat_map cell_items (listed_cell (2048 * q + k * c.loop-number.number) (memory s (2048 * q + k * c.loop-number.number))))) (flat_map cell_items (listed_from (memory s) (2048 * q) 2048)) = subst (λ (ns : List ℕ). IsPrefix ns (flat_map cell_items (listed_from (memory s) (2048 * q) 2048))) step (cells-prefix (memory s) (2048 * q) (k * (c.loop-number.number + 1)) 2048 le) in
    let at : c.of_cell.result.0 ≡ 2048 * q + k * c.loop-number.number = c.of_cell.ensures.address ∙ ap (λ (n : ℕ). 2048 * q + n * c.loop-number.number) c.requires.class in
    let same = moved-memory s c.loop-number.space c.loop-number.invariant.moves in
    let e : flat_map cell_items (listed_cell (2048 * q + k * c.loop-number.number) (memory s (2048 * q + k * c.loop-number.number))) ≡ flat_map cell_items (listed_cell c.of_cell.result.0 (memory c.loop-number.space c.of_cell.result.0)) = ap (λ (y : ℕ). flat_map cell_items (listed_cell y (memory s y))) (sym at) ∙ ap (λ (m : Memory). flat_map cell_items (listed_cell c.of_cell.result.0 (m c.of_cell.result.0))) (sym same) in
    let inv = puts-is _ _ (flat_map cell_items (listed_from (memory s) (2048 * q) (k * c.loop-number.number))) (flat_map cell_items (listed_from (memory s) (2048 * q) (c.args.class * c.loop-number.number))) (ap (λ (n : ℕ). flat_map cell_items (listed_from (memory s) (2048 * q) (n * c.loop-number.number))) (sym c.requires.class)) c.loop-number.invariant.puts in
    on-err _ c.from_residual.result (breaks-piece _ _ _ (flat_map cell_items (listed_from (memory s) (2048 * q) 2048)) (flat_map cell_items (listed_from (memory s) (2048 * q) (k * c.loop-number.number))) (flat_map cell_items (listed_cell (2048 * q + k * c.loop-number.number) (memory s (2048 * q + k * c.loop-number.number)))) p inv (breaks-is _ _ (flat_map cell_items (listed_cell (2048 * q + k * c.loop-number.number) (memory s (2048 * q + k * c.loop-number.number)))) (flat_map cell_items (listed_cell c.of_cell.result.0 (memory c.loop-number.space c.of_cell.result.0))) e c.in_err-put_at.ensures.breaks))

pub returns-in_err-put_at-clause-moves : goal.returns-in_err-put_at-clause-moves
returns-in_err-put_at-clause-moves g c = moved-then c.args.space.now c.loop-number.space c.put_at.new.space c.loop-number.invariant.moves c.put_at.ensures.moves

pub loop-number-preserved : goal.loop-number-preserved
loop-number-preserved g c =
    let s = c.args.space.now in
    let q = c.args.superpage in
    let k = slice_index s.classes q in
    let is_class : IsClass k = (c.facts.ensures.kept.each q c.requires.superpage).class in
    let few : c.loop-number.number < cap k = subst (λ (n : ℕ). c.loop-number.number < cap n) c.requires.class (subst (λ (n : ℕ). c.loop-number.number < n) c.cap-number-end.ensures.cells c.loop-number-test.true) in
    let step : flat_map cell_items (listed_from (memory s) (2048 * q) (k * (c.loop-number.number + 1))) ≡ (flat_map cell_items (listed_from (memory s) (2048 * q) (k * c.loop-number.number))) ++ (flat_map cell_items (listed_cell (2048 * q + k * c.loop-number.number) (memory s (2048 * q + k * c.loop-number.number)))) = ap (flat_map cell_items) (cells-more s q c.loop-number.number is_class few) ∙ flat_map-append cell_items (listed_from (memory s) (2048 * q) (k * c.loop-number.number)) (listed_cell (2048 * q + k * c.loop-number.number) (memory s (2048 * q + k * c.loop-number.number))) in
    let le : k * (c.loop-number.number + 1) ≤ 2048 = cells-within k c.loop-number.number is_class few in
    let p : IsPrefix ((flat_map cell_items (listed_from (memory s) (2048 * q) (k * c.loop-number.number))) ++ (flat_map cell_items (listed_cell (2048 * q + k * c.loop-number.number) (memory s (2048 * q + k * c.loop-number.number))))) (flat_map cell_items (listed_from (memory s) (2048 * q) 2048)) = subst (λ (ns : List ℕ). IsPrefix ns (flat_map cell_items (listed_from (memory s) (2048 * q) 2048))) step (cells-prefix (memory s) (2048 * q) (k * (c.loop-number.number + 1)) 2048 le) in
    let at : c.of_cell.result.0 ≡ 2048 * q + k * c.loop-number.number = c.of_cell.ensures.address ∙ ap (λ (n : ℕ). 2048 * q + n * c.loop-number.number) c.requires.class in
    let same = moved-memory s c.loop-number.space c.loop-number.invariant.moves in
    let e : flat_map cell_items (listed_cell (2048 * q + k * c.loop-number.number) (memory s (2048 * q + k * c.loop-number.number))) ≡ flat_map cell_items (listed_cell c.of_cell.result.0 (memory c.loop-number.space c.of_cell.result.0)) = ap (λ (y : ℕ). flat_map cell_items (listed_cell y (memory s y))) (sym at) ∙ ap (λ (m : Memory). flat_map cell_items (listed_cell c.of_cell.result.0 (m c.of_cell.result.0))) (sym same) in
    let inv = puts-is _ _ (flat_map cell_items (listed_from (memory s) (2048 * q) (k * c.loop-number.number))) (flat_map cell_items (listed_from (memory s) (2048 * q) (c.args.class * c.loop-number.number))) (ap (λ (n : ℕ). flat_map cell_items (listed_from (memory s) (2048 * q) (n * c.loop-number.number))) (sym c.requires.class)) c.loop-number.invariant.puts in
    record {
      puts = puts-is _ _ _ (flat_map cell_items (listed_from (memory s) (2048 * q) (k * (c.loop-number.number + 1)))) (ap (λ (n : ℕ). flat_map cell_items (listed_from (memory s) (2048 * q) (n * (c.loop-number.number + 1)))) c.requires.class) (puts-piece _ _ _ (flat_map cell_items (listed_from (memory s) (2048 * q) (k * (c.loop-number.number + 1)))) (flat_map cell_items (listed_from (memory s) (2048 * q) (k * c.loop-number.number))) (flat_map cell_items (listed_cell (2048 * q + k * c.loop-number.number) (memory s (2048 * q + k * c.loop-number.number)))) step inv (puts-is _ _ (flat_map cell_items (listed_cell (2048 * q + k * c.loop-number.number) (memory s (2048 * q + k * c.loop-number.number)))) (flat_map cell_items (listed_cell c.of_cell.result.0 (memory c.loop-number.space c.of_cell.result.0))) e c.in_ok-put_at.ensures.puts));
      moves = moved-then c.args.space.now c.loop-number.space c.put_at.new.space c.loop-number.invariant.moves c.put_at.ensures.moves;
    }

pub returns-clause-puts : goal.returns-clause-puts
returns-clause-puts g c =
    let s = c.args.space.now in
    let q = c.args.superpage in
    let k = slice_index s.classes q in
    let is_class : IsClass k = (c.facts.ensures.kept.each q c.requires.superpage).class in
    let end : c.args.class * c.loop-number.number ≡ 2048 =
    ap (λ (n : ℕ). c.args.class * n) (let e : c.loop-number.number ≡ cap c.args.class = omega (arith, c.loop-number-test.false, c.loop-number.auto.number-end, c.cap-number-end.ensures.cells) in e)
    ∙ class-all c.args.class (subst IsClass (sym c.requires.class) is_class) in
    puts-is _ _ (flat_map cell_items (listed_from (memory s) (2048 * q) 2048)) (flat_map cell_items (listed_from (memory s) (2048 * q) (c.args.class * c.loop-number.number))) (ap (λ (n : ℕ). flat_map cell_items (listed_from (memory s) (2048 * q) n)) (sym end)) c.loop-number.invariant.puts

pub returns-clause-moves : goal.returns-clause-moves
returns-clause-moves g c = c.loop-number.invariant.moves
