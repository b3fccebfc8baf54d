use Rattle.std.proofs.Common.{◌≡◌, ℕ, ◌+◌, ◌*◌, ◌<◌, List, ◌++◌, ap, subst, arith}
use Rattle.std.specs.List.{flat_map}
use Rattle.bc_bookmarks.proofs.MovingLemmas.{MovesPages-none}
use Rattle.bc_image.specs.Images.{group_items, superpage_items}
use Rattle.bc_io.specs.Told.{IsPrefix}
use Rattle.bc_model.specs.State.{numbers_below}
use Rattle.bc_superpages.specs.Layout.{superpages}
use Rattle.bc_superpages.specs.Memory.{memory}
use Rattle.bc_picture.specs.SpaceListing.{listed_from, listed_cells}
use Rattle.bc_picture.proofs.StreamLemmas.{on-err, puts-start, puts-is, room-piece, breaks-piece, puts-piece}
use Rattle.bc_picture.proofs.CellLists.{superpages-more}
use Rattle.bc_picture.proofs.Parts.{below-prefix}
use Rattle.bc_picture.proofs.ReadLemmas.{moved-memory, moved-read, moved-superpages, moved-then}
use Rattle.bc_picture.proofs.writing.put_superpages.Goals as goal

pub loop-superpage-init : goal.loop-superpage-init
loop-superpage-init g c = record { puts = puts-start _; moves = MovesPages-none c.args.space.now c.requires.readable.summarised }

pub put_superpage-requires-clause-readable : goal.put_superpage-requires-clause-readable
put_superpage-requires-clause-readable g c = moved-read c.args.space.now c.loop-superpage.space c.loop-superpage.invariant.moves c.requires.readable

pub put_superpage-requires-clause-superpage : goal.put_superpage-requires-clause-superpage
put_superpage-requires-clause-superpage g c =
    rw (moved-superpages c.args.space.now c.loop-superpage.space c.loop-superpage.invariant.moves) (subst (λ (m : ℕ). c.loop-superpage.superpage < m) c.superpages-superpage-end.ensures.superpages c.loop-superpage-test.true)

pub put_superpage-requires-clause-room : goal.put_superpage-requires-clause-room
put_superpage-requires-clause-room g c =
    let s = c.args.space.now in
    let i = c.loop-superpage.superpage in
    let n = superpages s in
    let f = superpage_items (listed_cells s) in
    let lt : i < n = subst (λ (m : ℕ). i < m) c.superpages-superpage-end.ensures.superpages c.loop-superpage-test.true in
    let step = superpages-more (memory s) n i lt in
    let ys = group_items (listed_from (memory s) (2048 * i) 2048) in
    let p : IsPrefix (flat_map f (numbers_below i) ++ ys) (flat_map f (numbers_below n)) = subst (λ (ns : List ℕ). IsPrefix ns (flat_map f (numbers_below n))) step (below-prefix f (i + 1) n (omega arith)) in
    let same = moved-memory s c.loop-superpage.space c.loop-superpage.invariant.moves in
    rw same (room-piece _ _ (flat_map f (numbers_below n)) (flat_map f (numbers_below i)) ys p c.requires.room c.loop-superpage.invariant.puts)

pub returns-in_err-put_superpage-clause-breaks : goal.returns-in_err-put_superpage-clause-breaks
returns-in_err-put_superpage-clause-breaks g c =
    let s = c.args.space.now in
    let i = c.loop-superpage.superpage in
    let n = superpages s in
    let f = superpage_items (listed_cells s) in
    let lt : i < n = subst (λ (m : ℕ). i < m) c.superpages-superpage-end.ensures.superpages c.loop-superpage-test.true in
    let step = superpages-more (memory s) n i lt in
    let ys = group_items (listed_from (memory s) (2048 * i) 2048) in
    let p : IsPrefix (flat_map f (numbers_below i) ++ ys) (flat_map f (numbers_below n)) = subst (λ (ns : List ℕ). IsPrefix ns (flat_map f (numbers_below n))) step (below-prefix f (i + 1) n (omega arith)) in
    let same = moved-memory s c.loop-superpage.space c.loop-superpage.invariant.moves in
    on-err _ c.from_residual.result (breaks-piece _ _ _ (flat_map f (numbers_below n)) (flat_map f (numbers_below i)) ys p c.loop-superpage.invariant.puts (rw same at c.in_err-put_superpage.ensures.breaks))

pub returns-in_err-put_superpage-clause-moves : goal.returns-in_err-put_superpage-clause-moves
returns-in_err-put_superpage-clause-moves g c = moved-then c.args.space.now c.loop-superpage.space c.put_superpage.new.space c.loop-superpage.invariant.moves c.put_superpage.ensures.moves

pub loop-superpage-preserved : goal.loop-superpage-preserved
loop-superpage-preserved g c =
    let s = c.args.space.now in
    let i = c.loop-superpage.superpage in
    let n = superpages s in
    let f = superpage_items (listed_cells s) in
    let lt : i < n = subst (λ (m : ℕ). i < m) c.superpages-superpage-end.ensures.superpages c.loop-superpage-test.true in
    let step = superpages-more (memory s) n i lt in
    let ys = group_items (listed_from (memory s) (2048 * i) 2048) in
    let p : IsPrefix (flat_map f (numbers_below i) ++ ys) (flat_map f (numbers_below n)) = subst (λ (ns : List ℕ). IsPrefix ns (flat_map f (numbers_below n))) step (below-prefix f (i + 1) n (omega arith)) in
    let same = moved-memory s c.loop-superpage.space c.loop-superpage.invariant.moves in
    record {
      puts = puts-piece _ _ _ (flat_map f (numbers_below (i + 1))) (flat_map f (numbers_below i)) ys step c.loop-superpage.invariant.puts (rw same at c.in_ok-put_superpage.ensures.puts);
      moves = moved-then s c.loop-superpage.space c.put_superpage.new.space c.loop-superpage.invariant.moves c.put_superpage.ensures.moves;
    }

pub returns-clause-puts : goal.returns-clause-puts
returns-clause-puts g c =
    let end : superpages c.args.space.now ≡ c.loop-superpage.superpage = omega (arith, c.loop-superpage-test.false, c.loop-superpage.auto.superpage-end, c.superpages-superpage-end.ensures.superpages) in
    puts-is _ _ (flat_map (superpage_items (listed_cells c.args.space.now)) (numbers_below (superpages c.args.space.now))) (flat_map (superpage_items (listed_cells c.args.space.now)) (numbers_below c.loop-superpage.superpage))
    (ap (λ (m : ℕ). flat_map (superpage_items (listed_cells c.args.space.now)) (numbers_below m)) end) c.loop-superpage.invariant.puts

pub returns-clause-moves : goal.returns-clause-moves
returns-clause-moves g c = c.loop-superpage.invariant.moves
