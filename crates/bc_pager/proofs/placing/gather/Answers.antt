-- One pager after another: its seat goes to the others, and its answers to their places.
use Rattle.std.proofs.Common.{ℕ, ◌<◌, List, [], ◌∷◌, length, refl, ap, sym, subst, arith, append-nil, length-append}
use Rattle.std.specs.List.{AllByRecursion}
use Rattle.std.specs.Vec.Iter.{into_iter_items}
use Rattle.bc_pager.specs.Placing.{HasNumbersBelow}
use Rattle.bc_pager.specs.declared.paging.Paging.{Paging}
use Rattle.bc_pins.specs.declared.pins.Seat.{Seat}
use Rattle.bc_pager.proofs.PlaceLemmas.{gathered-more}
use Rattle.bc_pager.proofs.placing.gather.Goals as goal

pub loop-paging-init : goal.loop-paging-init
loop-paging-init c =
    let rest = c.into_iter-rest.ensures.rest in
    let count = ap (λ (l : List Paging). length l) rest in
    let enough = c.requires.seats in
    record {
      gathered = record { done = []; whole = sym rest; seats = sym (append-nil c.args.seats.now.items); placed = λ once. tt };
      below = subst (λ (l : List Paging). AllByRecursion (HasNumbersBelow (length c.args.told.now)) l) (sym rest) c.requires.numbers;
      long = refl;
      room = omega arith;
      capacity = refl;
    }

pub place-requires : goal.place-requires
place-requires c =
    let inv = c.loop-paging.invariant in
    let below = subst (λ (l : List Paging). AllByRecursion (HasNumbersBelow (length c.args.told.now)) l) c.in-Some.ensures.items inv.below in
    record { numbers = subst (λ (n : ℕ). AllByRecursion (λ (m : ℕ). m < n) c.in-Some.paging.answers.numbers) (sym inv.long) below.0 }

pub loop-paging-preserved : goal.loop-paging-preserved
loop-paging-preserved c =
    let inv = c.loop-paging.invariant in
    let items = c.in-Some.ensures.items in
    let below = subst (λ (l : List Paging). AllByRecursion (HasNumbersBelow (length c.args.told.now)) l) items inv.below in
    let count = ap (λ (l : List Paging). length l) items in
    let pushed = ap (λ (l : List Seat). length l) c.push_reserved.ensures.items in
    let sum = length-append c.loop-paging.seats.items (c.in-Some.paging.seat ∷ []) in
    let enough = inv.room in
    let same = c.push_reserved.ensures.capacity in
    let long = c.place.ensures.long in
    let was = inv.long in
    let capacity = inv.capacity in
    record {
      gathered = gathered-more c.args.pagers.items (into_iter_items c.loop-paging.rest) (into_iter_items c.next.new.self) c.args.seats.now.items c.loop-paging.seats.items c.push_reserved.new.self.items c.loop-paging.told c.place.new.told c.in-Some.paging
          inv.gathered items c.push_reserved.ensures.items c.place.ensures.others c.place.ensures.placed;
      below = below.1;
      long = omega arith;
      room = omega arith;
      capacity = omega arith;
    }
