use Rattle.std.proofs.Common.{◌+◌, ◌-◌, ◌^◌, List, min, ap, subst, ◌∙◌, arith}
use Rattle.atomic_table.specs.declared.shared.Seat.{Seat as Worker}
use Rattle.bc_frames.specs.Places.{StoreView}
use Rattle.bc_pins.specs.declared.pins.Seat.{Seat}
use Rattle.bc_pins.specs.declared.views.Lodged.{Lodged}
use Rattle.bc_pins.specs.declared.views.View.{View}
use Rattle.bc_pins.specs.Steps.{united}
use Rattle.bc_pins.specs.Closing.{Gathered}
use Rattle.bc_pins.proofs.JoinLemmas.{unites}
use Rattle.bc_pins.proofs.GatherLemmas.{gathered_first, gathered_more, last_back, seat_is_back, reads_first, store_is}
use Rattle.bc_pins.proofs.gathering.unite_all.Goals as goal

pub loop-seat-init : goal.loop-seat-init
loop-seat-init c =
    let is = c.in-Some.ensures.items in
    let store = c.let_go-root.ensures.store in
    let reads = ap (λ (s : StoreView). s.reads) store in
    record {
      gathered = gathered_first _ _ c.requires.apart _ _ c.in-Some.seat c.requires.back _ is c.let_go-root.ensures.worker;
      store = store_is c.args.store.now c.let_go-root.new.store (min (c.args.store.now.reads + c.in-Some.seat.opens) (2 ^ 64 - 1)) store;
      reads = reads_first c.pop.new.self.items c.in-Some.seat c.args.seats.items _ _ is (last_back _ _ c.requires.apart _ _ c.in-Some.seat c.requires.back is).opens reads;
      low = omega arith;
    }

pub join_seat-requires : goal.join_seat-requires
join_seat-requires c =
    let inv = c.loop-seat.invariant.gathered in
    let is = c.in-Some-pop.ensures.items in
    let worker = c.let_go-other.ensures.worker in
    let g = subst (λ (l : List Seat). Gathered c.args.board.now.table_id c.args.board.now.key c.args.seats.items l c.loop-seat.root) is inv in
    let b = seat_is_back _ _ c.requires.apart _ _ c.in-Some-pop.seat c.requires.back _ g in (
      inv.table,
      ap (λ (w : Worker Lodged View). w.table_id) worker ∙ b.table,
      ap (λ (w : Worker Lodged View). w.me.1) worker ∙ b.slots,
      c.requires.words,
      unites _ _ _ _ _ inv.about (ap (λ (w : Worker Lodged View). w.me.0.about) worker ∙ b.about) inv.hand (ap (λ (w : Worker Lodged View). w.me.0.hand) worker ∙ b.hand),
    )

pub loop-seat-preserved : goal.loop-seat-preserved
loop-seat-preserved c =
    let inv = c.loop-seat.invariant in
    let is = c.in-Some-pop.ensures.items in
    let worker = c.let_go-other.ensures.worker in
    let store = c.let_go-other.ensures.store in
    let reads = ap (λ (s : StoreView). s.reads) store in
    let g = subst (λ (l : List Seat). Gathered c.args.board.now.table_id c.args.board.now.key c.args.seats.items l c.loop-seat.root) is inv.gathered in
    let join = c.join_seat.ensures in
    let b = seat_is_back _ _ c.requires.apart _ _ c.in-Some-pop.seat c.requires.back _ g in
    let more = reads_first c.pop-in-loop-seat.new.self.items c.in-Some-pop.seat c.loop-seat.seats.items _ _ is b.opens reads in
    record {
      gathered = gathered_more _ _ c.requires.apart _ _ c.in-Some-pop.seat c.requires.back _ _ g join.0
          (join.2 ∙ ap (λ (w : Worker Lodged View). (united c.loop-seat.root.me.0 w.me.0, c.loop-seat.root.me.1)) worker);
      store = store_is c.args.store.now c.let_go-other.new.store (min (c.loop-seat.store.reads + c.in-Some-pop.seat.opens) (2 ^ 64 - 1)) (store ∙ ap (λ (s : StoreView). record s { reads = min (c.loop-seat.store.reads + c.in-Some-pop.seat.opens) (2 ^ 64 - 1) }) inv.store);
      reads = more ∙ inv.reads;
      low = omega arith;
    }
