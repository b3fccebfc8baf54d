use Rattle.std.proofs.Common.{◌≡◌, List, [], ◌∷◌, length, Vec, refl, ap, sym, subst, ◌∙◌, arith, length-append}
use Rattle.std.proofs.lemmas.List.{length-map}
use Rattle.std.specs.declared.alloc.Global.{Global}
use Rattle.bc_cycle.specs.declared.heaps.Heap.{Heap}
use Rattle.bc_cycle.specs.Emptying.{heap_view}
use Rattle.bc_model.specs.Rows.{lists_of}
use Rattle.bc_model.specs.declared.values.Holder.{Holder}
use Rattle.bc_turn.specs.declared.runs.Run.{Run}
use Rattle.bc_turn.specs.declared.rooms.Spare.{Spare}
use Rattle.bc_turn.specs.Taking.{IsSpareOf, TakesAlong}
use Rattle.bc_turn.proofs.TakingLemmas.{no-items, spare-slots}
use Rattle.bc_turn.proofs.LendingLemmas.{Lending, lending-none, lending-more, all-taken, lane-within, spare-is, spare-left, spare-room}
use Rattle.bc_turn.proofs.beginning.begin_all.Goals as goal

pub loop-seat-init : goal.loop-seat-init
loop-seat-init c = record {
  lending = λ hs all. lending-none hs c.args.serials.now (lists_of c.args.lanes.now) (heap_view c.args.heap.now) c.args.replies.now c.args.spares.now.items c.args.seats.now.items c.args.runs.now.items c.requires.seats c.requires.runs.0 c.requires.room;
  same = refl;
  room = refl;
  capacity = refl;
  spare_capacity = refl;
}

lanes-long : {X : Type 0} (vs : List (Vec X Global)) → length (lists_of vs) ≡ length vs
lanes-long {X} vs = length-map vs (λ (v : Vec X Global). v.items)

pub begin_lane-requires-clause-lane : goal.begin_lane-requires-clause-lane
begin_lane-requires-clause-lane c =
    let lt = lane-within c.requires.spares.0 c.args.serials.now (lists_of c.args.lanes.now) (heap_view c.args.heap.now) c.args.replies.now c.args.spares.now.items c.args.seats.now.items c.loop-seat.spares.items c.pop-in-Some.new.self.items c.loop-seat.seats.items c.pop.new.self.items
    (heap_view c.loop-seat.heap) c.loop-seat.replies c.loop-seat.runs.items (c.loop-seat.invariant.lending c.requires.spares.0 c.requires.spares.2) c.requires.busy c.in-Some-pop.spare c.in-Some.seat c.in-Some-pop.ensures.items c.in-Some.ensures.items in
    let long = lanes-long c.args.lanes.now in
    omega arith

pub begin_lane-requires-clause-sizes : goal.begin_lane-requires-clause-sizes
begin_lane-requires-clause-sizes c =
    let away = (c.loop-seat.invariant.lending c.requires.spares.0 c.requires.spares.2).away in
    let fits = c.requires.sizes in
    record { chunks = away.chunks_long ∙ fits.chunks; buffers = away.buffers_long ∙ fits.buffers; births = fits.births; told = c.loop-seat.auto.replies ∙ fits.told }

pub begin_lane-requires-clause-spare : goal.begin_lane-requires-clause-spare
begin_lane-requires-clause-spare c =
    let is = spare-slots c.requires.spares.0 c.args.heap.now c.loop-seat.heap c.in-Some-pop.spare c.loop-seat.invariant.same
    (spare-is c.requires.spares.0 c.args.serials.now (lists_of c.args.lanes.now) (heap_view c.args.heap.now) c.args.replies.now c.args.spares.now.items c.args.seats.now.items c.loop-seat.spares.items c.pop-in-Some.new.self.items c.loop-seat.seats.items c.pop.new.self.items
    (heap_view c.loop-seat.heap) c.loop-seat.replies c.loop-seat.runs.items (c.loop-seat.invariant.lending c.requires.spares.0 c.requires.spares.2) c.requires.busy c.in-Some-pop.spare c.in-Some.seat c.in-Some-pop.ensures.items c.in-Some.ensures.items c.requires.spares.2) in
    subst (λ (hs : List Holder). IsSpareOf hs c.loop-seat.heap.roots.slots c.in-Some-pop.spare) (sym is.room.holders_are) is

pub begin_lane-requires-clause-domains : goal.begin_lane-requires-clause-domains
begin_lane-requires-clause-domains c =
    let is = spare-slots c.requires.spares.0 c.args.heap.now c.loop-seat.heap c.in-Some-pop.spare c.loop-seat.invariant.same
    (spare-is c.requires.spares.0 c.args.serials.now (lists_of c.args.lanes.now) (heap_view c.args.heap.now) c.args.replies.now c.args.spares.now.items c.args.seats.now.items c.loop-seat.spares.items c.pop-in-Some.new.self.items c.loop-seat.seats.items c.pop.new.self.items
    (heap_view c.loop-seat.heap) c.loop-seat.replies c.loop-seat.runs.items (c.loop-seat.invariant.lending c.requires.spares.0 c.requires.spares.2) c.requires.busy c.in-Some-pop.spare c.in-Some.seat c.in-Some-pop.ensures.items c.in-Some.ensures.items c.requires.spares.2) in
    ap length is.room.holders_are ∙ c.requires.spares.1 ∙ sym (ap (λ (h : Heap). h.roots.domains) c.loop-seat.invariant.same)

pub begin_lane-requires-clause-left : goal.begin_lane-requires-clause-left
begin_lane-requires-clause-left c =
    spare-left c.requires.spares.0 c.args.serials.now (lists_of c.args.lanes.now) (heap_view c.args.heap.now) c.args.replies.now c.args.spares.now.items c.args.seats.now.items c.loop-seat.spares.items c.pop-in-Some.new.self.items c.loop-seat.seats.items c.pop.new.self.items
    (heap_view c.loop-seat.heap) c.loop-seat.replies c.loop-seat.runs.items (c.loop-seat.invariant.lending c.requires.spares.0 c.requires.spares.2) c.requires.busy c.in-Some-pop.spare c.in-Some.seat c.in-Some-pop.ensures.items c.in-Some.ensures.items

pub begin_lane-requires-clause-room : goal.begin_lane-requires-clause-room
begin_lane-requires-clause-room c = λ v e.
    spare-room c.requires.spares.0 c.args.serials.now (lists_of c.args.lanes.now) (heap_view c.args.heap.now) c.args.replies.now c.args.spares.now.items c.args.seats.now.items c.loop-seat.spares.items c.pop-in-Some.new.self.items c.loop-seat.seats.items c.pop.new.self.items
    (heap_view c.loop-seat.heap) c.loop-seat.replies c.loop-seat.runs.items (c.loop-seat.invariant.lending c.requires.spares.0 c.requires.spares.2) c.requires.busy c.in-Some-pop.spare c.in-Some.seat c.in-Some-pop.ensures.items c.in-Some.ensures.items
    v (c.requires.sizes.told ∙ sym (lanes-long c.args.lanes.now)) e

pub push_reserved-requires : goal.push_reserved-requires
push_reserved-requires c =
    let inv = c.loop-seat.invariant in
    let is = inv.lending c.requires.spares.0 c.requires.spares.2 in
    let count = is.count in
    let some = ap length c.in-Some-pop.ensures.items in
    let more = length-append c.pop-in-Some.new.self.items (c.in-Some-pop.spare ∷ []) in
    let enough = c.requires.runs.1 in
    let room = inv.room in
    let long = c.loop-seat.runs.ok.0 in
    omega arith

pub loop-seat-preserved : goal.loop-seat-preserved
loop-seat-preserved c = record {
  lending = λ hs all.
      let is = spare-slots hs c.args.heap.now c.loop-seat.heap c.in-Some-pop.spare c.loop-seat.invariant.same
      (spare-is hs c.args.serials.now (lists_of c.args.lanes.now) (heap_view c.args.heap.now) c.args.replies.now c.args.spares.now.items c.args.seats.now.items c.loop-seat.spares.items c.pop-in-Some.new.self.items c.loop-seat.seats.items c.pop.new.self.items
      (heap_view c.loop-seat.heap) c.loop-seat.replies c.loop-seat.runs.items (c.loop-seat.invariant.lending hs all) c.requires.busy c.in-Some-pop.spare c.in-Some.seat c.in-Some-pop.ensures.items c.in-Some.ensures.items all) in
      let takes = subst (λ (xs : List Holder). TakesAlong (heap_view c.loop-seat.heap) xs c.args.serials.now (lists_of c.args.lanes.now) (lists_of c.loop-seat.replies) c.in-Some-pop.spare.lane c.begin_lane.result.turn) is.room.holders_are c.begin_lane.ensures.takes in
      subst (λ (runs : List Run). Lending hs c.args.serials.now (lists_of c.args.lanes.now) (heap_view c.args.heap.now) c.args.replies.now c.args.spares.now.items c.args.seats.now.items c.pop-in-Some.new.self.items c.pop.new.self.items (heap_view c.begin_lane.new.heap) c.begin_lane.new.replies runs) (sym c.push_reserved.ensures.items)
      (lending-more hs c.args.serials.now (lists_of c.args.lanes.now) (heap_view c.args.heap.now) c.args.replies.now c.args.spares.now.items c.args.seats.now.items c.loop-seat.spares.items c.pop-in-Some.new.self.items c.loop-seat.seats.items c.pop.new.self.items
      (heap_view c.loop-seat.heap) c.loop-seat.replies c.loop-seat.runs.items (c.loop-seat.invariant.lending hs all) c.requires.busy c.in-Some-pop.spare c.in-Some.seat c.in-Some-pop.ensures.items c.in-Some.ensures.items
      (heap_view c.begin_lane.new.heap) c.begin_lane.new.replies c.begin_lane.result takes c.begin_lane.ensures.room c.begin_lane.ensures.seat (ap heap_view c.begin_lane.ensures.same) c.in-Some-pop.spare.chunk c.begin_lane.ensures.chunks c.in-Some-pop.spare.buffer c.begin_lane.ensures.buffers
      c.in-Some-pop.spare.replies c.begin_lane.ensures.replies);
  same = c.begin_lane.ensures.same ∙ ap (λ (h : Heap). record h { chunks = c.begin_lane.new.heap.chunks; buffers = c.begin_lane.new.heap.buffers }) c.loop-seat.invariant.same;
  room = c.push_reserved.ensures.capacity ∙ c.loop-seat.invariant.room;
  capacity = c.pop.ensures.capacity ∙ c.loop-seat.invariant.capacity;
  spare_capacity = c.pop-in-Some.ensures.capacity ∙ c.loop-seat.invariant.spare_capacity;
}

pub unreachable-requires : goal.unreachable-requires
unreachable-requires c =
    let even = (c.loop-seat.invariant.lending c.requires.spares.0 c.requires.spares.2).even in
    let some = ap length c.in-Some.ensures.items in
    let more = length-append c.pop.new.self.items (c.in-Some.seat ∷ []) in
    let none = c.in-None.ensures.cases in
    let long = c.loop-seat.spares.ok.0 in
    omega arith

pub unreachable-unreachable : goal.unreachable-unreachable
unreachable-unreachable c =
    let even = (c.loop-seat.invariant.lending c.requires.spares.0 c.requires.spares.2).even in
    let some = ap length c.in-Some.ensures.items in
    let more = length-append c.pop.new.self.items (c.in-Some.seat ∷ []) in
    let none = c.in-None.ensures.cases in
    let long = c.loop-seat.spares.ok.0 in
    omega arith

pub returns-clause-taken : goal.returns-clause-taken
returns-clause-taken c = λ hs all.
    let is = c.loop-seat.invariant.lending hs all in
    let none = c.in_default.ensures.cases.0 in
    let long = c.loop-seat.seats.ok.0 in
    let even = is.even in
    all-taken hs c.args.serials.now (lists_of c.args.lanes.now) (heap_view c.args.heap.now) c.args.replies.now c.args.spares.now.items c.args.seats.now.items c.loop-seat.seats.items (heap_view c.loop-seat.heap) c.loop-seat.replies c.loop-seat.runs.items
    (subst (λ (ss : List Spare). Lending hs c.args.serials.now (lists_of c.args.lanes.now) (heap_view c.args.heap.now) c.args.replies.now c.args.spares.now.items c.args.seats.now.items ss c.loop-seat.seats.items (heap_view c.loop-seat.heap) c.loop-seat.replies c.loop-seat.runs.items)
    (no-items c.loop-seat.spares.items (omega arith)) is)

pub returns-clause-spares : goal.returns-clause-spares
returns-clause-spares c =
    let none = c.in_default.ensures.cases.0 in
    let long = c.loop-seat.seats.ok.0 in
    let even = (c.loop-seat.invariant.lending c.requires.spares.0 c.requires.spares.2).even in (
      no-items c.loop-seat.spares.items (omega arith),
      c.loop-seat.invariant.spare_capacity,
    )

pub returns-clause-seats : goal.returns-clause-seats
returns-clause-seats c =
    let none = c.in_default.ensures.cases.1 in
    let long = c.pop.new.self.ok.0 in (
      no-items c.pop.new.self.items (omega arith),
      c.pop.ensures.capacity ∙ c.loop-seat.invariant.capacity,
    )
