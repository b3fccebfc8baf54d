use Rattle.std.proofs.Common.{◌≡◌, ℕ, ◌+◌, ◌-◌, List, length, get_or, Vec, refl, ap, sym, subst, ◌∙◌, arith}
use Rattle.std.specs.declared.alloc.Global.{Global}
use Rattle.std.proofs.lemmas.List.{length-map, length_push}
use Rattle.bc_cycle.specs.declared.heaps.Heap.{Heap}
use Rattle.bc_cycle.specs.Emptying.{heap_view}
use Rattle.bc_model.specs.Rows.{lists_of}
use Rattle.bc_model.specs.declared.operations.Reply.{Reply}
use Rattle.bc_model.specs.declared.values.Holder.{Holder}
use Rattle.bc_superpages.specs.RootWords.{RootWords}
use Rattle.bc_turn.specs.declared.runs.Run.{Run}
use Rattle.bc_turn.specs.Laying.{AreLaidBack}
use Rattle.bc_turn.specs.Taking.{HasReplyRoom, HasRoomForLane, IsSpareOf, running_lanes, turn_at}
use Rattle.bc_turn.proofs.RoomLemmas.{AreReturned, returned-all, returned-more, returned-none}
use Rattle.bc_turn.proofs.TakingLemmas.{no-items}
use Rattle.bc_turn.proofs.EndingLemmas.{Ending, Gathering, all-count, ending-more, ending-none, gathering-more, gathering-none, holders-are, lane-is, lane-within, lies-right, next-run, room-more, runs-count}
use Rattle.bc_turn.proofs.ending.end_all.Goals as goal

pub loop-run-init : goal.loop-run-init
loop-run-init c = record {
  ending = λ hs busy are. ending-none hs busy (heap_view c.args.heap.now) c.args.serials.now (lists_of c.args.replies.now) c.args.runs.now.items c.args.seats.now.items c.requires.seats.0;
  gathering = gathering-none c.args.runs.now.items c.args.seats.now.items c.requires.seats.0;
  room = λ lanes room enough. room;
  same = refl;
  capacity = refl;
  returned = λ hs busy are. returned-none hs c.args.heap.now.roots.slots busy c.args.spares.now.items c.requires.spares.0;
  even = ap length c.requires.spares.0 ∙ sym (ap length c.requires.seats.0);
  spare_capacity = refl;
}

pub end_lane-seat-requires-clause-sizes : goal.end_lane-seat-requires-clause-sizes
end_lane-seat-requires-clause-sizes c =
    let hs = c.requires.runs.0 in
    let busy = c.requires.runs.1 in
    let are = c.requires.runs.2 in
    let inv = c.loop-run.invariant in
    let fits = c.requires.sizes.1 in
    let ending = inv.ending hs busy are in
    let laid = ending.laid c.in-Some.run' in
    let lt = lane-within c.args.runs.now.items c.loop-run.runs.items c.pop.new.self.items c.loop-run.seats.items inv.gathering c.in-Some.run' c.in-Some.ensures.items hs busy (heap_view c.args.heap.now) c.args.serials.now (lists_of c.args.replies.now) are
    (heap_view c.loop-run.heap) c.loop-run.serials (lists_of c.loop-run.replies) ending in
    let chunks = fits.chunks in (
      c.requires.sizes.0,
      omega arith,
      record { chunks = laid.chunks_long ∙ fits.chunks; buffers = laid.buffers_long ∙ fits.buffers; births = c.loop-run.auto.serials ∙ fits.births; told = c.loop-run.auto.replies ∙ fits.told },
    )

pub end_lane-seat-requires-clause-right : goal.end_lane-seat-requires-clause-right
end_lane-seat-requires-clause-right c =
    let inv = c.loop-run.invariant in
    lies-right c.args.runs.now.items c.loop-run.runs.items c.pop.new.self.items c.loop-run.seats.items inv.gathering c.in-Some.run' c.in-Some.ensures.items c.requires.runs.0 c.requires.runs.1 (heap_view c.args.heap.now) c.args.serials.now (lists_of c.args.replies.now) c.requires.runs.2
    (heap_view c.loop-run.heap) c.loop-run.serials (lists_of c.loop-run.replies) (inv.ending c.requires.runs.0 c.requires.runs.1 c.requires.runs.2)

pub push_reserved-requires : goal.push_reserved-requires
push_reserved-requires c =
    let inv = c.loop-run.invariant in
    let count = inv.gathering.count in
    let more = runs-count c.args.runs.now.items c.loop-run.runs.items c.pop.new.self.items c.loop-run.seats.items inv.gathering c.in-Some.run' c.in-Some.ensures.items in
    let enough = c.requires.seats.1 in
    let room = inv.capacity in
    let long = c.loop-run.seats.ok.0 in
    omega arith

pub push_reserved-requires-in-Some : goal.push_reserved-requires-in-Some
push_reserved-requires-in-Some c =
    let inv = c.loop-run.invariant in
    let count = inv.gathering.count in
    let more = runs-count c.args.runs.now.items c.loop-run.runs.items c.pop.new.self.items c.loop-run.seats.items inv.gathering c.in-Some.run' c.in-Some.ensures.items in
    let enough = c.requires.spares.1 in
    let room = inv.spare_capacity in
    let even = inv.even in
    let long = c.loop-run.spares.ok.0 in
    omega arith

pub loop-run-preserved : goal.loop-run-preserved
loop-run-preserved c =
    let inv = c.loop-run.invariant in
    let all = c.args.runs.now.items in
    let runs = c.loop-run.runs.items in
    let left = c.pop.new.self.items in
    let seats = c.loop-run.seats.items in
    let run = c.in-Some.run' in
    let items = c.in-Some.ensures.items in
    let fits = c.requires.sizes.1 in
    let g = heap_view c.args.heap.now in
    let before = lists_of c.args.replies.now in
    let pushed = c.push_reserved.ensures.items in
    record {
      ending = λ hs busy are.
          subst (Ending hs busy g c.args.serials.now before all left (heap_view c.end_lane-seat.new.heap) c.end_lane-seat.new.serials (lists_of c.end_lane-seat.new.replies)) (sym pushed)
          (ending-more all runs left seats inv.gathering run items hs busy g c.args.serials.now before are (heap_view c.loop-run.heap) c.loop-run.serials (lists_of c.loop-run.replies) (inv.ending hs busy are)
          (heap_view c.end_lane-seat.new.heap) c.end_lane-seat.new.serials (lists_of c.end_lane-seat.new.replies) c.end_lane-seat.result.0 c.end_lane-seat.ensures.back (fits.buffers ∙ sym fits.chunks) (fits.births ∙ sym fits.chunks)
          (length-map c.args.replies.now (λ (v : Vec Reply Global). v.items) ∙ fits.told ∙ sym fits.chunks));
      gathering = subst (Gathering all left) (sym pushed) (gathering-more all runs left seats inv.gathering run items c.end_lane-seat.result.0 c.end_lane-seat.ensures.seat);
      room = λ lanes room enough.
          let count = all-count all runs left seats inv.gathering run items in
          let mine = subst (λ (r : Run). HasRoomForLane lanes r.turn) (next-run all runs left seats inv.gathering run items run) (enough (length all - (length seats + 1)) run (omega arith)) in
          room-more all runs left seats inv.gathering run items lanes c.loop-run.replies c.end_lane-seat.new.replies (inv.room lanes room enough) mine c.end_lane-seat.ensures.replies;
      same = c.end_lane-seat.ensures.same ∙ ap (λ (h : Heap). record h { roots = c.end_lane-seat.new.heap.roots; chunks = c.end_lane-seat.new.heap.chunks; buffers = c.end_lane-seat.new.heap.buffers }) inv.same;
      capacity = c.push_reserved.ensures.capacity ∙ inv.capacity;
      returned = λ hs busy are.
          let ending = inv.ending hs busy are in
          let laid = ending.laid run in
          let holders = holders-are all runs left seats inv.gathering run items hs busy g c.args.serials.now before are (heap_view c.loop-run.heap) c.loop-run.serials (lists_of c.loop-run.replies) ending in
          let lane = lane-is all runs left seats inv.gathering run items hs busy g c.args.serials.now before are (heap_view c.loop-run.heap) c.loop-run.serials (lists_of c.loop-run.replies) ending in
          let slots : c.loop-run.heap.roots.slots ≡ c.args.heap.now.roots.slots = ap (λ (r : RootWords). r.slots) laid.roots in
          subst (AreReturned hs c.args.heap.now.roots.slots busy) (sym c.push_reserved-in-Some.ensures.items)
          (returned-more hs c.args.heap.now.roots.slots busy c.loop-run.spares.items c.end_lane-seat.result.1 (inv.returned hs busy are)
          (subst (λ (n : ℕ). IsSpareOf hs n c.end_lane-seat.result.1) slots (subst (λ (xs : List Holder). IsSpareOf xs c.loop-run.heap.roots.slots c.end_lane-seat.result.1) holders c.end_lane-seat.ensures.spare))
          (c.end_lane-seat.ensures.lane ∙ lane ∙ ap (λ (n : ℕ). get_or busy n 0) (sym inv.even)));
      even =
          let even = inv.even in
          let a = ap length c.push_reserved-in-Some.ensures.items in
          let b = ap length pushed in
          let d = length_push c.loop-run.spares.items c.end_lane-seat.result.1 in
          let e = length_push seats c.end_lane-seat.result.0 in
          omega arith;
      spare_capacity = c.push_reserved-in-Some.ensures.capacity ∙ inv.spare_capacity;
    }

pub returns-clause-back : goal.returns-clause-back
returns-clause-back c = λ hs busy d are.
    let none = c.in_default.ensures.cases.0 in
    let zero = c.loop-run.runs.ok.0 in
    let count = c.loop-run.invariant.gathering.count in
    let long = are.long in
    subst (λ (n : ℕ). AreLaidBack hs busy (turn_at d c.args.runs.now.items) n (heap_view c.args.heap.now) c.args.serials.now (lists_of c.args.replies.now) (heap_view c.loop-run.heap) c.loop-run.serials (lists_of c.loop-run.replies)) (omega arith)
    ((c.loop-run.invariant.ending hs busy are).laid d)

pub returns-clause-seats : goal.returns-clause-seats
returns-clause-seats c = λ i d e lt.
    let none = c.in_default.ensures.cases.0 in
    let zero = c.loop-run.runs.ok.0 in
    let count = c.loop-run.invariant.gathering.count in
    c.loop-run.invariant.gathering.seats_are i (omega arith) d e

pub returns-clause-seats_long : goal.returns-clause-seats_long
returns-clause-seats_long c =
    let none = c.in_default.ensures.cases.0 in
    let zero = c.loop-run.runs.ok.0 in
    let count = c.loop-run.invariant.gathering.count in
    omega arith

pub returns-clause-room : goal.returns-clause-room
returns-clause-room c = λ lanes room enough.
    let none = c.in_default.ensures.cases.0 in
    let zero = c.loop-run.runs.ok.0 in
    subst (λ (rs : List Run). HasReplyRoom lanes c.loop-run.replies (running_lanes rs)) (no-items c.loop-run.runs.items (omega arith)) (c.loop-run.invariant.room lanes room enough)

pub returns-clause-runs : goal.returns-clause-runs
returns-clause-runs c =
    let none = c.in_default.ensures.cases.1 in
    let zero = c.pop.new.self.ok.0 in
    no-items c.pop.new.self.items (omega arith)

pub returns-clause-spares : goal.returns-clause-spares
returns-clause-spares c = λ hs busy are.
    let none = c.in_default.ensures.cases.0 in
    let zero = c.loop-run.runs.ok.0 in
    let count = c.loop-run.invariant.gathering.count in
    let even = c.loop-run.invariant.even in
    let long = are.long in
    returned-all hs c.args.heap.now.roots.slots busy c.loop-run.spares.items (c.loop-run.invariant.returned hs busy are) (omega arith)
