use Rattle.std.proofs.Common.{ℕ, ◌<◌, List, length, get_or, Vec, ap, sym, subst, ◌∙◌, arith}
use Rattle.std.specs.declared.alloc.Global.{Global}
use Rattle.std.proofs.lemmas.List.{length-map}
use Rattle.bc_cycle.specs.declared.heaps.Heap.{Heap}
use Rattle.bc_cycle.specs.Emptying.{heap_view}
use Rattle.bc_model.specs.Rows.{lists_of}
use Rattle.bc_model.specs.declared.operations.Op.{Op}
use Rattle.bc_nursery.specs.Nurseries.{Nursery}
use Rattle.bc_nursery.specs.Objects.{IsChunk}
use Rattle.bc_superpages.specs.Layout.{Layout}
use Rattle.bc_superpages.specs.RootWords.{RootWords}
use Rattle.bc_turn.specs.declared.rooms.Spare.{Spare}
use Rattle.bc_turn.specs.Taking.{AreSparesOf, AreTaken, spare_lanes}
use Rattle.bc_turn.proofs.OpenableLemmas.{openable}
use Rattle.bc_turn.proofs.turns.begin_turn.Goals as goal
use Rattle.bc_whole_heap.specs.Heaps.{HeapView, no_chunk}

pub open_turn-requires-clause-openable : goal.open_turn-requires-clause-openable
open_turn-requires-clause-openable c = openable (heap_view c.args.heap.now) c.args.holders.now c.heap_facts.ensures.layout (subst (λ (cs : List Nursery). (l : ℕ) → l < length cs → IsChunk (get_or cs l no_chunk)) c.deref.ensures.value c.heap_facts.ensures.whole) c.requires.running

pub open_turn-requires-clause-rising : goal.open_turn-requires-clause-rising
open_turn-requires-clause-rising c = c.requires.busy.rising

pub begin_all-requires-clause-sizes : goal.begin_all-requires-clause-sizes
begin_all-requires-clause-sizes c =
    let rest = c.in_ok-turn.ensures.rest in
    let sizes = c.requires.sizes in
    record { chunks = ap (λ (h : Heap). length h.chunks.items) rest ∙ sym sizes.1; buffers = ap (λ (h : Heap). length h.buffers.items) rest ∙ c.requires.running.closed.lanes ∙ sym sizes.1; births = sizes.0 ∙ sym sizes.1; told = sizes.2 ∙ sym sizes.1 }

pub begin_all-requires-clause-spares : goal.begin_all-requires-clause-spares
begin_all-requires-clause-spares c =
    let roots = ap (λ (h : Heap). h.roots) c.in_ok-turn.ensures.rest in
    (c.args.holders.now, c.requires.running.closed.domains ∙ sym (ap (λ (r : RootWords). r.domains) roots), subst (λ (r : RootWords). AreSparesOf c.args.holders.now r.slots c.args.room.now.spares.items) (sym roots) c.requires.spares)

pub begin_all-requires-clause-seats : goal.begin_all-requires-clause-seats
begin_all-requires-clause-seats c = c.in_ok-turn.ensures.seats.0

pub begin_all-requires-clause-room : goal.begin_all-requires-clause-room
begin_all-requires-clause-room c = λ j v lt off e. c.requires.room j v lt e

pub returns-clause-begun : goal.returns-clause-begun
returns-clause-begun c =
    let sizes = c.requires.sizes in
    let lanes = length-map c.args.lanes.now (λ (v : Vec Op Global). v.items) ∙ sizes.1 in
    let spares = length-map c.args.room.now.spares.items (λ (s : Spare). s.lane) in
    let some = c.requires.some in
    record {
      running = c.requires.running;
      state = c.requires.stands.0;
      stands = c.requires.stands.1;
      layout = c.heap_facts.ensures.layout;
      whole = subst (λ (cs : List Nursery). (l : ℕ) → l < length cs → IsChunk (get_or cs l no_chunk)) c.deref.ensures.value c.heap_facts.ensures.whole;
      domains = c.heap_facts.ensures.domains;
      long = c.heap_facts.ensures.long;
      fits = record { chunks = sym lanes; buffers = c.requires.running.closed.lanes ∙ sym lanes; births = sizes.0 ∙ sym lanes; told = sizes.2 ∙ sym lanes };
      ops = c.requires.ops;
      births = c.requires.births;
      busy = spare_lanes c.args.room.now.spares.items;
      busy_are = c.requires.busy;
      some = omega arith;
      seats = c.in_ok-turn.turn.seats.items;
      hollow = c.open_turn.new.heap.space;
      opened = c.in_ok-turn.ensures.opened;
      taken = subst (λ (v : HeapView). AreTaken v c.args.holders.now c.args.serials.now (lists_of c.args.lanes.now) c.args.replies.now (spare_lanes c.args.room.now.spares.items) c.in_ok-turn.turn.seats.items (heap_view c.begin_all.new.heap) c.begin_all.new.replies c.begin_all.new.runs.items)
          (ap heap_view c.in_ok-turn.ensures.rest) (c.begin_all.ensures.taken c.args.holders.now (subst (λ (r : RootWords). AreSparesOf c.args.holders.now r.slots c.args.room.now.spares.items) (sym (ap (λ (h : Heap). h.roots) c.in_ok-turn.ensures.rest)) c.requires.spares));
      count = c.in_ok-turn.ensures.count;
      rooms = c.in_ok-turn.ensures.rooms;
      few = c.in_ok-turn.ensures.few;
      lives = c.in_ok-turn.ensures.lives;
    }

pub returns-clause-seats : goal.returns-clause-seats
returns-clause-seats c =
    let taken = (c.begin_all.ensures.taken c.args.holders.now (subst (λ (r : RootWords). AreSparesOf c.args.holders.now r.slots c.args.room.now.spares.items) (sym (ap (λ (h : Heap). h.roots) c.in_ok-turn.ensures.rest)) c.requires.spares)).long in
    let lanes = length-map c.args.room.now.spares.items (λ (s : Spare). s.lane) in
    let within = c.in_ok-turn.ensures.seats.1 in
    let kept = c.begin_all.ensures.seats.1 in (c.begin_all.ensures.seats.0, omega arith)

pub returns-clause-spares : goal.returns-clause-spares
returns-clause-spares c =
    let taken = (c.begin_all.ensures.taken c.args.holders.now (subst (λ (r : RootWords). AreSparesOf c.args.holders.now r.slots c.args.room.now.spares.items) (sym (ap (λ (h : Heap). h.roots) c.in_ok-turn.ensures.rest)) c.requires.spares)).long in
    let lanes = length-map c.args.room.now.spares.items (λ (s : Spare). s.lane) in
    let number = c.args.room.now.spares.ok.0 in
    let within = c.args.room.now.spares.ok.1 in
    let kept = c.begin_all.ensures.spares.1 in (c.begin_all.ensures.spares.0, omega arith)

pub returns-clause-rest : goal.returns-clause-rest
returns-clause-rest c =
    c.begin_all.ensures.same ∙ ap (λ (h : Heap). record h { chunks = c.begin_all.new.heap.chunks; buffers = c.begin_all.new.heap.buffers }) c.in_ok-turn.ensures.rest
    ∙ ap (λ (s : Layout). record (c.args.heap.now) { space = s; chunks = c.begin_all.new.heap.chunks; buffers = c.begin_all.new.heap.buffers }) (sym (ap (λ (h : Heap). h.space) c.begin_all.ensures.same))
