use Rattle.std.proofs.Common.{Err, refl, ap, sym, set, subst, get_or, List, ◌∙◌}
use Rattle.std.proofs.lemmas.List.{get_or-set_same, set-get_or}
use Rattle.std.proofs.lemmas.Result.{IfOk-weaker, on_err_weaker}
use Rattle.bc_bookmarks.specs.Moves.{MovesPages}
use Rattle.bc_cycle.specs.Emptying.{heap_view}
use Rattle.bc_cycle.specs.declared.heaps.Heap.{Heap}
use Rattle.bc_memory.specs.Memory.{Memory}
use Rattle.bc_model.specs.declared.operations.Reply.{Reply}
use Rattle.bc_mutator.specs.Effects.{IsChangedBy}
use Rattle.bc_mutator.specs.Objects.{AreWhole}
use Rattle.bc_mutator.specs.declared.operations.Stop.TheVariants.{NurseryFull, BufferFull}
use Rattle.bc_nursery.specs.Nurseries.{Nursery}
use Rattle.bc_nursery.specs.Objects.{left_of}
use Rattle.bc_superpages.specs.Layout.{Layout}
use Rattle.bc_superpages.specs.LayoutAt.{state_at}
use Rattle.bc_superpages.specs.declared.headers.PageState.{PageState}
use Rattle.bc_superpages.specs.declared.spaces.Space.{Space}
use Rattle.bc_whole_heap.specs.Closed.{buffer_of}
use Rattle.bc_whole_heap.specs.LaneChunks.{chunk_of}
use Rattle.bc_whole_heap.specs.Heaps.{heap_memory}
use Rattle.bc_whole_heap.proofs.MovingLemmas.{memory-moved, running-moved, stands-moved}
use Rattle.bc_running.specs.Running.{RunningView}
use Rattle.bc_running.specs.RunningFacts.{running_of, with_space}
use Rattle.bc_running.specs.Touching.{BringsHome}
use Rattle.bc_running.proofs.BringLemmas.{looks-touching, no-want, wants-elsewhere}
use Rattle.bc_running.proofs.MovingLemmas.{at_err, frame-buffer, frame-nursery, needs-moved, sound-moved, stays-moved, stays-same}
use Rattle.bc_running.proofs.SoundLemmas.{room-operated, sound-operated}
use Rattle.bc_running.proofs.operating.attempt.Goals as goal

pub reload_touched-requires-clause-running : goal.reload_touched-requires-clause-running
reload_touched-requires-clause-running c =
    let h = c.args.heap.now in
    let whole : AreWhole h.chunks.items = subst (λ (cs : List Nursery). AreWhole cs) c.deref.ensures.value c.heap_facts.ensures.whole in
    (h.chunks.items, h.buffers.items, whole, c.requires.sound.running)

pub operate_here-requires-clause-running : goal.operate_here-requires-clause-running
operate_here-requires-clause-running c =
    running-moved (heap_view c.args.heap.now) c.reload_touched.new.space c.args.holders.now c.reload_touched.ensures.moves c.requires.sound.running

-- done, or stopped on the heap in which the page is home
pub returns-in-Ok-clause-sound : goal.returns-in-Ok-clause-sound
returns-in-Ok-clause-sound c =
    let e = c.operate_here.ensures in
    let r : RunningView = running_of (heap_view c.args.heap.now) c.args.holders.now c.args.serials.now in
    let t = c.reload_touched.new.space in
    sound-operated (with_space r t) c.args.lane (heap_view c.operate_here.new.heap) c.operate_here.new.serial
    c.requires.lane (sound-moved r t c.reload_touched.ensures.moves c.requires.sound)
    (record { running = e.running; later = e.later.0; others = e.later.1; space = e.space; long = e.lists.0 })

pub returns-in-Ok-clause-step : goal.returns-in-Ok-clause-step
returns-in-Ok-clause-step c =
    IfOk-weaker c.operate_here.result _ _
    (λ reply is state stands. is c.args.serials.now state
    (stands-moved (heap_view c.args.heap.now) c.reload_touched.new.space c.args.holders.now c.args.serials.now state c.reload_touched.ensures.moves stands) refl)
    c.operate_here.ensures.step

pub returns-in-Ok-clause-stopped : goal.returns-in-Ok-clause-stopped
returns-in-Ok-clause-stopped c =
    on_err_weaker c.operate_here.result
    (λ same. (
      subst (λ (x : Heap). MovesPages c.args.heap.now.space x.space) (sym same.0) c.reload_touched.ensures.moves,
      same.0 ∙ sym (ap (λ (x : Heap). record c.args.heap.now { space = x.space }) same.0),
      ap (set c.args.serials.now c.args.lane) same.1 ∙ set-get_or c.args.serials.now c.args.lane 0,
    ))
    c.operate_here.ensures.same

pub returns-in-Ok-clause-buffer : goal.returns-in-Ok-clause-buffer
returns-in-Ok-clause-buffer c = λ stopped.
    let h = c.args.heap.now in
    needs-moved c.args.holders.now c.args.lane h.roots (chunk_of h.chunks.items c.args.lane) (buffer_of h.buffers.items c.args.lane) c.args.op.now c.reload_touched.ensures.moves
    (c.operate_here.ensures.buffer stopped)

pub returns-in-Ok-clause-full : goal.returns-in-Ok-clause-full
returns-in-Ok-clause-full c = λ stopped.
    let h = c.args.heap.now in
    let e = c.operate_here.ensures in
    let same = wants-elsewhere (left_of (chunk_of h.chunks.items c.args.lane)) c.args.op.now (e.nursery.0 stopped) c.in-Ok.ensures.brings in
    (at_err c.operate_here.result NurseryFull stopped e.same).0 ∙ ap (λ (s : Space). record h { space = s }) same

pub returns-in-Ok-clause-brings : goal.returns-in-Ok-clause-brings
returns-in-Ok-clause-brings c = λ stopped.
    let h = c.args.heap.now in
    let same = (at_err c.operate_here.result BufferFull stopped c.operate_here.ensures.same).0 in
    subst (λ (x : Heap). BringsHome c.args.holders.now c.args.lane h.space h.roots c.args.op.now x.space) (sym same) c.in-Ok.ensures.brings

pub returns-in-Ok-clause-frame : goal.returns-in-Ok-clause-frame
returns-in-Ok-clause-frame c = (λ stopped. absurd (c.operate_here.ensures.frame stopped), λ wants. absurd (no-want c.in-Ok.ensures.brings wants))

pub returns-in-Ok-clause-kept : goal.returns-in-Ok-clause-kept
returns-in-Ok-clause-kept c = λ stopped. absurd (c.operate_here.ensures.frame stopped)

pub returns-in-Ok-clause-finds : goal.returns-in-Ok-clause-finds
returns-in-Ok-clause-finds c = λ stopped. absurd (c.operate_here.ensures.frame stopped)

pub returns-in-Ok-clause-stays : goal.returns-in-Ok-clause-stays
returns-in-Ok-clause-stays c =
    let e = c.operate_here.ensures in
    let r : RunningView = running_of (heap_view c.args.heap.now) c.args.holders.now c.args.serials.now in
    let t = c.reload_touched.new.space in
    let q : RunningView = running_of (heap_view c.operate_here.new.heap) c.args.holders.now (set c.args.serials.now c.args.lane c.operate_here.new.serial) in
    stays-moved c.args.lane r q t c.reload_touched.ensures.moves (record {
      holders = refl;
      serials = ap (set c.args.serials.now c.args.lane) (sym (get_or-set_same c.args.serials.now c.args.lane c.operate_here.new.serial 0 c.requires.lane));
      others = e.others;
      space = e.space ∙ sym (ap (λ (x : Layout). record t { states = x.states; pages = x.pages; free = x.free; bookmarks = x.bookmarks; incoming = x.incoming; reads = x.reads }) e.space);
      pages = e.pages;
      roots = e.roots;
      slots = e.slots;
      chunk = e.chunk;
      chunks = e.lists.0;
      buffers = e.lists.1;
      capacity = e.capacity;
    })

pub returns-in-Ok-clause-recorded : goal.returns-in-Ok-clause-recorded
returns-in-Ok-clause-recorded c =
    IfOk-weaker c.operate_here.result _ _
    (λ reply recorded. (c.reload_touched.new.space, c.in-Ok.ensures.brings, c.reload_touched.ensures.moves, c.operate_here.ensures.space, recorded))
    c.operate_here.ensures.recorded

pub returns-in-Ok-clause-memory : goal.returns-in-Ok-clause-memory
returns-in-Ok-clause-memory c =
    let h = c.args.heap.now in
    let k = c.operate_here.new.heap in
    IfOk-weaker c.operate_here.result _ _
    (λ reply changed.
    subst (λ (m : Memory). IsChangedBy c.args.holders.now c.args.lane (get_or c.args.serials.now c.args.lane 0) m (heap_memory k.space k.chunks.items) h.roots c.args.op.now reply)
    (memory-moved h.chunks.items c.reload_touched.ensures.moves) changed)
    c.operate_here.ensures.memory

pub returns-in-Ok-clause-unrecorded : goal.returns-in-Ok-clause-unrecorded
returns-in-Ok-clause-unrecorded c = λ none.
    let u = c.operate_here.ensures.unrecorded none in
    let moves = c.reload_touched.ensures.moves in (
      u.0,
      λ p. let same = ap (λ (ss : List (List PageState)). state_at ss p) u.1 in (λ e. (moves.remembered p).0 (sym same ∙ e), λ e. same ∙ (moves.remembered p).1 e),
    )

pub returns-in-Ok-clause-room : goal.returns-in-Ok-clause-room
returns-in-Ok-clause-room c = λ room.
    let e = c.operate_here.ensures in
    room-operated c.args.lane (record c.args.heap.now { space = c.reload_touched.new.space }) c.operate_here.new.heap e.rest (λ l ne. (e.others l ne).0) e.chunk e.lists.0 room

-- no frame could be made free
pub returns-in-Err-clause-sound : goal.returns-in-Err-clause-sound
returns-in-Err-clause-sound c =
    sound-moved (running_of (heap_view c.args.heap.now) c.args.holders.now c.args.serials.now) c.reload_touched.new.space c.reload_touched.ensures.moves c.requires.sound

pub returns-in-Err-clause-stopped : goal.returns-in-Err-clause-stopped
returns-in-Err-clause-stopped c = (c.reload_touched.ensures.moves, refl, refl)

pub returns-in-Err-clause-nursery : goal.returns-in-Err-clause-nursery
returns-in-Err-clause-nursery c = frame-nursery Reply c.args.holders.now c.args.lane (left_of (chunk_of c.args.heap.now.chunks.items c.args.lane)) c.args.op.now c.in-Err.stop c.in-Err.ensures.stop (looks-touching c.in-Err.ensures.looks)

pub returns-in-Err-clause-buffer : goal.returns-in-Err-clause-buffer
returns-in-Err-clause-buffer c = λ e. frame-buffer Reply _ c.in-Err.stop c.in-Err.ensures.stop e

pub returns-in-Err-clause-frame : goal.returns-in-Err-clause-frame
returns-in-Err-clause-frame c = (λ e. (c.in-Err.ensures.looks, c.in-Err.ensures.full), λ wants. ap Err c.in-Err.ensures.stop)

pub returns-in-Err-clause-kept : goal.returns-in-Err-clause-kept
returns-in-Err-clause-kept c = λ e. ap (λ (s : Space). record c.args.heap.now { space = s }) c.in-Err.ensures.same

pub returns-in-Err-clause-full : goal.returns-in-Err-clause-full
returns-in-Err-clause-full c = λ e. ap (λ (s : Space). record c.args.heap.now { space = s }) c.in-Err.ensures.same

pub returns-in-Err-clause-brings : goal.returns-in-Err-clause-brings
returns-in-Err-clause-brings c = λ e. frame-buffer Reply _ c.in-Err.stop c.in-Err.ensures.stop e

pub returns-in-Err-clause-finds : goal.returns-in-Err-clause-finds
returns-in-Err-clause-finds c = λ e can. c.in-Err.ensures.finds can

pub returns-in-Err-clause-stays : goal.returns-in-Err-clause-stays
returns-in-Err-clause-stays c =
    let r : RunningView = running_of (heap_view c.args.heap.now) c.args.holders.now c.args.serials.now in
    let t = c.reload_touched.new.space in
    stays-moved c.args.lane r (with_space r t) t c.reload_touched.ensures.moves (stays-same c.args.lane (with_space r t))

pub returns-in-Err-clause-unrecorded : goal.returns-in-Err-clause-unrecorded
returns-in-Err-clause-unrecorded c = λ none. (refl, λ p. c.reload_touched.ensures.moves.remembered p)
