use Rattle.std.proofs.Common.{◌≡◌, ◌++◌, length, length-append, vec_capacity, ap, sym, subst, ◌∙◌, arith}
use Rattle.std.specs.Prelude.{option_to_list}
use Rattle.bc_cycle.specs.declared.heaps.Heap.{Heap}
use Rattle.bc_cycle.specs.Emptying.{heap_view}
use Rattle.bc_model.specs.Rows.{lists_of}
use Rattle.bc_turn.specs.Beside.{RanBeside}
use Rattle.bc_pager.specs.Paging.{seats_of}
use Rattle.bc_pager.proofs.SeatedLemmas.{paged-below}
use Rattle.bc_turn.proofs.LiveLemmas.{live-asked, live-fits, live-idle, live-long}
use Rattle.bc_turn.proofs.SeatedLemmas.{pagers-dealt}
use Rattle.bc_turn.proofs.TurnLemmas.{all-back, all-ready, answered-beside, as-many, beside, can-all-run, fits-meanwhile, live-begins, reply-room, room-again, room-for, runs-of}
use Rattle.bc_turn.proofs.turns.finish_turn.Goals as goal
use Rattle.bc_whole_heap.specs.Heaps.{HeapView}

pub run_turn-requires-clause-can : goal.run_turn-requires-clause-can
run_turn-requires-clause-can g c κs within = let b = c.requires.begun in can-all-run b.0 (lists_of c.args.lanes.now) b.1 c.args.serials.now b.2 c.args.hints.now c.args.turn (heap_view c.args.heap.now) c.args.replies.now b.3 b.4

pub run_turn-requires-clause-ready : goal.run_turn-requires-clause-ready
run_turn-requires-clause-ready g c κs within = let b = c.requires.begun in all-ready b.0 (lists_of c.args.lanes.now) b.1 c.args.serials.now b.2 c.args.hints.now c.args.turn (heap_view c.args.heap.now) c.args.replies.now b.3 b.4

pub run_turn-requires-clause-live_ready : goal.run_turn-requires-clause-live_ready
run_turn-requires-clause-live_ready g c κs within = let b = c.requires.begun in live-begins b.0 (lists_of c.args.lanes.now) b.1 c.args.serials.now b.2 c.args.hints.now c.args.turn (heap_view c.args.heap.now) c.args.replies.now b.3 b.4

pub end_all-requires-clause-sizes : goal.end_all-requires-clause-sizes
end_all-requires-clause-sizes g c = let b = c.requires.begun in (_, fits-meanwhile b.0 (lists_of c.args.lanes.now) b.1 c.args.serials.now b.2 c.args.hints.now c.args.turn (heap_view c.args.heap.now) c.args.replies.now b.3 b.4)

pub end_all-requires-clause-runs : goal.end_all-requires-clause-runs
end_all-requires-clause-runs g c =
    let b = c.requires.begun in
    let ran = c.run_turn.ensures.ran in
    (b.0, b.4.busy, runs-of b.0 (lists_of c.args.lanes.now) b.1 c.args.serials.now b.2 c.args.hints.now c.args.turn (heap_view c.args.heap.now) c.args.replies.now b.3 b.4 c.run_turn.new.runs.items ran.each ran.long)

pub end_all-requires-clause-seats : goal.end_all-requires-clause-seats
end_all-requires-clause-seats g c =
    let seats = c.requires.seats in
    let most = seats.1 in
    let long = c.run_turn.ensures.ran.long in (seats.0, omega arith)

pub end_all-requires-clause-spares : goal.end_all-requires-clause-spares
end_all-requires-clause-spares g c =
    let spares = c.requires.spares in
    let most = spares.1 in
    let long = c.run_turn.ensures.ran.long in (spares.0, omega arith)

pub close_turn-requires-clause-lanes : goal.close_turn-requires-clause-lanes
close_turn-requires-clause-lanes g c = c.requires.begun.4.opened.lanes

pub close_turn-requires-clause-back : goal.close_turn-requires-clause-back
close_turn-requires-clause-back g c =
    let b = c.requires.begun in
    let ran = c.run_turn.ensures.ran in
    let ended = c.end_all.ensures in
    all-back b.0 (lists_of c.args.lanes.now) b.1 c.args.serials.now b.2 c.args.hints.now c.args.turn (heap_view c.args.heap.now) c.args.replies.now b.3 b.4 c.run_turn.new.runs.items ran.each ran.long
    (heap_view c.end_all.new.heap) c.end_all.new.serials (lists_of c.end_all.new.replies) (ended.back b.0 b.4.busy) c.run_turn.new.pagers.items c.run_turn.ensures.paged (g.N.Notices.taken c.args.live.now) (g.N.Notices.taken c.run_turn.new.live) (g.N.Notices.since c.args.live.now) (g.N.Notices.since c.run_turn.new.live) c.run_turn.new.pager c.run_turn.ensures.served c.end_all.new.seats.items ended.seats_long ended.seats

pub close_turn-requires-clause-numbers : goal.close_turn-requires-clause-numbers
close_turn-requires-clause-numbers g c = paged-below c.args.turn.pins c.args.hints.now c.args.turn.pagers.items c.run_turn.new.pagers.items c.run_turn.ensures.paged

pub close_turn-requires-clause-seats : goal.close_turn-requires-clause-seats
close_turn-requires-clause-seats g c =
    let most = c.requires.seats.1 in
    let long = c.run_turn.ensures.ran.long in
    let pagers = c.run_turn.ensures.paged.long in
    let live = live-long c.args.turn.pins (g.N.Notices.taken c.args.live.now) (g.N.Notices.taken c.run_turn.new.live) (g.N.Notices.since c.args.live.now) (g.N.Notices.since c.run_turn.new.live) c.args.turn.live c.run_turn.new.pager c.run_turn.ensures.served in
    let before = length-append c.args.turn.pagers.items (option_to_list c.args.turn.live) in
    let after = length-append c.run_turn.new.pagers.items (option_to_list c.run_turn.new.pager) in
    let back = c.end_all.ensures.seats_long in
    let still = c.end_all.ensures.seats_room in
    omega arith

pub close_turn-requires-clause-live_room : goal.close_turn-requires-clause-live_room
close_turn-requires-clause-live_room g c =
    let number = c.args.live_answers.now.ok.0 in
    let within = c.args.live_answers.now.ok.1 in
    live-fits c.args.turn.pins (g.N.Notices.taken c.args.live.now) (g.N.Notices.taken c.run_turn.new.live) (g.N.Notices.since c.args.live.now) (g.N.Notices.since c.run_turn.new.live) c.args.turn.live c.run_turn.new.pager c.run_turn.ensures.served (length c.args.live_answers.now.items) (vec_capacity c.args.live_answers.now) c.requires.live_room (omega arith)

pub returns-clause-asked : goal.returns-clause-asked
returns-clause-asked g c =
    live-asked c.args.turn.pins (g.N.Notices.taken c.args.live.now) (g.N.Notices.taken c.run_turn.new.live) (g.N.Notices.since c.args.live.now) (g.N.Notices.since c.run_turn.new.live) c.args.turn.live c.run_turn.new.pager c.run_turn.ensures.served
    (g.N.Notices.ends c.args.live.now) (g.N.Notices.ends c.run_turn.new.live) c.args.live_answers.now.items c.close_turn.new.live_answers.items c.run_turn.ensures.ended c.close_turn.ensures.live_kept

pub returns-clause-idle : goal.returns-clause-idle
returns-clause-idle g c =
    live-idle c.args.turn.pins (g.N.Notices.taken c.args.live.now) (g.N.Notices.taken c.run_turn.new.live) (g.N.Notices.since c.args.live.now) (g.N.Notices.since c.run_turn.new.live) c.args.turn.live c.run_turn.new.pager c.run_turn.ensures.served
    (c.run_turn.new.live ≡ c.args.live.now) c.args.live_answers.now.items c.close_turn.new.live_answers.items c.run_turn.ensures.none c.close_turn.ensures.live_kept

pub returns-clause-ran : goal.returns-clause-ran
returns-clause-ran g c = λ holders h before coming begun.
    let ran = c.run_turn.ensures.ran in
    let ended = c.end_all.ensures in
    let closed = c.close_turn.ensures in
    subst (λ (v : HeapView). RanBeside holders (lists_of c.args.lanes.now) h c.args.serials.now (lists_of before) v c.end_all.new.serials (lists_of c.end_all.new.replies)) (sym (ap heap_view c.close_turn.ensures.rest))
    (beside holders (lists_of c.args.lanes.now) h c.args.serials.now before c.args.hints.now c.args.turn (heap_view c.args.heap.now) c.args.replies.now coming begun c.run_turn.new.runs.items ran.each ran.long
    (heap_view c.end_all.new.heap) c.end_all.new.serials (lists_of c.end_all.new.replies) (ended.back holders begun.busy) c.run_turn.new.pagers.items c.run_turn.ensures.paged (g.N.Notices.taken c.args.live.now) (g.N.Notices.taken c.run_turn.new.live) (g.N.Notices.since c.args.live.now) (g.N.Notices.since c.run_turn.new.live) c.run_turn.new.pager c.run_turn.ensures.served c.end_all.new.seats.items ended.seats_long ended.seats
    c.close_turn.new.heap.space closed.closed closed.layout)

pub returns-clause-answered : goal.returns-clause-answered
returns-clause-answered g c = λ holders h before coming begun.
    let ran = c.run_turn.ensures.ran in
    let paged = c.run_turn.ensures.paged in
    let ended = c.end_all.ensures in
    let closed = c.close_turn.ensures in
    let pagers = c.run_turn.new.pagers.items in
    let seats = c.end_all.new.seats.items in
    let placed = closed.placed in
    let dealt = pagers-dealt c.args.turn.pins h.space holders begun.busy begun.seats c.args.turn.pagers.items c.args.turn.live begun.opened in
    let many = as-many holders (lists_of c.args.lanes.now) h c.args.serials.now before c.args.hints.now c.args.turn (heap_view c.args.heap.now) c.args.replies.now coming begun c.run_turn.new.runs.items ran.each ran.long
    (heap_view c.end_all.new.heap) c.end_all.new.serials (lists_of c.end_all.new.replies) (ended.back holders begun.busy) pagers paged (g.N.Notices.taken c.args.live.now) (g.N.Notices.taken c.run_turn.new.live) (g.N.Notices.since c.args.live.now) (g.N.Notices.since c.run_turn.new.live) c.run_turn.new.pager c.run_turn.ensures.served seats ended.seats_long ended.seats in
    answered-beside holders (lists_of c.args.lanes.now) h c.args.serials.now before c.args.hints.now c.args.turn (heap_view c.args.heap.now) c.args.replies.now coming begun c.run_turn.new.runs.items ran.each ran.long
    (heap_view c.end_all.new.heap) c.end_all.new.serials (lists_of c.end_all.new.replies) (ended.back holders begun.busy) pagers paged (g.N.Notices.taken c.args.live.now) (g.N.Notices.taken c.run_turn.new.live) (g.N.Notices.since c.args.live.now) (g.N.Notices.since c.run_turn.new.live) c.run_turn.new.pager c.run_turn.ensures.served seats ended.seats_long ended.seats placed.0
    (c.law_answered_by_pagers.ensures.answered c.args.turn.pins c.args.hints.now c.args.turn.pagers.items pagers (seats ++ seats_of (pagers ++ option_to_list c.run_turn.new.pager)) placed.0 begun.count begun.few dealt paged closed.claims many placed.2 placed.3)
    c.close_turn.new.heap.space closed.closed closed.layout c.args.answers.now.items c.close_turn.new.answers.items placed.1 c.args.live_answers.now.items c.close_turn.new.live_answers.items closed.live_kept

pub returns-clause-kept : goal.returns-clause-kept
returns-clause-kept g c = λ holders h before coming begun.
    let ran = c.run_turn.ensures.ran in
    let ended = c.end_all.ensures in
    let closed = c.close_turn.ensures in
    room-again holders (lists_of c.args.lanes.now) h c.args.serials.now before c.args.hints.now c.args.turn (heap_view c.args.heap.now) c.args.replies.now coming begun c.run_turn.new.runs.items ran.each ran.long
    (heap_view c.end_all.new.heap) c.end_all.new.serials (lists_of c.end_all.new.replies) (ended.back holders begun.busy) c.run_turn.new.pagers.items c.run_turn.ensures.paged (g.N.Notices.taken c.args.live.now) (g.N.Notices.taken c.run_turn.new.live) (g.N.Notices.since c.args.live.now) (g.N.Notices.since c.run_turn.new.live) c.run_turn.new.pager c.run_turn.ensures.served c.end_all.new.seats.items ended.seats_long ended.seats
    c.close_turn.new.heap.space closed.closed closed.layout (record { spares = c.end_all.new.spares }) (ended.spares holders begun.busy)

pub returns-clause-room : goal.returns-clause-room
returns-clause-room g c = λ j v lt e.
    let b = c.requires.begun in
    let ran = c.run_turn.ensures.ran in
    c.end_all.ensures.room (lists_of c.args.lanes.now) (reply-room b.0 (lists_of c.args.lanes.now) b.1 c.args.serials.now b.2 c.args.hints.now c.args.turn (heap_view c.args.heap.now) c.args.replies.now b.3 b.4 c.run_turn.new.runs.items ran.each ran.long)
    (room-for b.0 (lists_of c.args.lanes.now) b.1 c.args.serials.now b.2 c.args.hints.now c.args.turn (heap_view c.args.heap.now) c.args.replies.now b.3 b.4 c.run_turn.new.runs.items ran.each ran.long) j v lt (λ x. x) e

pub returns-clause-rest : goal.returns-clause-rest
returns-clause-rest g c =
    c.close_turn.ensures.rest
    ∙ ap (λ (h : Heap). record h { space = c.close_turn.new.heap.space }) c.end_all.ensures.same
    ∙ ap (λ (h : Heap). record (c.args.heap.now) { space = c.close_turn.new.heap.space; roots = h.roots; chunks = h.chunks; buffers = h.buffers }) (sym c.close_turn.ensures.rest)
