use Rattle.std.proofs.Common.{◌≡◌, List, [], ◌++◌, length, length-append, vec_capacity, true, false, ap, sym, ◌∙◌, arith}
use Rattle.std.specs.Prelude.{option_to_list}
use Rattle.bc_cycle.specs.Emptying.{heap_view}
use Rattle.bc_pager.specs.Paging.{seats_of}
use Rattle.bc_pager.proofs.SeatedLemmas.{paged-below}
use Rattle.bc_pager.proofs.ServeLemmas.{told-none}
use Rattle.bc_turn.specs.declared.rooms.Spare.{Spare}
use Rattle.bc_turn.specs.declared.runs.Run.{Run}
use Rattle.bc_turn.specs.Taking.{spare_lanes}
use Rattle.bc_turn.proofs.AloneLemmas.{alone-answered, alone-back, alone-claims, alone-lies, alone-opened}
use Rattle.bc_turn.proofs.AnsweredLemmas.{answered-none}
use Rattle.bc_turn.proofs.LiveLemmas.{live-asked, live-fits, live-idle, live-long}
use Rattle.bc_turn.proofs.SeatedLemmas.{if-live, live-count, live-ready, none-live, pagers-dealt, pagers-ready, some-live}
use Rattle.bc_turn.proofs.turns.answer_alone.Goals as goal

pub returns-then-not-has_notices-clause-answered : goal.returns-then-not-has_notices-clause-answered
returns-then-not-has_notices-clause-answered g c =
    ([], told-none (g.N.Notices.taken c.args.live.now), answered-none (λ p. ⊥) (λ p content. ⊥) c.args.heap.now.space c.args.hints.now c.args.answers.now.items c.args.live_answers.now.items (let counted = c.reads-reads.ensures in omega arith) (c.has_notices.ensures.none c.if-not-has_notices.true).0)

false-true : {P : Type 0} → false ≡ true → P
false-true e = cc

pub returns-then-not-has_notices-clause-asked : goal.returns-then-not-has_notices-clause-asked
returns-then-not-has_notices-clause-asked g c = λ coming. false-true (sym (c.has_notices.ensures.none c.if-not-has_notices.true).1 ∙ c.may_come-coming.ensures.coming ∙ coming)

pub open_turn-requires-clause-some : goal.open_turn-requires-clause-some
open_turn-requires-clause-some g c = let some = c.has_notices.ensures.some c.if-not-has_notices.false in omega arith

pub open_turn-requires-clause-rising : goal.open_turn-requires-clause-rising
open_turn-requires-clause-rising g c = λ i j lt lj. let none = ap (λ (ss : List Spare). length (spare_lanes ss)) c.requires.idle in absurd (omega arith)

pub run_turn-requires-clause-can : goal.run_turn-requires-clause-can
run_turn-requires-clause-can g c κs within = λ i d lt. let none = ap (λ (rs : List Run). length rs) c.in_ok-turn.ensures.runs.0 in absurd (omega arith)

pub run_turn-requires-clause-ready : goal.run_turn-requires-clause-ready
run_turn-requires-clause-ready g c κs within = pagers-ready c.in_ok-turn.turn.pins c.args.heap.now.space c.args.holders.now [] c.in_ok-turn.turn.seats.items c.in_ok-turn.turn.pagers.items c.in_ok-turn.turn.live (alone-opened c.args.heap.now.space c.args.holders.now c.args.room.now.spares.items (length (c.in_ok-turn.turn.pagers.items ++ option_to_list c.in_ok-turn.turn.live)) c.in_ok-turn.turn.pins (c.in_ok-turn.turn.seats.items ++ seats_of (c.in_ok-turn.turn.pagers.items ++ option_to_list c.in_ok-turn.turn.live)) c.requires.idle c.in_ok-turn.ensures.opened) c.args.hints.now c.in_ok-turn.ensures.rooms

pub run_turn-requires-clause-live_ready : goal.run_turn-requires-clause-live_ready
run_turn-requires-clause-live_ready g c κs within = live-ready c.in_ok-turn.turn.pins c.args.heap.now.space c.args.holders.now [] c.in_ok-turn.turn.seats.items c.in_ok-turn.turn.pagers.items c.in_ok-turn.turn.live (alone-opened c.args.heap.now.space c.args.holders.now c.args.room.now.spares.items (length (c.in_ok-turn.turn.pagers.items ++ option_to_list c.in_ok-turn.turn.live)) c.in_ok-turn.turn.pins (c.in_ok-turn.turn.seats.items ++ seats_of (c.in_ok-turn.turn.pagers.items ++ option_to_list c.in_ok-turn.turn.live)) c.requires.idle c.in_ok-turn.ensures.opened) c.may_come-coming.result c.in_ok-turn.ensures.lives

pub destroy_empty-requires : goal.destroy_empty-requires
destroy_empty-requires g c =
    let number = c.run_turn.new.runs.ok.0 in
    let same = c.run_turn.ensures.ran.long in
    let none = ap (λ (rs : List Run). length rs) c.in_ok-turn.ensures.runs.0 in
    omega arith

pub close_turn-requires-clause-back : goal.close_turn-requires-clause-back
close_turn-requires-clause-back g c = alone-back c.in_ok-turn.turn.pins (heap_view c.args.heap.now) c.args.holders.now c.args.hints.now c.in_ok-turn.turn.seats.items c.in_ok-turn.turn.pagers.items c.in_ok-turn.turn.live (alone-opened c.args.heap.now.space c.args.holders.now c.args.room.now.spares.items (length (c.in_ok-turn.turn.pagers.items ++ option_to_list c.in_ok-turn.turn.live)) c.in_ok-turn.turn.pins (c.in_ok-turn.turn.seats.items ++ seats_of (c.in_ok-turn.turn.pagers.items ++ option_to_list c.in_ok-turn.turn.live)) c.requires.idle c.in_ok-turn.ensures.opened) c.run_turn.new.pagers.items c.run_turn.ensures.paged (g.N.Notices.taken c.args.live.now) (g.N.Notices.taken c.run_turn.new.live) (g.N.Notices.since c.args.live.now) (g.N.Notices.since c.run_turn.new.live) c.run_turn.new.pager c.run_turn.ensures.served (
    let some = c.has_notices.ensures.some c.if-not-has_notices.false in
    let count = c.in_ok-turn.ensures.count in
    let both = length-append c.in_ok-turn.turn.pagers.items (option_to_list c.in_ok-turn.turn.live) in
    let one = live-count c.in_ok-turn.turn.live c.may_come-coming.result c.in_ok-turn.ensures.lives in
    omega arith
    )

pub close_turn-requires-clause-numbers : goal.close_turn-requires-clause-numbers
close_turn-requires-clause-numbers g c = paged-below c.in_ok-turn.turn.pins c.args.hints.now c.in_ok-turn.turn.pagers.items c.run_turn.new.pagers.items c.run_turn.ensures.paged

pub close_turn-requires-clause-seats : goal.close_turn-requires-clause-seats
close_turn-requires-clause-seats g c =
    let most = c.in_ok-turn.ensures.seats.1 in
    let long = c.in_ok-turn.ensures.seats.0 in
    let same = c.run_turn.ensures.paged.long in
    let live = live-long c.in_ok-turn.turn.pins (g.N.Notices.taken c.args.live.now) (g.N.Notices.taken c.run_turn.new.live) (g.N.Notices.since c.args.live.now) (g.N.Notices.since c.run_turn.new.live) c.in_ok-turn.turn.live c.run_turn.new.pager c.run_turn.ensures.served in
    let before = length-append c.in_ok-turn.turn.pagers.items (option_to_list c.in_ok-turn.turn.live) in
    let after = length-append c.run_turn.new.pagers.items (option_to_list c.run_turn.new.pager) in
    omega arith

pub close_turn-requires-clause-live_room : goal.close_turn-requires-clause-live_room
close_turn-requires-clause-live_room g c =
    let number = c.args.live_answers.now.ok.0 in
    let within = c.args.live_answers.now.ok.1 in
    live-fits c.in_ok-turn.turn.pins (g.N.Notices.taken c.args.live.now) (g.N.Notices.taken c.run_turn.new.live) (g.N.Notices.since c.args.live.now) (g.N.Notices.since c.run_turn.new.live) c.in_ok-turn.turn.live c.run_turn.new.pager c.run_turn.ensures.served (length c.args.live_answers.now.items) (vec_capacity c.args.live_answers.now)
    (if-live c.in_ok-turn.turn.live c.may_come-coming.result c.in_ok-turn.ensures.lives _ (λ is. c.requires.live_room (sym c.may_come-coming.ensures.coming ∙ is))) (omega arith)

pub returns-clause-lies : goal.returns-clause-lies
returns-clause-lies g c = alone-lies c.in_ok-turn.turn.pins (heap_view c.args.heap.now) c.args.holders.now c.args.hints.now c.in_ok-turn.turn.seats.items c.in_ok-turn.turn.pagers.items c.in_ok-turn.turn.live (alone-opened c.args.heap.now.space c.args.holders.now c.args.room.now.spares.items (length (c.in_ok-turn.turn.pagers.items ++ option_to_list c.in_ok-turn.turn.live)) c.in_ok-turn.turn.pins (c.in_ok-turn.turn.seats.items ++ seats_of (c.in_ok-turn.turn.pagers.items ++ option_to_list c.in_ok-turn.turn.live)) c.requires.idle c.in_ok-turn.ensures.opened) c.run_turn.new.pagers.items c.run_turn.ensures.paged (g.N.Notices.taken c.args.live.now) (g.N.Notices.taken c.run_turn.new.live) (g.N.Notices.since c.args.live.now) (g.N.Notices.since c.run_turn.new.live) c.run_turn.new.pager c.run_turn.ensures.served c.close_turn.new.heap.space c.close_turn.ensures.closed c.requires.layout c.close_turn.ensures.layout (
    let some = c.has_notices.ensures.some c.if-not-has_notices.false in
    let count = c.in_ok-turn.ensures.count in
    let both = length-append c.in_ok-turn.turn.pagers.items (option_to_list c.in_ok-turn.turn.live) in
    let one = live-count c.in_ok-turn.turn.live c.may_come-coming.result c.in_ok-turn.ensures.lives in
    omega arith
    ) c.requires.openable

pub returns-clause-answered : goal.returns-clause-answered
returns-clause-answered g c =
    let opened = (alone-opened c.args.heap.now.space c.args.holders.now c.args.room.now.spares.items (length (c.in_ok-turn.turn.pagers.items ++ option_to_list c.in_ok-turn.turn.live)) c.in_ok-turn.turn.pins (c.in_ok-turn.turn.seats.items ++ seats_of (c.in_ok-turn.turn.pagers.items ++ option_to_list c.in_ok-turn.turn.live)) c.requires.idle c.in_ok-turn.ensures.opened) in
    let placed = c.close_turn.ensures.placed in
    let pagers = c.run_turn.new.pagers.items in
    let paged = c.run_turn.ensures.paged in
    let dealt = pagers-dealt c.in_ok-turn.turn.pins c.args.heap.now.space c.args.holders.now [] c.in_ok-turn.turn.seats.items c.in_ok-turn.turn.pagers.items c.in_ok-turn.turn.live opened in
    let many = alone-claims c.in_ok-turn.turn.pins (heap_view c.args.heap.now) c.args.holders.now c.args.hints.now c.in_ok-turn.turn.seats.items c.in_ok-turn.turn.pagers.items c.in_ok-turn.turn.live opened c.run_turn.new.pagers.items c.run_turn.ensures.paged (g.N.Notices.taken c.args.live.now) (g.N.Notices.taken c.run_turn.new.live) (g.N.Notices.since c.args.live.now) (g.N.Notices.since c.run_turn.new.live) c.run_turn.new.pager c.run_turn.ensures.served in
    alone-answered c.in_ok-turn.turn.pins (heap_view c.args.heap.now) c.args.holders.now c.args.hints.now c.in_ok-turn.turn.seats.items c.in_ok-turn.turn.pagers.items c.in_ok-turn.turn.live opened c.run_turn.new.pagers.items c.run_turn.ensures.paged (g.N.Notices.taken c.args.live.now) (g.N.Notices.taken c.run_turn.new.live) (g.N.Notices.since c.args.live.now) (g.N.Notices.since c.run_turn.new.live) c.run_turn.new.pager c.run_turn.ensures.served c.close_turn.new.heap.space c.close_turn.ensures.closed c.requires.layout c.close_turn.ensures.layout placed.0
    (c.law_answered_by_pagers.ensures.answered c.in_ok-turn.turn.pins c.args.hints.now c.in_ok-turn.turn.pagers.items pagers (c.in_ok-turn.turn.seats.items ++ seats_of (pagers ++ option_to_list c.run_turn.new.pager)) placed.0 c.in_ok-turn.ensures.count c.in_ok-turn.ensures.few dealt paged c.close_turn.ensures.claims many placed.2 placed.3)
    c.args.answers.now.items c.close_turn.new.answers.items placed.1 c.args.live_answers.now.items c.close_turn.new.live_answers.items c.close_turn.ensures.live_kept

pub returns-clause-asked : goal.returns-clause-asked
returns-clause-asked g c = λ coming.
    some-live c.in_ok-turn.turn.live c.may_come-coming.result c.in_ok-turn.ensures.lives _ (c.may_come-coming.ensures.coming ∙ coming)
    (live-asked c.in_ok-turn.turn.pins (g.N.Notices.taken c.args.live.now) (g.N.Notices.taken c.run_turn.new.live) (g.N.Notices.since c.args.live.now) (g.N.Notices.since c.run_turn.new.live) c.in_ok-turn.turn.live c.run_turn.new.pager c.run_turn.ensures.served
    (g.N.Notices.ends c.args.live.now) (g.N.Notices.ends c.run_turn.new.live) c.args.live_answers.now.items c.close_turn.new.live_answers.items c.run_turn.ensures.ended c.close_turn.ensures.live_kept)

pub returns-clause-idle : goal.returns-clause-idle
returns-clause-idle g c = λ idle.
    none-live c.in_ok-turn.turn.live c.may_come-coming.result c.in_ok-turn.ensures.lives _ (c.may_come-coming.ensures.coming ∙ idle)
    (live-idle c.in_ok-turn.turn.pins (g.N.Notices.taken c.args.live.now) (g.N.Notices.taken c.run_turn.new.live) (g.N.Notices.since c.args.live.now) (g.N.Notices.since c.run_turn.new.live) c.in_ok-turn.turn.live c.run_turn.new.pager c.run_turn.ensures.served
    (c.run_turn.new.live ≡ c.args.live.now) c.args.live_answers.now.items c.close_turn.new.live_answers.items c.run_turn.ensures.none c.close_turn.ensures.live_kept)
