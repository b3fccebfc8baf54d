use Rattle.std.proofs.Common.{◌≡◌, true, sym, subst, ◌∙◌}
use Rattle.std.proofs.lemmas.Result.{IfErr-weaker, IfOk-weaker, on_err_weaker}
use Rattle.bc_lane.proofs.FrameLemmas.{frozen-since-then}
use Rattle.bc_lane.proofs.FrozenLemmas.{waited-more, waited-none, waited-passes, when-busy, when-still}
use Rattle.bc_lane.proofs.HandLemmas.{at-lane, nobodys-about, reloaded-since, rights-on, then-lane, then-reads}
use Rattle.bc_pins.specs.Calls.{view_of}
use Rattle.bc_pins.specs.Contents.{IsBarePage}
use Rattle.bc_pins.specs.Key.{Key}
use Rattle.bc_lane.proofs.hands.take_frozen.Goals as goal

pub loop-init : goal.loop-init
loop-init c = waited-none c.args.pins.now c.args.seat.now c.args.page c.requires.at c.requires.free

pub try_frozen-answer-requires-clause-at : goal.try_frozen-answer-requires-clause-at
try_frozen-answer-requires-clause-at c = c.loop.invariant.at

pub try_frozen-answer-requires-clause-rights : goal.try_frozen-answer-requires-clause-rights
try_frozen-answer-requires-clause-rights c = rights-on (view_of c.args.seat.now) (view_of c.loop.seat) c.loop.invariant.reads c.requires.rights

pub try_frozen-answer-requires-clause-lanes : goal.try_frozen-answer-requires-clause-lanes
try_frozen-answer-requires-clause-lanes c = subst (λ (k : Key). k.lanes ≡ true) (sym c.loop.invariant.same.worker.about) c.requires.lanes

pub try_frozen-answer-requires-clause-frozen : goal.try_frozen-answer-requires-clause-frozen
try_frozen-answer-requires-clause-frozen c = nobodys-about (view_of c.args.seat.now) (view_of c.loop.seat) c.args.page c.loop.invariant.same.worker.about c.requires.frozen

pub try_frozen-answer-requires-clause-cell : goal.try_frozen-answer-requires-clause-cell
try_frozen-answer-requires-clause-cell c = subst (λ (k : Key). IsBarePage k.opening c.args.page → ⊥) (sym c.loop.invariant.same.worker.about) c.requires.cell

pub returns-then-not-is_busy-clause-same : goal.returns-then-not-is_busy-clause-same
returns-then-not-is_busy-clause-same c = then-lane c.args.seat.now c.loop.seat c.try_frozen-answer.new.seat c.loop.invariant.same c.try_frozen-answer.ensures.same

pub returns-then-not-is_busy-clause-shows : goal.returns-then-not-is_busy-clause-shows
returns-then-not-is_busy-clause-shows c =
    let w = c.loop.invariant in
    IfOk-weaker c.try_frozen-answer.result _ _ (λ held shows end s shown. shows end s (w.still end s shown)) c.try_frozen-answer.ensures.shows

pub returns-then-not-is_busy-clause-err : goal.returns-then-not-is_busy-clause-err
returns-then-not-is_busy-clause-err c =
    let w = c.loop.invariant in
    IfErr-weaker c.try_frozen-answer.result _ _ (λ why no. (no.0, frozen-since-then (view_of c.args.seat.now) (view_of c.loop.seat) (view_of c.try_frozen-answer.new.seat) c.args.page why w.reads no.1)) c.try_frozen-answer.ensures.err

pub returns-then-not-is_busy-clause-still : goal.returns-then-not-is_busy-clause-still
returns-then-not-is_busy-clause-still c =
    let w = c.loop.invariant in
    on_err_weaker c.try_frozen-answer.result (λ still end s shown. still end s (w.still end s shown)) c.try_frozen-answer.ensures.still

pub returns-then-not-is_busy-clause-reads : goal.returns-then-not-is_busy-clause-reads
returns-then-not-is_busy-clause-reads c = then-reads (view_of c.args.seat.now) (view_of c.loop.seat) (view_of c.try_frozen-answer.new.seat) c.loop.invariant.reads c.try_frozen-answer.ensures.reads

pub returns-then-not-is_busy-clause-passes : goal.returns-then-not-is_busy-clause-passes
returns-then-not-is_busy-clause-passes c = waited-passes c.args.pins.now c.args.seat.now c.loop.seat c.try_frozen-answer.new.seat c.args.page c.loop.invariant c.try_frozen-answer.ensures.passes

pub returns-then-not-is_busy-clause-changed : goal.returns-then-not-is_busy-clause-changed
returns-then-not-is_busy-clause-changed c = c.try_frozen-answer.ensures.changed ∙ c.loop.invariant.changed

pub loop-preserved : goal.loop-preserved
loop-preserved c =
    let w = c.loop.invariant in
    let now = c.try_frozen-answer.ensures in
    let busy = c.is_busy.ensures.busy c.if-not-is_busy.false in
    waited-more c.args.pins.now c.args.seat.now c.loop.seat c.try_frozen-answer.new.seat c.args.page w (at-lane c.args.pins.now c.loop.seat c.try_frozen-answer.new.seat w.at now.same)
    (when-busy c.try_frozen-answer.result _ _ busy now.err) now.same (when-still c.try_frozen-answer.result _ busy now.still) now.reads now.passes now.changed (when-still c.try_frozen-answer.result _ busy now.refused)

pub try_frozen-requires-clause-at : goal.try_frozen-requires-clause-at
try_frozen-requires-clause-at c = c.loop.invariant.at

pub try_frozen-requires-clause-rights : goal.try_frozen-requires-clause-rights
try_frozen-requires-clause-rights c = rights-on (view_of c.args.seat.now) (view_of c.loop.seat) c.loop.invariant.reads c.requires.rights

pub try_frozen-requires-clause-lanes : goal.try_frozen-requires-clause-lanes
try_frozen-requires-clause-lanes c = subst (λ (k : Key). k.lanes ≡ true) (sym c.loop.invariant.same.worker.about) c.requires.lanes

pub try_frozen-requires-clause-frozen : goal.try_frozen-requires-clause-frozen
try_frozen-requires-clause-frozen c = nobodys-about (view_of c.args.seat.now) (view_of c.loop.seat) c.args.page c.loop.invariant.same.worker.about c.requires.frozen

pub try_frozen-requires-clause-cell : goal.try_frozen-requires-clause-cell
try_frozen-requires-clause-cell c = subst (λ (k : Key). IsBarePage k.opening c.args.page → ⊥) (sym c.loop.invariant.same.worker.about) c.requires.cell

pub returns-clause-same : goal.returns-clause-same
returns-clause-same c = then-lane c.args.seat.now c.loop.seat c.try_frozen.new.seat c.loop.invariant.same c.try_frozen.ensures.same

pub returns-clause-shows : goal.returns-clause-shows
returns-clause-shows c =
    let w = c.loop.invariant in
    IfOk-weaker c.try_frozen.result _ _ (λ held shows end s shown. shows end s (w.still end s shown)) c.try_frozen.ensures.shows

pub returns-clause-err : goal.returns-clause-err
returns-clause-err c =
    let w = c.loop.invariant in
    IfErr-weaker c.try_frozen.result _ _ (λ why no. (no.0, frozen-since-then (view_of c.args.seat.now) (view_of c.loop.seat) (view_of c.try_frozen.new.seat) c.args.page why w.reads no.1)) c.try_frozen.ensures.err

pub returns-clause-still : goal.returns-clause-still
returns-clause-still c =
    let w = c.loop.invariant in
    on_err_weaker c.try_frozen.result (λ still end s shown. still end s (w.still end s shown)) c.try_frozen.ensures.still

pub returns-clause-reads : goal.returns-clause-reads
returns-clause-reads c = then-reads (view_of c.args.seat.now) (view_of c.loop.seat) (view_of c.try_frozen.new.seat) c.loop.invariant.reads c.try_frozen.ensures.reads

pub returns-clause-passes : goal.returns-clause-passes
returns-clause-passes c = waited-passes c.args.pins.now c.args.seat.now c.loop.seat c.try_frozen.new.seat c.args.page c.loop.invariant c.try_frozen.ensures.passes

pub returns-clause-changed : goal.returns-clause-changed
returns-clause-changed c = c.try_frozen.ensures.changed ∙ c.loop.invariant.changed

pub returns-then-not-is_busy-clause-once : goal.returns-then-not-is_busy-clause-once
returns-then-not-is_busy-clause-once c =
    reloaded-since (view_of c.args.seat.now) (view_of c.loop.seat) (view_of c.try_frozen-answer.new.seat) 1 c.loop.invariant.fetched c.try_frozen-answer.ensures.once

pub returns-then-not-is_busy-clause-refused : goal.returns-then-not-is_busy-clause-refused
returns-then-not-is_busy-clause-refused c = on_err_weaker c.try_frozen-answer.result (λ none. none ∙ c.loop.invariant.fetched) c.try_frozen-answer.ensures.refused

pub returns-clause-once : goal.returns-clause-once
returns-clause-once c = reloaded-since (view_of c.args.seat.now) (view_of c.loop.seat) (view_of c.try_frozen.new.seat) 1 c.loop.invariant.fetched c.try_frozen.ensures.once

pub returns-clause-refused : goal.returns-clause-refused
returns-clause-refused c = on_err_weaker c.try_frozen.result (λ none. none ∙ c.loop.invariant.fetched) c.try_frozen.ensures.refused
