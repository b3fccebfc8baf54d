use Rattle.std.proofs.Common.{◌≡◌, ◌<◌, true, inl, inr, refl, ap, sym, subst, ◌∙◌}
use Rattle.std.proofs.lemmas.Result.{IfErr-weaker, IfOk-weaker, on_err_weaker}
use Rattle.bc_lane.proofs.FrozenLemmas.{gone-or-moved}
use Rattle.bc_lane.proofs.HandLemmas.{holds-taken, never-absent, never-remembered, nobodys-about, none-reloaded, refused-changed, refused-fetched, refused-frozen, refused-reads, refused-shown, reloaded-since, rights-on, seat-lane, shown-taken_frozen, taken-reads, then-lane, then-reads, tried-changed, tried-fetched}
use Rattle.bc_lane.proofs.PassLemmas.{passes-on, refused-passes, taken-passes}
use Rattle.bc_pins.specs.Calls.{view_of}
use Rattle.bc_pins.specs.Key.{Key, pages_of}
use Rattle.bc_pins.specs.declared.views.View.{View}
use Rattle.bc_pins.proofs.VisitLemmas.{at_after}
use Rattle.bc_pins.specs.declared.taking.TakeError.TheVariants.{Busy, Gone}
use Rattle.bc_pins.specs.declared.taking.Want.TheVariants.{Work}
use Rattle.bc_lane.proofs.hands.try_frozen.Goals as goal

pub returns-in-Ok-clause-ok : goal.returns-in-Ok-clause-ok
returns-in-Ok-clause-ok c = (
  holds-taken (view_of c.args.seat.now) c.take.new.seat c.args.page c.in-Ok.taken c.in-Ok.ensures.ok
      (subst (λ (a : Key). c.args.page < pages_of a) (sym c.requires.at.about) c.requires.page),
  c.in-Ok.ensures.ok.is,
)

pub returns-in-Ok-clause-shows : goal.returns-in-Ok-clause-shows
returns-in-Ok-clause-shows c = λ end s shown.
    shown-taken_frozen (view_of c.args.seat.now) c.take.new.seat c.args.page c.in-Ok.taken end s c.in-Ok.ensures.ok c.in-Ok.ensures.taken c.requires.frozen shown

pub returns-in-Ok-clause-reads : goal.returns-in-Ok-clause-reads
returns-in-Ok-clause-reads c = taken-reads (view_of c.args.seat.now) c.take.new.seat c.args.page c.in-Ok.taken c.in-Ok.ensures.ok (inr c.requires.frozen.0)

pub returns-in-Err-Busy-clause-err : goal.returns-in-Err-Busy-clause-err
returns-in-Err-Busy-clause-err c =
    let r = rw c.in-Err-Busy.field-0-is at c.in-Err-Busy.ensures.err in
    (r.0, inl (refl, refused-frozen (view_of c.args.seat.now) (view_of c.take.new.seat) c.args.page c.requires.frozen.0 r.1))

pub returns-in-Err-Busy-clause-still : goal.returns-in-Err-Busy-clause-still
returns-in-Err-Busy-clause-still c =
    let r = rw c.in-Err-Busy.field-0-is at c.in-Err-Busy.ensures.err in
    λ end s shown. refused-shown (view_of c.args.seat.now) (view_of c.take.new.seat) c.args.page Work Busy end s r.1 shown

pub returns-in-Err-Busy-clause-reads : goal.returns-in-Err-Busy-clause-reads
returns-in-Err-Busy-clause-reads c =
    let r = rw c.in-Err-Busy.field-0-is at c.in-Err-Busy.ensures.err in
    refused-reads (view_of c.args.seat.now) (view_of c.take.new.seat) c.args.page Work Busy r.1 (inr c.requires.frozen.0)

-- the page was read as Gone
pub reload_frozen-requires-clause-at : goal.reload_frozen-requires-clause-at
reload_frozen-requires-clause-at c = at_after c.args.pins.now c.args.seat.now c.take.new.seat c.requires.at c.take.ensures.same

pub reload_frozen-requires-clause-free : goal.reload_frozen-requires-clause-free
reload_frozen-requires-clause-free c = let r = rw c.in-Err-Gone.field-0-is at c.in-Err-Gone.ensures.err in r.0

pub reload_frozen-requires-clause-rights : goal.reload_frozen-requires-clause-rights
reload_frozen-requires-clause-rights c =
    let r = rw c.in-Err-Gone.field-0-is at c.in-Err-Gone.ensures.err in
    rights-on (view_of c.args.seat.now) (view_of c.take.new.seat) (refused-reads (view_of c.args.seat.now) (view_of c.take.new.seat) c.args.page Work Gone r.1 (inr c.requires.frozen.0)) c.requires.rights

pub reload_frozen-requires-clause-lanes : goal.reload_frozen-requires-clause-lanes
reload_frozen-requires-clause-lanes c = subst (λ (k : Key). k.lanes ≡ true) (sym c.take.ensures.same.about) c.requires.lanes

pub reload_frozen-requires-clause-frozen : goal.reload_frozen-requires-clause-frozen
reload_frozen-requires-clause-frozen c = nobodys-about (view_of c.args.seat.now) (view_of c.take.new.seat) c.args.page c.take.ensures.same.about c.requires.frozen

pub returns-in-Err-Gone-clause-same : goal.returns-in-Err-Gone-clause-same
returns-in-Err-Gone-clause-same c =
    let r = rw c.in-Err-Gone.field-0-is at c.in-Err-Gone.ensures.err in
    then-lane c.args.seat.now c.take.new.seat c.reload_frozen.new.seat (seat-lane c.args.seat.now c.take.new.seat c.take.ensures.same (refused-fetched (view_of c.args.seat.now) (view_of c.take.new.seat) c.args.page Work Gone r.1)) c.reload_frozen.ensures.same

pub returns-in-Err-Gone-clause-shows : goal.returns-in-Err-Gone-clause-shows
returns-in-Err-Gone-clause-shows c =
    let r = rw c.in-Err-Gone.field-0-is at c.in-Err-Gone.ensures.err in
    IfOk-weaker c.reload_frozen.result _ _ (λ held shows end s shown. shows end s (refused-shown (view_of c.args.seat.now) (view_of c.take.new.seat) c.args.page Work Gone end s r.1 shown)) c.reload_frozen.ensures.shows

pub returns-in-Err-Gone-clause-err : goal.returns-in-Err-Gone-clause-err
returns-in-Err-Gone-clause-err c =
    let r = rw c.in-Err-Gone.field-0-is at c.in-Err-Gone.ensures.err in
    IfErr-weaker c.reload_frozen.result _ _
    (λ why none. (none.0, inr (gone-or-moved (view_of c.args.seat.now) (view_of c.take.new.seat) (view_of c.reload_frozen.new.seat) c.args.page why c.requires.frozen r.1 c.reload_frozen.ensures.reads none.1)))
    c.reload_frozen.ensures.err

pub returns-in-Err-Gone-clause-still : goal.returns-in-Err-Gone-clause-still
returns-in-Err-Gone-clause-still c =
    let r = rw c.in-Err-Gone.field-0-is at c.in-Err-Gone.ensures.err in
    on_err_weaker c.reload_frozen.result (λ still end s shown. still end s (refused-shown (view_of c.args.seat.now) (view_of c.take.new.seat) c.args.page Work Gone end s r.1 shown)) c.reload_frozen.ensures.still

pub returns-in-Err-Gone-clause-reads : goal.returns-in-Err-Gone-clause-reads
returns-in-Err-Gone-clause-reads c =
    let r = rw c.in-Err-Gone.field-0-is at c.in-Err-Gone.ensures.err in
    then-reads (view_of c.args.seat.now) (view_of c.take.new.seat) (view_of c.reload_frozen.new.seat)
    (refused-reads (view_of c.args.seat.now) (view_of c.take.new.seat) c.args.page Work Gone r.1 (inr c.requires.frozen.0)) c.reload_frozen.ensures.reads

pub unreachable-requires : goal.unreachable-requires
unreachable-requires c =
    let r = rw c.in-Err-Remembered.field-0-is at c.in-Err-Remembered.ensures.err in
    absurd (never-remembered (view_of c.args.seat.now) (view_of c.take.new.seat) c.args.page r.1)

pub unreachable-requires-in-Err-Absent : goal.unreachable-requires-in-Err-Absent
unreachable-requires-in-Err-Absent c =
    let r = rw c.in-Err-Absent.field-0-is at c.in-Err-Absent.ensures.err in
    absurd (never-absent (view_of c.args.seat.now) (view_of c.take.new.seat) c.args.page c.requires.cell r.1)

pub returns-in-Ok-clause-same : goal.returns-in-Ok-clause-same
returns-in-Ok-clause-same c =
    seat-lane c.args.seat.now c.take.new.seat c.take.ensures.same
    (ap (λ (v : View). v.fetched) c.in-Ok.ensures.ok.view ∙ tried-fetched (view_of c.args.seat.now) c.args.page c.in-Ok.taken.remembered)

pub returns-in-Err-Busy-clause-same : goal.returns-in-Err-Busy-clause-same
returns-in-Err-Busy-clause-same c =
    let r = rw c.in-Err-Busy.field-0-is at c.in-Err-Busy.ensures.err in
    seat-lane c.args.seat.now c.take.new.seat c.take.ensures.same (refused-fetched (view_of c.args.seat.now) (view_of c.take.new.seat) c.args.page Work Busy r.1)

pub returns-in-Ok-clause-passes : goal.returns-in-Ok-clause-passes
returns-in-Ok-clause-passes c = λ q near ne. taken-passes (view_of c.args.seat.now) c.take.new.seat c.args.page q c.in-Ok.taken c.in-Ok.ensures.ok ne

pub returns-in-Err-Busy-clause-passes : goal.returns-in-Err-Busy-clause-passes
returns-in-Err-Busy-clause-passes c =
    let r = rw c.in-Err-Busy.field-0-is at c.in-Err-Busy.ensures.err in
    λ q near ne. refused-passes (view_of c.args.seat.now) (view_of c.take.new.seat) c.args.page q Work Busy r.1 ne

pub returns-in-Err-Gone-clause-passes : goal.returns-in-Err-Gone-clause-passes
returns-in-Err-Gone-clause-passes c =
    let r = rw c.in-Err-Gone.field-0-is at c.in-Err-Gone.ensures.err in
    λ q near ne.
    passes-on (view_of c.args.seat.now) (view_of c.take.new.seat) (view_of c.reload_frozen.new.seat) q
    (refused-passes (view_of c.args.seat.now) (view_of c.take.new.seat) c.args.page q Work Gone r.1 ne)
    (c.reload_frozen.ensures.passes q (subst (λ (k : Key). q < pages_of k) (sym c.take.ensures.same.about) near) ne)

pub returns-in-Ok-clause-changed : goal.returns-in-Ok-clause-changed
returns-in-Ok-clause-changed c = ap (λ (v : View). v.changed) c.in-Ok.ensures.ok.view ∙ tried-changed (view_of c.args.seat.now) c.args.page c.in-Ok.taken.remembered

pub returns-in-Err-Busy-clause-changed : goal.returns-in-Err-Busy-clause-changed
returns-in-Err-Busy-clause-changed c =
    let r = rw c.in-Err-Busy.field-0-is at c.in-Err-Busy.ensures.err in
    refused-changed (view_of c.args.seat.now) (view_of c.take.new.seat) c.args.page Work Busy r.1

pub returns-in-Err-Gone-clause-changed : goal.returns-in-Err-Gone-clause-changed
returns-in-Err-Gone-clause-changed c =
    let r = rw c.in-Err-Gone.field-0-is at c.in-Err-Gone.ensures.err in
    c.reload_frozen.ensures.changed ∙ refused-changed (view_of c.args.seat.now) (view_of c.take.new.seat) c.args.page Work Gone r.1

pub returns-in-Ok-clause-once : goal.returns-in-Ok-clause-once
returns-in-Ok-clause-once c =
    none-reloaded (view_of c.args.seat.now) (view_of c.take.new.seat) 1
    (ap (λ (v : View). v.fetched) c.in-Ok.ensures.ok.view ∙ tried-fetched (view_of c.args.seat.now) c.args.page c.in-Ok.taken.remembered)

pub returns-in-Err-Busy-clause-once : goal.returns-in-Err-Busy-clause-once
returns-in-Err-Busy-clause-once c =
    let r = rw c.in-Err-Busy.field-0-is at c.in-Err-Busy.ensures.err in
    none-reloaded (view_of c.args.seat.now) (view_of c.take.new.seat) 1 (refused-fetched (view_of c.args.seat.now) (view_of c.take.new.seat) c.args.page Work Busy r.1)

pub returns-in-Err-Busy-clause-refused : goal.returns-in-Err-Busy-clause-refused
returns-in-Err-Busy-clause-refused c =
    let r = rw c.in-Err-Busy.field-0-is at c.in-Err-Busy.ensures.err in
    refused-fetched (view_of c.args.seat.now) (view_of c.take.new.seat) c.args.page Work Busy r.1

pub returns-in-Err-Gone-clause-once : goal.returns-in-Err-Gone-clause-once
returns-in-Err-Gone-clause-once c =
    let r = rw c.in-Err-Gone.field-0-is at c.in-Err-Gone.ensures.err in
    reloaded-since (view_of c.args.seat.now) (view_of c.take.new.seat) (view_of c.reload_frozen.new.seat) 1 (refused-fetched (view_of c.args.seat.now) (view_of c.take.new.seat) c.args.page Work Gone r.1) c.reload_frozen.ensures.once

pub returns-in-Err-Gone-clause-refused : goal.returns-in-Err-Gone-clause-refused
returns-in-Err-Gone-clause-refused c =
    let r = rw c.in-Err-Gone.field-0-is at c.in-Err-Gone.ensures.err in
    on_err_weaker c.reload_frozen.result (λ none. none ∙ refused-fetched (view_of c.args.seat.now) (view_of c.take.new.seat) c.args.page Work Gone r.1) c.reload_frozen.ensures.refused
