use Rattle.std.proofs.Common.{◌≡◌, ◌<◌, true, inl, inr, refl, ap, sym, subst, ◌∙◌}
use Rattle.std.proofs.lemmas.Result.{IfErr-weaker, IfOk-weaker, on_err_weaker}
use Rattle.bc_lane.proofs.FrameLemmas.{no-frame-for}
use Rattle.bc_lane.proofs.HandLemmas.{holds-taken, never-absent, never-remembered, none-reloaded, own-lane, refused-changed, refused-fetched, refused-gone, refused-held, refused-reads, refused-shown, reloaded-since, rights-on, seat-lane, shown-taken, taken-reads, then-lane, then-reads, tried-changed, tried-fetched}
use Rattle.bc_lane.proofs.PassLemmas.{passes-on, refused-passes, taken-passes}
use Rattle.bc_pins.specs.Calls.{view_of}
use Rattle.bc_pins.specs.Key.{Key, pages_of}
use Rattle.bc_pins.specs.declared.views.View.{View}
use Rattle.bc_pins.proofs.VisitLemmas.{at_after}
use Rattle.bc_pins.specs.declared.taking.TakeError.TheVariants.{Busy, Gone}
use Rattle.bc_pins.specs.declared.taking.Want.TheVariants.{Work}
use Rattle.bc_lane.proofs.hands.take_own.Goals as goal

pub returns-in-Ok-clause-ok : goal.returns-in-Ok-clause-ok
returns-in-Ok-clause-ok c = (
  holds-taken (view_of c.args.seat.now) c.take.new.seat c.args.page c.in-Ok.held c.in-Ok.ensures.ok
      (subst (λ (a : Key). c.args.page < pages_of a) (sym c.requires.at.about) c.requires.page),
  c.in-Ok.ensures.ok.is,
)

pub returns-in-Ok-clause-shows : goal.returns-in-Ok-clause-shows
returns-in-Ok-clause-shows c = λ end s shown.
    shown-taken (view_of c.args.seat.now) c.take.new.seat c.args.page c.in-Ok.held end s c.in-Ok.ensures.ok c.in-Ok.ensures.taken c.requires.own shown

pub returns-in-Ok-clause-reads : goal.returns-in-Ok-clause-reads
returns-in-Ok-clause-reads c = taken-reads (view_of c.args.seat.now) c.take.new.seat c.args.page c.in-Ok.held c.in-Ok.ensures.ok (inl c.requires.own)

pub returns-in-Err-Busy-clause-err : goal.returns-in-Err-Busy-clause-err
returns-in-Err-Busy-clause-err c =
    let r = rw c.in-Err-Busy.field-0-is at c.in-Err-Busy.ensures.err in
    (r.0, inl (refl, refused-held (view_of c.args.seat.now) (view_of c.take.new.seat) c.args.page c.requires.own r.1))

pub returns-in-Err-Busy-clause-still : goal.returns-in-Err-Busy-clause-still
returns-in-Err-Busy-clause-still c =
    let r = rw c.in-Err-Busy.field-0-is at c.in-Err-Busy.ensures.err in
    λ end s shown. refused-shown (view_of c.args.seat.now) (view_of c.take.new.seat) c.args.page Work Busy end s r.1 shown

pub returns-in-Err-Busy-clause-reads : goal.returns-in-Err-Busy-clause-reads
returns-in-Err-Busy-clause-reads c =
    let r = rw c.in-Err-Busy.field-0-is at c.in-Err-Busy.ensures.err in
    refused-reads (view_of c.args.seat.now) (view_of c.take.new.seat) c.args.page Work Busy r.1 (inl c.requires.own)

-- the page was read as Gone
pub reload_page-requires-clause-at : goal.reload_page-requires-clause-at
reload_page-requires-clause-at c = at_after c.args.pins.now c.args.seat.now c.take.new.seat c.requires.at c.take.ensures.same

pub reload_page-requires-clause-free : goal.reload_page-requires-clause-free
reload_page-requires-clause-free c = let r = rw c.in-Err-Gone.field-0-is at c.in-Err-Gone.ensures.err in r.0

pub reload_page-requires-clause-rights : goal.reload_page-requires-clause-rights
reload_page-requires-clause-rights c =
    let r = rw c.in-Err-Gone.field-0-is at c.in-Err-Gone.ensures.err in
    rights-on (view_of c.args.seat.now) (view_of c.take.new.seat) (refused-reads (view_of c.args.seat.now) (view_of c.take.new.seat) c.args.page Work Gone r.1 (inl c.requires.own)) c.requires.rights

pub reload_page-requires-clause-lanes : goal.reload_page-requires-clause-lanes
reload_page-requires-clause-lanes c = subst (λ (k : Key). k.lanes ≡ true) (sym c.take.ensures.same.about) c.requires.lanes

pub reload_page-requires-clause-own : goal.reload_page-requires-clause-own
reload_page-requires-clause-own c =
    let r = rw c.in-Err-Gone.field-0-is at c.in-Err-Gone.ensures.err in
    own-lane c.args.seat.now c.take.new.seat c.args.page (seat-lane c.args.seat.now c.take.new.seat c.take.ensures.same (refused-fetched (view_of c.args.seat.now) (view_of c.take.new.seat) c.args.page Work Gone r.1)) c.requires.own

pub reload_page-requires-clause-gone : goal.reload_page-requires-clause-gone
reload_page-requires-clause-gone c =
    let r = rw c.in-Err-Gone.field-0-is at c.in-Err-Gone.ensures.err in
    refused-gone (view_of c.args.seat.now) (view_of c.take.new.seat) c.args.page Work c.requires.own r.1

pub returns-in-Err-Gone-clause-same : goal.returns-in-Err-Gone-clause-same
returns-in-Err-Gone-clause-same c =
    let r = rw c.in-Err-Gone.field-0-is at c.in-Err-Gone.ensures.err in
    then-lane c.args.seat.now c.take.new.seat c.reload_page.new.seat (seat-lane c.args.seat.now c.take.new.seat c.take.ensures.same (refused-fetched (view_of c.args.seat.now) (view_of c.take.new.seat) c.args.page Work Gone r.1)) c.reload_page.ensures.same

pub returns-in-Err-Gone-clause-shows : goal.returns-in-Err-Gone-clause-shows
returns-in-Err-Gone-clause-shows c =
    let r = rw c.in-Err-Gone.field-0-is at c.in-Err-Gone.ensures.err in
    IfOk-weaker c.reload_page.result _ _ (λ held shows end s shown. shows end s (refused-shown (view_of c.args.seat.now) (view_of c.take.new.seat) c.args.page Work Gone end s r.1 shown)) c.reload_page.ensures.shows

pub returns-in-Err-Gone-clause-err : goal.returns-in-Err-Gone-clause-err
returns-in-Err-Gone-clause-err c =
    let r = rw c.in-Err-Gone.field-0-is at c.in-Err-Gone.ensures.err in
    let noted = refused-gone (view_of c.args.seat.now) (view_of c.take.new.seat) c.args.page Work c.requires.own r.1 in
    let free = rights-on (view_of c.args.seat.now) (view_of c.take.new.seat) (refused-reads (view_of c.args.seat.now) (view_of c.take.new.seat) c.args.page Work Gone r.1 (inl c.requires.own)) c.requires.rights in
    IfErr-weaker c.reload_page.result _ _
    (λ why none. (none.0, inr (none.1, no-frame-for (view_of c.args.seat.now) (view_of c.take.new.seat) (view_of c.reload_page.new.seat) c.args.page r.1 r.0.hand free none.2 noted)))
    c.reload_page.ensures.err

pub returns-in-Err-Gone-clause-still : goal.returns-in-Err-Gone-clause-still
returns-in-Err-Gone-clause-still c =
    let r = rw c.in-Err-Gone.field-0-is at c.in-Err-Gone.ensures.err in
    on_err_weaker c.reload_page.result (λ still end s shown. still end s (refused-shown (view_of c.args.seat.now) (view_of c.take.new.seat) c.args.page Work Gone end s r.1 shown)) c.reload_page.ensures.still

pub returns-in-Err-Gone-clause-reads : goal.returns-in-Err-Gone-clause-reads
returns-in-Err-Gone-clause-reads c =
    let r = rw c.in-Err-Gone.field-0-is at c.in-Err-Gone.ensures.err in
    then-reads (view_of c.args.seat.now) (view_of c.take.new.seat) (view_of c.reload_page.new.seat)
    (refused-reads (view_of c.args.seat.now) (view_of c.take.new.seat) c.args.page Work Gone r.1 (inl c.requires.own)) c.reload_page.ensures.reads

pub unreachable-requires : goal.unreachable-requires
unreachable-requires c =
    let r = rw c.in-Err-Remembered.field-0-is at c.in-Err-Remembered.ensures.err in
    absurd (never-remembered (view_of c.args.seat.now) (view_of c.take.new.seat) c.args.page r.1)

pub unreachable-requires-in-Err-Absent : goal.unreachable-requires-in-Err-Absent
unreachable-requires-in-Err-Absent c =
    let r = rw c.in-Err-Absent.field-0-is at c.in-Err-Absent.ensures.err in
    absurd (never-absent (view_of c.args.seat.now) (view_of c.take.new.seat) c.args.page c.requires.cell r.1)

pub returns-in-Ok-clause-same : goal.returns-in-Ok-clause-same
returns-in-Ok-clause-same c =
    seat-lane c.args.seat.now c.take.new.seat c.take.ensures.same
    (ap (λ (v : View). v.fetched) c.in-Ok.ensures.ok.view ∙ tried-fetched (view_of c.args.seat.now) c.args.page c.in-Ok.held.remembered)

pub returns-in-Err-Busy-clause-same : goal.returns-in-Err-Busy-clause-same
returns-in-Err-Busy-clause-same c =
    let r = rw c.in-Err-Busy.field-0-is at c.in-Err-Busy.ensures.err in
    seat-lane c.args.seat.now c.take.new.seat c.take.ensures.same (refused-fetched (view_of c.args.seat.now) (view_of c.take.new.seat) c.args.page Work Busy r.1)

pub returns-in-Ok-clause-passes : goal.returns-in-Ok-clause-passes
returns-in-Ok-clause-passes c = λ q near ne. taken-passes (view_of c.args.seat.now) c.take.new.seat c.args.page q c.in-Ok.held c.in-Ok.ensures.ok ne

pub returns-in-Err-Busy-clause-passes : goal.returns-in-Err-Busy-clause-passes
returns-in-Err-Busy-clause-passes c =
    let r = rw c.in-Err-Busy.field-0-is at c.in-Err-Busy.ensures.err in
    λ q near ne. refused-passes (view_of c.args.seat.now) (view_of c.take.new.seat) c.args.page q Work Busy r.1 ne

pub returns-in-Err-Gone-clause-passes : goal.returns-in-Err-Gone-clause-passes
returns-in-Err-Gone-clause-passes c =
    let r = rw c.in-Err-Gone.field-0-is at c.in-Err-Gone.ensures.err in
    λ q near ne.
    passes-on (view_of c.args.seat.now) (view_of c.take.new.seat) (view_of c.reload_page.new.seat) q
    (refused-passes (view_of c.args.seat.now) (view_of c.take.new.seat) c.args.page q Work Gone r.1 ne)
    (c.reload_page.ensures.passes q (subst (λ (k : Key). q < pages_of k) (sym c.take.ensures.same.about) near) ne)

pub returns-in-Ok-clause-changed : goal.returns-in-Ok-clause-changed
returns-in-Ok-clause-changed c = ap (λ (v : View). v.changed) c.in-Ok.ensures.ok.view ∙ tried-changed (view_of c.args.seat.now) c.args.page c.in-Ok.held.remembered

pub returns-in-Err-Busy-clause-changed : goal.returns-in-Err-Busy-clause-changed
returns-in-Err-Busy-clause-changed c =
    let r = rw c.in-Err-Busy.field-0-is at c.in-Err-Busy.ensures.err in
    refused-changed (view_of c.args.seat.now) (view_of c.take.new.seat) c.args.page Work Busy r.1

pub returns-in-Err-Gone-clause-changed : goal.returns-in-Err-Gone-clause-changed
returns-in-Err-Gone-clause-changed c =
    let r = rw c.in-Err-Gone.field-0-is at c.in-Err-Gone.ensures.err in
    c.reload_page.ensures.changed ∙ refused-changed (view_of c.args.seat.now) (view_of c.take.new.seat) c.args.page Work Gone r.1

pub returns-in-Ok-clause-once : goal.returns-in-Ok-clause-once
returns-in-Ok-clause-once c =
    none-reloaded (view_of c.args.seat.now) (view_of c.take.new.seat) 1
    (ap (λ (v : View). v.fetched) c.in-Ok.ensures.ok.view ∙ tried-fetched (view_of c.args.seat.now) c.args.page c.in-Ok.held.remembered)

pub returns-in-Err-Busy-clause-once : goal.returns-in-Err-Busy-clause-once
returns-in-Err-Busy-clause-once c =
    let r = rw c.in-Err-Busy.field-0-is at c.in-Err-Busy.ensures.err in
    none-reloaded (view_of c.args.seat.now) (view_of c.take.new.seat) 1 (refused-fetched (view_of c.args.seat.now) (view_of c.take.new.seat) c.args.page Work Busy r.1)

pub returns-in-Err-Busy-clause-refused : goal.returns-in-Err-Busy-clause-refused
returns-in-Err-Busy-clause-refused c =
    let r = rw c.in-Err-Busy.field-0-is at c.in-Err-Busy.ensures.err in
    refused-fetched (view_of c.args.seat.now) (view_of c.take.new.seat) c.args.page Work Busy r.1

pub returns-in-Err-Gone-clause-once : goal.returns-in-Err-Gone-clause-once
returns-in-Err-Gone-clause-once c =
    let r = rw c.in-Err-Gone.field-0-is at c.in-Err-Gone.ensures.err in
    reloaded-since (view_of c.args.seat.now) (view_of c.take.new.seat) (view_of c.reload_page.new.seat) 1 (refused-fetched (view_of c.args.seat.now) (view_of c.take.new.seat) c.args.page Work Gone r.1) c.reload_page.ensures.once

pub returns-in-Err-Gone-clause-refused : goal.returns-in-Err-Gone-clause-refused
returns-in-Err-Gone-clause-refused c =
    let r = rw c.in-Err-Gone.field-0-is at c.in-Err-Gone.ensures.err in
    on_err_weaker c.reload_page.result (λ none. none ∙ refused-fetched (view_of c.args.seat.now) (view_of c.take.new.seat) c.args.page Work Gone r.1) c.reload_page.ensures.refused
