use Rattle.std.proofs.Common.{◌<◌, ◌+◌, length, refl, sym, ap, ◌∙◌, arith, subst, inl, inr}
use Rattle.std.proofs.lemmas.Result.{err_from_is_err_and}
use Rattle.bc_io.proofs.Telling.{HeldGrows-nil, RoomFalls-none}
use Rattle.bc_io.specs.Told.{HeldGrows}
use Rattle.bc_model.specs.Lists.{TraceLists}
use Rattle.bc_replay.specs.BetweenPhases.{HasRun}
use Rattle.bc_replay.specs.Courses.{course_from}
use Rattle.bc_replay.specs.Output.{texts_before}
use Rattle.bc_replay.proofs.Finishing.{phase-room}
use Rattle.bc_replay.proofs.Feeds.{fed-next, fed-none, fed-same}
use Rattle.bc_replay.proofs.Running.{phase-of, within-of}
use Rattle.bc_replay.proofs.Pieces.{texts-none, Rose-since}
use Rattle.bc_replay.proofs.phases.write_phases.Goals as goal

pub loop-index-init : goal.loop-index-init
loop-index-init g c = record {
  run = λ s run. run;
  held = λ s _. rw texts-none (HeldGrows-nil _);
  room = λ s _. rw texts-none (RoomFalls-none _);
  firm = refl;
  workers = refl;
  fed = fed-none _ _ _ _;
  feed = (refl, refl, refl);
  idle = λ _. refl;
  told = c.requires.told;
  answers_room = refl;
}

pub loop-index-preserved : goal.loop-index-preserved
loop-index-preserved g c =
    let e = c.in_ok-write_phase.ensures in
    let i = c.loop-index.invariant in
    let s = c.requires.opened.0 in
    let lt : c.loop-index.index + c.args.first < length c.args.trace.now.phases = omega (arith, ap (λ (x : TraceLists). length x.phases) c.trace.view_is, c.len.ensures) in
    record {
      run = λ s run. e.run s (c.loop-index.invariant.run s run);
      held = λ s run. e.written s (c.loop-index.invariant.run s run) _ (c.loop-index.invariant.held s run);
      room = λ s run. e.filled s (c.loop-index.invariant.run s run) _ (c.loop-index.invariant.room s run);
      firm = e.firm (λ n. cc) ∙ c.loop-index.invariant.firm;
      workers = e.workers ∙ c.loop-index.invariant.workers;
      fed = elim e.fed.2 [
        | inl h ↦ fed-next _ _ _ _ _ _ _ _ _ _ _ _ _ i.fed (within-of c.args.trace.now s c.args.first c.loop-index.index lt) (phase-of c.args.trace.now s c.args.first c.loop-index.index _ refl) h.0 e.fed.1 h.1
        | inr bad ↦ let clash = bad.0 in cc
      ];
      feed = (e.feed.0 ∙ i.feed.0, e.feed.1 ∙ i.feed.1, e.feed.2 ∙ i.feed.2);
      idle = λ none. e.idle (ap g.N.Notices.coming (i.idle none) ∙ none) ∙ i.idle none;
      told = e.told;
      answers_room = e.answers_room ∙ i.answers_room;
    }

pub returns-in_err-write_phase-clause-cause : goal.returns-in_err-write_phase-clause-cause
returns-in_err-write_phase-clause-cause g c =
    let p = err_from_is_err_and c.from_residual.result c.from_residual.ensures.1 in
    rw (p.1, p.2) (λ e. Rose-since _ _ _ c.loop-index.invariant.firm (c.in_err-write_phase.ensures.cause e))

pub returns-in_err-write_phase-clause-write_fault : goal.returns-in_err-write_phase-clause-write_fault
returns-in_err-write_phase-clause-write_fault g c =
    let p = err_from_is_err_and c.from_residual.result c.from_residual.ensures.1 in
    rw (p.1, p.2) (λ s run e. c.in_err-write_phase.ensures.write_fault s (c.loop-index.invariant.run s run) e _ (c.loop-index.invariant.held s run))

pub returns-in_err-write_phase-clause-out_of_heap : goal.returns-in_err-write_phase-clause-out_of_heap
returns-in_err-write_phase-clause-out_of_heap g c =
    let p = err_from_is_err_and c.from_residual.result c.from_residual.ensures.1 in
    rw (p.1, p.2) (λ s run need e. c.in_err-write_phase.ensures.out_of_heap s (c.loop-index.invariant.run s run) need e _ (c.loop-index.invariant.held s run))

pub returns-in_err-write_phase-clause-firm : goal.returns-in_err-write_phase-clause-firm
returns-in_err-write_phase-clause-firm g c =
    let p = err_from_is_err_and c.from_residual.result c.from_residual.ensures.1 in
    rw (p.1, p.2) (λ other. c.in_err-write_phase.ensures.firm other ∙ c.loop-index.invariant.firm)

pub write_phase-requires-clause-opened : goal.write_phase-requires-clause-opened
write_phase-requires-clause-opened g c κs within =
    let lt : c.loop-index.index + c.args.first < length c.args.trace.now.phases = omega (arith, ap (λ (x : TraceLists). length x.phases) c.trace.view_is, c.len.ensures) in
    let s = c.requires.opened.0 in
    let run = c.requires.opened.1 in (
      s,
      c.loop-index.invariant.run s run,
      phase-room (course_from c.args.trace.now s c.args.first) _ _ _ (within-of c.args.trace.now s c.args.first c.loop-index.index lt) c.requires.opened.2 (c.loop-index.invariant.room s run),
    )

pub returns-in_err-write_phase-clause-no_memory : goal.returns-in_err-write_phase-clause-no_memory
returns-in_err-write_phase-clause-no_memory g c =
    let p = err_from_is_err_and c.from_residual.result c.from_residual.ensures.1 in
    let lt : c.loop-index.index + c.args.first < length c.args.trace.now.phases = omega (arith, ap (λ (x : TraceLists). length x.phases) c.trace.view_is, c.len.ensures) in
    rw (p.1, p.2) (λ s run e. let want = c.in_err-write_phase.ensures.no_memory e in record {
      stops = record {
        phase = c.loop-index.index;
        within = within-of c.args.trace.now s c.args.first c.loop-index.index lt;
        written = subst (λ z. HeldGrows (g.K.Sink.held c.args.sink.now) (g.K.Sink.held z) (texts_before (course_from c.args.trace.now s c.args.first) c.loop-index.index)) (sym want.0) (c.loop-index.invariant.held s run);
      };
      left = elim want.1 [
        | inl same ↦ inl (subst (HasRun (course_from c.args.trace.now s c.args.first) c.loop-index.index) (sym same) (c.loop-index.invariant.run s run))
        | inr gone ↦ inr gone
      ];
    })

pub returns-in_err-write_phase-clause-workers : goal.returns-in_err-write_phase-clause-workers
returns-in_err-write_phase-clause-workers g c = c.in_err-write_phase.ensures.workers ∙ c.loop-index.invariant.workers

pub returns-in_err-write_phase-clause-fed : goal.returns-in_err-write_phase-clause-fed
returns-in_err-write_phase-clause-fed g c =
    let e = c.in_err-write_phase.ensures in
    let i = c.loop-index.invariant in
    let s = c.requires.opened.0 in
    let lt : c.loop-index.index + c.args.first < length c.args.trace.now.phases = omega (arith, ap (λ (x : TraceLists). length x.phases) c.trace.view_is, c.len.ensures) in
    elim e.fed.2 [
      | inl h ↦ (fed-next _ _ _ _ _ _ _ _ _ _ _ _ _ i.fed (within-of c.args.trace.now s c.args.first c.loop-index.index lt) (phase-of c.args.trace.now s c.args.first c.loop-index.index _ refl) h.0 e.fed.1 h.1).0
      | inr h ↦ fed-same _ _ _ _ _ _ _ _ _ _ _ i.fed.0 h.1 e.fed.1 h.2 h.3
    ]

pub returns-in_err-write_phase-clause-feed : goal.returns-in_err-write_phase-clause-feed
returns-in_err-write_phase-clause-feed g c =
    let e = c.in_err-write_phase.ensures in
    let i = c.loop-index.invariant in
    (e.feed.0 ∙ i.feed.0, e.feed.1 ∙ i.feed.1, e.feed.2 ∙ i.feed.2)

pub returns-in_err-write_phase-clause-idle : goal.returns-in_err-write_phase-clause-idle
returns-in_err-write_phase-clause-idle g c =
    let i = c.loop-index.invariant in
    λ none. c.in_err-write_phase.ensures.idle (ap g.N.Notices.coming (i.idle none) ∙ none) ∙ i.idle none

pub returns-in_err-write_phase-clause-answers_room : goal.returns-in_err-write_phase-clause-answers_room
returns-in_err-write_phase-clause-answers_room g c = c.in_err-write_phase.ensures.answers_room ∙ c.loop-index.invariant.answers_room

pub returns-clause-fed : goal.returns-clause-fed
returns-clause-fed g c = c.loop-index.invariant.fed.0
