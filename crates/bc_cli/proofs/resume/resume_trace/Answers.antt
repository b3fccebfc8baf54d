use Rattle.std.proofs.Common.{ℕ, arith, inr, subst, sym}
use Rattle.bc_replay.specs.BetweenPhases.{HasRun}
use Rattle.bc_replay.specs.Courses.{course_from}
use Rattle.bc_replay.specs.Endings.{EndsDone, EndsInFault, EndsOutOfHeap, HasRunRoom, StopsBefore}
use Rattle.bc_replay.specs.Outcomes.{IfStatusOutOfHeap}
use Rattle.bc_cli.proofs.Resuming.{HasRun-adopted, each-course}
use Rattle.bc_cli.proofs.resume.resume_trace.Goals as goal

pub replay_on-requires-clause-opened : goal.replay_on-requires-clause-opened
replay_on-requires-clause-opened g c κs within =
    let l = c.args.listing in
    let pictured = c.law_pictured.ensures.whole l c.requires.image in
    let s = pictured.0 in
    let run : HasRun (course_from c.args.trace.now s l.phases) 0 c.in-Ok.engine = HasRun-adopted c.args.trace.now l s c.in-Ok.engine c.requires.goes c.requires.image (omega (arith, c.requires.few)) (c.in-Ok.ensures.stands s pictured.1 pictured.2) (c.in-Ok.ensures.setup.0, c.in-Ok.ensures.setup.1, c.in-Ok.ensures.setup.2) c.in-Ok.ensures.births in (
      s,
      subst (λ (k : ℕ). HasRun (course_from c.args.trace.now s k) 0 c.in-Ok.engine) (sym c.phases_done-first.ensures) run,
      subst (λ (k : ℕ). HasRunRoom (g.K.Sink.room c.args.sink.now) (course_from c.args.trace.now s k)) (sym c.phases_done-first.ensures) (c.requires.room s pictured.1 pictured.2),
    )

pub returns-clause-done : goal.returns-clause-done
returns-clause-done g c = λ e s is p.
    let l = c.args.listing in
    let run : HasRun (course_from c.args.trace.now s l.phases) 0 c.in-Ok.engine = HasRun-adopted c.args.trace.now l s c.in-Ok.engine c.requires.goes c.requires.image (omega (arith, c.requires.few)) (c.in-Ok.ensures.stands s is p) (c.in-Ok.ensures.setup.0, c.in-Ok.ensures.setup.1, c.in-Ok.ensures.setup.2) c.in-Ok.ensures.births in
    subst (λ (k : ℕ). EndsDone (course_from c.args.trace.now s k) (g.K.Sink.held c.args.sink.now) (g.K.Sink.held c.replay_on.new.sink) c.replay_on.result.heap) c.phases_done-first.ensures (c.replay_on.ensures.done s (subst (λ (k : ℕ). HasRun (course_from c.args.trace.now s k) 0 c.in-Ok.engine) (sym c.phases_done-first.ensures) run) e)

pub returns-clause-write_fault : goal.returns-clause-write_fault
returns-clause-write_fault g c = λ e. (
  c.replay_on.ensures.cause e,
  λ s is p.
      let l = c.args.listing in
      let run : HasRun (course_from c.args.trace.now s l.phases) 0 c.in-Ok.engine = HasRun-adopted c.args.trace.now l s c.in-Ok.engine c.requires.goes c.requires.image (omega (arith, c.requires.few)) (c.in-Ok.ensures.stands s is p) (c.in-Ok.ensures.setup.0, c.in-Ok.ensures.setup.1, c.in-Ok.ensures.setup.2) c.in-Ok.ensures.births in
      subst (λ (k : ℕ). EndsInFault (course_from c.args.trace.now s k) (g.K.Sink.held c.args.sink.now) (g.K.Sink.held c.replay_on.new.sink) c.replay_on.result.heap) c.phases_done-first.ensures (c.replay_on.ensures.write_fault s (subst (λ (k : ℕ). HasRun (course_from c.args.trace.now s k) 0 c.in-Ok.engine) (sym c.phases_done-first.ensures) run) e),
)

pub returns-clause-out_of_heap : goal.returns-clause-out_of_heap
returns-clause-out_of_heap g c =
    let l = c.args.listing in
    each-course c.replay_on.result.status l c.args.trace.now (λ course need. EndsOutOfHeap course (g.K.Sink.held c.args.sink.now) (g.K.Sink.held c.replay_on.new.sink) c.replay_on.result.heap need) (λ s is p.
    let run : HasRun (course_from c.args.trace.now s l.phases) 0 c.in-Ok.engine = HasRun-adopted c.args.trace.now l s c.in-Ok.engine c.requires.goes c.requires.image (omega (arith, c.requires.few)) (c.in-Ok.ensures.stands s is p) (c.in-Ok.ensures.setup.0, c.in-Ok.ensures.setup.1, c.in-Ok.ensures.setup.2) c.in-Ok.ensures.births in
    subst (λ (k : ℕ). IfStatusOutOfHeap c.replay_on.result.status (λ need. EndsOutOfHeap (course_from c.args.trace.now s k) (g.K.Sink.held c.args.sink.now) (g.K.Sink.held c.replay_on.new.sink) c.replay_on.result.heap need)) c.phases_done-first.ensures (c.replay_on.ensures.out_of_heap s (subst (λ (k : ℕ). HasRun (course_from c.args.trace.now s k) 0 c.in-Ok.engine) (sym c.phases_done-first.ensures) run)))

pub returns-clause-no_memory : goal.returns-clause-no_memory
returns-clause-no_memory g c = λ e. inr (λ s is p.
    let l = c.args.listing in
    let run : HasRun (course_from c.args.trace.now s l.phases) 0 c.in-Ok.engine = HasRun-adopted c.args.trace.now l s c.in-Ok.engine c.requires.goes c.requires.image (omega (arith, c.requires.few)) (c.in-Ok.ensures.stands s is p) (c.in-Ok.ensures.setup.0, c.in-Ok.ensures.setup.1, c.in-Ok.ensures.setup.2) c.in-Ok.ensures.births in
    subst (λ (k : ℕ). StopsBefore (course_from c.args.trace.now s k) (g.K.Sink.held c.args.sink.now) (g.K.Sink.held c.replay_on.new.sink)) c.phases_done-first.ensures (c.replay_on.ensures.no_memory s (subst (λ (k : ℕ). HasRun (course_from c.args.trace.now s k) 0 c.in-Ok.engine) (sym c.phases_done-first.ensures) run) e))
