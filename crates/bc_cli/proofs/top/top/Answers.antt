use Rattle.std.proofs.Common.{rules, ℕ, ◌≡◌, ◌≢◌, ◌+◌, ◌<◌, ◌≤◌, None, length, refl, sym, subst, arith}
use Rattle.std.specs.Prelude.{IfSome}
use Rattle.bc_words.specs.Commands.{IsCommandOf}
use Rattle.bc_words.specs.declared.command.Command.{Command}
use Rattle.bc_words.specs.declared.command.Command.TheVariants.{Run, Churn, Save, Resume}
use Rattle.bc_replay.specs.Endings.{FirstFit, FitsThroughout}
use Rattle.bc_replay.specs.Courses.{whole_course}
use Rattle.bc_replay.specs.Outcomes.{IfBadTrace, IfStatusOutOfHeap}
use Rattle.bc_replay.specs.declared.status.Status.TheVariants.{TooLong}
use Rattle.bc_cli.specs.Churns.{ChurnsDone, ChurnsInFault}
use Rattle.bc_cli.specs.Limits.{longest_of, workers_of}
use Rattle.bc_cli.specs.Resumes.{FaultyInput, ImageFaulty}
use Rattle.bc_cli.specs.Saves.{HasFewerPhases, Saved, SavedInPart, SaveRanOutOfHeap}
use Rattle.bc_io.specs.Told.{GivesAtMost, GivesExactly}
use Rattle.bc_replay.proofs.Bytes.{few-read, may_give-whole, told_or_no_memory}
use Rattle.bc_replay.proofs.Finishing.{complete-ending}
use Rattle.bc_cli.proofs.Asking.{asked, none-asked, only-image, same-asked, same-churn, same-save}
use Rattle.bc_cli.proofs.top.top.Goals as goal

-- ---- run

pub run_trace-requires-clause-phases : goal.run_trace-requires-clause-phases
run_trace-requires-clause-phases g c κs within = omega (arith, few-read _ _ _ c.in-Ok-read_trace.ensures.found)

pub run_trace-requires-clause-ops : goal.run_trace-requires-clause-ops
run_trace-requires-clause-ops g c κs within = omega (arith, few-read _ _ _ c.in-Ok-read_trace.ensures.found)

pub run_trace-requires-clause-room : goal.run_trace-requires-clause-room
run_trace-requires-clause-room g c κs within =
    let read = c.in-Ok-read_trace.ensures.found in
    let found = c.in-Some-Run in
    let is = asked (IsCommandOf _) _ (Run found.workers) c.in-Ok.ensures.command (search rules) in
    c.requires.run _ is read.bytes c.in-Ok-read_trace.trace (may_give-whole _ _ _ _ read.whole) read.whole.short read.spelled

pub returns-in-Ok-read_trace-clause-workers : goal.returns-in-Ok-read_trace-clause-workers
returns-in-Ok-read_trace-clause-workers g c = λ command is.
    let found = c.in-Some-Run in
    same-asked (λ (asked : Command). IfSome c.run_trace.result.heap (λ engine. engine.workers ≡ workers_of asked)) c.in-Ok.found (Run found.workers) command (search rules)
    (c.in-Ok.ensures.the_one command is) c.run_trace.ensures.workers

pub returns-in-Ok-read_trace-clause-complete : goal.returns-in-Ok-read_trace-clause-complete
returns-in-Ok-read_trace-clause-complete g c = λ workers bytes t _ told short spelled fits firm held.
    let same = c.in-Ok-read_trace.ensures.spelled bytes t told short spelled firm in
    complete-ending c.run_trace.result.status c.in-Ok-read_trace.trace _ _ _ c.run_trace.ensures.ending c.run_trace.ensures.out_of_heap
    (subst FitsThroughout (sym same) fits) (λ e. held (c.run_trace.ensures.write_fault e).0)

pub returns-in-Ok-read_trace-clause-faulty : goal.returns-in-Ok-read_trace-clause-faulty
returns-in-Ok-read_trace-clause-faulty g c = λ workers bytes f _ told short fault firm. absurd (c.in-Ok-read_trace.ensures.faulty bytes f told short fault firm)

pub returns-in-Err-clause-faulty : goal.returns-in-Err-clause-faulty
returns-in-Err-clause-faulty g c = λ workers bytes f _ told short fault firm.
    told_or_no_memory _ _ _ c.without_heap-in-Err.ensures.status (c.in-Err.ensures.faulty bytes f told short fault firm)

-- ---- churn

pub returns-in-Some-Churn-clause-churn_done : goal.returns-in-Some-Churn-clause-churn_done
returns-in-Some-Churn-clause-churn_done g c = λ start ops workers is e.
    let found = c.in-Some-Churn in
    same-churn (λ start ops. ChurnsDone start ops (g.K.Sink.held c.args.sink.now) (g.K.Sink.held c.churn.new.sink) c.churn.result.heap) c.in-Ok.found found.start found.ops found.workers start ops workers (search rules)
    (c.in-Ok.ensures.the_one (Churn start ops workers) is) (c.churn.ensures.done e)

pub returns-in-Some-Churn-clause-churn_write_fault : goal.returns-in-Some-Churn-clause-churn_write_fault
returns-in-Some-Churn-clause-churn_write_fault g c = λ start ops workers is e.
    let found = c.in-Some-Churn in
    let fault = c.churn.ensures.write_fault e in (
      fault.0,
      same-churn (λ start ops. ChurnsInFault start ops (g.K.Sink.held c.args.sink.now) (g.K.Sink.held c.churn.new.sink) c.churn.result.heap) c.in-Ok.found found.start found.ops found.workers start ops workers (search rules)
          (c.in-Ok.ensures.the_one (Churn start ops workers) is) fault.1,
    )

pub returns-in-Some-Churn-clause-workers : goal.returns-in-Some-Churn-clause-workers
returns-in-Some-Churn-clause-workers g c = λ command is.
    let found = c.in-Some-Churn in
    same-asked (λ (asked : Command). IfSome c.churn.result.heap (λ engine. engine.workers ≡ workers_of asked)) c.in-Ok.found (Churn found.start found.ops found.workers) command (search rules)
    (c.in-Ok.ensures.the_one command is) c.churn.ensures.workers

-- ---- save

pub save-requires-clause-room : goal.save-requires-clause-room
save-requires-clause-room g c κs within =
    let found = c.in-Some-Save in
    let is = asked (IsCommandOf _) _ (Save found.phases found.workers) c.in-Ok.ensures.command (search rules) in
    c.requires.save _ _ is

pub returns-in-Some-Save-clause-save_done : goal.returns-in-Some-Save-clause-save_done
returns-in-Some-Save-clause-save_done g c = λ phases workers is e.
    let found = c.in-Some-Save in
    same-save (λ count. Saved (g.S.Source.left c.args.source.now) (g.S.Source.left c.save.new.source) (g.K.Sink.held c.args.sink.now) (g.K.Sink.held c.save.new.sink) count × (c.save.result.heap ≡ None)) c.in-Ok.found found.phases found.workers phases workers (search rules) (c.in-Ok.ensures.the_one (Save phases workers) is) (c.save.ensures.done e)

pub returns-in-Some-Save-clause-save_write_fault : goal.returns-in-Some-Save-clause-save_write_fault
returns-in-Some-Save-clause-save_write_fault g c = λ phases workers is e.
    let found = c.in-Some-Save in
    let fault = c.save.ensures.write_fault e in
    (fault.0, same-save (λ count. SavedInPart (g.S.Source.left c.args.source.now) (g.S.Source.left c.save.new.source) (g.K.Sink.held c.args.sink.now) (g.K.Sink.held c.save.new.sink) count) c.in-Ok.found found.phases found.workers phases workers (search rules) (c.in-Ok.ensures.the_one (Save phases workers) is) fault.1, fault.2)

pub returns-in-Some-Save-clause-save_out_of_heap : goal.returns-in-Some-Save-clause-save_out_of_heap
returns-in-Some-Save-clause-save_out_of_heap g c = λ phases workers is.
    let found = c.in-Some-Save in
    same-save (λ count. IfStatusOutOfHeap c.save.result.status (λ need. SaveRanOutOfHeap (g.S.Source.left c.args.source.now) (g.S.Source.left c.save.new.source) count c.save.result.heap need × (c.save.new.sink ≡ c.args.sink.now))) c.in-Ok.found found.phases found.workers phases workers (search rules) (c.in-Ok.ensures.the_one (Save phases workers) is) c.save.ensures.out_of_heap

pub returns-in-Some-Save-clause-save_mismatch : goal.returns-in-Some-Save-clause-save_mismatch
returns-in-Some-Save-clause-save_mismatch g c = λ phases workers is e.
    let found = c.in-Some-Save in
    let fewer = c.save.ensures.mismatch e in
    (same-save (λ count. HasFewerPhases (g.S.Source.left c.args.source.now) (g.S.Source.left c.save.new.source) count) c.in-Ok.found found.phases found.workers phases workers (search rules) (c.in-Ok.ensures.the_one (Save phases workers) is) fewer.0, fewer.1)

pub returns-in-Some-Save-clause-save_complete : goal.returns-in-Some-Save-clause-save_complete
returns-in-Some-Save-clause-save_complete g c = λ phases workers bytes t is told short spelled enough fits firm held.
    let found = c.in-Some-Save in
    let at : found.phases ≡ phases = same-save (λ count. found.phases ≡ count) c.in-Ok.found found.phases found.workers phases workers (search rules) (c.in-Ok.ensures.the_one (Save phases workers) is) refl in
    c.save.ensures.complete bytes t told short spelled (subst (λ k. k ≤ length t.phases) (sym at) enough) (subst (FirstFit (whole_course t)) (sym at) fits) firm held

pub returns-in-Some-Save-clause-save_fewer : goal.returns-in-Some-Save-clause-save_fewer
returns-in-Some-Save-clause-save_fewer g c = λ phases workers bytes t is told short spelled fewer firm.
    let found = c.in-Some-Save in
    let at : found.phases ≡ phases = same-save (λ count. found.phases ≡ count) c.in-Ok.found found.phases found.workers phases workers (search rules) (c.in-Ok.ensures.the_one (Save phases workers) is) refl in
    c.save.ensures.fewer bytes t told short spelled (subst (λ k. length t.phases < k) (sym at) fewer) firm

pub returns-in-Some-Save-clause-workers : goal.returns-in-Some-Save-clause-workers
returns-in-Some-Save-clause-workers g c = λ command is.
    let found = c.in-Some-Save in
    same-asked (λ (asked : Command). IfSome c.save.result.heap (λ engine. engine.workers ≡ workers_of asked)) c.in-Ok.found (Save found.phases found.workers) command (search rules) (c.in-Ok.ensures.the_one command is) c.save.ensures.workers

pub returns-in-Some-Save-clause-bad_trace : goal.returns-in-Some-Save-clause-bad_trace
returns-in-Some-Save-clause-bad_trace g c = λ command is.
    let found = c.in-Some-Save in
    same-asked (λ (asked : Command). IfBadTrace c.save.result.status (λ line cause. FaultyInput asked (g.S.Source.left c.args.source.now) (g.S.Source.left c.save.new.source) line cause × (c.save.new.sink ≡ c.args.sink.now))) c.in-Ok.found (Save found.phases found.workers) command (search rules) (c.in-Ok.ensures.the_one command is) c.save.ensures.bad_trace

pub returns-in-Some-Save-clause-too_long : goal.returns-in-Some-Save-clause-too_long
returns-in-Some-Save-clause-too_long g c = λ command is.
    let found = c.in-Some-Save in
    same-asked (λ (asked : Command). c.save.result.status ≡ TooLong → GivesExactly (g.S.Source.left c.args.source.now) (g.S.Source.left c.save.new.source) (longest_of asked + 1) × (c.save.new.sink ≡ c.args.sink.now)) c.in-Ok.found (Save found.phases found.workers) command (search rules) (c.in-Ok.ensures.the_one command is) c.save.ensures.too_long

pub returns-in-Some-Save-clause-short : goal.returns-in-Some-Save-clause-short
returns-in-Some-Save-clause-short g c = λ command is.
    let found = c.in-Some-Save in
    same-asked (λ (asked : Command). c.save.result.status ≢ TooLong → GivesAtMost (g.S.Source.left c.args.source.now) (g.S.Source.left c.save.new.source) (longest_of asked)) c.in-Ok.found (Save found.phases found.workers) command (search rules) (c.in-Ok.ensures.the_one command is) c.save.ensures.short

-- ---- resume

pub resume-requires-clause-room : goal.resume-requires-clause-room
resume-requires-clause-room g c κs within =
    let found = c.in-Some-Resume in
    let is = asked (IsCommandOf _) _ (Resume found.workers) c.in-Ok.ensures.command (search rules) in
    c.requires.resume _ is

pub returns-in-Some-Resume-clause-bad_image : goal.returns-in-Some-Resume-clause-bad_image
returns-in-Some-Resume-clause-bad_image g c =
    let found = c.in-Some-Resume in
    let is = asked (IsCommandOf _) _ (Resume found.workers) c.in-Ok.ensures.command (search rules) in
    only-image c.resume.result.status (ImageFaulty (g.S.Source.left c.args.source.now) (g.S.Source.left c.resume.new.source)) (c.resume.new.sink ≡ c.args.sink.now)
    ((workers : ℕ) × IsCommandOf _ (Resume workers)) (found.workers, is) c.resume.ensures.bad_image

pub returns-in-Some-Resume-clause-workers : goal.returns-in-Some-Resume-clause-workers
returns-in-Some-Resume-clause-workers g c = λ command is.
    let found = c.in-Some-Resume in
    same-asked (λ (asked : Command). IfSome c.resume.result.heap (λ engine. engine.workers ≡ workers_of asked)) c.in-Ok.found (Resume found.workers) command (search rules) (c.in-Ok.ensures.the_one command is) c.resume.ensures.workers

pub returns-in-Some-Resume-clause-bad_trace : goal.returns-in-Some-Resume-clause-bad_trace
returns-in-Some-Resume-clause-bad_trace g c = λ command is.
    let found = c.in-Some-Resume in
    same-asked (λ (asked : Command). IfBadTrace c.resume.result.status (λ line cause. FaultyInput asked (g.S.Source.left c.args.source.now) (g.S.Source.left c.resume.new.source) line cause × (c.resume.new.sink ≡ c.args.sink.now))) c.in-Ok.found (Resume found.workers) command (search rules) (c.in-Ok.ensures.the_one command is) c.resume.ensures.bad_trace

pub returns-in-Some-Resume-clause-too_long : goal.returns-in-Some-Resume-clause-too_long
returns-in-Some-Resume-clause-too_long g c = λ command is.
    let found = c.in-Some-Resume in
    same-asked (λ (asked : Command). c.resume.result.status ≡ TooLong → GivesExactly (g.S.Source.left c.args.source.now) (g.S.Source.left c.resume.new.source) (longest_of asked + 1) × (c.resume.new.sink ≡ c.args.sink.now)) c.in-Ok.found (Resume found.workers) command (search rules) (c.in-Ok.ensures.the_one command is) c.resume.ensures.too_long

pub returns-in-Some-Resume-clause-short : goal.returns-in-Some-Resume-clause-short
returns-in-Some-Resume-clause-short g c = λ command is.
    let found = c.in-Some-Resume in
    same-asked (λ (asked : Command). c.resume.result.status ≢ TooLong → GivesAtMost (g.S.Source.left c.args.source.now) (g.S.Source.left c.resume.new.source) (longest_of asked)) c.in-Ok.found (Resume found.workers) command (search rules) (c.in-Ok.ensures.the_one command is) c.resume.ensures.short

-- ---- no command

pub returns-in-None-clause-churn_ending : goal.returns-in-None-clause-churn_ending
returns-in-None-clause-churn_ending g c = λ start ops workers is.
    absurd (none-asked _ _ c.in-Ok.ensures.none c.in-None.is (Churn start ops workers) is)

pub returns-in-None-clause-complete : goal.returns-in-None-clause-complete
returns-in-None-clause-complete g c = λ workers bytes t is _ _ _ _ _ _.
    absurd (none-asked _ _ c.in-Ok.ensures.none c.in-None.is (Run workers) is)

pub returns-in-None-clause-faulty : goal.returns-in-None-clause-faulty
returns-in-None-clause-faulty g c = λ workers bytes f is _ _ _ _.
    absurd (none-asked _ _ c.in-Ok.ensures.none c.in-None.is (Run workers) is)

pub returns-in-None-clause-longer : goal.returns-in-None-clause-longer
returns-in-None-clause-longer g c = λ workers bytes is _ _ _.
    absurd (none-asked _ _ c.in-Ok.ensures.none c.in-None.is (Run workers) is)

pub returns-in-None-clause-churn_complete : goal.returns-in-None-clause-churn_complete
returns-in-None-clause-churn_complete g c = λ start ops workers is _.
    absurd (none-asked _ _ c.in-Ok.ensures.none c.in-None.is (Churn start ops workers) is)

pub returns-in-None-clause-save_complete : goal.returns-in-None-clause-save_complete
returns-in-None-clause-save_complete g c = λ phases workers bytes t is _ _ _ _ _ _ _.
    absurd (none-asked _ _ c.in-Ok.ensures.none c.in-None.is (Save phases workers) is)

pub returns-in-None-clause-save_faulty : goal.returns-in-None-clause-save_faulty
returns-in-None-clause-save_faulty g c = λ phases workers bytes f is _ _ _ _.
    absurd (none-asked _ _ c.in-Ok.ensures.none c.in-None.is (Save phases workers) is)

pub returns-in-None-clause-save_longer : goal.returns-in-None-clause-save_longer
returns-in-None-clause-save_longer g c = λ phases workers bytes is _ _ _.
    absurd (none-asked _ _ c.in-Ok.ensures.none c.in-None.is (Save phases workers) is)

pub returns-in-None-clause-resume_complete : goal.returns-in-None-clause-resume_complete
returns-in-None-clause-resume_complete g c = λ workers bytes rest l t s is _ _ _ _ _ _ _ _ _ _.
    absurd (none-asked _ _ c.in-Ok.ensures.none c.in-None.is (Resume workers) is)

pub returns-in-None-clause-resume_apart : goal.returns-in-None-clause-resume_apart
returns-in-None-clause-resume_apart g c = λ workers bytes rest l t is _ _ _ _ _ _.
    absurd (none-asked _ _ c.in-Ok.ensures.none c.in-None.is (Resume workers) is)

pub returns-in-None-clause-resume_faulty : goal.returns-in-None-clause-resume_faulty
returns-in-None-clause-resume_faulty g c = λ workers bytes rest l f is _ _ _ _ _.
    absurd (none-asked _ _ c.in-Ok.ensures.none c.in-None.is (Resume workers) is)

pub returns-in-None-clause-image_faulty : goal.returns-in-None-clause-image_faulty
returns-in-None-clause-image_faulty g c = λ workers bytes f is _ _ _ _.
    absurd (none-asked _ _ c.in-Ok.ensures.none c.in-None.is (Resume workers) is)

pub returns-in-None-clause-resume_longer : goal.returns-in-None-clause-resume_longer
returns-in-None-clause-resume_longer g c = λ workers bytes is _ _ _.
    absurd (none-asked _ _ c.in-Ok.ensures.none c.in-None.is (Resume workers) is)

pub returns-in-Some-Save-clause-save_faulty : goal.returns-in-Some-Save-clause-save_faulty
returns-in-Some-Save-clause-save_faulty g c = λ phases workers bytes f is told short fault firm. c.save.ensures.faulty bytes f told short fault firm

pub returns-in-Some-Resume-clause-image_faulty : goal.returns-in-Some-Resume-clause-image_faulty
returns-in-Some-Resume-clause-image_faulty g c = λ workers bytes f is told short fault firm. c.resume.ensures.image_faulty bytes f told short fault firm

pub returns-in-Some-Resume-clause-resume_faulty : goal.returns-in-Some-Resume-clause-resume_faulty
returns-in-Some-Resume-clause-resume_faulty g c = λ workers bytes rest l f is told short image fault firm. c.resume.ensures.faulty bytes rest l f told short image fault firm
