use Rattle.std.proofs.Common.{arith, inl, inr, refl}
use Rattle.bc_cli.proofs.Saving.{need-untouched, unsaved-ending}
use Rattle.bc_cli.proofs.Writing.{written-need, written-no, written-save}
use Rattle.bc_cli.specs.Saves.{CutOffBelow}
use Rattle.bc_replay.specs.Courses.{whole_course}
use Rattle.bc_replay.specs.declared.status.Status.TheVariants.{Mismatch, NoMemory}
use Rattle.bc_cli.proofs.save.save_trace.Goals as goal

pub put_saved-requires-clause-few : goal.put_saved-requires-clause-few
put_saved-requires-clause-few g c = omega (arith, c.in-Ok.ensures.within, c.requires.few)

pub put_saved-requires-clause-room : goal.put_saved-requires-clause-room
put_saved-requires-clause-room g c = c.requires.room c.in-Ok.ensures.within

pub returns-in-Ok-clause-ending : goal.returns-in-Ok-clause-ending
returns-in-Ok-clause-ending g c = written-save _ c.put_saved.ensures.ending

pub returns-in-Ok-clause-mismatch : goal.returns-in-Ok-clause-mismatch
returns-in-Ok-clause-mismatch g c = λ e. absurd (written-no _ Mismatch c.put_saved.ensures.ending (λ e. cc) (λ e. cc) e)

pub returns-in-Ok-clause-enough : goal.returns-in-Ok-clause-enough
returns-in-Ok-clause-enough g c = λ other. c.in-Ok.ensures.within

pub returns-in-Ok-clause-done : goal.returns-in-Ok-clause-done
returns-in-Ok-clause-done g c = λ e.
    let out = c.put_saved.ensures.done e in
    (out.0, out.1, out.2, c.in-Ok.ensures.saved.fits)

pub returns-in-Ok-clause-out_of_heap : goal.returns-in-Ok-clause-out_of_heap
returns-in-Ok-clause-out_of_heap g c = written-need _ _ c.put_saved.ensures.ending

pub returns-in-Ok-clause-no_memory : goal.returns-in-Ok-clause-no_memory
returns-in-Ok-clause-no_memory g c = λ e. absurd (written-no _ NoMemory c.put_saved.ensures.ending (λ e. cc) (λ e. cc) e)

pub returns-in-Err-clause-ending : goal.returns-in-Err-clause-ending
returns-in-Err-clause-ending g c = unsaved-ending _ c.in-Err.ensures.ending

pub returns-in-Err-clause-out_of_heap : goal.returns-in-Err-clause-out_of_heap
returns-in-Err-clause-out_of_heap g c = need-untouched _ (CutOffBelow (whole_course c.args.trace.now) c.args.count c.in-Err.outcome.heap) _ c.in-Err.ensures.out_of_heap refl
