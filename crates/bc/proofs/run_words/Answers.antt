use Rattle.std.proofs.Common.{◌≡◌, ◌∙◌, ℕ, None, ap, List, map, string_bytes, subst, sym}
use Rattle.bc_replay.specs.Outcomes.{IfBadTrace}
use Rattle.bc_cli.specs.Resumes.{FaultyInput}
use Rattle.bc_replay.specs.declared.status.Status.{Status}
use Rattle.bc_replay.specs.declared.status.Status.TheVariants.{Done, BadWords, BadTrace, TooLong, ReadFault, WriteFault, OutOfHeap, NoMemory, BadImage, Mismatch}
use Rattle.bc_trace.specs.declared.fault.Cause.{Cause}
use Rattle.bc_words.specs.Commands.{Word, IsCommandOf}
use Rattle.bc_words.specs.declared.command.Command.{Command}
use Rattle.bc_words.specs.declared.command.Command.TheVariants.{Run, Churn, Save, Resume}
use Rattle.bc.proofs.run_words.Given.{Over}
use Rattle.bc.proofs.run_words.Goals as goal

-- the texts that `top` was handed are the words
same : (g : Over) (c : goal.After-drop-texts g) → map (λ w. w.now) c.deref.result.now ≡ map (λ w. string_bytes w) c.args.words.now
same g c = ap (map (λ w. w.now)) c.deref.ensures.value ∙ c.in-Ok.ensures

-- so what they ask `top` for they ask the program for
asked : (g : Over) (c : goal.After-drop-texts g) (command : Command) → IsCommandOf (map (λ w. string_bytes w) c.args.words.now) command → IsCommandOf (map (λ w. w.now) c.deref.result.now) command
asked g c command is = subst (λ (words : List Word). IsCommandOf words command) (sym (same g c)) is

pub returns-clause-done : goal.returns-clause-done
returns-clause-done g c = λ workers is done. c.top.ensures.done workers (asked g c (Run workers) is) done

pub returns-clause-churn_done : goal.returns-clause-churn_done
returns-clause-churn_done g c = λ start ops workers is done. c.top.ensures.churn_done start ops workers (asked g c (Churn start ops workers) is) done

pub returns-clause-workers : goal.returns-clause-workers
returns-clause-workers g c = λ command is. c.top.ensures.workers command (asked g c command is)

pub returns-clause-bad_words : goal.returns-clause-bad_words
returns-clause-bad_words g c = λ e command is. c.top.ensures.bad_words e command (asked g c command is)

pub returns-clause-refused : goal.returns-clause-refused
returns-clause-refused g c = λ none. (c.top.ensures.refused (λ command is. none command (subst (λ (words : List Word). IsCommandOf words command) (same g c) is))).0

pub returns-clause-save_done : goal.returns-clause-save_done
returns-clause-save_done g c = λ phases workers is done. c.top.ensures.save_done phases workers (asked g c (Save phases workers) is) done

pub returns-clause-resume_done : goal.returns-clause-resume_done
returns-clause-resume_done g c = λ workers is done. c.top.ensures.resume_done workers (asked g c (Resume workers) is) done

-- of two things that are said of a first fault, the first
first-said : (s : Status) (P Q : ℕ → Cause → Type 0) → IfBadTrace s (λ line cause. P line cause × Q line cause) → IfBadTrace s P
first-said (BadTrace line cause) P Q both = both.0
first-said Done P Q said = said
first-said BadWords P Q said = said
first-said TooLong P Q said = said
first-said ReadFault P Q said = said
first-said WriteFault P Q said = said
first-said (OutOfHeap need) P Q said = said
first-said NoMemory P Q said = said
first-said (BadImage at cause) P Q said = said
first-said Mismatch P Q said = said

pub returns-clause-bad_trace : goal.returns-clause-bad_trace
returns-clause-bad_trace g c = λ command is. first-said c.top.result.status (λ line cause. FaultyInput command None None line cause) _ (c.top.ensures.bad_trace command (asked g c command is))

pub returns-clause-out_of_heap : goal.returns-clause-out_of_heap
returns-clause-out_of_heap g c = λ workers is. c.top.ensures.out_of_heap workers (asked g c (Run workers) is)
