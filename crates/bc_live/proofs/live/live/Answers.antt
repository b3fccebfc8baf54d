use Rattle.std.proofs.Common.{rules, ◌≡◌, ◌+◌, ◌<◌, ◌≤◌, length, sym, subst, arith}
use Rattle.bc_replay.specs.Endings.{FitsThroughout}
use Rattle.bc_replay.proofs.Bytes.{few-read, may_give-whole, told_or_no_memory}
use Rattle.bc_replay.proofs.Finishing.{complete-ending}
use Rattle.bc_live.specs.Words.{IsLiveWords}
use Rattle.bc_live.proofs.FedLemmas.{fed-asked}
use Rattle.bc_live.proofs.Asking.{given}
use Rattle.bc_live.proofs.live.live.Goals as goal

pub run_fed-requires-clause-phases : goal.run_fed-requires-clause-phases
run_fed-requires-clause-phases g c κs within = omega (arith, few-read _ _ _ c.in-Ok-read_trace.ensures.found)

pub run_fed-requires-clause-ops : goal.run_fed-requires-clause-ops
run_fed-requires-clause-ops g c κs within = omega (arith, few-read _ _ _ c.in-Ok-read_trace.ensures.found)

pub run_fed-requires-clause-room : goal.run_fed-requires-clause-room
run_fed-requires-clause-room g c κs within =
    let read = c.in-Ok-read_trace.ensures.found in
    let is = given (IsLiveWords _) _ c.in-Some.asked c.in-Ok.ensures.words (search rules) in
    c.requires.room _ is read.bytes c.in-Ok-read_trace.trace (may_give-whole _ _ _ _ read.whole) read.whole.short read.spelled

pub returns-in-Ok-read_trace-clause-complete : goal.returns-in-Ok-read_trace-clause-complete
returns-in-Ok-read_trace-clause-complete g c = λ asked bytes t _ told short spelled fits firm held.
    let same = c.in-Ok-read_trace.ensures.spelled bytes t told short spelled firm in
    let ran = c.run_fed.ensures.ran in
    complete-ending _ c.in-Ok-read_trace.trace _ _ _ ran.ending ran.out_of_heap (subst FitsThroughout (sym same) fits) (λ e. held (ran.write_fault e).0)

pub returns-in-Ok-read_trace-clause-faulty : goal.returns-in-Ok-read_trace-clause-faulty
returns-in-Ok-read_trace-clause-faulty g c = λ asked bytes f _ told short fault firm. absurd (c.in-Ok-read_trace.ensures.faulty bytes f told short fault firm)

pub returns-in-Err-clause-faulty : goal.returns-in-Err-clause-faulty
returns-in-Err-clause-faulty g c = λ asked bytes f _ told short fault firm.
    told_or_no_memory _ _ _ (search rules) (c.in-Err.ensures.faulty bytes f told short fault firm)

pub returns-in-Ok-read_trace-clause-fed_run : goal.returns-in-Ok-read_trace-clause-fed_run
returns-in-Ok-read_trace-clause-fed_run g c = λ asked is.
    let found = c.in-Some.asked in
    let one = c.in-Ok.ensures.the_one asked is in
    let same : found ≡ asked = cc in
    let out = c.run_fed.result in
    fed-asked out.status _ _ c.in-Ok-read_trace.trace found asked out.taken.items out.answers.items out.heap same c.in-Ok-read_trace.ensures.found c.run_fed.ensures.fed_run
