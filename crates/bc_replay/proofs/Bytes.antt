-- What a source reported, and what was read of it.
use Rattle.std.proofs.Common.{◌≡◌, ℕ, ◌+◌, ◌*◌, ◌<◌, ◌≤◌, List, [], ◌++◌, append-nil, ◌∙◌, Option, None, Some, IfSome, length, refl, sym, ap, subst, inl, inr, arith}
use Rattle.bc_io.specs.declared.reading.ReadAll.{ReadAll}
use Rattle.bc_io.specs.declared.reading.ReadAll.TheVariants as reads
use Rattle.bc_model.specs.Lists.{TraceLists}
use Rattle.bc_model.specs.RunLengths.{all_ops_of}
use Rattle.bc_trace.specs.Answers.{IsFaultOrMemory}
use Rattle.bc_trace.specs.Faults.{Fault}
use Rattle.bc_trace.specs.declared.fault.ReadTrace.{ReadTrace}
use Rattle.bc_trace.specs.declared.fault.ReadTrace.TheVariants as answers
use Rattle.bc_trace.specs.declared.fault.TraceFault.{TraceFault}
use Rattle.bc_replay.specs.Outcomes.{MayGive, IsOrNoMemory, ReadWhole, ReadAsTrace, longest_trace}
use Rattle.bc_replay.specs.Statuses.{refusal_of, unread}
use Rattle.bc_replay.proofs.Incoming.{length-trace_text}
use Rattle.bc_replay.specs.declared.status.Status.{Status}
use Rattle.bc_replay.specs.declared.status.Status.TheVariants.{BadTrace, TooLong, NoMemory}

-- what was read of a source that reported its bytes
pub read_is : (told : Option (List ℕ)) (read bytes : List ℕ) → IfSome told (λ left. read ≡ left) → told ≡ Some bytes → read ≡ bytes
read_is None read bytes h e = cc
read_is (Some left) read bytes h e = cc

-- the bytes of a source that was read to its end are those that it may give
pub may_give-whole : (most : ℕ) (old new : Option (List ℕ)) (bytes : List ℕ) → ReadWhole most old new bytes → MayGive old bytes
may_give-whole most None new bytes h = tt
may_give-whole most (Some left) None bytes h = let falls = h.falls in cc
may_give-whole most (Some left) (Some rest) bytes h =
    let falls = h.falls in
    let none : rest ≡ [] = h.end in
    let all : left ≡ bytes ++ rest = cc in
    all ∙ ap (λ xs. bytes ++ xs) none ∙ append-nil bytes

-- what the text of a trace that was read is bounded by
pub few-read : (old new : Option (List ℕ)) (t : TraceLists) → ReadAsTrace old new t → 8 * all_ops_of t + 10 * length t.phases ≤ longest_trace
few-read old new t h = omega (arith, length-trace_text t h.spelled.trace, ap length h.spelled.text, h.whole.short)

-- a status that the reader returned
pub told_or_no_memory : (s told wanted : Status) → told ≡ s → IsOrNoMemory s wanted → IsOrNoMemory told wanted
told_or_no_memory s told wanted is h = subst (λ (s : Status). IsOrNoMemory s wanted) (sym is) h

-- the text that was read has this fault, so this is the refusal
pub refused_so : (f : TraceFault) (error : ReadTrace) (status : Status) → status ≡ refusal_of error → IsFaultOrMemory f error → IsOrNoMemory status (BadTrace f.line f.cause)
refused_so f (answers.Fault g) status e same = inl cc
refused_so f answers.NoMemory status e same = inr e

-- a trace was read, so the text has no fault
pub not_faulty : {X : Type 0} (read bytes : List ℕ) (f : TraceFault) → read ≡ bytes → ((f : TraceFault) → Fault read f.line f.cause → ⊥) → Fault bytes f.line f.cause → X
not_faulty read bytes f e none fault = absurd (none f (subst (λ b. Fault b f.line f.cause) (sym e) fault))

-- a source that reported few bytes didn't give too many
pub not_longer : (most : ℕ) (told : Option (List ℕ)) (bytes : List ℕ) → IfSome told (λ left. most < length left) → told ≡ Some bytes → length bytes ≤ most → ⊥
not_longer most None bytes h e short = cc
not_longer most (Some left) bytes h e short = let same : left ≡ bytes = cc in omega (arith, ap length same)

-- a source that gave no byte too many, and had no fault, is left unread by running out of memory alone
pub unread-short : (e : ReadAll) → (e ≡ reads.TooLong → ⊥) → (e ≡ reads.ReadFault → ⊥) → unread e ≡ NoMemory
unread-short reads.TooLong long fault = absurd (long refl)
unread-short reads.ReadFault long fault = absurd (fault refl)
unread-short reads.NoMemory long fault = refl

pub unread-firm : (e : ReadAll) → (e ≡ reads.ReadFault → ⊥) → IsOrNoMemory (unread e) TooLong
unread-firm reads.TooLong fault = inl refl
unread-firm reads.ReadFault fault = absurd (fault refl)
unread-firm reads.NoMemory fault = inr refl
