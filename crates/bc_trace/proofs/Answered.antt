-- What the reader's answer says of the text.
use Rattle.std.proofs.Common.{◌≡◌, ℕ, ◌+◌, ◌≤◌, List, length, Result, Ok, Err, refl, ap, subst, ◌∙◌, inl, inr}
use Rattle.std.specs.Prelude.{◌⊎◌, IfOk, IfErr, IsErrAnd, MatchResult}
use Rattle.bc_model.specs.Lists.{TraceLists}
use Rattle.bc_model.specs.RunLengths.{all_ops_of}
use Rattle.bc_trace.specs.declared.fault.Cause.{Cause}
use Rattle.bc_trace.specs.declared.fault.ReadTrace.{ReadTrace}
use Rattle.bc_trace.specs.declared.fault.ReadTrace.TheVariants as answers
use Rattle.bc_trace.specs.declared.fault.TraceFault.{TraceFault}
use Rattle.bc_trace.specs.Lines.{trace_text, line_text, Spells}
use Rattle.bc_trace.specs.Faults.{Fault}
use Rattle.bc_trace.specs.Drafts.{empty_draft}
use Rattle.bc_trace.specs.Reading.{fault, trace_of_draft, read_of}
use Rattle.bc_trace.specs.Answers.{TellsFault, IsFaultOrMemory, Gives}
use Rattle.bc_trace.proofs.ReadOfFault.{put_all, AllPass, Reading, read_means, fault_read}
use Rattle.bc_trace.proofs.ReadOfTrace.{trace_read}
use Rattle.bc_trace.proofs.FollowLines.{passing_lines}
use Rattle.bc_trace.proofs.Lengths.{text_fits}
use Rattle.std.specs.List.{flat_map}

spelled_by : (bytes : List ℕ) (t : TraceLists) → AllPass empty_draft bytes t → Spells bytes t
unfolding trace_text
spelled_by bytes t h =
    let found = passing_lines h.lines h.pass h.stage in
    let made : Spells bytes (trace_of_draft (put_all empty_draft h.lines)) = record { trace = found.1; text = h.text ∙ ap (λ ls. flat_map line_text ls) found.0 } in
    subst (λ t. Spells bytes t) h.trace made

read_spelled : (bytes : List ℕ) (t : TraceLists) → Reading bytes → read_of bytes ≡ Ok t → Spells bytes t
read_spelled bytes t (inl (u, e, h)) is = let same : u ≡ t = cc in subst (λ t. Spells bytes t) same (spelled_by bytes u h)
read_spelled bytes t (inr (f, e, h)) is = absurd cc

read_faulty : (bytes : List ℕ) (f : TraceFault) → Reading bytes → read_of bytes ≡ Err f → Fault bytes f.line f.cause
read_faulty bytes f (inl (u, e, h)) is = absurd cc
read_faulty bytes f (inr (g, e, h)) is = let same : g ≡ f = cc in subst (λ (f : TraceFault). Fault bytes f.line f.cause) same h

pub spells_read : (bytes : List ℕ) (t : TraceLists) → Spells bytes t → read_of bytes ≡ Ok t
spells_read bytes t h = ap read_of h.text ∙ trace_read t h.trace

-- ---- the clauses of `read`

pub is_found : (bytes : List ℕ) (r : Result TraceLists ReadTrace) → Gives r (read_of bytes) → IfOk r (λ t. Spells bytes t)
is_found bytes (Ok t) e = read_spelled bytes t (read_means bytes) e
is_found bytes (Err e) h = tt

pub is_short : (bytes : List ℕ) (r : Result TraceLists ReadTrace) → Gives r (read_of bytes) → IfOk r (λ t. all_ops_of t + length t.phases ≤ length bytes)
is_short bytes (Ok t) e = text_fits bytes t (read_spelled bytes t (read_means bytes) e)
is_short bytes (Err e) h = tt

pub is_spelled : (bytes : List ℕ) (r : Result TraceLists ReadTrace) → Gives r (read_of bytes) → (t : TraceLists) → Spells bytes t → MatchResult r (λ x. x ≡ t) (λ e. e ≡ answers.NoMemory)
is_spelled bytes (Ok x) e t h = let is = spells_read bytes t h in cc
is_spelled bytes (Err answers.NoMemory) e t h = refl
is_spelled bytes (Err (answers.Fault f)) e t h = let is = spells_read bytes t h in absurd cc

pub is_fault : (bytes : List ℕ) (r : Result TraceLists ReadTrace) → Gives r (read_of bytes) → IfErr r (TellsFault bytes)
is_fault bytes (Ok x) e = tt
is_fault bytes (Err answers.NoMemory) e = tt
is_fault bytes (Err (answers.Fault f)) e = read_faulty bytes f (read_means bytes) e

pub is_faulty : (bytes : List ℕ) (r : Result TraceLists ReadTrace) → Gives r (read_of bytes) → (f : TraceFault) → Fault bytes f.line f.cause → IsErrAnd r (IsFaultOrMemory f)
is_faulty bytes (Ok x) e f h = let is = fault_read bytes f.line f.cause h in absurd cc
is_faulty bytes (Err answers.NoMemory) e f h = tt
is_faulty bytes (Err (answers.Fault g)) e f h =
    let is = fault_read bytes f.line f.cause h in
    let same : g ≡ fault f.line f.cause = cc in
    same

-- ---- the laws

pub same_trace : (bytes : List ℕ) (t u : TraceLists) → Spells bytes t → Spells bytes u → t ≡ u
same_trace bytes t u h g = let a = spells_read bytes t h in let b = spells_read bytes u g in cc

pub spelled_or_faulty : (bytes : List ℕ) → ((t : TraceLists) × Spells bytes t) ⊎ ((line : ℕ) × (cause : Cause) × Fault bytes line cause)
spelled_or_faulty bytes = go bytes (read_means bytes) where
  go : (bytes : List ℕ) → Reading bytes → ((t : TraceLists) × Spells bytes t) ⊎ ((line : ℕ) × (cause : Cause) × Fault bytes line cause)
  go bytes (inl (t, e, h)) = inl (t, spelled_by bytes t h)
  go bytes (inr (f, e, h)) = inr (f.line, f.cause, h)

pub not_both : (bytes : List ℕ) (t : TraceLists) (line : ℕ) (cause : Cause) → Spells bytes t → ¬ Fault bytes line cause
not_both bytes t line cause h g = let a = spells_read bytes t h in let b = fault_read bytes line cause g in absurd cc

pub same_fault : (bytes : List ℕ) (line other : ℕ) (cause because : Cause) → Fault bytes line cause → Fault bytes other because → (line ≡ other) × (cause ≡ because)
same_fault bytes line other cause because h g =
    let a = fault_read bytes line cause h in
    let b = fault_read bytes other because g in
    let same : fault line cause ≡ fault other because = cc in
    (ap (λ (f : TraceFault). f.line) same, ap (λ (f : TraceFault). f.cause) same)
