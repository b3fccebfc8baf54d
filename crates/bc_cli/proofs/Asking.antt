-- The command that was found, and the one that the words are.
use Rattle.std.proofs.Common.{◌≡◌, ℕ, Option, None, Some, subst}
use Rattle.std.specs.Prelude.{IfNone, IfSome}
use Rattle.bc_image.specs.declared.fault.ImageCause.{ImageCause}
use Rattle.bc_words.specs.declared.command.Command.{Command}
use Rattle.bc_words.specs.declared.command.Command.TheVariants.{Churn, Save}
use Rattle.bc_replay.specs.Outcomes.{IfStatusBadImage}
use Rattle.bc_replay.specs.declared.status.Status.{Status}
use Rattle.bc_replay.specs.declared.status.Status.TheVariants.{Done, BadWords, BadTrace, TooLong, ReadFault, WriteFault, OutOfHeap, NoMemory, BadImage, Mismatch}

-- what is said of the command that was found
pub asked : (P : Command → Type 0) (found : Option Command) (c : Command) → IfSome found P → found ≡ Some c → P c
asked P None c h e = cc
asked P (Some d) c h e = let same : d ≡ c = cc in subst P same h

pub none-asked : (P : Type 0) (found : Option Command) → IfNone found P → found ≡ None → P
none-asked P None h e = h
none-asked P (Some d) h e = cc

-- there is one
pub same-asked : (P : Command → Type 0) (found : Option Command) (c d : Command) → found ≡ Some c → found ≡ Some d → P c → P d
same-asked P found c d first second h = let same : c ≡ d = cc in subst P same h

pub same-churn : (P : ℕ → ℕ → Type 0) (found : Option Command) (start ops workers start' ops' workers' : ℕ) → found ≡ Some (Churn start ops workers) → found ≡ Some (Churn start' ops' workers') → P start ops → P start' ops'
same-churn P found start ops workers start' ops' workers' first second h =
    let starts : start ≡ start' = cc in
    let counts : ops ≡ ops' = cc in
    subst (λ n. P start' n) counts (subst (λ n. P n ops) starts h)

pub same-save : (P : ℕ → Type 0) (found : Option Command) (phases workers phases' workers' : ℕ) → found ≡ Some (Save phases workers) → found ≡ Some (Save phases' workers') → P phases → P phases'
same-save P found phases workers phases' workers' first second h =
    let same : phases ≡ phases' = cc in
    subst P same h

-- a status 8 is one of the command that was found
pub only-image : (s : Status) (P : ℕ → ImageCause → Type 0) (R Q : Type 0) → Q → IfStatusBadImage s (λ at cause. P at cause × R) → IfStatusBadImage s (λ at cause. Q × P at cause × R)
only-image Done P R Q q h = tt
only-image BadWords P R Q q h = tt
only-image (BadTrace line cause) P R Q q h = tt
only-image TooLong P R Q q h = tt
only-image ReadFault P R Q q h = tt
only-image WriteFault P R Q q h = tt
only-image (OutOfHeap need) P R Q q h = tt
only-image NoMemory P R Q q h = tt
only-image (BadImage at cause) P R Q q h = (q, h.0, h.1)
only-image Mismatch P R Q q h = tt
