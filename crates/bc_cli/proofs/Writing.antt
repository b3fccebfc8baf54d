-- How a command ends once all that takes memory is done: all is written, or a write failed.
use Rattle.std.proofs.Common.{◌≡◌, ◌≢◌, ◌⊎◌, ◌∙◌, ℕ, inl, inr, sym}
use Rattle.bc_replay.specs.Outcomes.{IfStatusOutOfHeap}
use Rattle.bc_replay.specs.declared.status.Status.{Status}
use Rattle.bc_replay.specs.declared.status.Status.TheVariants.{Done, WriteFault}
use Rattle.bc_cli.specs.Churns.{IsChurnEnding}
use Rattle.bc_cli.specs.PartEndings.{IsSaveEnding}

pub written-save : (st : Status) → (st ≡ Done) ⊎ (st ≡ WriteFault) → IsSaveEnding st
written-save st (inl e) = rw e tt
written-save st (inr e) = rw e tt

pub written-churn : (st : Status) → (st ≡ Done) ⊎ (st ≡ WriteFault) → IsChurnEnding st
written-churn st (inl e) = rw e tt
written-churn st (inr e) = rw e tt

-- it doesn't end with another status
pub written-no : (st other : Status) → (st ≡ Done) ⊎ (st ≡ WriteFault) → other ≢ Done → other ≢ WriteFault → st ≡ other → ⊥
written-no st other (inl e) done fault is = done (sym is ∙ e)
written-no st other (inr e) done fault is = fault (sym is ∙ e)

-- nor with a need
pub written-need : (st : Status) (P : ℕ → Type 0) → (st ≡ Done) ⊎ (st ≡ WriteFault) → IfStatusOutOfHeap st P
written-need st P (inl e) = rw e tt
written-need st P (inr e) = rw e tt
