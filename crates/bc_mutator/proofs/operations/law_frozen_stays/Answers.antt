use Rattle.std.proofs.Common.{◌≡◌, ◌≢◌, ℕ, sym, ◌∙◌}
use Rattle.bc_model.specs.declared.values.Holder.{Holder}
use Rattle.bc_model.specs.declared.values.Holder.TheVariants.{Lane, Frozen}
use Rattle.bc_mutator.proofs.operations.law_frozen_stays.Goals as goal

-- who holds a frozen domain is no lane
no_lane : (x : Holder) (lane : ℕ) → x ≡ Frozen → x ≢ Lane lane
no_lane x lane e f = clash (sym e ∙ f)
  where
    clash : Frozen ≡ Lane lane → ⊥
    clash g = cc

pub returns-clause-pages : goal.returns-clause-pages
returns-clause-pages c = λ old new holders lane serial next op reply did page frozen. did.leaves.pages page (λ within. no_lane _ lane frozen)

pub returns-clause-slots : goal.returns-clause-slots
returns-clause-slots c = λ old new holders lane serial next op reply did p frozen less. did.leaves.slots p (no_lane _ lane frozen) less
