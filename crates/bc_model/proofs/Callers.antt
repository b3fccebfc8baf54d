-- For callers that replay a trace phase by phase: what fits the setup fits every state of its sizes.
use Rattle.std.proofs.Common.{◌≡◌, ℕ, length, sym, ap, subst, ◌∙◌}
use Rattle.bc_model.specs.StateSizes.{sizes_of, HasSizes}
use Rattle.bc_model.specs.Lists.{PhaseLists}
use Rattle.bc_model.specs.State.{State}
use Rattle.bc_model.specs.WellFormed.{IsOp, IsPhase}
use Rattle.bc_model.specs.declared.operations.Op.{Op}
use Rattle.bc_model.specs.declared.traces.Setup.{Setup}

-- the setup, its sizes read from a state
with_sizes : Setup → State → Setup
with_sizes setup s = record setup { lanes = length s.made; domains = length s.holders; slots = s.width }

with_sizes-same : (setup : Setup) (s : State) → HasSizes setup s → with_sizes setup s ≡ setup
unfolding with_sizes
with_sizes-same setup s h =
    ap (λ (l : ℕ). let r : Setup = record setup { lanes = l; domains = length s.holders; slots = s.width } in r) h.lanes
    ∙ ap (λ (d : ℕ). let r : Setup = record setup { domains = d; slots = s.width } in r) h.domains
    ∙ ap (λ (w : ℕ). let r : Setup = record setup { slots = w } in r) h.slots

pub IsPhase-from_setup : (setup : Setup) (s : State) (p : PhaseLists) → HasSizes setup s → IsPhase setup p → IsPhase (sizes_of s) p
unfolding with_sizes
IsPhase-from_setup setup s p h fits =
    let here : IsPhase (with_sizes setup s) p = subst (λ (z : Setup). IsPhase z p) (sym (with_sizes-same setup s h)) fits in
    record { turns = here.turns; lanes = here.lanes; ops = here.ops; gives = here.gives }

pub IsOp-from_setup : (setup : Setup) (s : State) (o : Op) → HasSizes setup s → IsOp setup o → IsOp (sizes_of s) o
unfolding with_sizes
IsOp-from_setup setup s o h fits = subst (λ (z : Setup). IsOp z o) (sym (with_sizes-same setup s h)) fits
