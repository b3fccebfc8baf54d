use Rattle.std.proofs.Common.{◌≡◌, ◌%◌, map}
use Rattle.bc_model.specs.State.{numbers_below}
use Rattle.bc_model.specs.declared.values.Holder.TheVariants.{Lane}
use Rattle.bc_model.proofs.opening.first_holders.Given as goal

abbrev pub invariant-loop-domain : goal.invariant-loop-domain
invariant-loop-domain l = l.holders.items ≡ map (λ d. Lane (d % l.lanes)) (numbers_below l.domain)
