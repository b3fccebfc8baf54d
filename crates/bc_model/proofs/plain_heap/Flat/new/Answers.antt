use Rattle.std.proofs.Common.{sym, subst, refl}
use Rattle.bc_model.specs.Consistent.{IsState}
use Rattle.bc_model.specs.StateSizes.{HasSizes, HasSerials}
use Rattle.bc_model.specs.Run.{opening}
use Rattle.bc_model.specs.State.{State}
use Rattle.bc_model.proofs.Openings.{IsState-opening, HasSizes-opening, HasSerials-opening}
use Rattle.bc_model.proofs.States.{same_state}
use Rattle.bc_model.proofs.plain_heap.Flat.new.Goals as goal

pub invariant_of-result : goal.invariant_of-result
invariant_of-result c =
    let s = opening c.args.setup.now in
    let same = same_state _ s refl c.in_ok-new.ensures (c.in_ok-vec.ensures.items_if_clones_equal (λ y e. e)) c.in_ok-first_holders.ensures in
    subst (λ (x : State). IsState x) (sym same) (IsState-opening c.args.setup.now c.requires)

pub returns-clause-sizes : goal.returns-clause-sizes
returns-clause-sizes c =
    let s = opening c.args.setup.now in
    let same = same_state _ s refl c.in_ok-new.ensures (c.in_ok-vec.ensures.items_if_clones_equal (λ y e. e)) c.in_ok-first_holders.ensures in
    subst (λ (x : State). HasSizes c.args.setup.now x) (sym same) (HasSizes-opening c.args.setup.now)

pub returns-clause-serials : goal.returns-clause-serials
returns-clause-serials c = λ n h.
    let s = opening c.args.setup.now in
    let same = same_state _ s refl c.in_ok-new.ensures (c.in_ok-vec.ensures.items_if_clones_equal (λ y e. e)) c.in_ok-first_holders.ensures in
    subst (λ (x : State). HasSerials n x) (sym same) (HasSerials-opening c.args.setup.now n h)
