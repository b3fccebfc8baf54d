use Rattle.std.proofs.Common.{ℕ, ◌+◌, ◌*◌, slice_set, ◌<◌, length, sym, ap, ap₂, subst, ◌∙◌}
use Rattle.bc_model.specs.Flat.{state_of}
use Rattle.bc_model.specs.State.{State}
use Rattle.bc_model.specs.Step.{with_new}
use Rattle.bc_model.specs.declared.values.Birth.{Birth}
use Rattle.bc_model.specs.declared.values.Value.TheVariants.{Obj}
use Rattle.bc_model.proofs.States.{IsState-with_new, IsState-written}
use Rattle.bc_model.proofs.plain_heap.Flat.make.Goals as goal

pub invariant_of-self-2 : goal.invariant_of-self-2
invariant_of-self-2 c =
    let s = state_of c.self.inside in
    let slot = c.args.slot in
    let place = c.place-place.ensures.place ∙ ap (λ (x : State). x.width * slot.domain + slot.slot) (sym c.self.view_is) in
    IsState-written (with_new s c.args.lane slot c.args.fields) c.add.new.self _ c.in_ok-birth.ensures.made
    (ap₂ (λ (p : ℕ) (b : Birth). slice_set s.slots p (Obj b)) place c.in_ok-birth.ensures.birth)
    (IsState-with_new s c.args.lane slot c.args.fields c.self.invariant
    (subst (λ (x : State). c.args.lane < length x.made) (sym c.self.view_is) c.requires.lane)
    (subst (λ (x : State). slot.domain < length x.holders) (sym c.self.view_is) c.requires.op.0.0)
    c.requires.op.1)
