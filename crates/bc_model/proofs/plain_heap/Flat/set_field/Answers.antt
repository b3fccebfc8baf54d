use Rattle.std.proofs.Common.{refl, sym, ap, subst, List}
use Rattle.bc_model.specs.Flat.{state_of}
use Rattle.bc_model.specs.State.{State, Object, IsBorn, with_born_field}
use Rattle.bc_model.specs.Consistent.{IsValue}
use Rattle.bc_model.proofs.States.{IsState-with_field, IsState-written}
use Rattle.bc_model.proofs.plain_heap.Flat.set_field.Goals as goal

pub invariant_of-self : goal.invariant_of-self
invariant_of-self c =
    let s = state_of c.self.inside in
    let made = sym (ap (λ (x : State). x.made) c.self.view_is) in
    let born = subst (λ (m : List (List Object)). IsBorn m c.args.birth) made c.requires.born in
    let value = subst (λ (m : List (List Object)). IsValue m c.args.value) made c.requires.value in
    IsState-written (with_born_field s c.args.birth c.args.index c.args.value) c.set_field.new.self s.slots c.set_field.ensures refl
    (IsState-with_field s c.args.birth c.args.index c.args.value c.self.invariant born value)
