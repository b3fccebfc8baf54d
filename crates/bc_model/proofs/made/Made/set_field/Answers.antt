use Rattle.std.proofs.Common.{ap, ◌∙◌, slice_set, ◌-◌, List}
use Rattle.bc_model.specs.State.{Object, made_by, with_value}
use Rattle.bc_model.proofs.Views.{view-at, view-set, object-at}
use Rattle.bc_model.proofs.made.Made.set_field.Goals as goal

pub returns : goal.returns
returns c =
    let made = c.args.self.now in
    let b = c.args.birth in
    let lane = view-at (λ v. v.items) c.self.inside.lanes.items made b.lane c.index_mut-objects.result.now c.self.view_is c.requires.born.lane c.index_mut-objects.ensures.value in
    let item = object-at made b c.index_mut-objects.result.now.items c.index_mut-item.result.now lane c.requires.born c.index_mut-item.ensures.value in
    let written = c.set_field.ensures ∙ ap (λ (o : Object). with_value o c.args.index c.args.value) item in
    view-set (λ v. v.items) c.self.inside.lanes.items made b.lane _ _ c.self.view_is
    (ap (λ (xs : List Object). slice_set xs (b.serial - 1) c.set_field.new.self) lane
    ∙ ap (λ (o : Object). slice_set (made_by made b.lane) (b.serial - 1) o) written)
