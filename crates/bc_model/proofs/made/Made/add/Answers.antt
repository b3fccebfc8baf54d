use Rattle.std.proofs.Common.{ap, ◌∙◌, ◌++◌, ◌∷◌, [], List}
use Rattle.bc_model.specs.State.{Object, made_by}
use Rattle.bc_model.proofs.Views.{on_err, view-at, view-set, view-set_same}
use Rattle.bc_model.proofs.made.Made.add.Goals as goal

pub returns-in_err-push-clause-err : goal.returns-in_err-push-clause-err
returns-in_err-push-clause-err c =
    let made = c.args.self.now in
    let lane = view-at (λ v. v.items) c.self.inside.lanes.items made c.args.lane c.index_mut-objects.result.now c.self.view_is c.requires.lane c.index_mut-objects.ensures.value in
    on_err c.from_residual-in_err-push.result
    (view-set_same (λ v. v.items) c.self.inside.lanes.items made c.args.lane c.push.new.self c.self.view_is (c.in_err-push.ensures.items ∙ lane))

pub returns-clause-made : goal.returns-clause-made
returns-clause-made c =
    let made = c.args.self.now in
    let lane = view-at (λ v. v.items) c.self.inside.lanes.items made c.args.lane c.index_mut-objects.result.now c.self.view_is c.requires.lane c.index_mut-objects.ensures.value in
    view-set (λ v. v.items) c.self.inside.lanes.items made c.args.lane c.push.new.self _ c.self.view_is
    (c.in_ok-push.ensures.items
    ∙ ap (λ (xs : List Object). xs ++ c.in_ok-item.item ∷ []) lane
    ∙ ap (λ (o : Object). made_by made c.args.lane ++ o ∷ []) c.in_ok-item.ensures)
