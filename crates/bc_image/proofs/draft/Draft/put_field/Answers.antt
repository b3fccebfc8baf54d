use Rattle.std.proofs.Common.{◌≡◌, List, [], ◌∷◌, ◌++◌, ℕ, sym, ap, ◌∙◌, eq-eqb}
use Rattle.bc_image.specs.Drafts.{ImageDraft}
use Rattle.bc_image.specs.declared.progress.Progress.{Progress}
use Rattle.bc_image.proofs.draft.Draft.put_field.Goals as goal

pub returns-clause-lists : goal.returns-clause-lists
returns-clause-lists c d s =
    let e : ImageDraft = record d { fields = d.fields ++ c.args.item ∷ [] } in
    let is : d.progress.fields ≡ 1 = ap (λ (p : Progress). p.fields) (sym s.progress) ∙ c.if-self-ne1.false in
    rw (eq-eqb d.progress.fields 1 is) (c.finish_object.ensures.lists e (record {
      progress = s.progress;
      holders = s.holders;
      births = s.births;
      roots = s.roots;
      cells = s.cells;
      head = s.head;
      fields = c.in_ok-push.ensures.items ∙ ap (λ (xs : List ℕ). xs ++ c.args.item ∷ []) s.fields;
    }))
