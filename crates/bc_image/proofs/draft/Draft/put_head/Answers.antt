use Rattle.std.proofs.Common.{ap, ◌∙◌}
use Rattle.std.proofs.lemmas.Result.{on_ok_weaker}
use Rattle.bc_image.proofs.draft.Draft.put_head.Goals as goal

pub returns-clause-lists : goal.returns-clause-lists
returns-clause-lists c d s = c.begin.ensures.lists d (c.in_ok-note_head.ensures.lists d s)

pub returns-clause-heads : goal.returns-clause-heads
returns-clause-heads c hs h =
    let x = c.in_ok-note_head.ensures.heads hs h in
    on_ok_weaker c.begin.result (λ k. record { heads = ap (λ v. v.items) k.heads ∙ x.heads; keys = ap (λ v. v.items) k.keys ∙ x.keys }) c.begin.ensures.heads
