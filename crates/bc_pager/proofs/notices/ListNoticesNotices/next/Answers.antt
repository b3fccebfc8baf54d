use Rattle.std.proofs.Common.{List, [], ◌∷◌, ◌++◌, Some, refl, ap, ◌∙◌, arith}
use Rattle.bc_pager.specs.Serving.{HintList, given_of}
use Rattle.bc_pager.specs.declared.notices.Notice.{Notice}
use Rattle.bc_pager.proofs.NumberLemmas.{numbered-more}
use Rattle.bc_pager.proofs.notices.ListNoticesNotices.next.Goals as goal

pub returns-clause-some : goal.returns-clause-some
returns-clause-some c =
    let within = c.self.invariant.1 in
    let left = c.if-self-len.false in
    let view = c.self.view_is in
    let ends = ap (λ (n : HintList). n.ends) view in
    let count = c.len.ensures in (
      ap (λ (l : List Notice). Some l) (numbered-more c.self.inside.hints.items c.self.inside.given c.index-hint.result.now (omega arith) c.index-hint.ensures
          ∙ ap (λ (n : HintList). given_of n ++ record { hint = c.index-hint.result.now; number = c.self.inside.given } ∷ []) view),
      ends,
      refl,
    )
