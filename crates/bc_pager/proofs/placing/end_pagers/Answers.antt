use Rattle.std.proofs.Common.{List, length, replicate, ap, arith, length-append}
use Rattle.std.proofs.lemmas.List.{length-replicate}
use Rattle.bc_pager.specs.declared.answers.Answer.{Answer}
use Rattle.bc_pager.specs.declared.answers.Answer.TheVariants.{Declined}
use Rattle.bc_pager.proofs.PlaceLemmas.{laid-last}
use Rattle.bc_pager.proofs.placing.end_pagers.Goals as goal

pub returns-clause-placed : goal.returns-clause-placed
returns-clause-placed c =
    let inv = c.loop.invariant in
    let long = c.gather.ensures.long in
    let size = c.slice_mut.ensures.len in
    let all = ap (λ (l : List Answer). length l) inv.answers in
    let whole = c.loop.answers.ok.0 in
    let before = c.len-before.ensures in
    let first = c.args.answers.now.ok.0 in
    let end = c.loop-test.false in
    let most = c.loop.auto.counter-end in
    let count = length-replicate c.loop.counter Declined in
    let sum = length-append c.args.answers.now.items (replicate c.loop.counter Declined) in (
      c.gather.new.told,
      laid-last c.loop.answers.len c.len-before.result c.loop.answers.items c.args.answers.now.items c.gather.new.told (replicate c.loop.counter Declined) (omega arith) inv.answers (omega arith) (omega arith),
      omega arith,
      c.gather.ensures.placed,
    )
