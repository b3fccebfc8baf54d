use Rattle.std.proofs.Common.{ap, length, arith}
use Rattle.bc_feed.proofs.RuleLemmas.{sends, shows}
use Rattle.bc_feed.proofs.opening.push_first.Goals as goal

pub push_as-requires-clause-rule : goal.push_as-requires-clause-rule
push_as-requires-clause-rule g c =
    let pushed = c.loop-feed.invariant.pushed in
    let sent = ap length (ap (λ v. v.sent) pushed) in
    let most = ap (λ v. v.most) pushed in
    let test = c.loop-feed-test.true in
    let count = c.requires.count in
    (sends _ _ _ _ (ap (λ v. v.pushes) pushed) (omega arith), shows _ _)
