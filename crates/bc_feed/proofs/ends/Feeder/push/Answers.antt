use Rattle.std.proofs.Common.{ap, sym}
use Rattle.bc_feed.proofs.HandLemmas.{room_for_waiting}
use Rattle.bc_feed.proofs.RuleLemmas.{sends}
use Rattle.bc_feed.proofs.ends.Feeder.push.Goals as goal

pub try_push_as-requires-clause-rule : goal.try_push_as-requires-clause-rule
try_push_as-requires-clause-rule c =
    let me = c.args.self.now in
    sends _ _ _ _ (ap (λ v. v.pushes) me.account) (room_for_waiting _ _ _ _ _ _ me.given c.requires.waits me.few (sym (ap (λ v. v.most) me.account)))
