use Rattle.bc_feed.proofs.HandLemmas.{more_handed}
use Rattle.bc_feed.proofs.ends.Feeder.hand_in.Goals as goal

pub returns-in_default-clause-fed : goal.returns-in_default-clause-fed
returns-in_default-clause-fed g c = more_handed _ _ _ _ _ _ c.loop.invariant.fed c.next_hint.ensures.fed
