use Rattle.std.proofs.Common.{◌≡◌}
use Rattle.bc_feed.specs.Ends.{taker_channel}
use Rattle.bc_feed.proofs.tests.take_some.Given as goal

abbrev pub invariant-loop : goal.invariant-loop
invariant-loop g l = taker_channel l.taker ≡ taker_channel l.initial.taker

abbrev pub invariant-loop-2 : goal.invariant-loop-2
invariant-loop-2 g l = taker_channel l.taker ≡ taker_channel l.initial.taker
